-- Selectors stay filed under their ranks where one is put in or taken out.
use Rattle.std.proofs.Common.{◌≡◌, ◌↔◌, Bool, true, false, ℕ, ◌<◌, ◌≤◌, List, length, get_or, Contains, inl, inr, refl, sym, subst, ◌∙◌, arith}
use Rattle.std.specs.List.{insert, remove}
use Rattle.std.proofs.lemmas.List.Edits.{length-insert, length-remove}
use Rattle.lb_suffix.specs.Index.{Pair as NamePair, pair_of as name_pair}
use Rattle.lb_masks.specs.Index.{Pair as MaskPair, pair_of as mask_pair}
use Rattle.lb_terms.specs.Selector.{Selector, All}
use Rattle.lb_chain.specs.FirstAsked.{AreFiled, AreRising, at_loose, first_sets, IsOneOf, IsPairOf, loose_ranks, mask_pairs, name_pairs}
use Rattle.lb_chain.specs.Filing.{AreNew, AreTakenBack, AreWith, AreWithout, IsFree}
use Rattle.lb_chain.proofs.PairsOf.{in_inserted, in_removed, inserted_in, one_of_map, place_of, removed_in}
use Rattle.lb_chain.proofs.Rising.{none_free, none_left, rising_inserted, rising_removed}

-- the rank of a pair is that of its selector
abbrev pub HaveRank : {X : Type 0} → (X → ℕ) → (Selector → ℕ → List X) → Type 0
HaveRank {X} rank_of pairs = (term : Selector) (rank : ℕ) (x : X) → IsOneOf (pairs term rank) x → rank_of x ≡ rank

pub names_rank : HaveRank {X = NamePair} (λ p. p.rank) name_pairs
names_rank term rank x one = one_of_map (λ name. name_pair name rank) (λ (p : NamePair). p.rank ≡ rank) (λ y. refl) (first_sets term).names x one

pub masks_rank : HaveRank {X = MaskPair} (λ p. p.rank) mask_pairs
masks_rank term rank x one = one_of_map (λ mask. mask_pair mask rank) (λ (p : MaskPair). p.rank ≡ rank) (λ y. refl) (first_sets term).masks x one

rank_itself : (is_loose : Bool) (rank x : ℕ) → IsOneOf (at_loose is_loose rank) x → x ≡ rank
rank_itself true rank x one = elim one [ inl is ↦ is | inr none ↦ absurd none ]
rank_itself false rank x one = absurd one

pub loose_rank : HaveRank {X = ℕ} (λ r. r) loose_ranks
loose_rank term rank x one = rank_itself (first_sets term).is_loose rank x one

-- what is filed of these selectors
abbrev pub AreOf : {X : Type 0} → (Selector → ℕ → List X) → List Selector → List ℕ → List X → Type 0
AreOf {X} pairs terms ranks filed = (p : X) → Contains filed p ↔ IsPairOf pairs terms ranks p

are_new : {X : Type 0} (rank_of : X → ℕ) (pairs : Selector → ℕ → List X) (terms : List Selector) (ranks : List ℕ) (place rank : ℕ) (term : Selector) (filed : List X) → HaveRank rank_of pairs → IsFree ranks place rank → AreOf pairs terms ranks filed → AreNew filed (pairs term rank)
are_new rank_of pairs terms ranks place rank term filed have free are x one has =
    let found = place_of pairs terms ranks x ((are x).0 has) in
    none_free ranks place rank found.0 free found.2 (sym (have (get_or terms found.0 All) (get_or ranks found.0 0) x found.3) ∙ have term rank x one)

of_inserted : {X : Type 0} (pairs : Selector → ℕ → List X) (terms : List Selector) (ranks : List ℕ) (place rank : ℕ) (term : Selector) (filed new : List X) → place ≤ length terms → length ranks ≡ length terms → AreWith filed (pairs term rank) new → AreOf pairs terms ranks filed → AreOf pairs (insert terms place term) (insert ranks place rank) new
of_inserted pairs terms ranks place rank term filed new le each more are p = (
  λ has. inserted_in pairs terms ranks place rank term p le each (elim ((more p).0 has) [ inl own ↦ inl own | inr was ↦ inr ((are p).0 was) ]),
  λ has. (more p).1 (elim (in_inserted pairs terms ranks place rank term p le each has) [ inl own ↦ inl own | inr was ↦ inr ((are p).1 was) ]),
)

of_removed : {X : Type 0} (rank_of : X → ℕ) (pairs : Selector → ℕ → List X) (terms : List Selector) (ranks : List ℕ) (at : ℕ) (filed new : List X) → HaveRank rank_of pairs → at < length ranks → AreRising ranks → length ranks ≡ length terms → AreWithout filed (pairs (get_or terms at All) (get_or ranks at 0)) new → AreOf pairs terms ranks filed → AreOf pairs (remove terms at) (remove ranks at) new
of_removed rank_of pairs terms ranks at filed new have within rising each less are p = (
  λ has. elim (removed_in pairs terms ranks at p each ((are p).0 ((less p).0 has).1)) [ inl own ↦ absurd (((less p).0 has).0 own) | inr rest ↦ rest ],
  λ has. (less p).1 (
    λ own.
        (let found = place_of pairs (remove terms at) (remove ranks at) p has in
        none_left ranks at found.0 within rising found.2 (sym (have (get_or (remove terms at) found.0 All) (get_or (remove ranks at) found.0 0) p found.3) ∙ have (get_or terms at All) (get_or ranks at 0) p own)),
    (are p).1 (in_removed pairs terms ranks at p each has),
  ),
)

pub filed_inserted : (names new_names : List NamePair) (masks new_masks : List MaskPair) (loose new_loose : List ℕ) (terms : List Selector) (ranks : List ℕ) (place rank : ℕ) (term : Selector) → place ≤ length ranks → IsFree ranks place rank → AreWith names (name_pairs term rank) new_names → AreWith masks (mask_pairs term rank) new_masks → AreWith loose (loose_ranks term rank) new_loose → AreFiled names masks loose ranks terms → AreFiled new_names new_masks new_loose (insert ranks place rank) (insert terms place term)
filed_inserted names new_names masks new_masks loose new_loose terms ranks place rank term le free more_names more_masks more_loose filed =
    let in_terms : place ≤ length terms = omega (arith, filed.each) in
    record {
      each = omega (arith, filed.each, length-insert ranks place rank le, length-insert terms place term in_terms);
      rising = rising_inserted ranks place rank le free filed.rising;
      by_names = of_inserted name_pairs terms ranks place rank term names new_names in_terms filed.each more_names filed.by_names;
      by_masks = of_inserted mask_pairs terms ranks place rank term masks new_masks in_terms filed.each more_masks filed.by_masks;
      by_loose = of_inserted loose_ranks terms ranks place rank term loose new_loose in_terms filed.each more_loose filed.by_loose;
    }

pub filed_back : (names new_names : List NamePair) (masks new_masks : List MaskPair) (loose new_loose : List ℕ) (terms : List Selector) (ranks : List ℕ) (place rank : ℕ) (term : Selector) → IsFree ranks place rank → AreTakenBack names (name_pairs term rank) new_names → AreTakenBack masks (mask_pairs term rank) new_masks → AreTakenBack loose (loose_ranks term rank) new_loose → AreFiled names masks loose ranks terms → AreFiled new_names new_masks new_loose ranks terms
filed_back names new_names masks new_masks loose new_loose terms ranks place rank term free back_names back_masks back_loose filed =
    let same_names = back_names (are_new (λ (p : NamePair). p.rank) name_pairs terms ranks place rank term names names_rank free filed.by_names) in
    let same_masks = back_masks (are_new (λ (p : MaskPair). p.rank) mask_pairs terms ranks place rank term masks masks_rank free filed.by_masks) in
    let same_loose = back_loose (are_new (λ (r : ℕ). r) loose_ranks terms ranks place rank term loose loose_rank free filed.by_loose) in
    record {
      each = filed.each;
      rising = filed.rising;
      by_names = λ p. (λ has. (filed.by_names p).0 ((same_names p).0 has), λ has. (same_names p).1 ((filed.by_names p).1 has));
      by_masks = λ p. (λ has. (filed.by_masks p).0 ((same_masks p).0 has), λ has. (same_masks p).1 ((filed.by_masks p).1 has));
      by_loose = λ r. (λ has. (filed.by_loose r).0 ((same_loose r).0 has), λ has. (same_loose r).1 ((filed.by_loose r).1 has));
    }

pub filed_removed : (names new_names : List NamePair) (masks new_masks : List MaskPair) (loose new_loose : List ℕ) (terms : List Selector) (ranks : List ℕ) (at rank : ℕ) (term : Selector) → at < length ranks → get_or terms at All ≡ term → get_or ranks at 0 ≡ rank → AreWithout names (name_pairs term rank) new_names → AreWithout masks (mask_pairs term rank) new_masks → AreWithout loose (loose_ranks term rank) new_loose → AreFiled names masks loose ranks terms → AreFiled new_names new_masks new_loose (remove ranks at) (remove terms at)
filed_removed names new_names masks new_masks loose new_loose terms ranks at rank term within is_term is_rank less_names less_masks less_loose filed =
    let in_terms : at < length terms = omega (arith, filed.each) in
    record {
      each = omega (arith, filed.each, length-remove ranks at within, length-remove terms at in_terms);
      rising = rising_removed ranks at within filed.rising;
      by_names =
          of_removed (λ (p : NamePair). p.rank) name_pairs terms ranks at names new_names names_rank within filed.rising filed.each
          (subst (λ (t : Selector). AreWithout names (name_pairs t (get_or ranks at 0)) new_names) (sym is_term) (subst (λ (r : ℕ). AreWithout names (name_pairs term r) new_names) (sym is_rank) less_names)) filed.by_names;
      by_masks =
          of_removed (λ (p : MaskPair). p.rank) mask_pairs terms ranks at masks new_masks masks_rank within filed.rising filed.each
          (subst (λ (t : Selector). AreWithout masks (mask_pairs t (get_or ranks at 0)) new_masks) (sym is_term) (subst (λ (r : ℕ). AreWithout masks (mask_pairs term r) new_masks) (sym is_rank) less_masks)) filed.by_masks;
      by_loose =
          of_removed (λ (r : ℕ). r) loose_ranks terms ranks at loose new_loose loose_rank within filed.rising filed.each
          (subst (λ (t : Selector). AreWithout loose (loose_ranks t (get_or ranks at 0)) new_loose) (sym is_term) (subst (λ (r : ℕ). AreWithout loose (loose_ranks term r) new_loose) (sym is_rank) less_loose)) filed.by_loose;
    }
