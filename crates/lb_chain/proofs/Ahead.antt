-- The next rank of a walk, and what is left when it is passed.
use Rattle.std.proofs.Common.{Option, ◌≡◌, ◌⊎◌, ◌↔◌, ◌&&◌, ◌==◌, not, Bool, true, false, ℕ, zero, suc, ◌+◌, ◌<◌, ◌≤◌, List, [], ◌∷◌, Contains, length, get_or, slice_get, slice_index, Some, None, inl, inr, refl, sym, ap, subst, ◌∙◌, arith}
use Rattle.std.proofs.lemmas.Bool.{cases_Bool, cases_lt}
use Rattle.std.proofs.lemmas.Bool.Decides.{nat_tests}
use Rattle.std.proofs.lemmas.List.{get_or_default}
use Rattle.lb_index_ranks.specs.Least.{IsLeastFrom, lesser_of}
use Rattle.lb_suffix.specs.Index.{Pair as NamePair}
use Rattle.lb_masks.specs.Index.{Pair as MaskPair}
use Rattle.lb_wire.specs.declared.addr.Addr.{Addr}
use Rattle.lb_wire.specs.declared.query.QueryView.{QueryView}
use Rattle.lb_terms.specs.Selector.{Selector}
use Rattle.lb_chain.specs.FirstAsked.{AreFiled, AreRising}
use Rattle.lb_chain.specs.Offers.{IsNextOffered, may_hold_at}
use Rattle.lb_chain.specs.Filing.{IsFiledFor}
use Rattle.lb_chain.specs.declared.offers.Ahead.{Ahead}
use Rattle.lb_chain.specs.Ahead.{AreLeft, IsAheadOf, IsBehind, IsLeastBehind, IsOffered, is_rank, without_first}
use Rattle.lb_chain.proofs.Offered.{found_holds, HoldsAt, holds_found, least_both, MasksDecide, NamesDecide}

same_or_later : (i j : ℕ) → i ≤ j → (i ≡ j) ⊎ (i < j)
same_or_later i j le = grind arith

rises : (ranks : List ℕ) (i j : ℕ) → AreRising ranks → i ≤ j → j < length ranks → get_or ranks i 0 ≤ get_or ranks j 0
rises ranks i j rising le lt = elim (same_or_later i j le) [ inl same ↦ omega (arith, ap (λ (k : ℕ). get_or ranks k 0) same) | inr less ↦ omega (arith, rising i j less lt) ]

is_same : (a b : ℕ) → (a == b) ≡ true → a ≡ b
is_same a b is = grind (arith, nat_tests)

is_other : (a b : ℕ) → (a == b) ≡ false → a ≡ b → ⊥
is_other a b is same = grind (arith, nat_tests)

-- what holds of the same ranks has the same least one
least_same : (P Q : ℕ → Type 0) (found : Option ℕ) → ((r : ℕ) → P r ↔ Q r) → IsLeastFrom P 0 found → IsLeastFrom Q 0 found
least_same P Q None same none = λ r le q. none r le ((same r).1 q)
least_same P Q (Some rank) same least = (least.0, (same rank).0 least.1, λ r le q. least.2 r le ((same r).1 q))

-- the first of what rises is the least
first_least : (x : ℕ) (xs : List ℕ) (r : ℕ) → AreRising (x ∷ xs) → Contains (x ∷ xs) r → x ≤ r
first_least x xs r rising (zero, lt, is) = omega (arith, is)
first_least x xs r rising (suc k, lt, is) =
    let up : x < get_or xs k 0 = rising 0 (suc k) (omega arith) lt in
    omega (arith, is, get_or_default xs k r 0 (omega (arith, lt)))

later_above : (x : ℕ) (xs : List ℕ) (r : ℕ) → AreRising (x ∷ xs) → Contains xs r → x < r
later_above x xs r rising (k, lt, is) =
    let up : x < get_or xs k 0 = rising 0 (suc k) (omega arith) (omega (arith, lt)) in
    omega (arith, is, get_or_default xs k r 0 lt)

rest_rises : (x : ℕ) (xs : List ℕ) → AreRising (x ∷ xs) → AreRising xs
rest_rises x xs rising i j lt within = rising (suc i) (suc j) (omega arith) (omega (arith, within))

in_rest : (x : ℕ) (xs : List ℕ) (r : ℕ) → x < r → Contains (x ∷ xs) r → Contains xs r
in_rest x xs r less (zero, lt, is) = absurd (omega (arith, is))
in_rest x xs r less (suc k, lt, is) = (k, omega (arith, lt), is)

in_more : (x : ℕ) (xs : List ℕ) (r : ℕ) → Contains xs r → Contains (x ∷ xs) r
in_more x xs r (k, lt, is) = (suc k, omega (arith, lt), is)

none_in : (r : ℕ) → Contains [] r → ⊥
none_in r (k, lt, is) = absurd (omega (arith, lt))

-- ranks without their first
first_gone : (x rank : ℕ) (xs : List ℕ) → (x == rank) ≡ true → without_first rank (x ∷ xs) ≡ xs
first_gone x rank xs is = rw is refl

first_stays : (x rank : ℕ) (xs : List ℕ) → (x == rank) ≡ false → without_first rank (x ∷ xs) ≡ x ∷ xs
first_stays x rank xs is = rw is refl

not_true : (b : Bool) → (true && not b) ≡ true → b ≡ false
not_true true is = absurd (cc)
not_true false is = refl

not_held : (terms : List Selector) (view : QueryView) (addr : Addr) (j : ℕ) → (may_hold_at terms view addr j ≡ true → ⊥) → may_hold_at terms view addr j ≡ false
not_held terms view addr j none = elim (cases_Bool (may_hold_at terms view addr j)) [ inl is ↦ absurd (none is) | inr is ↦ is ]

one_place : (ranks : List ℕ) (i j : ℕ) → AreRising ranks → i < length ranks → j < length ranks → get_or ranks i 0 ≡ get_or ranks j 0 → i ≡ j
one_place ranks i j rising in_i in_j is =
    elim (cases_lt i j) [
      | inl low ↦ absurd (omega (arith, is, rising i j low in_j))
      | inr high ↦ elim (cases_lt j i) [ inl less ↦ absurd (omega (arith, is, rising j i less in_i)) | inr over ↦ omega arith ]
    ]

-- a walk begins with all that is loose
pub left_first : (loose ranks : List ℕ) → AreRising loose → AreLeft loose ranks 0 loose
left_first loose ranks rising = record { rising = rising; each = λ r. (λ has. (has, λ k lt. absurd (omega arith)), λ both. both.0) }

left_least : (loose ranks left : List ℕ) (at : ℕ) → AreLeft loose ranks at left → IsLeastFrom (λ r. Contains loose r × IsBehind ranks at r) 0 (slice_get left 0)
left_least loose ranks [] at are = λ r le both. none_in r ((are.each r).1 both)
left_least loose ranks (x ∷ left) at are = (omega arith, (are.each x).0 (0, omega arith, refl), λ r le both. first_least x left r are.rising ((are.each r).1 both))

-- of what is left and what an index finds
pub both_least : (names : List NamePair) (masks : List MaskPair) (loose ranks left : List ℕ) (view : QueryView) (addr : Addr) (at : ℕ) (indexed : Option ℕ) → AreLeft loose ranks at left → IsLeastBehind (IsFiledFor names masks view addr) ranks at indexed → IsLeastBehind (IsOffered names masks loose view addr) ranks at (lesser_of (slice_get left 0) indexed)
both_least names masks loose ranks left view addr at indexed are least =
    let F : ℕ → Type 0 = IsFiledFor names masks view addr in
    least_same (λ r. (Contains loose r × IsBehind ranks at r) ⊎ (F r × IsBehind ranks at r)) (λ r. IsOffered names masks loose view addr r × IsBehind ranks at r) (lesser_of (slice_get left 0) indexed)
    (λ r. (
      λ either. elim either [ inl among ↦ (inl among.0, among.1) | inr for ↦ (inr for.0, for.1) ],
      λ both. elim both.0 [ inl among ↦ inl (among, both.1) | inr for ↦ inr (for, both.1) ],
    ))
    (least_both (λ r. Contains loose r × IsBehind ranks at r) (λ r. F r × IsBehind ranks at r) 0 (slice_get left 0) indexed (left_least loose ranks left at are) least)

module _ (by_name : NamesDecide) (by_mask : MasksDecide) (names : List NamePair) (masks : List MaskPair) (loose : List ℕ) (terms : List Selector) (ranks : List ℕ) (view : QueryView) (addr : Addr) (filed : AreFiled names masks loose ranks terms) where
  abbrev P : ℕ → Type 0
  P = IsOffered names masks loose view addr

  abbrev F : ℕ → Type 0
  F = IsFiledFor names masks view addr

  holds_at : (r : ℕ) → P r → HoldsAt terms ranks view addr r
  holds_at r offered = holds_found by_name by_mask names masks loose terms ranks view addr r filed offered

  -- what comes after the ranks before a place stands there or later
  from_place : (at r : ℕ) (held : HoldsAt terms ranks view addr r) → IsBehind ranks at r → at ≤ held.0
  from_place at r held behind =
      let is : get_or ranks held.0 0 ≡ r = held.2 in
      elim (cases_lt held.0 at) [ inl low ↦ (let less : get_or ranks held.0 0 < r = behind held.0 low in absurd (omega arith)) | inr high ↦ high ]

  at_or_above : (at r : ℕ) → P r → IsBehind ranks at r → get_or ranks at 0 ≤ r
  at_or_above at r offered behind =
      let held = holds_at r offered in
      let lt : held.0 < length terms = held.1 in
      omega (arith, held.2, rises ranks at held.0 filed.rising (from_place at r held behind) (omega (arith, filed.each)))

  behind_at : (at r : ℕ) → at < length ranks → get_or ranks at 0 ≤ r → IsBehind ranks at r
  behind_at at r within le = λ k lt. omega (arith, filed.rising k at lt within)

  -- what an index finds from the rank of a place on
  pub look_behind : (at here : ℕ) (found : Option ℕ) → at < length ranks → get_or ranks at 0 ≡ here → IsLeastFrom F here found → IsLeastBehind F ranks at found
  look_behind at here None within is none = λ r le both. none r (omega (arith, is, at_or_above at r (inr both.0) both.1)) both.0
  look_behind at here (Some rank) within is least =
      let low : here ≤ rank = least.0 in
      (omega arith, (least.1, behind_at at rank within (omega (arith, is))), λ r le both. least.2 r (omega (arith, is, at_or_above at r (inr both.0) both.1)) both.0)

  -- the rank of the place itself, where it is loose
  pub here_least : (at here : ℕ) (left : List ℕ) → at < length ranks → get_or ranks at 0 ≡ here → AreLeft loose ranks at left → slice_get left 0 ≡ Some here → IsLeastBehind P ranks at (Some here)
  here_least at here [] within is are first = absurd (cc)
  here_least at here (x ∷ left) within is are first =
      let same : x ≡ here = ap (λ (o : Option ℕ). elim o [ None ↦ 0 | Some y ↦ y ]) first in
      let has : Contains loose here × IsBehind ranks at here = (are.each here).0 (0, omega arith, same) in
      (omega arith, (inl has.0, has.1), λ r le both. omega (arith, is, at_or_above at r both.0 both.1))

  module _ (at rank place : ℕ) (within : place < length ranks) (is : get_or ranks place 0 ≡ rank) (least : IsLeastBehind P ranks at (Some rank)) where
    at_place : at ≤ place
    at_place = elim (cases_lt place at) [ inl low ↦ (let less : get_or ranks place 0 < rank = least.1.1 place low in absurd (omega arith)) | inr high ↦ high ]

    behind_above : (r : ℕ) → rank < r → IsBehind ranks (place + 1) r
    behind_above r less = λ k lt. omega (arith, is, rises ranks k place filed.rising (omega arith) within)

    above_behind : (r : ℕ) → IsBehind ranks (place + 1) r → rank < r
    above_behind r behind = omega (arith, is, behind place (omega arith))

    behind_before : (r : ℕ) → IsBehind ranks (place + 1) r → IsBehind ranks at r
    behind_before r behind = λ k lt. behind k (omega (arith, at_place))

    -- what is loose
    pub left_passed : (left : List ℕ) → AreLeft loose ranks at left → AreLeft loose ranks (place + 1) (without_first rank left)
    left_passed [] are = record {
      rising = are.rising;
      each = λ r. (λ has. absurd (none_in r has), λ both. (are.each r).1 (both.0, behind_before r both.1));
    }
    left_passed (x ∷ left) are =
        elim (cases_Bool (x == rank)) [
          | inl own ↦
              let same : x ≡ rank = is_same x rank own in
              subst (AreLeft loose ranks (place + 1)) (sym (first_gone x rank left own)) (record {
                rising = rest_rises x left are.rising;
                each = λ r. (
                  λ has. (((are.each r).0 (in_more x left r has)).0, behind_above r (omega (arith, same, later_above x left r are.rising has))),
                  λ both. in_rest x left r (omega (arith, same, above_behind r both.1)) ((are.each r).1 (both.0, behind_before r both.1)),
                );
              })
          | inr other ↦
              let own = (are.each x).0 (0, omega arith, refl) in
              let over : rank < x = omega (arith, least.2 x (omega arith) (inl own.0, own.1), is_other x rank other) in
              subst (AreLeft loose ranks (place + 1)) (sym (first_stays x rank left other)) (record {
                rising = are.rising;
                each = λ r. (
                  λ has. (((are.each r).0 has).0, behind_above r (omega (arith, first_least x left r are.rising has))),
                  λ both. (are.each r).1 (both.0, behind_before r both.1),
                );
              })
        ]

    -- what an index found
    pub found_passed : (looked : Bool) (indexed : Option ℕ) → (looked ≡ true → IsLeastBehind F ranks at indexed) → (looked && not (is_rank rank indexed)) ≡ true → IsLeastBehind F ranks (place + 1) indexed
    found_passed false indexed old is_true = absurd (cc)
    found_passed true None old is_true = λ r le both. old refl r le (both.0, behind_before r both.1)
    found_passed true (Some x) old is_true =
        let found = old refl in
        let own = found.1 in
        let over : rank < x = omega (arith, least.2 x (omega arith) (inr own.0, own.1), is_other x rank (not_true (x == rank) is_true)) in
        (omega arith, (own.0, behind_above x over), λ r le both. found.2 r le (both.0, behind_before r both.1))

    -- the place that is next
    pub next_some : IsNextOffered terms view addr at (Some place)
    next_some =
        let held = holds_at rank least.1.0 in
        let in_terms : held.0 < length terms = held.1 in
        let here : held.0 ≡ place = one_place ranks held.0 place filed.rising (omega (arith, filed.each)) within (held.2 ∙ sym is) in (
          at_place,
          omega (arith, filed.each),
          subst (λ (k : ℕ). may_hold_at terms view addr k ≡ true) here held.3,
          λ j low less.
              not_held terms view addr j (λ holds.
              let later : get_or ranks at 0 ≤ get_or ranks j 0 = rises ranks at j filed.rising low (omega arith) in
              let over : rank ≤ get_or ranks j 0 = least.2 (get_or ranks j 0) (omega arith) (found_holds by_name by_mask names masks loose terms ranks view addr j filed (omega (arith, filed.each)) holds, behind_at at (get_or ranks j 0) (omega arith) later) in
              absurd (omega (arith, is, filed.rising j place less within))),
        )

  -- where the rank stands
  pub own_place : (at rank place : ℕ) → IsLeastBehind P ranks at (Some rank) → (AreRising ranks → (k : ℕ) → k < length ranks → slice_index ranks k ≡ rank → place ≡ k) → (place < length ranks) × (get_or ranks place 0 ≡ rank)
  own_place at rank place least finds =
      let held = holds_at rank least.1.0 in
      let in_terms : held.0 < length terms = held.1 in
      let in_ranks : held.0 < length ranks = omega (arith, filed.each) in
      let same : place ≡ held.0 = finds filed.rising held.0 in_ranks held.2 in
      (omega arith, ap (λ (k : ℕ). get_or ranks k 0) same ∙ held.2)

  pub next_none : (at : ℕ) → at < length ranks → IsLeastBehind P ranks at None → IsNextOffered terms view addr at None
  next_none at within none j low lt =
      not_held terms view addr j (λ holds.
      let later : get_or ranks at 0 ≤ get_or ranks j 0 = rises ranks at j filed.rising low (omega (arith, filed.each)) in
      none (get_or ranks j 0) (omega arith) (found_holds by_name by_mask names masks loose terms ranks view addr j filed lt holds, behind_at at (get_or ranks j 0) within later))

  pub next_beyond : (at : ℕ) → length ranks ≤ at → IsNextOffered terms view addr at None
  next_beyond at le j low lt = absurd (omega (arith, filed.each))

-- once the indexes were asked
pub ahead_looked : (names : List NamePair) (masks : List MaskPair) (loose ranks : List ℕ) (view : QueryView) (addr : Addr) (ahead : Ahead) (found : Option ℕ) → IsAheadOf names masks loose ranks view addr ahead → IsLeastBehind (IsFiledFor names masks view addr) ranks ahead.at found → IsAheadOf names masks loose ranks view addr (record ahead { indexed = found; looked = true })
ahead_looked names masks loose ranks view addr ahead found is least = record { left = is.left; found = λ looked. least }

-- and once a rank is passed
pub ahead_passed : (by_name : NamesDecide) (by_mask : MasksDecide) (names : List NamePair) (masks : List MaskPair) (loose : List ℕ) (terms : List Selector) (ranks : List ℕ) (view : QueryView) (addr : Addr) (rank place : ℕ) (old new : Ahead) → AreFiled names masks loose ranks terms → place < length ranks → get_or ranks place 0 ≡ rank → IsLeastBehind (IsOffered names masks loose view addr) ranks old.at (Some rank) → IsAheadOf names masks loose ranks view addr old →
    new.at ≡ place + 1 → new.loose.now ≡ without_first rank old.loose.now → new.looked ≡ (old.looked && not (is_rank rank old.indexed)) → new.indexed ≡ old.indexed → IsAheadOf names masks loose ranks view addr new
ahead_passed by_name by_mask names masks loose terms ranks view addr rank place old new filed within here least is at left looked indexed = record {
  left = subst (λ (k : ℕ). AreLeft loose ranks k new.loose.now) (sym at) (subst (AreLeft loose ranks (place + 1)) (sym left) (left_passed by_name by_mask names masks loose terms ranks view addr filed old.at rank place within here least old.loose.now is.left));
  found = λ yes. subst (λ (k : ℕ). IsLeastBehind (IsFiledFor names masks view addr) ranks k new.indexed) (sym at) (subst (IsLeastBehind (IsFiledFor names masks view addr) ranks (place + 1)) (sym indexed)
      (found_passed by_name by_mask names masks loose terms ranks view addr filed old.at rank place within here least old.looked old.indexed is.found (sym looked ∙ yes)));
}
