-- What a selector asks first, where it is found.
use Rattle.std.proofs.Common.{◌≡◌, [], ◌∷◌, ℕ, false, List, Result, Ok, Err, refl, OnErr, OnOk, sym, ap, subst, ◌∙◌}
use Rattle.std.proofs.lemmas.Result.{on_err_weaker}
use Rattle.lb_masks.specs.Mask.{Prefix}
use Rattle.lb_suffix.specs.Index.{Pair as NamePair}
use Rattle.lb_masks.specs.Index.{Pair as MaskPair}
use Rattle.lb_terms.specs.declared.term.Term.{Term}
use Rattle.lb_terms.specs.Selector.{Selector, selector_of}
use Rattle.lb_chain.specs.FirstAsked.{at_loose, at_masks, at_names, first_sets, loose, loose_ranks, mask_pairs, name_pairs, Sets}
use Rattle.lb_chain.specs.Filing.{AreTakenBack, AreWith, AreWithout, own_sets}
use Rattle.lb_chain.proofs.Filed.{same_back, with_none, without_none}

-- what was found is what is asked first
pub asked : (term : Selector) (whole first : Term) (sets : Sets) → selector_of whole ≡ term → own_sets (selector_of first) ≡ first_sets (selector_of whole) → own_sets (selector_of first) ≡ sets → first_sets term ≡ sets
asked term whole first sets is same own = ap first_sets (sym is) ∙ sym same ∙ own

pub record Files {A E : Type 0} (result : Result A E) (term : Selector) (rank : ℕ) (old_names new_names : List NamePair) (old_masks new_masks : List MaskPair) (old_loose new_loose : List ℕ) : Type 0 where
  pub names : OnOk result (AreWith old_names (name_pairs term rank) new_names)
  pub masks : OnOk result (AreWith old_masks (mask_pairs term rank) new_masks)
  pub loose : OnOk result (AreWith old_loose (loose_ranks term rank) new_loose)
  pub no_names : OnErr result (AreTakenBack old_names (name_pairs term rank) new_names)
  pub no_masks : OnErr result (AreTakenBack old_masks (mask_pairs term rank) new_masks)
  pub no_loose : OnErr result (AreTakenBack old_loose (loose_ranks term rank) new_loose)

pub on_ok : {A E P : Type 0} (r : Result A E) → P → OnOk r P
on_ok (Ok x) p = p
on_ok (Err e) p = tt

pub on_err : {A E P : Type 0} (r : Result A E) → P → OnErr r P
on_err (Ok x) p = tt
on_err (Err e) p = p

pub files_names : {A E : Type 0} (result : Result A E) (term : Selector) (set : List (List (List ℕ))) (slice : List (List (List ℕ))) (rank : ℕ) (names new_names : List NamePair) (masks : List MaskPair) (others : List ℕ) →
    first_sets term ≡ record { names = set; masks = []; is_loose = false } → slice ≡ set → OnOk result (AreWith names (at_names slice rank) new_names) → OnErr result (AreTakenBack names (at_names slice rank) new_names) → Files result term rank names new_names masks masks others others
files_names result term set slice rank names new_names masks others is same ok err =
    let own : first_sets term ≡ record { names = slice; masks = []; is_loose = false } = is ∙ ap (λ (xs : List (List (List ℕ))). record { names = xs; masks = []; is_loose = false }) (sym same) in
    record {
      names = subst (λ (s : Sets). OnOk result (AreWith names (at_names s.names rank) new_names)) (sym own) ok;
      masks = subst (λ (s : Sets). OnOk result (AreWith masks (at_masks s.masks rank) masks)) (sym own) (on_ok result (with_none masks));
      loose = subst (λ (s : Sets). OnOk result (AreWith others (at_loose s.is_loose rank) others)) (sym own) (on_ok result (with_none others));
      no_names = subst (λ (s : Sets). OnErr result (AreTakenBack names (at_names s.names rank) new_names)) (sym own) err;
      no_masks = on_err result (same_back masks (mask_pairs term rank) masks refl);
      no_loose = on_err result (same_back others (loose_ranks term rank) others refl);
    }

pub files_masks : {A E : Type 0} (result : Result A E) (term : Selector) (set : List Prefix) (slice : List Prefix) (rank : ℕ) (names : List NamePair) (masks new_masks : List MaskPair) (others : List ℕ) →
    first_sets term ≡ record { names = []; masks = set; is_loose = false } → slice ≡ set → OnOk result (AreWith masks (at_masks slice rank) new_masks) → OnErr result (AreTakenBack masks (at_masks slice rank) new_masks) → Files result term rank names names masks new_masks others others
files_masks result term set slice rank names masks new_masks others is same ok err =
    let own : first_sets term ≡ record { names = []; masks = slice; is_loose = false } = is ∙ ap (λ (xs : List Prefix). record { names = []; masks = xs; is_loose = false }) (sym same) in
    record {
      names = subst (λ (s : Sets). OnOk result (AreWith names (at_names s.names rank) names)) (sym own) (on_ok result (with_none names));
      masks = subst (λ (s : Sets). OnOk result (AreWith masks (at_masks s.masks rank) new_masks)) (sym own) ok;
      loose = subst (λ (s : Sets). OnOk result (AreWith others (at_loose s.is_loose rank) others)) (sym own) (on_ok result (with_none others));
      no_names = on_err result (same_back names (name_pairs term rank) names refl);
      no_masks = subst (λ (s : Sets). OnErr result (AreTakenBack masks (at_masks s.masks rank) new_masks)) (sym own) err;
      no_loose = on_err result (same_back others (loose_ranks term rank) others refl);
    }

pub files_loose : {A E : Type 0} (result : Result A E) (term : Selector) (rank : ℕ) (names : List NamePair) (masks : List MaskPair) (others new_others : List ℕ) →
    first_sets term ≡ loose → OnOk result (AreWith others (rank ∷ []) new_others) → OnErr result (new_others ≡ others) → Files result term rank names names masks masks others new_others
files_loose result term rank names masks others new_others own ok err =
    record {
      names = subst (λ (s : Sets). OnOk result (AreWith names (at_names s.names rank) names)) (sym own) (on_ok result (with_none names));
      masks = subst (λ (s : Sets). OnOk result (AreWith masks (at_masks s.masks rank) masks)) (sym own) (on_ok result (with_none masks));
      loose = subst (λ (s : Sets). OnOk result (AreWith others (at_loose s.is_loose rank) new_others)) (sym own) ok;
      no_names = on_err result (same_back names (name_pairs term rank) names refl);
      no_masks = on_err result (same_back masks (mask_pairs term rank) masks refl);
      no_loose = on_err_weaker result (λ same. same_back others (loose_ranks term rank) new_others same) err;
    }

pub record Unfiles (term : Selector) (rank : ℕ) (old_names new_names : List NamePair) (old_masks new_masks : List MaskPair) (old_loose new_loose : List ℕ) : Type 0 where
  pub names : AreWithout old_names (name_pairs term rank) new_names
  pub masks : AreWithout old_masks (mask_pairs term rank) new_masks
  pub loose : AreWithout old_loose (loose_ranks term rank) new_loose

pub unfiles_names : (term : Selector) (set : List (List (List ℕ))) (slice : List (List (List ℕ))) (rank : ℕ) (names new_names : List NamePair) (masks : List MaskPair) (others : List ℕ) →
    first_sets term ≡ record { names = set; masks = []; is_loose = false } → slice ≡ set → AreWithout names (at_names slice rank) new_names → Unfiles term rank names new_names masks masks others others
unfiles_names term set slice rank names new_names masks others is same without =
    let own : first_sets term ≡ record { names = slice; masks = []; is_loose = false } = is ∙ ap (λ (xs : List (List (List ℕ))). record { names = xs; masks = []; is_loose = false }) (sym same) in
    record {
      names = subst (λ (s : Sets). AreWithout names (at_names s.names rank) new_names) (sym own) without;
      masks = subst (λ (s : Sets). AreWithout masks (at_masks s.masks rank) masks) (sym own) (without_none masks);
      loose = subst (λ (s : Sets). AreWithout others (at_loose s.is_loose rank) others) (sym own) (without_none others);
    }

pub unfiles_masks : (term : Selector) (set : List Prefix) (slice : List Prefix) (rank : ℕ) (names : List NamePair) (masks new_masks : List MaskPair) (others : List ℕ) →
    first_sets term ≡ record { names = []; masks = set; is_loose = false } → slice ≡ set → AreWithout masks (at_masks slice rank) new_masks → Unfiles term rank names names masks new_masks others others
unfiles_masks term set slice rank names masks new_masks others is same without =
    let own : first_sets term ≡ record { names = []; masks = slice; is_loose = false } = is ∙ ap (λ (xs : List Prefix). record { names = []; masks = xs; is_loose = false }) (sym same) in
    record {
      names = subst (λ (s : Sets). AreWithout names (at_names s.names rank) names) (sym own) (without_none names);
      masks = subst (λ (s : Sets). AreWithout masks (at_masks s.masks rank) new_masks) (sym own) without;
      loose = subst (λ (s : Sets). AreWithout others (at_loose s.is_loose rank) others) (sym own) (without_none others);
    }

pub unfiles_loose : (term : Selector) (rank : ℕ) (names : List NamePair) (masks : List MaskPair) (others new_others : List ℕ) →
    first_sets term ≡ loose → AreWithout others (rank ∷ []) new_others → Unfiles term rank names names masks masks others new_others
unfiles_loose term rank names masks others new_others own without =
    record {
      names = subst (λ (s : Sets). AreWithout names (at_names s.names rank) names) (sym own) (without_none names);
      masks = subst (λ (s : Sets). AreWithout masks (at_masks s.masks rank) masks) (sym own) (without_none masks);
      loose = subst (λ (s : Sets). AreWithout others (at_loose s.is_loose rank) new_others) (sym own) without;
    }
