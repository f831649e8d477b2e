-- What is put and taken at the spot of a pair.
use Rattle.std.proofs.Common.{◌≡◌, ℕ, List, ◌∷◌, ◌++◌, Some, None, option_map, drop, slice_get, inl, inr, ap, sym, ◌∙◌}
use Rattle.lb_index_ranks.specs.declared.filed.Filed.{Filed}
use Rattle.lb_index_ranks.specs.Block.{back_in, front_in, IsBelow, IsFiledIn, IsUnfiledIn, TakesBelow}
use Rattle.lb_index_ranks.specs.Chunk.{all_of, back_of, front_of, rest_of, IsTaken}
use Rattle.lb_index_ranks.specs.Filed.{is_before, IsCut}
use Rattle.lb_index_ranks.proofs.InPlace.{spot_back, spot_front, whole_in}
use Rattle.lb_index_ranks.proofs.Lifts.{rest_is}

head_at : (at : Filed) (items : List Filed) (cs : List (List Filed)) (k p : ℕ) → items ≡ all_of cs → IsCut at (front_of cs k p) (back_of cs k p) → slice_get (back_in at items) 0 ≡ slice_get (back_of cs k p) 0
head_at at items cs k p is cut = ap (λ (xs : List Filed). slice_get xs 0) (spot_back at items cs k p is cut)

-- a pair that stands at its spot is filed already
pub filed_there : (at : Filed) (items : List Filed) (cs : List (List Filed)) (k p : ℕ) → items ≡ all_of cs → IsCut at (front_of cs k p) (back_of cs k p) → slice_get (back_of cs k p) 0 ≡ Some at → IsFiledIn at (front_in at items) (back_in at items) items
filed_there at items cs k p is cut here = inl (head_at at items cs k p is cut ∙ here, sym (whole_in at items))

-- one that does not is filed where it is put there, among these chunks or among others of the same pairs
pub filed_here : (at : Filed) (items : List Filed) (was : List (List Filed)) (j o : ℕ) (cs : List (List Filed)) (k p : ℕ) (new : List Filed) → items ≡ all_of was → IsCut at (front_of was j o) (back_of was j o) → (slice_get (back_of was j o) 0 ≡ Some at → ⊥) → items ≡ all_of cs → IsCut at (front_of cs k p) (back_of cs k p) → new ≡ front_of cs k p ++ at ∷ back_of cs k p → IsFiledIn at (front_in at items) (back_in at items) new
filed_here at items was j o cs k p new before was_cut other is cut put =
    inr (
      λ here. other (sym (head_at at items was j o before was_cut) ∙ here),
      put ∙ ap (λ (xs : List Filed). xs ++ at ∷ back_of cs k p) (sym (spot_front at items cs k p is cut)) ∙ ap (λ (xs : List Filed). front_in at items ++ at ∷ xs) (sym (spot_back at items cs k p is cut)),
    )

taken_is : (at : Filed) (items : List Filed) (cs : List (List Filed)) (k p : ℕ) (new : List Filed) → items ≡ all_of cs → IsCut at (front_of cs k p) (back_of cs k p) → IsTaken cs k p → new ≡ front_of cs k p ++ rest_of cs k p → new ≡ front_in at items ++ drop 1 (back_in at items)
taken_is at items cs k p new is cut taken took =
    took ∙ ap (λ (xs : List Filed). xs ++ rest_of cs k p) (sym (spot_front at items cs k p is cut))
    ∙ ap (λ (xs : List Filed). front_in at items ++ xs) (rest_is cs k p taken ∙ ap (λ (xs : List Filed). drop 1 xs) (sym (spot_back at items cs k p is cut)))

-- the pair at its spot is taken out
pub unfiled_here : (at : Filed) (items : List Filed) (cs : List (List Filed)) (k p : ℕ) (new : List Filed) → items ≡ all_of cs → IsCut at (front_of cs k p) (back_of cs k p) → slice_get (back_of cs k p) 0 ≡ Some at → IsTaken cs k p → new ≡ front_of cs k p ++ rest_of cs k p → IsUnfiledIn at (front_in at items) (back_in at items) new
unfiled_here at items cs k p new is cut here taken took = inl (head_at at items cs k p is cut ∙ here, taken_is at items cs k p new is cut taken took)

pub unfiled_none : (at : Filed) (items : List Filed) (cs : List (List Filed)) (k p : ℕ) → items ≡ all_of cs → IsCut at (front_of cs k p) (back_of cs k p) → (slice_get (back_of cs k p) 0 ≡ Some at → ⊥) → IsUnfiledIn at (front_in at items) (back_in at items) items
unfiled_none at items cs k p is cut other = inr (λ here. other (sym (head_at at items cs k p is cut) ∙ here), sym (whole_in at items))

-- so is the first pair from a spot on
pub below_here : (at high : Filed) (items : List Filed) (cs : List (List Filed)) (k p rank : ℕ) (new : List Filed) → items ≡ all_of cs → IsCut at (front_of cs k p) (back_of cs k p) → IsBelow high (back_of cs k p) → IsTaken cs k p → option_map (λ (f : Filed). f.rank) (slice_get (back_of cs k p) 0) ≡ Some rank → new ≡ front_of cs k p ++ rest_of cs k p → TakesBelow high (front_in at items) (back_in at items) (Some rank) new
below_here at high items cs k p rank new is cut below taken ranked took = (
  ap (option_map (is_before high)) (head_at at items cs k p is cut) ∙ below,
  ap (option_map (λ (f : Filed). f.rank)) (head_at at items cs k p is cut) ∙ ranked,
  taken_is at items cs k p new is cut taken took,
)

pub below_none : (at high : Filed) (items : List Filed) (cs : List (List Filed)) (k p : ℕ) → items ≡ all_of cs → IsCut at (front_of cs k p) (back_of cs k p) → (IsBelow high (back_of cs k p) → ⊥) → TakesBelow high (front_in at items) (back_in at items) None items
below_none at high items cs k p is cut other = (λ below. other (ap (option_map (is_before high)) (sym (head_at at items cs k p is cut)) ∙ below), sym (whole_in at items))
