-- What is done in one block, seen from all.
use Rattle.std.proofs.Common.{◌≡◌, ℕ, zero, suc, ◌<◌, List, [], ◌∷◌, ◌++◌, Option, None, Some, option_map, length, set, take, drop, slice_get, inl, inr, refl, sym, ap, ◌∙◌, arith, append_assoc}
use Rattle.lb_index_ranks.specs.declared.filed.Filed.{Filed}
use Rattle.lb_index_ranks.specs.Block.{IsBelow, IsFiledIn, IsUnfiledIn, TakesBelow}
use Rattle.lb_index_ranks.specs.Chunk.{all_of, back_of, behind, chunk_at, front_of, rest_of, IsPlace, IsTaken}
use Rattle.lb_index_ranks.specs.Filed.{filed_at, is_before}
use Rattle.lb_index_ranks.proofs.Chunks.{get_back, heads}

pub own_back : (cs : List (List Filed)) (k p : ℕ) → k < length cs → back_of cs k p ≡ drop p (chunk_at cs k) ++ behind cs k
own_back [] k p lt = absurd (omega (arith, lt))
own_back (c ∷ cs) zero p lt = refl
own_back (c ∷ cs) (suc k) p lt = own_back cs k p (omega (arith, lt))

-- all pairs where those of one block from a place on are others
set_whole : (cs : List (List Filed)) (k p : ℕ) (m : List Filed) → k < length cs → all_of (set cs k (take p (chunk_at cs k) ++ m)) ≡ front_of cs k p ++ (m ++ behind cs k)
set_whole [] k p m lt = absurd (omega (arith, lt))
set_whole (c ∷ cs) zero p m lt = append_assoc (take p c) m (all_of cs)
set_whole (c ∷ cs) (suc k) p m lt = ap (λ (xs : List Filed). c ++ xs) (set_whole cs k p m (omega (arith, lt))) ∙ sym (append_assoc c (front_of cs k p) (m ++ behind cs k))

got_drop : (c : List Filed) (p : ℕ) → slice_get c p ≡ slice_get (drop p c) 0
got_drop [] zero = refl
got_drop [] (suc p) = refl
got_drop (x ∷ c) zero = refl
got_drop (x ∷ c) (suc p) = got_drop c p

-- the back of all begins with that of the block
pub own_head : (cs : List (List Filed)) (k p : ℕ) → IsPlace cs k p → slice_get (drop p (chunk_at cs k)) 0 ≡ slice_get (back_of cs k p) 0
own_head cs k p place = sym (got_drop (chunk_at cs k) p) ∙ get_back cs k p place

-- the pairs after the first of a list and after that list
drop_some : (xs ys : List Filed) (f : Filed) → slice_get xs 0 ≡ Some f → drop 1 xs ++ ys ≡ drop 1 (xs ++ ys)
drop_some [] ys f is = absurd (cc is)
drop_some (x ∷ xs) ys f is = refl

drop_below : (high : Filed) (xs ys : List Filed) → IsBelow high xs → drop 1 xs ++ ys ≡ drop 1 (xs ++ ys)
drop_below high [] ys is = absurd (cc is)
drop_below high (x ∷ xs) ys is = refl

-- nothing changes where the block stays
set_same : (cs : List (List Filed)) (k p : ℕ) (new : List Filed) → k < length cs → new ≡ take p (chunk_at cs k) ++ drop p (chunk_at cs k) → all_of (set cs k new) ≡ front_of cs k p ++ back_of cs k p
set_same cs k p new lt is =
    ap (λ (xs : List Filed). all_of (set cs k xs)) is ∙ set_whole cs k p (drop p (chunk_at cs k)) lt ∙ ap (λ (xs : List Filed). front_of cs k p ++ xs) (sym (own_back cs k p lt))

-- the first of its back goes
set_less : (cs : List (List Filed)) (k p : ℕ) (new : List Filed) → k < length cs → drop 1 (drop p (chunk_at cs k)) ++ behind cs k ≡ drop 1 (drop p (chunk_at cs k) ++ behind cs k) → new ≡ take p (chunk_at cs k) ++ drop 1 (drop p (chunk_at cs k)) → all_of (set cs k new) ≡ front_of cs k p ++ drop 1 (back_of cs k p)
set_less cs k p new lt later is =
    ap (λ (xs : List Filed). all_of (set cs k xs)) is ∙ set_whole cs k p (drop 1 (drop p (chunk_at cs k))) lt
    ∙ ap (λ (xs : List Filed). front_of cs k p ++ xs) (later ∙ ap (λ (xs : List Filed). drop 1 xs) (sym (own_back cs k p lt)))

-- a pair comes before its back
set_more : (at : Filed) (cs : List (List Filed)) (k p : ℕ) (new : List Filed) → k < length cs → new ≡ take p (chunk_at cs k) ++ at ∷ drop p (chunk_at cs k) → all_of (set cs k new) ≡ front_of cs k p ++ at ∷ back_of cs k p
set_more at cs k p new lt is =
    ap (λ (xs : List Filed). all_of (set cs k xs)) is ∙ set_whole cs k p (at ∷ drop p (chunk_at cs k)) lt ∙ ap (λ (xs : List Filed). front_of cs k p ++ at ∷ xs) (sym (own_back cs k p lt))

pub lift_filed : (at : Filed) (cs : List (List Filed)) (k p : ℕ) (new : List Filed) → k < length cs → IsPlace cs k p → IsFiledIn at (take p (chunk_at cs k)) (drop p (chunk_at cs k)) new → IsFiledIn at (front_of cs k p) (back_of cs k p) (all_of (set cs k new))
lift_filed at cs k p new lt place filed =
    let head = own_head cs k p place in
    elim filed [
      | inl here ↦ inl (sym head ∙ here.0, set_same cs k p new lt here.1)
      | inr other ↦ inr (λ is. other.0 (head ∙ is), set_more at cs k p new lt other.1)
    ]

pub lift_unfiled : (at : Filed) (cs : List (List Filed)) (k p : ℕ) (new : List Filed) → k < length cs → IsPlace cs k p → IsUnfiledIn at (take p (chunk_at cs k)) (drop p (chunk_at cs k)) new → IsUnfiledIn at (front_of cs k p) (back_of cs k p) (all_of (set cs k new))
lift_unfiled at cs k p new lt place unfiled =
    let head = own_head cs k p place in
    elim unfiled [
      | inl here ↦ inl (sym head ∙ here.0, set_less cs k p new lt (drop_some (drop p (chunk_at cs k)) (behind cs k) at here.0) here.1)
      | inr other ↦ inr (λ is. other.0 (head ∙ is), set_same cs k p new lt other.1)
    ]

below_on : (high : Filed) (xs ys : List Filed) → slice_get xs 0 ≡ slice_get ys 0 → IsBelow high xs → IsBelow high ys
below_on high xs ys same is = ap (option_map (is_before high)) (sym same) ∙ is

pub lift_below : (high : Filed) (cs : List (List Filed)) (k p : ℕ) (found : Option ℕ) (new : List Filed) → k < length cs → IsPlace cs k p → TakesBelow high (take p (chunk_at cs k)) (drop p (chunk_at cs k)) found new → TakesBelow high (front_of cs k p) (back_of cs k p) found (all_of (set cs k new))
lift_below high cs k p None new lt place took =
    let head = own_head cs k p place in
    (λ is. took.0 (below_on high (back_of cs k p) (drop p (chunk_at cs k)) (sym head) is), set_same cs k p new lt took.1)
lift_below high cs k p (Some rank) new lt place took =
    let head = own_head cs k p place in (
      below_on high (drop p (chunk_at cs k)) (back_of cs k p) head took.0,
      ap (option_map (λ (f : Filed). f.rank)) (sym head) ∙ took.1,
      set_less cs k p new lt (drop_below high (drop p (chunk_at cs k)) (behind cs k) took.0) took.2,
    )

-- the pairs after that at a place that is taken
pub rest_is : (cs : List (List Filed)) (k p : ℕ) → IsTaken cs k p → rest_of cs k p ≡ drop 1 (back_of cs k p)
rest_is cs k p taken = ap (λ (xs : List Filed). drop 1 xs) (sym (heads cs k p (filed_at [] 0) taken.there taken.within))
