-- Chunks that are gone through, and blocks behind them.
use Rattle.std.proofs.Common.{◌≡◌, ℕ, zero, suc, ◌<◌, ◌≤◌, List, [], ◌∷◌, ◌++◌, length, drop, slice_get, refl, sym, ap, subst, ◌∙◌, arith, append_assoc}
use Rattle.std.specs.List.{All}
use Rattle.std.proofs.lemmas.List.Concat.{flat_map-append}
use Rattle.lb_index_ranks.specs.declared.filed.Filed.{Filed}
use Rattle.lb_index_ranks.specs.Block.{back_in, place_in}
use Rattle.lb_index_ranks.specs.Chunk.{all_of, back_of, behind, chunk_at, front_of, IsFilled, IsPlace}
use Rattle.lb_index_ranks.specs.Filed.{IsCut}
use Rattle.lb_index_ranks.proofs.Chunks.{back_on, behind_on, chunk_on, get_back, next_place, no_back, pass_more}
use Rattle.lb_index_ranks.proofs.InPlace.{spot_back}

pub filled_back : (xs ys : List (List Filed)) → All IsFilled (xs ++ ys) → All IsFilled ys
filled_back [] ys filled = filled
filled_back (x ∷ xs) ys filled = filled_back xs ys (λ k d lt. filled (suc k) d (omega (arith, lt)))

pub first_filled : (all cs : List (List Filed)) (c : List Filed) → all ≡ c ∷ cs → All IsFilled all → IsFilled c
first_filled all cs c is filled = subst (λ (xs : List (List Filed)). All IsFilled xs) is filled 0 c (omega arith)

-- a walk passes a pair within its first chunk
pub walk_more : (all cs : List (List Filed)) (c : List Filed) (p n : ℕ) → all ≡ c ∷ cs → n ≡ suc p → n < length c → back_of all 0 n ≡ drop 1 (back_of all 0 p)
walk_more all cs c p n is next lt = subst (λ (xs : List (List Filed)). back_of xs 0 n ≡ drop 1 (back_of xs 0 p)) (sym is) (pass_more (c ∷ cs) p n next (omega arith) lt)

pub walk_next : (all cs : List (List Filed)) (c : List Filed) (n : ℕ) → all ≡ c ∷ cs → n < length c → IsPlace all 0 n
walk_next all cs c n is lt = subst (λ (xs : List (List Filed)). IsPlace xs 0 n) (sym is) (next_place (c ∷ cs) n lt)

no_front : (xs ys : List Filed) → xs ++ ys ≡ [] → xs ≡ []
no_front [] ys none = refl
no_front (x ∷ xs) ys none = absurd (cc none)

-- a place among chunks and blocks behind them is one among the chunks
pub place_first : (cs bs : List (List Filed)) (p : ℕ) → IsPlace (cs ++ bs) 0 p → (0 < length bs → 0 < length cs) → IsPlace cs 0 p
place_first [] [] p place some = place
place_first [] (b ∷ bs) p place some = let no_chunk : 0 < length {A = List Filed} [] = some (omega arith) in absurd (omega (arith, no_chunk))
place_first (c ∷ cs) bs p place some =
    record { upto = omega arith; there = λ one. one; within = place.within; last = λ le. no_front (all_of cs) (all_of bs) (sym (flat_map-append (λ (x : List Filed). x) cs bs) ∙ place.last le) }

chunk_first : (cs bs : List (List Filed)) → (0 < length bs → 0 < length cs) → chunk_at cs 0 ≡ chunk_at (cs ++ bs) 0
chunk_first [] [] some = refl
chunk_first [] (b ∷ bs) some = let no_chunk : 0 < length {A = List Filed} [] = some (omega arith) in absurd (omega (arith, no_chunk))
chunk_first (c ∷ cs) bs some = refl

-- the next pair of the chunks is that of all
pub head_first : (cs bs : List (List Filed)) (p : ℕ) → IsPlace (cs ++ bs) 0 p → (0 < length bs → 0 < length cs) → slice_get (back_of cs 0 p) 0 ≡ slice_get (back_of (cs ++ bs) 0 p) 0
head_first cs bs p place some =
    sym (get_back cs 0 p (place_first cs bs p place some)) ∙ ap (λ (c : List Filed). slice_get c p) (chunk_first cs bs some) ∙ get_back (cs ++ bs) 0 p place

back_append : (cs bs : List (List Filed)) (p : ℕ) → 0 < length cs → back_of (cs ++ bs) 0 p ≡ back_of cs 0 p ++ all_of bs
back_append [] bs p some = absurd (omega (arith, some))
back_append (c ∷ cs) bs p some = ap (λ (xs : List Filed). drop p c ++ xs) (flat_map-append (λ (x : List Filed). x) cs bs) ∙ sym (append_assoc (drop p c) (all_of cs) (all_of bs))

-- the block at a place is the first from that place on
pub block_on : (bs : List (List Filed)) (k : ℕ) (others : List (List Filed)) (b : List Filed) → drop k bs ≡ b ∷ others → chunk_at bs k ≡ b
block_on bs k others b is = sym (chunk_on bs k) ∙ ap (λ (xs : List (List Filed)). chunk_at xs 0) is

-- a walk from a pair on within its block, and over the blocks behind it, is one over all from that pair on
pub walk_back : (at : Filed) (bs : List (List Filed)) (k : ℕ) (others : List (List Filed)) (b : List Filed) (cs : List (List Filed)) (p : ℕ) → drop k bs ≡ b ∷ others → IsCut at (front_of bs k (place_in at (chunk_at bs k))) (back_of bs k (place_in at (chunk_at bs k))) → back_of cs 0 p ≡ back_in at b → 0 < length cs → back_of (cs ++ others) 0 p ≡ back_in at (all_of bs)
walk_back at bs k others b cs p is cut own some =
    let n : ℕ = place_in at b in
    back_append cs others p some ∙ ap (λ (xs : List Filed). xs ++ all_of others) own ∙ ap (λ (xs : List (List Filed)). back_of xs 0 n) (sym is) ∙ back_on bs k n
    ∙ ap (λ (c : List Filed). back_of bs k (place_in at c)) (sym (block_on bs k others b is)) ∙ sym (spot_back at (all_of bs) bs k (place_in at (chunk_at bs k)) refl cut)

drop_all : (xs : List Filed) (p : ℕ) → drop p xs ≡ [] → length xs ≤ p
drop_all [] p none = omega arith
drop_all (x ∷ xs) zero none = absurd (cc none)
drop_all (x ∷ xs) (suc p) none = omega (arith, drop_all xs p none)

-- where the walk within the block has come to its end, no blocks are behind it
none_behind : (at : Filed) (bs : List (List Filed)) (k : ℕ) (others : List (List Filed)) (b : List Filed) → drop k bs ≡ b ∷ others → IsPlace bs k (place_in at (chunk_at bs k)) → back_in at b ≡ [] → all_of others ≡ []
none_behind at bs k others b is place none =
    let over : length (chunk_at bs k) ≤ place_in at (chunk_at bs k) = subst (λ (c : List Filed). length c ≤ place_in at c) (sym (block_on bs k others b is)) (drop_all b (place_in at b) none) in
    ap (λ (xs : List (List Filed)). behind xs 0) (sym is) ∙ behind_on bs k ∙ place.last over

all_none : (cs others : List (List Filed)) → all_of cs ≡ [] → all_of others ≡ [] → all_of (cs ++ others) ≡ []
all_none cs others none rest = flat_map-append (λ (x : List Filed). x) cs others ∙ ap (λ (xs : List Filed). xs ++ all_of others) none ∙ rest

pub walk_place : (at : Filed) (bs : List (List Filed)) (k : ℕ) (others : List (List Filed)) (b : List Filed) (cs : List (List Filed)) (p : ℕ) → drop k bs ≡ b ∷ others → IsPlace bs k (place_in at (chunk_at bs k)) → back_of cs 0 p ≡ back_in at b → IsPlace cs 0 p → 0 < length cs → IsPlace (cs ++ others) 0 p
walk_place at bs k others b [] p is place own inner some = absurd (omega (arith, some))
walk_place at bs k others b (c ∷ cs) p is place own inner some =
    record {
      upto = omega arith;
      there = λ one. one;
      within = inner.within;
      last = λ le. all_none cs others (inner.last le) (none_behind at bs k others b is place (sym own ∙ no_back (c ∷ cs) 0 p inner le));
    }
