-- Where the last of several chunks ends.
use Rattle.std.proofs.Common.{◌≡◌, ◌==◌, ◌↔◌, IsTrue, Bool, ℕ, zero, suc, ◌+◌, ◌-◌, ◌<◌, ◌≤◌, false, take, drop, take-append-drop, append_assoc, List, [], ◌∷◌, ◌++◌, length, get_or, slice_get, refl, sym, ap, subst, ◌∙◌, arith, inl, inr}
use Rattle.std.specs.List.{All}
use Rattle.std.proofs.lemmas.Bool.{cases_lt, ne_eqb}
use Rattle.std.proofs.lemmas.List.Elements.{All-drop, All-take}
use Rattle.std.proofs.lemmas.List.{append-nil, get_or-append-add, length-append, length-drop, length-take-le}
use Rattle.std.proofs.lemmas.List.Concat.{flat_map-append}
use Rattle.lb_index_ranks.specs.declared.filed.Filed.{Filed}
use Rattle.lb_index_ranks.specs.declared.front.Front.{Front}
use Rattle.lb_index_ranks.specs.Chunk.{all_of, back_of, behind, chunk_at, ends_before, front_of, rest_of, IsFence, IsFilled}
use Rattle.lb_index_ranks.specs.Filed.{is_before}
use Rattle.lb_index_ranks.proofs.Chunks.{whole}
use Rattle.lb_index_ranks.proofs.Lifts.{own_back}
use Rattle.lb_index_ranks.proofs.Order.{not_own}

seam_get : (xs ys : List Filed) (m n : ℕ) → n ≡ length xs + m → slice_get (xs ++ ys) n ≡ slice_get ys m
seam_get [] ys m n is = let same : n ≡ m = omega (arith, is) in ap (λ (i : ℕ). slice_get ys i) same
seam_get (x ∷ xs) ys m zero is = absurd (omega (arith, is))
seam_get (x ∷ xs) ys m (suc n) is = seam_get xs ys m n (omega (arith, is))

last_get : (xs ys : List Filed) → 0 < length ys → slice_get (xs ++ ys) (length (xs ++ ys) - 1) ≡ slice_get ys (length ys - 1)
last_get xs ys some = seam_get xs ys (length ys - 1) (length (xs ++ ys) - 1) (omega (arith, some, length-append xs ys))

last_or : (xs ys : List Filed) (d : Filed) → 0 < length ys → get_or (xs ++ ys) (length (xs ++ ys) - 1) d ≡ get_or ys (length ys - 1) d
last_or xs ys d some =
    let size : length (xs ++ ys) - 1 ≡ length xs + (length ys - 1) = omega (arith, some, length-append xs ys) in
    ap (λ (i : ℕ). get_or (xs ++ ys) i d) size ∙ get_or-append-add xs ys (length ys - 1) d

-- all pairs end with those of the last
all_end : (cs others : List (List Filed)) (last : List Filed) → cs ≡ others ++ last ∷ [] → all_of cs ≡ all_of others ++ last
all_end cs others last is =
    ap all_of is ∙ flat_map-append (λ (c : List Filed). c) others (last ∷ []) ∙ ap (λ (xs : List Filed). all_of others ++ xs) (append-nil last)

filled_last : (others : List (List Filed)) (last : List Filed) → All IsFilled (others ++ last ∷ []) → IsFilled last
filled_last [] last filled = filled 0 last (omega arith)
filled_last (c ∷ others) last filled = filled_last others last (λ k d lt. filled (suc k) d (omega (arith, lt)))

pub last_filled : (cs others : List (List Filed)) (last : List Filed) → cs ≡ others ++ last ∷ [] → All IsFilled cs → IsFilled last
last_filled cs others last is filled = filled_last others last (subst (λ (xs : List (List Filed)). All IsFilled xs) is filled)

-- so the last one's fence is that of all
pub fence_end : (cs others : List (List Filed)) (last : List Filed) (fence : Front) → cs ≡ others ++ last ∷ [] → All IsFilled cs → IsFence fence last → IsFence fence (all_of cs)
fence_end cs others last fence is filled own f got =
    own f (sym (ap (λ (xs : List Filed). slice_get xs (length xs - 1)) (all_end cs others last is) ∙ last_get (all_of others) last (last_filled cs others last is filled)) ∙ got)

-- and all end before a pair where the last does
pub ends_end : (at : Filed) (cs others : List (List Filed)) (last : List Filed) → cs ≡ others ++ last ∷ [] → All IsFilled cs → ends_before at last ≡ ends_before at (all_of cs)
ends_end at cs others last is filled =
    sym (ap (is_before at) (ap (λ (xs : List Filed). get_or xs (length xs - 1) at) (all_end cs others last is) ∙ last_or (all_of others) last at (last_filled cs others last is filled)))

-- chunks that are filled have as few pairs as there are chunks only where there are none
pub none_same : (cs : List (List Filed)) → All IsFilled cs → (length cs == 0) ≡ (length (all_of cs) == 0)
none_same [] filled = refl
none_same ([] ∷ cs) filled = let some : 0 < length {A = Filed} [] = filled 0 [] (omega arith) in absurd (omega (arith, some))
none_same ((x ∷ c) ∷ cs) filled =
    ne_eqb (length ((x ∷ c) ∷ cs)) 0 (λ same. absurd (omega (arith, same))) ∙ sym (ne_eqb (length ((x ∷ c) ++ all_of cs)) 0 (λ same. absurd (omega (arith, same))))

-- chunks of which there are some have pairs
pub some_pairs : (cs : List (List Filed)) → All IsFilled cs → 0 < length cs → 0 < length (all_of cs)
some_pairs [] filled some = absurd (omega (arith, some))
some_pairs ([] ∷ cs) filled some = let own : 0 < length {A = Filed} [] = filled 0 [] (omega arith) in absurd (omega (arith, own))
some_pairs ((x ∷ c) ∷ cs) filled some = omega arith

-- no chunks have no pairs, and chunks that are filled have no pairs only where there are none
pub empty_both : (cs : List (List Filed)) (empty : Bool) → All IsFilled cs → empty ≡ (length cs == 0) → IsTrue empty ↔ (all_of cs ≡ [])
empty_both [] empty filled is = (λ told. refl, λ none. is)
empty_both ([] ∷ cs) empty filled is = let own : 0 < length {A = Filed} [] = filled 0 [] (omega arith) in absurd (omega (arith, own))
empty_both ((x ∷ c) ∷ cs) empty filled is =
    let some : empty ≡ false = is ∙ ne_eqb (length ((x ∷ c) ∷ cs)) 0 (λ same. absurd (omega (arith, same))) in
    (λ told. absurd (cc (told, some)), λ none. absurd (cc none))

-- nothing ends before a pair where there are no chunks
pub no_chunks : (at : Filed) (cs : List (List Filed)) → length cs ≡ 0 → false ≡ ends_before at (all_of cs)
no_chunks at [] none = sym (not_own at)
no_chunks at (c ∷ cs) none = absurd (omega (arith, none))

-- chunks that are cut in two lists with chunks
pub halves : (cs : List (List Filed)) (n : ℕ) (low high : List (List Filed)) → All IsFilled cs → 0 < n → n < length cs → low ≡ take n cs → high ≡ drop n cs → IsFilled (all_of low) × IsFilled (all_of high) × (all_of cs ≡ all_of low ++ all_of high)
halves cs n low high filled some lt low_is high_is =
    let below : length (take n cs) ≡ n = length-take-le n cs (omega (arith, lt)) in
    let above : length (drop n cs) ≡ length cs - n = length-drop n cs in (
      subst (λ (xs : List (List Filed)). IsFilled (all_of xs)) (sym low_is) (some_pairs (take n cs) (All-take IsFilled n cs filled) (omega (arith, some, below))),
      subst (λ (xs : List (List Filed)). IsFilled (all_of xs)) (sym high_is) (some_pairs (drop n cs) (All-drop IsFilled n cs filled) (omega (arith, lt, above))),
      ap all_of (sym (take-append-drop n cs)) ∙ flat_map-append (λ (c : List Filed). c) (take n cs) (drop n cs)
          ∙ ap (λ (xs : List (List Filed)). all_of xs ++ all_of (drop n cs)) (sym low_is) ∙ ap (λ (xs : List (List Filed)). all_of low ++ all_of xs) (sym high_is),
    )

behind_some : (cs : List (List Filed)) (k : ℕ) → All IsFilled cs → suc k < length cs → 0 < length (behind cs k)
behind_some [] k filled lt = absurd (omega (arith, lt))
behind_some (c ∷ cs) zero filled lt = some_pairs cs (λ i d within. filled (suc i) d (omega (arith, within))) (omega (arith, lt))
behind_some (c ∷ cs) (suc k) filled lt = behind_some cs k (λ i d within. filled (suc i) d (omega (arith, within))) (omega (arith, lt))

-- the fence is that of the pairs at the end alone
fence_tail : (fence : Front) (xs ys rest : List Filed) → 0 < length rest → IsFence fence (xs ++ rest) → IsFence fence (ys ++ rest)
fence_tail fence xs ys rest some own f got = own f (last_get xs rest some ∙ sym (last_get ys rest some) ∙ got)

-- so it stays where another chunk than the last changes
fence_kept : (fence : Front) (cs : List (List Filed)) (k p : ℕ) (ys new : List Filed) → All IsFilled cs → suc k < length cs → IsFence fence (all_of cs) → new ≡ ys ++ behind cs k → IsFence fence new
fence_kept fence cs k p ys new filled lt own is =
    let own_whole : all_of cs ≡ (front_of cs k p ++ drop p (chunk_at cs k)) ++ behind cs k =
    whole cs k p ∙ ap (λ (xs : List Filed). front_of cs k p ++ xs) (own_back cs k p (omega (arith, lt))) ∙ sym (append_assoc (front_of cs k p) (drop p (chunk_at cs k)) (behind cs k)) in
    subst (λ (xs : List Filed). IsFence fence xs) (sym is)
    (fence_tail fence (front_of cs k p ++ drop p (chunk_at cs k)) ys (behind cs k) (behind_some cs k filled lt) (subst (λ (xs : List Filed). IsFence fence xs) own_whole own))

pub fence_put : (fence : Front) (cs : List (List Filed)) (k p : ℕ) (y : Filed) (new : List Filed) → All IsFilled cs → suc k < length cs → IsFence fence (all_of cs) → new ≡ front_of cs k p ++ y ∷ back_of cs k p → IsFence fence new
fence_put fence cs k p y new filled lt own is =
    fence_kept fence cs k p (front_of cs k p ++ y ∷ drop p (chunk_at cs k)) new filled lt own
    (is ∙ ap (λ (xs : List Filed). front_of cs k p ++ y ∷ xs) (own_back cs k p (omega (arith, lt))) ∙ sym (append_assoc (front_of cs k p) (y ∷ drop p (chunk_at cs k)) (behind cs k)))

own_rest : (cs : List (List Filed)) (k p : ℕ) → k < length cs → rest_of cs k p ≡ drop (suc p) (chunk_at cs k) ++ behind cs k
own_rest [] k p lt = absurd (omega (arith, lt))
own_rest (c ∷ cs) zero p lt = refl
own_rest (c ∷ cs) (suc k) p lt = own_rest cs k p (omega (arith, lt))

pub fence_take : (fence : Front) (cs : List (List Filed)) (k p : ℕ) (new : List Filed) → All IsFilled cs → suc k < length cs → IsFence fence (all_of cs) → new ≡ front_of cs k p ++ rest_of cs k p → IsFence fence new
fence_take fence cs k p new filled lt own is =
    fence_kept fence cs k p (front_of cs k p ++ drop (suc p) (chunk_at cs k)) new filled lt own
    (is ∙ ap (λ (xs : List Filed). front_of cs k p ++ xs) (own_rest cs k p (omega (arith, lt))) ∙ sym (append_assoc (front_of cs k p) (drop (suc p) (chunk_at cs k)) (behind cs k)))

-- a chunk that is not the last has one after it
pub not_last : (last : Bool) (k n : ℕ) → IsTrue last ↔ (n ≤ k + 1) → last ≡ false → suc k < n
not_last last k n told is = elim (cases_lt (suc k) n) [ inl lt ↦ lt | inr le ↦ (let yes : IsTrue last = told.1 (omega (arith, le)) in absurd (cc (yes, is))) ]
