-- Pairs in chunks.
use Rattle.std.proofs.Common.{◌≡◌, true, false, Bor, option_copied, ℕ, zero, suc, ◌<◌, ◌≤◌, List, [], ◌∷◌, ◌++◌, length, get_or, set, slice_get, take, drop, insert, remove, Option, None, Some, Result, Ok, Err, OnOk, OnErr, IsSome, refl, sym, ap, subst, ◌∙◌, arith, append_assoc, take-append-drop}
use Rattle.std.specs.List.{All}
use Rattle.std.proofs.lemmas.List.Elements.{All-append, All-cons, All-drop, All-set, All-take}
use Rattle.lb_index_ranks.specs.declared.filed.Filed.{Filed}
use Rattle.lb_index_ranks.specs.Chunk.{all_of, back_of, behind, chunk_at, front_of, rest_of, IsFilled, IsPlace, IsTaken}

-- front and back are all
pub whole : (cs : List (List Filed)) (k p : ℕ) → all_of cs ≡ front_of cs k p ++ back_of cs k p
whole [] k p = refl
whole (c ∷ cs) zero p = ap (λ (xs : List Filed). xs ++ all_of cs) (sym (take-append-drop p c)) ∙ append_assoc (take p c) (drop p c) (all_of cs)
whole (c ∷ cs) (suc k) p = ap (λ (xs : List Filed). c ++ xs) (whole cs k p) ∙ sym (append_assoc c (front_of cs k p) (back_of cs k p))

pub put_whole : (cs : List (List Filed)) (k p : ℕ) (y : Filed) → k < length cs → all_of (set cs k (insert (chunk_at cs k) p y)) ≡ front_of cs k p ++ y ∷ back_of cs k p
put_whole [] k p y lt = absurd (omega (arith, lt))
put_whole (c ∷ cs) zero p y lt = append_assoc (take p c) (y ∷ drop p c) (all_of cs)
put_whole (c ∷ cs) (suc k) p y lt = ap (λ (xs : List Filed). c ++ xs) (put_whole cs k p y (omega (arith, lt))) ∙ sym (append_assoc c (front_of cs k p) (y ∷ back_of cs k p))

pub take_whole : (cs : List (List Filed)) (k p : ℕ) → k < length cs → all_of (set cs k (remove (chunk_at cs k) p)) ≡ front_of cs k p ++ rest_of cs k p
take_whole [] k p lt = absurd (omega (arith, lt))
take_whole (c ∷ cs) zero p lt = append_assoc (take p c) (drop (suc p) c) (all_of cs)
take_whole (c ∷ cs) (suc k) p lt = ap (λ (xs : List Filed). c ++ xs) (take_whole cs k p (omega (arith, lt))) ∙ sym (append_assoc c (front_of cs k p) (rest_of cs k p))

drop_head : (c rest : List Filed) (p : ℕ) (d : Filed) → p < length c → drop p c ++ rest ≡ get_or c p d ∷ (drop (suc p) c ++ rest)
drop_head [] rest p d lt = absurd (omega (arith, lt))
drop_head (x ∷ c) rest zero d lt = refl
drop_head (x ∷ c) rest (suc p) d lt = drop_head c rest p d (omega (arith, lt))

-- the back begins with the pair at its place
pub heads : (cs : List (List Filed)) (k p : ℕ) (d : Filed) → k < length cs → p < length (chunk_at cs k) → back_of cs k p ≡ get_or (chunk_at cs k) p d ∷ rest_of cs k p
heads [] k p d lt within = absurd (omega (arith, lt))
heads (c ∷ cs) zero p d lt within = drop_head c (all_of cs) p d within
heads (c ∷ cs) (suc k) p d lt within = heads cs k p d (omega (arith, lt)) within

drop_none : (c rest : List Filed) (p : ℕ) → length c ≤ p → rest ≡ [] → drop p c ++ rest ≡ []
drop_none [] rest zero le none = none
drop_none [] rest (suc p) le none = none
drop_none (x ∷ c) rest zero le none = absurd (omega (arith, le))
drop_none (x ∷ c) rest (suc p) le none = drop_none c rest p (omega (arith, le)) none

no_back_by : (cs : List (List Filed)) (k p : ℕ) → length (chunk_at cs k) ≤ p → behind cs k ≡ [] → back_of cs k p ≡ []
no_back_by [] k p le none = refl
no_back_by (c ∷ cs) zero p le none = drop_none c (all_of cs) p le none
no_back_by (c ∷ cs) (suc k) p le none = no_back_by cs k p le none

-- at the end of the last chunk nothing is left
pub no_back : (cs : List (List Filed)) (k p : ℕ) → IsPlace cs k p → length (chunk_at cs k) ≤ p → back_of cs k p ≡ []
no_back cs k p place le = no_back_by cs k p le (place.last le)

-- a chunk that is empty may go
pub empty_gone : (cs : List (List Filed)) (k : ℕ) → chunk_at cs k ≡ [] → all_of (remove cs k) ≡ all_of cs
empty_gone [] zero none = refl
empty_gone [] (suc k) none = refl
empty_gone (c ∷ cs) zero none = ap (λ (xs : List Filed). xs ++ all_of cs) (sym none)
empty_gone (c ∷ cs) (suc k) none = ap (λ (xs : List Filed). c ++ xs) (empty_gone cs k none)

divided_by : (cs : List (List Filed)) (k : ℕ) (lo hi : List Filed) → k < length cs → chunk_at cs k ≡ lo ++ hi → all_of (insert (set cs k lo) (suc k) hi) ≡ all_of cs
divided_by [] k lo hi lt is = absurd (omega (arith, lt))
divided_by (c ∷ cs) zero lo hi lt is = sym (append_assoc lo hi (all_of cs)) ∙ ap (λ (xs : List Filed). xs ++ all_of cs) (sym is)
divided_by (c ∷ cs) (suc k) lo hi lt is = ap (λ (xs : List Filed). c ++ xs) (divided_by cs k lo hi (omega (arith, lt)) is)

-- a chunk may be two
pub divided : (cs : List (List Filed)) (k n : ℕ) (lo hi : List Filed) → n ≡ suc k → k < length cs → chunk_at cs k ≡ lo ++ hi → all_of (insert (set cs k lo) n hi) ≡ all_of cs
divided cs k n lo hi next lt is = ap (λ (i : ℕ). all_of (insert (set cs k lo) i hi)) next ∙ divided_by cs k lo hi lt is

pub filled_insert : (cs : List (List Filed)) (k : ℕ) (c : List Filed) → IsFilled c → All IsFilled cs → All IsFilled (insert cs k c)
filled_insert cs k c one all = All-append IsFilled (take k cs) (c ∷ drop k cs) (All-take IsFilled k cs all) (All-cons IsFilled c (drop k cs) one (All-drop IsFilled k cs all))

pub filled_remove : (cs : List (List Filed)) (k : ℕ) → All IsFilled cs → All IsFilled (remove cs k)
filled_remove cs k all = All-append IsFilled (take k cs) (drop (suc k) cs) (All-take IsFilled k cs all) (All-drop IsFilled (suc k) cs all)

-- all but one are filled, and that one goes
pub filled_but : (cs : List (List Filed)) (k : ℕ) (c : List Filed) → All IsFilled cs → All IsFilled (remove (set cs k c) k)
filled_but [] zero c all = all
filled_but [] (suc k) c all = all
filled_but (x ∷ cs) zero c all = λ i d lt. all (suc i) d (omega (arith, lt))
filled_but (x ∷ cs) (suc k) c all = All-cons IsFilled x (remove (set cs k c) k) (all 0 x (omega arith)) (filled_but cs k c (λ i d lt. all (suc i) d (omega (arith, lt))))

-- the chunks from one on
pub back_on : (cs : List (List Filed)) (k p : ℕ) → back_of (drop k cs) 0 p ≡ back_of cs k p
back_on [] zero p = refl
back_on [] (suc k) p = refl
back_on (c ∷ cs) zero p = refl
back_on (c ∷ cs) (suc k) p = back_on cs k p

pub chunk_on : (cs : List (List Filed)) (k : ℕ) → chunk_at (drop k cs) 0 ≡ chunk_at cs k
chunk_on [] zero = refl
chunk_on [] (suc k) = refl
chunk_on (c ∷ cs) zero = refl
chunk_on (c ∷ cs) (suc k) = chunk_on cs k

pub behind_on : (cs : List (List Filed)) (k : ℕ) → behind (drop k cs) 0 ≡ behind cs k
behind_on [] zero = refl
behind_on [] (suc k) = refl
behind_on (c ∷ cs) zero = refl
behind_on (c ∷ cs) (suc k) = behind_on cs k

pub place_on : (cs : List (List Filed)) (k p : ℕ) → IsPlace cs k p → IsPlace (drop k cs) 0 p
place_on cs k p place =
    let same : chunk_at (drop k cs) 0 ≡ chunk_at cs k = chunk_on cs k in
    let size : length (chunk_at (drop k cs) 0) ≡ length (chunk_at cs k) = ap (λ (c : List Filed). length c) same in
    record {
      upto = omega arith;
      there = λ some. some;
      within = (let le : p ≤ length (chunk_at cs k) = place.within in omega (arith, size, le));
      last = λ le. behind_on cs k ∙ place.last (omega (arith, size, le));
    }

drop_next : (c rest : List Filed) (p : ℕ) → suc p < length c → drop (suc p) c ++ rest ≡ drop 1 (drop p c ++ rest)
drop_next [] rest p lt = absurd (omega (arith, lt))
drop_next (x ∷ c) rest zero lt = refl
drop_next (x ∷ c) rest (suc p) lt = drop_next c rest p (omega (arith, lt))

drop_end : (c rest : List Filed) (p : ℕ) → p ≤ length c → length c ≤ suc p → (length c ≤ p → rest ≡ []) → rest ≡ drop 1 (drop p c ++ rest)
drop_end [] rest zero within le last = let none : rest ≡ [] = last (omega arith) in none ∙ ap (λ (xs : List Filed). drop 1 xs) (sym none)
drop_end [] rest (suc p) within le last = absurd (omega (arith, within))
drop_end (x ∷ []) rest zero within le last = refl
drop_end (x ∷ y ∷ c) rest zero within le last = absurd (omega (arith, le))
drop_end (x ∷ c) rest (suc p) within le last = drop_end c rest p (omega (arith, within)) (omega (arith, le)) (λ over. last (omega (arith, over)))

-- a walk passes a pair within a chunk
pub pass_more : (cs : List (List Filed)) (p n : ℕ) → n ≡ suc p → 0 < length cs → n < length (chunk_at cs 0) → back_of cs 0 n ≡ drop 1 (back_of cs 0 p)
pass_more [] p n next some lt = absurd (omega (arith, some))
pass_more (c ∷ cs) p n next some lt = ap (λ (i : ℕ). drop i c ++ all_of cs) next ∙ drop_next c (all_of cs) p (omega (arith, lt, next))

pub start : (cs : List (List Filed)) → back_of cs 0 0 ≡ all_of cs
start [] = refl
start (c ∷ cs) = refl

-- and the last of a chunk
pub pass_end : (all cs : List (List Filed)) (c : List Filed) (p : ℕ) → all ≡ c ∷ cs → IsPlace all 0 p → length c ≤ suc p → back_of cs 0 0 ≡ drop 1 (back_of all 0 p)
pass_end all cs c p is place le =
    let own : IsPlace (c ∷ cs) 0 p = subst (λ (xs : List (List Filed)). IsPlace xs 0 p) is place in
    start cs ∙ drop_end c (all_of cs) p own.within le own.last ∙ ap (λ (xs : List (List Filed)). drop 1 (back_of xs 0 p)) (sym is)

start_last : (cs : List (List Filed)) → All IsFilled cs → length (chunk_at cs 0) ≤ 0 → behind cs 0 ≡ []
start_last [] filled le = refl
start_last (c ∷ cs) filled le = let some : 0 < length c = filled 0 c (omega arith) in absurd (omega (arith, some, le))

-- a walk begins where chunks begin
pub start_place : (cs : List (List Filed)) → All IsFilled cs → IsPlace cs 0 0
start_place cs filled = record { upto = omega arith; there = λ some. some; within = omega arith; last = λ le. start_last cs filled le }

pub next_place : (cs : List (List Filed)) (n : ℕ) → n < length (chunk_at cs 0) → IsPlace cs 0 n
next_place cs n lt = record { upto = omega arith; there = λ some. some; within = omega (arith, lt); last = λ le. absurd (omega (arith, lt, le)) }

-- the chunks after the first are filled
pub filled_rest : (all cs : List (List Filed)) (c : List Filed) → all ≡ c ∷ cs → All IsFilled all → All IsFilled cs
filled_rest all cs c is filled = λ k d lt. subst (λ (xs : List (List Filed)). All IsFilled xs) is filled (suc k) d (omega (arith, lt))

pub filled_front : (xs ys : List (List Filed)) → All IsFilled (xs ++ ys) → All IsFilled xs
filled_front [] ys filled = λ k d lt. absurd (omega (arith, lt))
filled_front (x ∷ xs) ys filled = All-cons IsFilled x xs (filled 0 x (omega arith)) (filled_front xs ys (λ k d lt. filled (suc k) d (omega (arith, lt))))

get_drop : (c rest : List Filed) (p : ℕ) → (length c ≤ p → rest ≡ []) → slice_get c p ≡ slice_get (drop p c ++ rest) 0
get_drop [] rest zero last = ap (λ (xs : List Filed). slice_get xs 0) (sym (last (omega arith)))
get_drop [] rest (suc p) last = ap (λ (xs : List Filed). slice_get xs 0) (sym (last (omega arith)))
get_drop (x ∷ c) rest zero last = refl
get_drop (x ∷ c) rest (suc p) last = get_drop c rest p (λ le. last (omega (arith, le)))

get_back_by : (cs : List (List Filed)) (k p : ℕ) → (length (chunk_at cs k) ≤ p → behind cs k ≡ []) → slice_get (chunk_at cs k) p ≡ slice_get (back_of cs k p) 0
get_back_by [] k zero last = refl
get_back_by [] k (suc p) last = refl
get_back_by (c ∷ cs) zero p last = get_drop c (all_of cs) p last
get_back_by (c ∷ cs) (suc k) p last = get_back_by cs k p last

-- what a chunk has at a place is what the back begins with
pub get_back : (cs : List (List Filed)) (k p : ℕ) → IsPlace cs k p → slice_get (chunk_at cs k) p ≡ slice_get (back_of cs k p) 0
get_back cs k p place = get_back_by cs k p place.last

-- what a chunk has at a place that is taken
pub get_taken : (cs : List (List Filed)) (k p : ℕ) → IsTaken cs k p → slice_get (chunk_at cs k) p ≡ slice_get (back_of cs k p) 0
get_taken cs k p taken = get_back_by cs k p (λ le. absurd (omega (arith, le, taken.within)))

-- a chunk that is filled beside others that are
pub filled_with : (cs : List (List Filed)) (k : ℕ) → All IsFilled (remove cs k) → 0 < length (chunk_at cs k) → All IsFilled cs
filled_with [] k all some = λ i d lt. absurd (omega (arith, lt))
filled_with (c ∷ cs) zero all some = All-cons IsFilled c cs some all
filled_with (c ∷ cs) (suc k) all some = All-cons IsFilled c cs (all 0 c (omega arith)) (filled_with cs k (λ i d lt. all (suc i) d (omega (arith, lt))) some)

pub got_within : {X : Type 0} (xs : List X) (p : ℕ) (r : Option X) → r ≡ slice_get xs p → IsSome r → p < length xs
got_within [] p None is some = let no : false ≡ true = some in absurd (cc (no))
got_within [] zero (Some x) is some = absurd (cc)
got_within [] (suc p) (Some x) is some = absurd (cc)
got_within (x ∷ xs) zero r is some = omega arith
got_within (x ∷ xs) (suc p) r is some = let lt : p < length xs = got_within xs p r is some in omega (arith, lt)

pub some_copied : {X : Type 0} (r : Option (Bor X)) → IsSome r → IsSome (option_copied r)
some_copied None some = some
some_copied (Some x) some = refl

pub set_at : (cs : List (List Filed)) (k : ℕ) (c : List Filed) → k < length cs → chunk_at (set cs k c) k ≡ c
set_at [] k c lt = absurd (omega (arith, lt))
set_at (x ∷ cs) zero c lt = refl
set_at (x ∷ cs) (suc k) c lt = set_at cs k c (omega (arith, lt))

pub no_pair : (c : List Filed) → length c ≡ 0 → c ≡ []
no_pair [] none = refl
no_pair (x ∷ c) none = absurd (omega (arith, none))

insert_filled : (c : List Filed) (p : ℕ) (y : Filed) → IsFilled (insert c p y)
insert_filled [] zero y = omega arith
insert_filled [] (suc p) y = omega arith
insert_filled (x ∷ c) zero y = omega arith
insert_filled (x ∷ c) (suc p) y = omega arith

put_filled : {A E : Type 0} (r : Result A E) (c new : List Filed) (p : ℕ) (y : Filed) → OnOk r (new ≡ insert c p y) → OnErr r (new ≡ c) → IsFilled c → IsFilled new
put_filled (Ok u) c new p y ok err filled = subst IsFilled (sym ok) (insert_filled c p y)
put_filled (Err e) c new p y ok err filled = subst IsFilled (sym err) filled

-- a chunk in which a pair was put is filled, and so is one where that was refused
pub set_filled : {A E : Type 0} (r : Result A E) (cs : List (List Filed)) (k p : ℕ) (c new : List Filed) (y : Filed) → All IsFilled cs → IsFilled c → OnOk r (new ≡ insert c p y) → OnErr r (new ≡ c) → All IsFilled (set cs k new)
set_filled r cs k p c new y all filled ok err = All-set IsFilled cs k new (put_filled r c new p y ok err filled) all

pub some_or_none : (c : List Filed) → (c ≡ [] → ⊥) → 0 < length c
some_or_none [] some = absurd (some refl)
some_or_none (x ∷ c) some = omega arith
