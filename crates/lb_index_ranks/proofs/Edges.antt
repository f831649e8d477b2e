-- Where a pair would stand between two blocks.
use Rattle.std.proofs.Common.{◌≡◌, true, false, Bool, ℕ, zero, suc, ◌+◌, ◌-◌, ◌<◌, ◌≤◌, List, [], ◌∷◌, ◌++◌, inl, inr, length, get_or, set, slice_get, Option, None, Some, option_map, take, drop, if◌then◌else◌, refl, sym, ap, subst, ◌∙◌, arith, append_assoc, take-append-drop}
use Rattle.std.specs.List.{All, AllByRecursion}
use Rattle.std.proofs.lemmas.Bool.{cases_Bool}
use Rattle.std.proofs.lemmas.List.Concat.{flat_map-append}
use Rattle.lb_index_ranks.specs.declared.filed.Filed.{Filed}
use Rattle.lb_index_ranks.specs.Block.{IsBelow, place_in}
use Rattle.lb_index_ranks.specs.Chunk.{all_of, back_of, chunk_at, ends_before, front_of, rest_of, IsFilled}
use Rattle.lb_index_ranks.specs.Filed.{filed_cmp, is_before, AreInOrder, IsCut, IsCutOut, TakesLast, filed_at}
use Rattle.std.specs.declared.cmp.Ordering.TheVariants.{Less}
use Rattle.std.proofs.lemmas.List.Elements.{All-append, All-drop, All-take}
use Rattle.lb_index_ranks.proofs.Chunks.{heads, whole}
use Rattle.lb_index_ranks.proofs.Order.{Apart, each_back, order_append, order_apart, order_back, order_front}
use Rattle.lb_index_ranks.proofs.Spots.{ends_all, order_chunk}

-- no pair of a block stands before a pair where its first does not
pub place_first : (at : Filed) (items : List Filed) → (IsBelow at items → ⊥) → place_in at items ≡ 0
place_first at [] other = refl
place_first at (f ∷ items) other = elim (cases_Bool (is_before at f)) [
  | inl t ↦ absurd (other (ap Some t))
  | inr t ↦ ap (λ (b : Bool). if b then suc (place_in at items) else zero) t
]

all_place : (at : Filed) (items : List Filed) → AllByRecursion (λ (f : Filed). is_before at f ≡ true) items → place_in at items ≡ length items
all_place at [] all = refl
all_place at (f ∷ items) all = ap (λ (b : Bool). if b then suc (place_in at items) else zero) all.0 ∙ ap suc (all_place at items all.1)

-- and each does where its last does
pub place_last : (at : Filed) (items : List Filed) → AreInOrder items → IsFilled items → ends_before at items ≡ true → place_in at items ≡ length items
place_last at items order filled is = all_place at items (ends_all at items order filled is)

front_zero : (bs : List (List Filed)) (k : ℕ) → front_of bs k 0 ≡ all_of (take k bs)
front_zero [] zero = refl
front_zero [] (suc k) = refl
front_zero (b ∷ bs) zero = refl
front_zero (b ∷ bs) (suc k) = ap (λ (xs : List Filed). b ++ xs) (front_zero bs k)

back_zero : (bs : List (List Filed)) (k : ℕ) → back_of bs k 0 ≡ all_of (drop k bs)
back_zero [] zero = refl
back_zero [] (suc k) = refl
back_zero (b ∷ bs) zero = refl
back_zero (b ∷ bs) (suc k) = back_zero bs k

take_whole : (c : List Filed) → take (length c) c ≡ c
take_whole [] = refl
take_whole (x ∷ c) = ap (λ (xs : List Filed). x ∷ xs) (take_whole c)

drop_whole : (c : List Filed) → drop (length c) c ≡ []
drop_whole [] = refl
drop_whole (x ∷ c) = drop_whole c

append_none : (c : List Filed) → c ≡ c ++ []
append_none [] = refl
append_none (x ∷ c) = ap (λ (xs : List Filed). x ∷ xs) (append_none c)

front_whole : (bs : List (List Filed)) (k : ℕ) → k < length bs → front_of bs k (length (chunk_at bs k)) ≡ all_of (take (suc k) bs)
front_whole [] k lt = absurd (omega (arith, lt))
front_whole (b ∷ bs) zero lt = take_whole b ∙ append_none b
front_whole (b ∷ bs) (suc k) lt = ap (λ (xs : List Filed). b ++ xs) (front_whole bs k (omega (arith, lt)))

back_whole : (bs : List (List Filed)) (k : ℕ) → k < length bs → back_of bs k (length (chunk_at bs k)) ≡ all_of (drop (suc k) bs)
back_whole [] k lt = absurd (omega (arith, lt))
back_whole (b ∷ bs) zero lt = ap (λ (xs : List Filed). xs ++ all_of bs) (drop_whole b)
back_whole (b ∷ bs) (suc k) lt = back_whole bs k (omega (arith, lt))

-- so the cut is between two blocks
pub edge_first : (at : Filed) (bs : List (List Filed)) (k p : ℕ) → p ≡ 0 → IsCut at (front_of bs k p) (back_of bs k p) → IsCut at (all_of (take k bs)) (all_of (drop k bs))
edge_first at bs k p none cut =
    subst (λ (xs : List Filed). IsCut at xs (all_of (drop k bs))) (ap (front_of bs k) none ∙ front_zero bs k)
    (subst (λ (xs : List Filed). IsCut at (front_of bs k p) xs) (ap (back_of bs k) none ∙ back_zero bs k) cut)

pub edge_last : (at : Filed) (bs : List (List Filed)) (k n p : ℕ) → n ≡ suc k → k < length bs → p ≡ length (chunk_at bs k) → IsCut at (front_of bs k p) (back_of bs k p) → IsCut at (all_of (take n bs)) (all_of (drop n bs))
edge_last at bs k n p next lt is cut =
    subst (λ (i : ℕ). IsCut at (all_of (take i bs)) (all_of (drop i bs))) (sym next)
    (subst (λ (xs : List Filed). IsCut at xs (all_of (drop (suc k) bs))) (ap (front_of bs k) is ∙ front_whole bs k lt)
    (subst (λ (xs : List Filed). IsCut at (front_of bs k p) xs) (ap (back_of bs k) is ∙ back_whole bs k lt) cut))

drop_next : (bs : List (List Filed)) (n : ℕ) → drop 1 (drop n bs) ≡ drop (suc n) bs
drop_next [] zero = refl
drop_next [] (suc n) = refl
drop_next (b ∷ bs) zero = refl
drop_next (b ∷ bs) (suc n) = drop_next bs n

got_drop : (bs : List (List Filed)) (n : ℕ) (d : List Filed) → get_or (drop n bs) 0 d ≡ get_or bs n d
got_drop [] zero d = refl
got_drop [] (suc n) d = refl
got_drop (b ∷ bs) zero d = refl
got_drop (b ∷ bs) (suc n) d = got_drop bs n d

left_by : (bs : List (List Filed)) (i j : ℕ) → i ≤ j → j < length bs → take i (take i bs ++ drop j bs) ++ drop (suc i) (take i bs ++ drop j bs) ≡ take i bs ++ drop (suc j) bs
left_by [] i j le lt = absurd (omega (arith, lt))
left_by (b ∷ bs) zero j le lt = drop_next (b ∷ bs) j
left_by (b ∷ bs) (suc i) zero le lt = absurd (omega (arith, le))
left_by (b ∷ bs) (suc i) (suc j) le lt = ap (λ (xs : List (List Filed)). b ∷ xs) (left_by bs i j (omega (arith, le)) (omega (arith, lt)))

got_by : (bs : List (List Filed)) (i j : ℕ) (d : List Filed) → i ≤ j → j < length bs → get_or (take i bs ++ drop j bs) i d ≡ get_or bs j d
got_by [] i j d le lt = absurd (omega (arith, lt))
got_by (b ∷ bs) zero j d le lt = got_drop (b ∷ bs) j d
got_by (b ∷ bs) (suc i) zero d le lt = absurd (omega (arith, le))
got_by (b ∷ bs) (suc i) (suc j) d le lt = got_by bs i j d (omega (arith, le)) (omega (arith, lt))

take_next : (bs : List (List Filed)) (n : ℕ) (d : List Filed) → n < length bs → take (suc n) bs ≡ take n bs ++ get_or bs n d ∷ []
take_next [] n d lt = absurd (omega (arith, lt))
take_next (b ∷ bs) zero d lt = refl
take_next (b ∷ bs) (suc n) d lt = ap (λ (xs : List (List Filed)). b ∷ xs) (take_next bs n d (omega (arith, lt)))

got_on : (bs : List (List Filed)) (i n : ℕ) (d : List Filed) → get_or (drop i bs) n d ≡ get_or bs (i + n) d
got_on bs zero n d = let same : n ≡ 0 + n = omega arith in ap (λ (j : ℕ). get_or bs j d) same
got_on [] (suc i) n d = refl
got_on (b ∷ bs) (suc i) n d = let same : suc (i + n) ≡ suc i + n = omega arith in got_on bs i n d ∙ ap (λ (j : ℕ). get_or (b ∷ bs) j d) same

len_drop : (bs : List (List Filed)) (i n : ℕ) → i + n < length bs → n < length (drop i bs)
len_drop bs zero n lt = omega (arith, lt)
len_drop [] (suc i) n lt = absurd (omega (arith, lt))
len_drop (b ∷ bs) (suc i) n lt = len_drop bs i n (omega (arith, lt))

-- a block more is taken out at a place, so many having been taken there before
pub taken_left : (bs now new : List (List Filed)) (i n : ℕ) → now ≡ take i bs ++ drop (i + n) bs → i + n < length bs → new ≡ take i now ++ drop (i + 1) now → new ≡ take i bs ++ drop (i + (n + 1)) bs
taken_left bs now new i n was lt is =
    let one : i + 1 ≡ suc i = omega arith in
    let more : suc (i + n) ≡ i + (n + 1) = omega arith in
    is ∙ ap (λ (j : ℕ). take i now ++ drop j now) one ∙ ap (λ (xs : List (List Filed)). take i xs ++ drop (suc i) xs) was ∙ left_by bs i (i + n) (omega arith) lt
    ∙ ap (λ (j : ℕ). take i bs ++ drop j bs) more

pub taken_more : (bs now cut : List (List Filed)) (i n : ℕ) (b : List Filed) → now ≡ take i bs ++ drop (i + n) bs → i + n < length bs → cut ≡ take n (drop i bs) → b ≡ get_or now i b → cut ++ b ∷ [] ≡ take (n + 1) (drop i bs)
taken_more bs now cut i n b was lt is got =
    let more : suc n ≡ n + 1 = omega arith in
    let here : b ≡ get_or (drop i bs) n b = got ∙ ap (λ (xs : List (List Filed)). get_or xs i b) was ∙ got_by bs i (i + n) b (omega arith) lt ∙ sym (got_on bs i n b) in
    ap (λ (xs : List (List Filed)). xs ++ b ∷ []) is ∙ ap (λ (x : List Filed). take n (drop i bs) ++ x ∷ []) here ∙ sym (take_next (drop i bs) n b (len_drop bs i n lt)) ∙ ap (λ (j : ℕ). take j (drop i bs)) more

take_none : (n : ℕ) (bs : List (List Filed)) → bs ≡ [] → take n bs ≡ []
take_none zero bs none = refl
take_none (suc n) [] none = refl
take_none (suc n) (b ∷ bs) none = absurd (cc none)

drop_none : (n : ℕ) (bs : List (List Filed)) → bs ≡ [] → drop n bs ≡ []
drop_none zero bs none = none
drop_none (suc n) [] none = refl
drop_none (suc n) (b ∷ bs) none = absurd (cc none)

drop_drop : (bs : List (List Filed)) (i j : ℕ) → i ≤ j → drop (j - i) (drop i bs) ≡ drop j bs
drop_drop bs zero j le = let same : j - 0 ≡ j = omega arith in ap (λ (n : ℕ). drop n bs) same
drop_drop [] (suc i) zero le = absurd (omega (arith, le))
drop_drop (b ∷ bs) (suc i) zero le = absurd (omega (arith, le))
drop_drop [] (suc i) (suc j) le = drop_none (suc j - suc i) [] refl
drop_drop (b ∷ bs) (suc i) (suc j) le = let same : suc j - suc i ≡ j - i = omega arith in ap (λ (n : ℕ). drop n (drop i bs)) same ∙ drop_drop bs i j (omega (arith, le))

take_take : (bs : List (List Filed)) (i j : ℕ) → i ≤ j → take i bs ++ take (j - i) (drop i bs) ≡ take j bs
take_take bs zero j le = let same : j - 0 ≡ j = omega arith in ap (λ (n : ℕ). take n bs) same
take_take [] (suc i) zero le = absurd (omega (arith, le))
take_take (b ∷ bs) (suc i) zero le = absurd (omega (arith, le))
take_take [] (suc i) (suc j) le = take_none (suc j - suc i) [] refl
take_take (b ∷ bs) (suc i) (suc j) le = let same : suc j - suc i ≡ j - i = omega arith in ap (λ (xs : List (List Filed)). b ∷ xs) (ap (λ (n : ℕ). take i bs ++ take n (drop i bs)) same ∙ take_take bs i j (omega (arith, le)))

flat_append : (xs ys : List (List Filed)) → all_of (xs ++ ys) ≡ all_of xs ++ all_of ys
flat_append xs ys = flat_map-append (λ (c : List Filed). c) xs ys

-- the blocks between two edges are what is cut out
pub cut_between : (low high : Filed) (bs cut new : List (List Filed)) (i j : ℕ) → i ≤ j → IsCut low (all_of (take i bs)) (all_of (drop i bs)) → IsCut high (all_of (take j bs)) (all_of (drop j bs)) → cut ≡ take (j - i) (drop i bs) → new ≡ take i bs ++ drop j bs → IsCutOut low high (all_of bs) (all_of cut) (all_of new)
cut_between low high bs cut new i j le from below is left =
    let behind : all_of (drop i bs) ≡ all_of cut ++ all_of (drop j bs) =
    ap all_of (sym (take-append-drop (j - i) (drop i bs))) ∙ flat_append (take (j - i) (drop i bs)) (drop (j - i) (drop i bs))
    ∙ ap (λ (xs : List (List Filed)). all_of xs ++ all_of (drop (j - i) (drop i bs))) (sym is) ∙ ap (λ (xs : List (List Filed)). all_of cut ++ all_of xs) (drop_drop bs i j le) in
    let before : all_of (take j bs) ≡ all_of (take i bs) ++ all_of cut =
    ap all_of (sym (take_take bs i j le)) ∙ flat_append (take i bs) (take (j - i) (drop i bs)) ∙ ap (λ (xs : List (List Filed)). all_of (take i bs) ++ all_of xs) (sym is) in
    record {
      front = all_of (take i bs);
      back = all_of (drop j bs);
      whole = ap all_of (sym (take-append-drop i bs)) ∙ flat_append (take i bs) (drop i bs) ∙ ap (λ (xs : List Filed). all_of (take i bs) ++ xs) behind;
      left = ap all_of left ∙ flat_append (take i bs) (drop j bs);
      from = subst (λ (xs : List Filed). IsCut low (all_of (take i bs)) xs) behind from;
      below = subst (λ (xs : List Filed). IsCut high xs (all_of (drop j bs))) before below;
    }

-- ---- the order of what is cut out and of what is left

apart_back : (xs ys zs : List Filed) → Apart xs (ys ++ zs) → Apart xs zs
apart_back [] ys zs apart = tt
apart_back (x ∷ xs) ys zs apart = (each_back (λ (y : Filed). filed_cmp x y ≡ Less) ys zs apart.0, apart_back xs ys zs apart.1)

pub cut_order : (low high : Filed) (items cut new : List Filed) → AreInOrder items → IsCutOut low high items cut new → AreInOrder cut
cut_order low high items cut new order out = order_front cut out.back (order_back out.front (cut ++ out.back) (subst AreInOrder out.whole order))

pub left_order : (low high : Filed) (items cut new : List Filed) → AreInOrder items → IsCutOut low high items cut new → AreInOrder new
left_order low high items cut new order out =
    let all : AreInOrder (out.front ++ (cut ++ out.back)) = subst AreInOrder out.whole order in
    subst AreInOrder (sym out.left)
    (order_append out.front out.back (order_front out.front (cut ++ out.back) all) (order_back cut out.back (order_back out.front (cut ++ out.back) all))
    (apart_back out.front cut out.back (order_apart out.front (cut ++ out.back) all)))

cut_filled : (bs : List (List Filed)) (i j : ℕ) → All IsFilled bs → All IsFilled (take (j - i) (drop i bs))
cut_filled bs i j filled = All-take IsFilled (j - i) (drop i bs) (All-drop IsFilled i bs filled)

pub filled_cut : (bs cut : List (List Filed)) (i j : ℕ) → All IsFilled bs → cut ≡ take (j - i) (drop i bs) → All IsFilled cut
filled_cut bs cut i j filled is = subst (λ (xs : List (List Filed)). All IsFilled xs) (sym is) (cut_filled bs i j filled)

pub filled_left : (bs new : List (List Filed)) (i j : ℕ) → All IsFilled bs → new ≡ take i bs ++ drop j bs → All IsFilled new
filled_left bs new i j filled is = subst (λ (xs : List (List Filed)). All IsFilled xs) (sym is) (All-append IsFilled (take i bs) (drop j bs) (All-take IsFilled i bs filled) (All-drop IsFilled j bs filled))

-- over blocks of the same pairs
pub cut_among : (low high : Filed) (bs was cut new : List (List Filed)) (i j : ℕ) → all_of bs ≡ all_of was → i ≤ j → IsCut low (all_of (take i bs)) (all_of (drop i bs)) → IsCut high (all_of (take j bs)) (all_of (drop j bs)) → cut ≡ take (j - i) (drop i bs) → new ≡ take i bs ++ drop j bs → IsCutOut low high (all_of was) (all_of cut) (all_of new)
cut_among low high bs was cut new i j same le from below is left =
    subst (λ (xs : List Filed). IsCutOut low high xs (all_of cut) (all_of new)) same (cut_between low high bs cut new i j le from below is left)

-- ---- the last pair

drop_over : (c : List Filed) (n : ℕ) → length c ≤ n → drop n c ≡ []
drop_over [] zero le = refl
drop_over [] (suc n) le = refl
drop_over (x ∷ c) zero le = absurd (omega (arith, le))
drop_over (x ∷ c) (suc n) le = drop_over c n (omega (arith, le))

rest_last : (cs : List (List Filed)) (k p : ℕ) → suc k ≡ length cs → suc p ≡ length (chunk_at cs k) → rest_of cs k p ≡ []
rest_last [] k p last end = absurd (omega (arith, last))
rest_last (c ∷ []) zero p last end = ap (λ (xs : List Filed). xs ++ []) (drop_over c (suc p) (omega (arith, end)))
rest_last (c ∷ d ∷ cs) zero p last end = absurd (omega (arith, last))
rest_last (c ∷ cs) (suc k) p last end = rest_last cs k p (omega (arith, last)) end

some_is : (x y : ℕ) → Some x ≡ Some y → x ≡ y
some_is x y is = cc is

-- the pair at the end of the last chunk is the last
pub last_out : (cs : List (List Filed)) (k p r : ℕ) (new : List Filed) → suc k ≡ length cs → suc p ≡ length (chunk_at cs k) → option_map (λ (f : Filed). f.rank) (slice_get (back_of cs k p) 0) ≡ Some r → new ≡ front_of cs k p ++ rest_of cs k p → TakesLast (all_of cs) (Some r) new
last_out cs k p r new last end ranked is =
    let f : Filed = get_or (chunk_at cs k) p (filed_at [] 0) in
    let none : rest_of cs k p ≡ [] = rest_last cs k p last end in
    let lt : k < length cs = omega (arith, last) in
    let within : p < length (chunk_at cs k) = omega (arith, end) in
    let back : back_of cs k p ≡ f ∷ rest_of cs k p = heads cs k p (filed_at [] 0) lt within in
    let front : new ≡ front_of cs k p = is ∙ ap (λ (xs : List Filed). front_of cs k p ++ xs) none ∙ sym (append_none (front_of cs k p)) in (
      f,
      whole cs k p ∙ ap (λ (xs : List Filed). front_of cs k p ++ xs) (back ∙ ap (λ (xs : List Filed). f ∷ xs) none) ∙ ap (λ (xs : List Filed). xs ++ f ∷ []) (sym front),
      some_is r f.rank (sym ranked ∙ ap (λ (xs : List Filed). option_map (λ (g : Filed). g.rank) (slice_get xs 0)) back),
    )

lift_by : (bs : List (List Filed)) (k : ℕ) (f : Filed) (new : List Filed) → suc k ≡ length bs → chunk_at bs k ≡ new ++ f ∷ [] → all_of bs ≡ all_of (set bs k new) ++ f ∷ []
lift_by [] k f new last is = absurd (omega (arith, last))
lift_by (b ∷ []) zero f new last is = sym (append_none b) ∙ is ∙ ap (λ (xs : List Filed). xs ++ f ∷ []) (append_none new)
lift_by (b ∷ c ∷ bs) zero f new last is = absurd (omega (arith, last))
lift_by (b ∷ bs) (suc k) f new last is = ap (λ (xs : List Filed). b ++ xs) (lift_by bs k f new (omega (arith, last)) is) ∙ sym (append_assoc b (all_of (set bs k new)) (f ∷ []))

-- the last pair of the last block is that of all
pub lift_last : (bs : List (List Filed)) (k : ℕ) (r : Option ℕ) (new : List Filed) → suc k ≡ length bs → IsFilled (chunk_at bs k) → TakesLast (chunk_at bs k) r new → TakesLast (all_of bs) r (all_of (set bs k new))
lift_last bs k None new last filled took =
    let none : length (chunk_at bs k) ≡ 0 = ap (λ (xs : List Filed). length xs) took.0 in
    absurd (omega (arith, none, filled))
lift_last bs k (Some r) new last filled took = (took.0, lift_by bs k took.0 new last took.1, took.2)

-- what is left is in order
pub last_order : (items : List Filed) (r : Option ℕ) (new : List Filed) → AreInOrder items → TakesLast items r new → AreInOrder new
last_order items None new order took = subst AreInOrder (sym took.1) order
last_order items (Some r) new order took = order_front new (took.0 ∷ []) (subst AreInOrder took.1 order)
