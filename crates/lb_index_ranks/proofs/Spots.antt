-- Where a pair stands among chunks.
use Rattle.std.proofs.Common.{◌≡◌, true, false, ℕ, zero, suc, ◌-◌, ◌<◌, ◌≤◌, List, [], ◌∷◌, ◌++◌, length, get_or, slice_get, None, ◌+◌, take, drop, Contains, refl, sym, ap, subst, ◌∙◌, arith}
use Rattle.std.specs.List.{All, AllByRecursion}
use Rattle.std.specs.List.Sorted.{IsPartitionedBy, IsPartitionPoint}
use Rattle.std.specs.declared.cmp.Ordering.TheVariants.{Less}
use Rattle.std.proofs.lemmas.List.Elements.{Contains-get_or, recursion_from_All}
use Rattle.std.proofs.lemmas.List.Concat.{flat_map-append}
use Rattle.lb_index_ranks.specs.declared.filed.Filed.{Filed}
use Rattle.lb_index_ranks.specs.Chunk.{all_of, back_of, behind, chunk_at, ends_before, front_of, IsFilled, IsPlace}
use Rattle.lb_index_ranks.specs.Filed.{filed_cmp, is_before, AreInOrder, IsCut}
use Rattle.lb_index_ranks.proofs.Chunks.{filled_front}
use Rattle.lb_index_ranks.proofs.Order.{each_append, each_back, each_front, each_has, each_weaker, lower, not_own, order_apart, order_back, order_front, parted, upper}

-- the pairs of a chunk are among all
pub order_chunk : (cs : List (List Filed)) (k : ℕ) → AreInOrder (all_of cs) → AreInOrder (chunk_at cs k)
order_chunk [] k order = order
order_chunk (c ∷ cs) zero order = order_front c (all_of cs) order
order_chunk (c ∷ cs) (suc k) order = order_chunk cs k (order_back c (all_of cs) order)

pub same_at : {X : Type 0} (xs : List X) (i : ℕ) (d e : X) → i < length xs → get_or xs i d ≡ get_or xs i e
same_at [] i d e lt = absurd (omega (arith, lt))
same_at (x ∷ xs) zero d e lt = refl
same_at (x ∷ xs) (suc i) d e lt = same_at xs i d e (omega (arith, lt))

-- the last pair of a chunk
abbrev last_of : Filed → List Filed → Filed
last_of at c = get_or c (length c - 1) at

last_has : (at : Filed) (c : List Filed) → IsFilled c → Contains c (last_of at c)
last_has at c filled = Contains-get_or c (length c - 1) at (omega (arith, filled))

-- where a chunk ends before a pair, all of it stands before the pair
pub ends_all : (at : Filed) (c : List Filed) → AreInOrder c → IsFilled c → ends_before at c ≡ true → AllByRecursion (λ (f : Filed). is_before at f ≡ true) c
ends_all at c order filled is =
    recursion_from_All (λ (f : Filed). is_before at f ≡ true) c
    (λ k d lt.
    let here : is_before at (get_or c k at) ≡ true = parted at c order k (length c - 1) at (omega (arith, lt)) (omega (arith, filled)) is in
    ap (λ (f : Filed). is_before at f) (same_at c k d at lt) ∙ here)

-- where it does not, no later pair does
ends_none : (at : Filed) (c rest : List Filed) → AreInOrder (c ++ rest) → IsFilled c → ends_before at c ≡ false → AllByRecursion (λ (f : Filed). is_before at f ≡ false) rest
ends_none at c rest order filled is =
    let after : AllByRecursion (λ (f : Filed). filed_cmp (last_of at c) f ≡ Less) rest = each_has (λ (x : Filed). AllByRecursion (λ (y : Filed). filed_cmp x y ≡ Less) rest) c (last_of at c) (order_apart c rest order) (last_has at c filled) in
    each_weaker (λ (f : Filed). filed_cmp (last_of at c) f ≡ Less) (λ (f : Filed). is_before at f ≡ false) rest (λ f less. lower at (last_of at c) f less is) after

abbrev pub Ends : Filed → List (List Filed) → ℕ → Type 0
Ends at cs k = IsPartitionPoint (λ c. ends_before at c ≡ true) (λ c. ends_before at c ≡ false) cs k

abbrev pub Parts : Filed → List Filed → ℕ → Type 0
Parts at items k = IsPartitionPoint (λ f. is_before at f ≡ true) (λ f. is_before at f ≡ false) items k

pub before_place : (at : Filed) (c : List Filed) (p : ℕ) → Parts at c p → p ≤ length c → AllByRecursion (λ (f : Filed). is_before at f ≡ true) (take p c)
before_place at [] zero parts le = tt
before_place at [] (suc p) parts le = tt
before_place at (x ∷ c) zero parts le = tt
before_place at (x ∷ c) (suc p) parts le =
    (parts.0 0 x (omega arith) (omega arith), before_place at c p (λ k d low lt. parts.0 (suc k) d (omega arith) (omega (arith, lt)), λ k d low lt. parts.1 (suc k) d (omega (arith, low)) (omega (arith, lt))) (omega (arith, le)))

pub after_place : (at : Filed) (c : List Filed) (p : ℕ) → Parts at c p → AllByRecursion (λ (f : Filed). is_before at f ≡ false) (drop p c)
after_place at [] zero parts = tt
after_place at [] (suc p) parts = tt
after_place at (x ∷ c) zero parts = recursion_from_All (λ (f : Filed). is_before at f ≡ false) (x ∷ c) (λ k d lt. parts.1 k d (omega arith) lt)
after_place at (x ∷ c) (suc p) parts =
    after_place at c p (λ k d low lt. parts.0 (suc k) d (omega arith) (omega (arith, lt)), λ k d low lt. parts.1 (suc k) d (omega (arith, low)) (omega (arith, lt)))

-- the chunks but the last, and the last
pub cut_at : (at : Filed) (others : List (List Filed)) (last : List Filed) (k p : ℕ) → AreInOrder (all_of (others ++ last ∷ [])) → All IsFilled others → Ends at others k → k ≤ length others → Parts at (chunk_at (others ++ last ∷ []) k) p → p ≤ length (chunk_at (others ++ last ∷ []) k) → IsCut at (front_of (others ++ last ∷ []) k p) (back_of (others ++ last ∷ []) k p)
cut_at at [] last zero p order filled ends le parts within =
    record { before = before_place at last p parts within; after = each_append (λ (f : Filed). is_before at f ≡ false) (drop p last) [] (after_place at last p parts) tt }
cut_at at [] last (suc k) p order filled ends le parts within = absurd (omega (arith, le))
cut_at at (c ∷ others) last zero p order filled ends le parts within =
    record {
      before = before_place at c p parts within;
      after = each_append (λ (f : Filed). is_before at f ≡ false) (drop p c) (all_of (others ++ last ∷ [])) (after_place at c p parts)
          (ends_none at c (all_of (others ++ last ∷ [])) order (filled 0 c (omega arith)) (ends.1 0 c (omega arith) (omega arith)));
    }
cut_at at (c ∷ others) last (suc k) p order filled ends le parts within =
    let cut = cut_at at others last k p (order_back c (all_of (others ++ last ∷ [])) order) (λ i d lt. filled (suc i) d (omega (arith, lt)))
    (λ i d low lt. ends.0 (suc i) d (omega arith) (omega (arith, lt)), λ i d low lt. ends.1 (suc i) d (omega (arith, low)) (omega (arith, lt))) (omega (arith, le)) parts within in
    record {
      before = each_append (λ (f : Filed). is_before at f ≡ true) c (front_of (others ++ last ∷ []) k p)
          (ends_all at c (order_front c (all_of (others ++ last ∷ [])) order) (filled 0 c (omega arith)) (ends.0 0 c (omega arith) (omega arith))) cut.before;
      after = cut.after;
    }

-- a place that is not the end of a chunk that does not end before the pair
short_by : (at : Filed) (c : List Filed) (p : ℕ) → IsFilled c → Parts at c p → ends_before at c ≡ false → length c ≤ p → ⊥
short_by at c p filled parts is le =
    let before : is_before at (last_of at c) ≡ true = parts.0 (length c - 1) at (omega arith) (omega (arith, le, filled)) in
    absurd (cc (before, is))

pub last_at : (at : Filed) (others : List (List Filed)) (last : List Filed) (k p : ℕ) → All IsFilled others → Ends at others k → k ≤ length others → Parts at (chunk_at (others ++ last ∷ []) k) p → length (chunk_at (others ++ last ∷ []) k) ≤ p → behind (others ++ last ∷ []) k ≡ []
last_at at [] last zero p filled ends le parts over = refl
last_at at [] last (suc k) p filled ends le parts over = absurd (omega (arith, le))
last_at at (c ∷ others) last zero p filled ends le parts over = absurd (short_by at c p (filled 0 c (omega arith)) parts (ends.1 0 c (omega arith) (omega arith)) over)
last_at at (c ∷ others) last (suc k) p filled ends le parts over =
    last_at at others last k p (λ i d lt. filled (suc i) d (omega (arith, lt)))
    (λ i d low lt. ends.0 (suc i) d (omega arith) (omega (arith, lt)), λ i d low lt. ends.1 (suc i) d (omega (arith, low)) (omega (arith, lt))) (omega (arith, le)) parts over

-- all chunks are among the pairs
chunk_has : (cs : List (List Filed)) (j : ℕ) (d : List Filed) (f : Filed) (P : Filed → Type 0) → j < length cs → Contains (get_or cs j d) f → AllByRecursion P (all_of cs) → P f
chunk_has [] j d f P lt has all = absurd (omega (arith, lt))
chunk_has (c ∷ cs) zero d f P lt has all = each_has P c f (each_front P c (all_of cs) all) has
chunk_has (c ∷ cs) (suc j) d f P lt has all = chunk_has cs j d f P (omega (arith, lt)) has (each_back P c (all_of cs) all)

-- a chunk before one that ends before a pair ends before it too
pub ends_parted : (at : Filed) (cs : List (List Filed)) → AreInOrder (all_of cs) → All IsFilled cs → IsPartitionedBy (ends_before at) cs
ends_parted at [] order filled i j d le lt is = absurd (omega (arith, lt))
ends_parted at (c ∷ cs) order filled zero zero d le lt is = is
ends_parted at (c ∷ cs) order filled zero (suc j) d le lt is =
    let other : List Filed = get_or cs j d in
    let after : AllByRecursion (λ (f : Filed). filed_cmp (last_of at c) f ≡ Less) (all_of cs) = each_has (λ (x : Filed). AllByRecursion (λ (y : Filed). filed_cmp x y ≡ Less) (all_of cs)) c (last_of at c) (order_apart c (all_of cs) order) (last_has at c (filled 0 c (omega arith))) in
    let less : filed_cmp (last_of at c) (last_of at other) ≡ Less = chunk_has cs j d (last_of at other) (λ (f : Filed). filed_cmp (last_of at c) f ≡ Less) (omega (arith, lt)) (last_has at other (filled (suc j) d lt)) after in
    upper at (last_of at c) (last_of at other) less is
ends_parted at (c ∷ cs) order filled (suc i) zero d le lt is = absurd (omega (arith, le))
ends_parted at (c ∷ cs) order filled (suc i) (suc j) d le lt is = ends_parted at cs (order_back c (all_of cs) order) (λ k e within. filled (suc k) e (omega (arith, within))) i j d (omega (arith, le)) (omega (arith, lt)) is

got_none : (xs : List Filed) (k : ℕ) → k < length xs → slice_get xs k ≡ None → ⊥
got_none [] k lt is = absurd (omega (arith, lt))
got_none (x ∷ xs) zero lt is = absurd (cc)
got_none (x ∷ xs) (suc k) lt is = got_none xs k (omega (arith, lt)) is

-- an empty chunk does not end before a pair
pub none_ends : (at : Filed) (items : List Filed) → None ≡ slice_get items (length items - 1) → false ≡ ends_before at items
none_ends at [] is = sym (not_own at)
none_ends at (x ∷ xs) is = absurd (got_none (x ∷ xs) (length (x ∷ xs) - 1) (omega arith) (sym is))

-- the same of chunks that are cut in the others and the last
order_others : (cs others : List (List Filed)) (last : List Filed) → cs ≡ others ++ last ∷ [] → AreInOrder (all_of cs) → AreInOrder (all_of others)
order_others cs others last is order =
    order_front (all_of others) (all_of (last ∷ [])) (subst AreInOrder (ap all_of is ∙ flat_map-append (λ (c : List Filed). c) others (last ∷ [])) order)

filled_others : (cs others : List (List Filed)) (last : List Filed) → cs ≡ others ++ last ∷ [] → All IsFilled cs → All IsFilled others
filled_others cs others last is filled = filled_front others (last ∷ []) (subst (λ (xs : List (List Filed)). All IsFilled xs) is filled)

pub others_parted : (at : Filed) (cs others : List (List Filed)) (last : List Filed) → cs ≡ others ++ last ∷ [] → AreInOrder (all_of cs) → All IsFilled cs → IsPartitionedBy (ends_before at) others
others_parted at cs others last is order filled = ends_parted at others (order_others cs others last is order) (filled_others cs others last is filled)

pub spot_cut : (at : Filed) (cs others : List (List Filed)) (last : List Filed) (k p : ℕ) → cs ≡ others ++ last ∷ [] → AreInOrder (all_of cs) → All IsFilled cs → Ends at others k → k ≤ length others → Parts at (chunk_at cs k) p → p ≤ length (chunk_at cs k) → IsCut at (front_of cs k p) (back_of cs k p)
spot_cut at cs others last k p is order filled ends le parts within =
    subst (λ (xs : List (List Filed)). IsCut at (front_of xs k p) (back_of xs k p)) (sym is)
    (cut_at at others last k p (subst (λ (xs : List (List Filed)). AreInOrder (all_of xs)) is order) (filled_others cs others last is filled) ends le
    (subst (λ (xs : List (List Filed)). Parts at (chunk_at xs k) p) is parts) (subst (λ (xs : List (List Filed)). p ≤ length (chunk_at xs k)) is within))

pub spot_place : (at : Filed) (cs others : List (List Filed)) (last : List Filed) (k p : ℕ) → cs ≡ others ++ last ∷ [] → All IsFilled cs → Ends at others k → k ≤ length others → length others + 1 ≡ length cs → Parts at (chunk_at cs k) p → p ≤ length (chunk_at cs k) → IsPlace cs k p
spot_place at cs others last k p is filled ends le size parts within =
    record {
      upto = omega (arith, le, size);
      there = λ some. omega (arith, le, size);
      within = within;
      last = λ over.
          subst (λ (xs : List (List Filed)). behind xs k ≡ []) (sym is)
          (last_at at others last k p (filled_others cs others last is filled) ends le
          (subst (λ (xs : List (List Filed)). Parts at (chunk_at xs k) p) is parts) (subst (λ (xs : List (List Filed)). length (chunk_at xs k) ≤ p) is over));
    }
