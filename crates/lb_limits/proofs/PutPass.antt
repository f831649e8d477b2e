-- A pass at the end of its bucket stands at its place in the order of all passes.
use Rattle.std.proofs.Common.{◌≡◌, Bool, true, false, not, ℕ, ◌+◌, ◌≤◌, List, [], ◌∷◌, ◌++◌, length, get_or, map, drop, inl, inr, refl, sym, ◌∙◌, ap, arith, cond, ltb, eqb, length-append, append_assoc}
use Rattle.std.specs.List.{insert, position, position_or_len, All, AllPairs}
use Rattle.std.specs.List.Sorted.{IsSorted}
use Rattle.std.specs.Option.{unwrap_or}
use Rattle.std.specs.Ordering.{is_lt, nat_cmp, ordering_then}
use Rattle.std.specs.declared.cmp.Ordering.{Ordering}
use Rattle.std.proofs.lemmas.Bool.{cases_lt}
use Rattle.std.proofs.lemmas.Bool.Decides.{nat_tests}
use Rattle.std.proofs.lemmas.List.{map-append, take_at, drop_at, get_or-append-add, get_or_append_left}
use Rattle.std.proofs.lemmas.List.Concat.{flat_map-append}
use Rattle.std.proofs.lemmas.List.Elements.{All-nil, All-append, All-head, All-tail, All-map, All-filter, filter-append}
use Rattle.std.proofs.lemmas.List.Kept.{AllPairs-filter}
use Rattle.std.proofs.lemmas.List.Sums.{position_or_len_is, prefix_len-le-length}
use Rattle.lb_wire.specs.declared.addr.Addr.{Addr}
use Rattle.lb_limits.specs.declared.pass.Pass.{Pass}
use Rattle.lb_limits.specs.declared.bucket.Bucket.{Bucket}
use Rattle.lb_limits.specs.Order.{cmp_addr, cmp_pass, is_before}
use Rattle.lb_limits.specs.Window.{put_pass}
use Rattle.lb_limits.specs.Moments.{is_recent, recent_of}
use Rattle.lb_limits.specs.Buckets.{Ascends, IsBucket, IsHeld, is_below, pass_of, bucket_passes, held_at}
use Rattle.lb_limits.proofs.Addresses.{less_exact, more_exact, equal_exact}
use Rattle.lb_limits.proofs.PutKey.{same_decides}
use Rattle.lb_limits.proofs.Pairs.{pairs_head, pairs_tail, pairs_append, pairs_map, pairs_rise}

-- the place of a pass is the first of those that it stands before, or the end
pub place_is : {X : Type 0} (p : X → Bool) (xs : List X) → unwrap_or (position p xs) (length xs) ≡ position_or_len p xs
place_is p xs = elim (cases_lt (position_or_len p xs) (length xs)) [
  | inl there ↦
      let test : ltb (position_or_len p xs) (length xs) ≡ true = grind (arith, nat_tests) in
      rw test
  | inr end ↦
      let test : ltb (position_or_len p xs) (length xs) ≡ false = grind (arith, nat_tests) in
      let all : length xs ≡ position_or_len p xs = omega (arith, prefix_len-le-length (λ x. not (p x)) xs) in
      rw test all
]

put_between : (p : Pass) (front back : List Pass) → All (λ q. is_before p q ≡ false) front → All (λ q. is_before p q ≡ true) back → put_pass p (front ++ back) ≡ front ++ p ∷ back
put_between p front back below above =
    let size : length (front ++ back) ≡ length front + length back = length-append front back in
    let place : position_or_len (is_before p) (front ++ back) ≡ length front =
    position_or_len_is (is_before p) (front ++ back) (length front) p (omega arith)
    (λ k lt. ap (is_before p) (get_or_append_left front back p k lt) ∙ below k p lt)
    (λ lt. ap (λ (n : ℕ). is_before p (get_or (front ++ back) n p)) (omega arith) ∙ ap (is_before p) (get_or-append-add front back 0 p) ∙ above 0 p (omega arith)) in
    ap (λ (n : ℕ). insert (front ++ back) n p) (place_is (is_before p) (front ++ back) ∙ place)
    ∙ ap (λ (ps : List Pass). ps ++ p ∷ drop (length front) (front ++ back)) (take_at front back (length front) refl)
    ∙ ap (λ (ps : List Pass). front ++ p ∷ ps) (drop_at front back (length front) refl)

-- what holds of each pass that a bucket may hold
all_held : (P : Pass → Type 0) (now : ℕ) (bs : List Bucket) → All (λ b. (m : ℕ) → P (pass_of b.source m)) bs → All P (held_at now bs)
all_held P now [] all = All-nil P
all_held P now (b ∷ bs) all =
    All-append P (bucket_passes now b) (held_at now bs)
    (All-map P (pass_of b.source) (recent_of now b.moments.items) (λ k d lt. All-head (λ (c : Bucket). (m : ℕ) → P (pass_of c.source m)) b bs all (get_or (recent_of now b.moments.items) k d)))
    (all_held P now bs (All-tail (λ (c : Bucket). (m : ℕ) → P (pass_of c.source m)) b bs all))

more_not_before : (a b : Addr) (m n : ℕ) → is_lt (cmp_addr a b) ≡ true → is_before (pass_of b m) (pass_of a n) ≡ false
more_not_before a b m n less = ap (λ (o : Ordering). is_lt (ordering_then o (nat_cmp m n))) (more_exact a b less)

less_before : (a b : Addr) (m n : ℕ) → is_lt (cmp_addr a b) ≡ true → is_before (pass_of a m) (pass_of b n) ≡ true
less_before a b m n less = ap (λ (o : Ordering). is_lt (ordering_then o (nat_cmp m n))) (less_exact a b less)

no_later : (m n : ℕ) → n ≤ m → is_lt (nat_cmp m n) ≡ false
no_later m n le = elim (cases_lt n m) [
  | inl lt ↦
      let over : ltb m n ≡ false = grind (arith, nat_tests) in
      let differs : eqb m n ≡ false = grind (arith, nat_tests) in
      rw (over, differs) refl
  | inr ge ↦
      let same : m ≡ n = omega arith in
      let over : ltb m n ≡ false = grind (arith, nat_tests) in
      let equal : eqb m n ≡ true = grind (arith, nat_tests) in
      rw (over, equal) refl
]

own_not_before : (a : Addr) (m n : ℕ) → n ≤ m → is_before (pass_of a m) (pass_of a n) ≡ false
own_not_before a m n le =
    ap (λ (o : Ordering). is_lt (ordering_then o (nat_cmp m n))) (equal_exact a a ((same_decides a a).1 refl)) ∙ no_later m n le

-- the latest moment at the end of its bucket
pub put_held : (now : ℕ) (front : List Bucket) (b c : Bucket) (back : List Bucket) → All (λ m. m ≤ now) b.moments.items → c.source ≡ b.source → c.moments.items ≡ b.moments.items ++ now ∷ [] → is_recent now now ≡ true → All (λ a. is_lt (cmp_addr a.source b.source) ≡ true) front → All (λ a. is_lt (cmp_addr b.source a.source) ≡ true) back → held_at now (front ++ c ∷ back) ≡ put_pass (pass_of b.source now) (held_at now (front ++ b ∷ back))
put_held now front b c back past source items here below above =
    let p : Pass = pass_of b.source now in
    let own : bucket_passes now c ≡ bucket_passes now b ++ p ∷ [] =
    ap (λ (s : Addr). map (pass_of s) (recent_of now c.moments.items)) source
    ∙ ap (λ (ms : List ℕ). map (pass_of b.source) (recent_of now ms)) items
    ∙ ap (map (pass_of b.source)) (filter-append (is_recent now) b.moments.items (now ∷ []))
    ∙ map-append (pass_of b.source) (recent_of now b.moments.items) (recent_of now (now ∷ []))
    ∙ ap (λ (t : Bool). bucket_passes now b ++ map (pass_of b.source) (cond t (now ∷ []) [])) here in
    let before : held_at now (front ++ b ∷ back) ≡ (held_at now front ++ bucket_passes now b) ++ held_at now back =
    flat_map-append (bucket_passes now) front (b ∷ back) ∙ sym (append_assoc (held_at now front) (bucket_passes now b) (held_at now back)) in
    let after : held_at now (front ++ c ∷ back) ≡ (held_at now front ++ bucket_passes now b) ++ p ∷ held_at now back =
    flat_map-append (bucket_passes now) front (c ∷ back)
    ∙ ap (λ (ps : List Pass). held_at now front ++ (ps ++ held_at now back)) own
    ∙ ap (λ (ps : List Pass). held_at now front ++ ps) (append_assoc (bucket_passes now b) (p ∷ []) (held_at now back))
    ∙ sym (append_assoc (held_at now front) (bucket_passes now b) (p ∷ held_at now back)) in
    let low : All (λ q. is_before p q ≡ false) (held_at now front ++ bucket_passes now b) =
    All-append (λ q. is_before p q ≡ false) (held_at now front) (bucket_passes now b)
    (all_held (λ q. is_before p q ≡ false) now front (λ k d lt m. more_not_before (get_or front k d).source b.source now m (below k d lt)))
    (All-map (λ q. is_before p q ≡ false) (pass_of b.source) (recent_of now b.moments.items)
    (λ k d lt. own_not_before b.source now (get_or (recent_of now b.moments.items) k d) (All-filter (is_recent now) (λ m. m ≤ now) b.moments.items past k d lt))) in
    let high : All (λ q. is_before p q ≡ true) (held_at now back) = all_held (λ q. is_before p q ≡ true) now back (λ k d lt m. less_before b.source (get_or back k d).source now m (above k d lt)) in
    after ∙ sym (put_between p (held_at now front ++ bucket_passes now b) (held_at now back) low high) ∙ ap (put_pass p) (sym before)

-- the passes of buckets in order are in order
ordered : (m now : ℕ) (bs : List Bucket) → Ascends bs → All (IsBucket m) bs → AllPairs (λ p q. is_before q p ≡ false) (held_at now bs)
ordered m now [] ascends each = λ i j d lt within. absurd (omega arith)
ordered m now (b ∷ bs) ascends each =
    let is : IsBucket m b = All-head (IsBucket m) b bs each in
    let recent : List ℕ = recent_of now b.moments.items in
    pairs_append (λ p q. is_before q p ≡ false) (bucket_passes now b) (held_at now bs)
    (pairs_map (λ x y. x ≤ y) (λ p q. is_before q p ≡ false) (pass_of b.source) (λ x y le. own_not_before b.source y x le) recent
    (AllPairs-filter (λ x y. x ≤ y) (is_recent now) b.moments.items (pairs_rise b.moments.items is.order)))
    (ordered m now bs (pairs_tail (λ a c. is_below c.source a ≡ true) b bs ascends) (All-tail (IsBucket m) b bs each))
    (All-map (λ p. All (λ q. is_before q p ≡ false) (held_at now bs)) (pass_of b.source) recent
    (λ k d lt. all_held (λ q. is_before q (pass_of b.source (get_or recent k d)) ≡ false) now bs
    (λ i e within n. more_not_before b.source (get_or bs i e).source n (get_or recent k d) (pairs_head (λ a c. is_below c.source a ≡ true) b bs ascends i e within))))

pub held_sorted : (m now : ℕ) (bs : List Bucket) → IsHeld m bs → IsSorted cmp_pass (held_at now bs)
held_sorted m now bs held = λ k d low lt. ordered m now bs held.order held.each k (k + 1) d (omega arith) lt
