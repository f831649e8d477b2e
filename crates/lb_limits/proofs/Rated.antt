-- Buckets with no more passes that count than the rate.
use Rattle.std.proofs.Common.{◌≡◌, Bool, true, ℕ, ◌+◌, ◌*◌, ◌<◌, ◌≤◌, List, [], ◌∷◌, ◌++◌, length, get_or, set, take, drop, cond, inl, inr, ◌∙◌, ap, arith, length-append}
use Rattle.std.specs.List.{insert, All}
use Rattle.std.proofs.lemmas.Bool.{cases_Bool}
use Rattle.std.proofs.lemmas.List.{length-map}
use Rattle.std.proofs.lemmas.List.Elements.{All-append, All-cons, All-head, All-tail, All-take, All-drop, All-set, All-get_or, filter-append}
use Rattle.std.proofs.lemmas.List.Sums.{sum_by-cons}
use Rattle.lb_wire.specs.declared.addr.Addr.{Addr}
use Rattle.lb_limits.specs.declared.bucket.Bucket.{Bucket}
use Rattle.lb_limits.specs.Moments.{is_recent, recent_of}
use Rattle.lb_limits.specs.Buckets.{Ascends, IsPlace, IsRated, begins, pass_of, bucket_passes, held_at, is_live, live_count, window_count}
use Rattle.lb_limits.proofs.Recent.{filter_fewer, recent_twice}
use Rattle.lb_limits.proofs.Keeps.{no_length}
use Rattle.lb_limits.proofs.Places.{window_there}

abbrev one_if : Bool → ℕ
one_if b = cond b 1 0

-- no more moments count later
pub fewer_later : (m now : ℕ) (ms : List ℕ) → m ≤ now → length (recent_of now ms) ≤ length (recent_of m ms)
fewer_later m now ms le = omega (arith, ap (λ (xs : List ℕ). length xs) (recent_twice m now ms le), filter_fewer (is_recent now) (recent_of m ms))

pub rated_later : (qps m now : ℕ) (bs : List Bucket) → m ≤ now → All (IsRated qps m) bs → All (IsRated qps now) bs
rated_later qps m now bs le all = λ k d lt. record {
  rate = omega (arith, fewer_later m now (get_or bs k d).moments.items le, (all k d lt).rate);
  places = (all k d lt).places;
}

pub opened_rated : (qps m place : ℕ) (bs : List Bucket) (b : Bucket) → b.moments.items ≡ [] → b.moments.capacity ≤ qps + 1 → All (IsRated qps m) bs → All (IsRated qps m) (insert bs place b)
opened_rated qps m place bs b empty few all =
    let is : IsRated qps m b = record { rate = omega (arith, ap (λ (ms : List ℕ). length (recent_of m ms)) empty); places = few } in
    All-append (IsRated qps m) (take place bs) (b ∷ drop place bs) (All-take (IsRated qps m) place bs all) (All-cons (IsRated qps m) b (drop place bs) is (All-drop (IsRated qps m) place bs all))

-- a bucket with the same moments that count, and other places
pub kept_rated : (qps m : ℕ) (a b : Bucket) → IsRated qps m a → recent_of m b.moments.items ≡ recent_of m a.moments.items → b.moments.capacity ≤ qps + 1 → IsRated qps m b
kept_rated qps m a b is same few = record { rate = omega (arith, ap (λ (ms : List ℕ). length ms) same, is.rate); places = few }

-- one pass more where there are fewer than the rate
pub added_rated : (qps now : ℕ) (key : Addr) (place : ℕ) (bs : List Bucket) (b d : Bucket) → Ascends bs → IsPlace key place bs → place < length bs → begins key (drop place bs) ≡ true → b.moments.items ≡ (get_or bs place d).moments.items ++ now ∷ [] → b.moments.capacity ≡ (get_or bs place d).moments.capacity → window_count key now bs < qps → All (IsRated qps now) bs → All (IsRated qps now) (set bs place b)
added_rated qps now key place bs b d order at lt found items places fewer all =
    let old : Bucket = get_or bs place d in
    let was : IsRated qps now old = All-get_or (IsRated qps now) bs place d lt all in
    let size : length (recent_of now b.moments.items) ≡ length (recent_of now old.moments.items) + length (recent_of now (now ∷ [])) =
    ap (λ (ms : List ℕ). length (recent_of now ms)) items ∙ ap (λ (ms : List ℕ). length ms) (filter-append (is_recent now) old.moments.items (now ∷ [])) ∙ length-append (recent_of now old.moments.items) (recent_of now (now ∷ [])) in
    let one : length (recent_of now (now ∷ [])) ≤ 1 = filter_fewer (is_recent now) (now ∷ []) in
    let is : IsRated qps now b = record {
      rate = omega (arith, size, one, window_there key now bs place d order at lt found, fewer);
      places = omega (arith, places, was.places);
    } in
    All-set (IsRated qps now) bs place b is all

-- the passes that count are no more than the rate for each live bucket
pub held_few : (qps now : ℕ) (bs : List Bucket) → All (IsRated qps now) bs → length (held_at now bs) ≤ qps * live_count now bs
held_few qps now [] all = omega arith
held_few qps now (b ∷ bs) all =
    let rest : length (held_at now bs) ≤ qps * live_count now bs = held_few qps now bs (All-tail (IsRated qps now) b bs all) in
    let is : IsRated qps now b = All-head (IsRated qps now) b bs all in
    let here : length (bucket_passes now b) ≡ length (recent_of now b.moments.items) = length-map (recent_of now b.moments.items) (pass_of b.source) in
    let both : length (held_at now (b ∷ bs)) ≡ length (bucket_passes now b) + length (held_at now bs) = length-append (bucket_passes now b) (held_at now bs) in
    let count : live_count now (b ∷ bs) ≡ cond (is_live now b) 1 0 + live_count now bs = sum_by-cons (λ c. cond (is_live now c) 1 0) b bs in
    elim (cases_Bool (is_live now b)) [
      | inl live ↦
          let one : live_count now (b ∷ bs) ≡ 1 + live_count now bs = omega (arith, count, ap one_if live) in
          rw one (omega (arith, rest, here, both, is.rate))
      | inr dead ↦
          let none : live_count now (b ∷ bs) ≡ live_count now bs = omega (arith, count, ap one_if dead) in
          let nil : recent_of now b.moments.items ≡ [] = no_length (recent_of now b.moments.items) dead in
          rw none (omega (arith, rest, here, both, ap (λ (ms : List ℕ). length ms) nil))
    ]
