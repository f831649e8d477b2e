-- What the passes that buckets hold keep true, as they are listed.
use Rattle.std.proofs.Common.{◌≡◌, Bool, true, false, ℕ, ◌+◌, ◌<◌, ◌≤◌, List, [], ◌∷◌, length, get_or, map, inl, inr, refl, sym, ◌∙◌, ap, subst, arith}
use Rattle.std.specs.List.{All}
use Rattle.std.proofs.lemmas.Bool.{cases_Bool, ltb-true}
use Rattle.std.proofs.lemmas.List.Elements.{All-append, All-cons, All-head, All-nil, All-tail, filter_passes}
use Rattle.std.proofs.lemmas.List.Sums.{sum_by-cons}
use Rattle.lb_wire.specs.declared.addr.Addr.{Addr}
use Rattle.lb_limits.specs.declared.bucket.Bucket.{Bucket}
use Rattle.lb_limits.specs.declared.pass.Pass.{Pass}
use Rattle.lb_limits.specs.Moments.{is_recent, recent_of}
use Rattle.lb_limits.specs.Order.{same_addr}
use Rattle.lb_limits.specs.Buckets.{Ascends, IsHeld, IsRated, bucket_passes, held_at, is_below, pass_of, window_count, window_in}
use Rattle.lb_limits.specs.Window.{ArePasses, in_window}
use Rattle.lb_limits.proofs.Addresses.{less_differs}
use Rattle.lb_limits.proofs.Held.{window_held}
use Rattle.lb_limits.proofs.Limiters.{view_of}
use Rattle.lb_limits.proofs.Pairs.{pairs_head, pairs_tail}
use Rattle.lb_limits.proofs.Places.{window_none}
use Rattle.lb_limits.proofs.PutKey.{same_decides}
use Rattle.lb_limits.proofs.PutPass.{held_sorted}

-- the passes of a bucket that count are recent
abbrev Counts : ℕ → Pass → Type 0
Counts now pass = now < pass.moment + 1000

counted : (now : ℕ) (source : Addr) (ms : List ℕ) → All (λ m. is_recent now m ≡ true) ms → All (Counts now) (map (pass_of source) ms)
counted now source [] all = All-nil (Counts now)
counted now source (m ∷ ms) all =
    All-cons (Counts now) (pass_of source m) (map (pass_of source) ms) (ltb-true now (m + 1000) (All-head (λ n. is_recent now n ≡ true) m ms all)) (counted now source ms (All-tail (λ n. is_recent now n ≡ true) m ms all))

held_counts : (now : ℕ) (bs : List Bucket) → All (Counts now) (held_at now bs)
held_counts now [] = All-nil (Counts now)
held_counts now (b ∷ bs) =
    All-append (Counts now) (bucket_passes now b) (held_at now bs) (counted now b.source (recent_of now b.moments.items) (filter_passes (is_recent now) b.moments.items)) (held_counts now bs)

-- no window is over the rate: an address has one bucket
rated_window : (qps now : ℕ) (key : Addr) (bs : List Bucket) → Ascends bs → All (IsRated qps now) bs → window_count key now bs ≤ qps
rated_window qps now key [] ascends all = omega arith
rated_window qps now key (b ∷ bs) ascends all =
    let count : window_count key now (b ∷ bs) ≡ window_in key now b + window_count key now bs = sum_by-cons (window_in key now) b bs in
    elim (cases_Bool (same_addr key b.source)) [
      | inl own ↦
          let others : All (λ c. is_below c.source b ≡ true) bs = pairs_head (λ a c. is_below c.source a ≡ true) b bs ascends in
          let none : window_count key now bs ≡ 0 =
          window_none key now bs (λ k d lt. subst (λ (a : Addr). same_addr a (get_or bs k d).source ≡ false) (sym ((same_decides key b.source).0 own)) (less_differs b.source (get_or bs k d).source (others k d lt))) in
          let here : window_in key now b ≡ length (recent_of now b.moments.items) = rw own refl in
          omega (arith, count, none, here, (All-head (IsRated qps now) b bs all).rate)
      | inr other ↦
          let here : window_in key now b ≡ 0 = rw other refl in
          omega (arith, count, here, rated_window qps now key bs (pairs_tail (λ a c. is_below c.source a ≡ true) b bs ascends) (All-tail (IsRated qps now) b bs all))
    ]

-- so it is of what a limiter lists
pub are_passes : (qps v4 v6 moment : ℕ) (bs : List Bucket) (reserved : List Addr) → IsHeld moment bs → All (IsRated qps moment) bs → ArePasses (view_of qps v4 v6 moment (held_at moment bs) reserved)
are_passes qps v4 v6 moment bs reserved held rated = record {
  order = held_sorted moment moment bs held;
  count = held_counts moment bs;
  rate = λ key. omega (arith, window_held key moment moment bs (omega arith), rated_window qps moment key bs held.order rated);
}
