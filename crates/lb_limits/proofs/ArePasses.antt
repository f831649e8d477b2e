-- What the passes of a limiter keep true, as they are given up and counted.
use Rattle.std.proofs.Common.{◌≡◌, Bool, true, false, ℕ, ◌+◌, ◌-◌, ◌<◌, ◌≤◌, List, [], ◌∷◌, length, get_or, take, drop, cond, inl, inr, refl, sym, ◌∙◌, ap, subst, arith}
use Rattle.std.specs.Cmp.{IsStrictWeakOrder, IsTotalOrder}
use Rattle.std.specs.List.{All, filter, insert, position, position_or_len}
use Rattle.std.specs.List.Sorted.{IsSorted, IsSortedBy}
use Rattle.std.specs.Option.{unwrap_or}
use Rattle.std.proofs.lemmas.Bool.{cases_Bool, cases_lt, lt-ltb, ltb-true}
use Rattle.std.proofs.lemmas.Cmp.{nat_cmp_total, on_total, then_total}
use Rattle.std.proofs.lemmas.List.Edits.{get_or-insert_above, get_or-insert_at, get_or-insert_below, length-insert}
use Rattle.std.proofs.lemmas.List.Elements.{All-append, All-cons, All-drop, All-take, filter_passes}
use Rattle.std.proofs.lemmas.List.Kept.{IsSortedBy-filter}
use Rattle.std.proofs.lemmas.List.Sorted.{ranks_by}
use Rattle.std.proofs.lemmas.List.Sums.{fails_before_first, length-filter, passes_at_first, prefix_len-le-length, sum_by-insert}
use Rattle.lb_wire.specs.declared.addr.Addr.{Addr}
use Rattle.lb_limits.specs.declared.pass.Pass.{Pass}
use Rattle.lb_limits.specs.Moments.{is_recent}
use Rattle.lb_limits.specs.Order.{cmp_pass, is_before, same_addr}
use Rattle.lb_limits.specs.Window.{ArePasses, Limits, in_window, live_of, matches, passed_at, put_pass, recent_passes, source_of}
use Rattle.lb_limits.proofs.Addresses.{addr_total}
use Rattle.lb_limits.proofs.Matches.{may_pass}
use Rattle.lb_limits.proofs.PutKey.{same_decides}
use Rattle.lb_limits.proofs.PutPass.{place_is}
use Rattle.lb_limits.proofs.Recent.{filter_all}

pass_total : IsTotalOrder cmp_pass
pass_total = then_total (on_total (λ (p : Pass). p.source) addr_total) (on_total (λ (p : Pass). p.moment) nat_cmp_total)

pass_order : IsStrictWeakOrder is_before
pass_order = ranks_by pass_total (λ (p : Pass). p)

-- with an element at the first place before which it stands, or at the end, a list stays in order
insert_sorted : {X : Type 0} (lt : X → X → Bool) → IsStrictWeakOrder lt → (xs : List X) (i : ℕ) (y : X) → i ≤ length xs → ((k : ℕ) (d : X) → k < i → lt y (get_or xs k d) ≡ false) → ((d : X) → i < length xs → lt y (get_or xs i d) ≡ true) → IsSortedBy lt xs → IsSortedBy lt (insert xs i y)
insert_sorted {X} lt order xs i y at below above sorted k d from within =
    let zs : List X = insert xs i y in
    let long : length zs ≡ length xs + 1 = length-insert xs i y at in
    elim (cases_lt (k + 1) i) [
      | inl before ↦
          ap (λ (x : X). lt x (get_or zs k d)) (get_or-insert_below xs i y d (k + 1) before at)
          ∙ ap (λ (x : X). lt (get_or xs (k + 1) d) x) (get_or-insert_below xs i y d k (omega arith) at)
          ∙ sorted k d from (omega arith)
      | inr after ↦ elim (cases_lt k i) [
        | inl last ↦
            let place : k + 1 ≡ i = omega arith in
            let there : get_or zs (k + 1) d ≡ y = ap (λ (n : ℕ). get_or zs n d) place ∙ get_or-insert_at xs i y d at in
            ap (λ (x : X). lt x (get_or zs k d)) there ∙ ap (λ (x : X). lt y x) (get_or-insert_below xs i y d k last at) ∙ below k d last
        | inr on ↦ elim (cases_lt i k) [
          | inl past ↦
              let place : k ≡ (k - 1) + 1 = omega arith in
              let low : get_or zs k d ≡ get_or xs (k - 1) d = ap (λ (n : ℕ). get_or zs n d) place ∙ get_or-insert_above xs i y d (k - 1) (omega arith) at in
              ap (λ (x : X). lt x (get_or zs k d)) (get_or-insert_above xs i y d k on at)
              ∙ ap (λ (x : X). lt (get_or xs k d) x) low
              ∙ ap (λ (n : ℕ). lt (get_or xs n d) (get_or xs (k - 1) d)) place
              ∙ sorted (k - 1) d (omega arith) (omega arith)
          | inr back ↦
              let place : k ≡ i = omega arith in
              let there : get_or zs k d ≡ y = ap (λ (n : ℕ). get_or zs n d) place ∙ get_or-insert_at xs i y d at in
              let higher : lt y (get_or xs k d) ≡ true = ap (λ (n : ℕ). lt y (get_or xs n d)) place ∙ above d (omega arith) in
              ap (λ (x : X). lt x (get_or zs k d)) (get_or-insert_above xs i y d k on at) ∙ ap (λ (x : X). lt (get_or xs k d) x) there ∙ order.one_way y (get_or xs k d) higher
        ]
      ]
    ]

put_sorted : (pass : Pass) (passes : List Pass) → IsSorted cmp_pass passes → IsSorted cmp_pass (put_pass pass passes)
put_sorted pass passes sorted =
    let at : ℕ = position_or_len (is_before pass) passes in
    let put : IsSorted cmp_pass (insert passes at pass) = insert_sorted is_before pass_order passes at pass (prefix_len-le-length _ passes) (λ k d lt. fails_before_first (is_before pass) passes k d lt) (λ d lt. passes_at_first (is_before pass) passes d lt) sorted in
    subst (λ (i : ℕ). IsSorted cmp_pass (insert passes i pass)) (sym (place_is (is_before pass) passes)) put

-- what is left of a list has no more that pass a test
left_fewer : {X : Type 0} (p q : X → Bool) (xs : List X) → length (filter p (filter q xs)) ≤ length (filter p xs)
left_fewer p q [] = omega arith
left_fewer p q (x ∷ xs) = elim (cases_Bool (q x)) [
  | inl stays ↦ elim (cases_Bool (p x)) [
    | inl own ↦ rw (stays, own) (omega (arith, left_fewer p q xs))
    | inr other ↦ rw (stays, other) (left_fewer p q xs)
  ]
  | inr goes ↦ elim (cases_Bool (p x)) [
    | inl own ↦ rw (goes, own) (omega (arith, left_fewer p q xs))
    | inr other ↦ rw (goes, other) (left_fewer p q xs)
  ]
]

-- how many passes are of a masked address, whether they count or not
abbrev is_of : Addr → Pass → Bool
is_of key pass = same_addr key pass.source

abbrev count_of : Addr → List Pass → ℕ
count_of key passes = length (filter (is_of key) passes)

window_within : (key : Addr) (now : ℕ) (passes : List Pass) → in_window key now passes ≤ count_of key passes
window_within key now passes = left_fewer (is_of key) (λ (p : Pass). is_recent now p.moment) passes

-- all that a limiter holds count, so no address has more passes than the rate
rated : (key : Addr) (l : Limits) → ArePasses l → count_of key l.passes ≤ l.qps
rated key l are =
    let all : recent_passes l.moment l.passes ≡ l.passes =
    filter_all (λ (p : Pass). is_recent l.moment p.moment) l.passes (λ k d lt. lt-ltb l.moment ((get_or l.passes k d).moment + 1000) (are.count k d lt)) in
    let window : count_of key (recent_passes l.moment l.passes) ≤ l.qps = are.rate key in
    omega (arith, ap (count_of key) all, window)

rated_recent : (key : Addr) (now : ℕ) (l : Limits) → ArePasses l → count_of key (recent_passes now l.passes) ≤ l.qps
rated_recent key now l are = omega (arith, left_fewer (is_of key) (λ (p : Pass). is_recent now p.moment) l.passes, rated key l are)

-- those of them that count at any moment
pub recent_are : (now : ℕ) (l : Limits) (reserved : List Addr) → ArePasses l → ArePasses (record l { moment = now; passes = recent_passes now l.passes; reserved = reserved })
recent_are now l reserved are = record {
  order = IsSortedBy-filter is_before pass_order (λ (p : Pass). is_recent now p.moment) l.passes are.order;
  count = λ k d lt. ltb-true now ((get_or (recent_passes now l.passes) k d).moment + 1000) (filter_passes (λ (p : Pass). is_recent now p.moment) l.passes k d lt);
  rate = λ key. omega (arith, window_within key now (recent_passes now l.passes), rated_recent key now l are);
}

all_put : (P : Pass → Type 0) (pass : Pass) (passes : List Pass) → P pass → All P passes → All P (put_pass pass passes)
all_put P pass passes here all =
    let at : ℕ = unwrap_or (position (is_before pass) passes) (length passes) in
    All-append P (take at passes) (pass ∷ drop at passes) (All-take P at passes all) (All-cons P pass (drop at passes) here (All-drop P at passes all))

-- one where the pass is of the address
abbrev counts_one : Addr → Pass → ℕ
counts_one key pass = cond (is_of key pass) 1 0

count_put : (key : Addr) (pass : Pass) (passes : List Pass) → count_of key (put_pass pass passes) ≡ count_of key passes + counts_one key pass
count_put key pass passes = omega (
  arith,
  length-filter (is_of key) (put_pass pass passes),
  length-filter (is_of key) passes,
  sum_by-insert (counts_one key) passes (unwrap_or (position (is_before pass) passes) (length passes)) pass,
)

-- one more is of an address that has fewer than the rate
rated_put : (key source : Addr) (now qps : ℕ) (passes : List Pass) → count_of source passes < qps → count_of key passes ≤ qps → count_of key (put_pass (record { source = source; moment = now }) passes) ≤ qps
rated_put key source now qps passes fewer few =
    let pass : Pass = record { source = source; moment = now } in
    elim (cases_Bool (same_addr key source)) [
      | inl own ↦
          let one : counts_one key pass ≡ 1 = rw own refl in
          let here : count_of key passes < qps = subst (λ (a : Addr). count_of a passes < qps) (sym ((same_decides key source).0 own)) fewer in
          omega (arith, count_put key pass passes, one, here)
      | inr other ↦
          let none : counts_one key pass ≡ 0 = rw other refl in
          omega (arith, count_put key pass passes, none, few)
    ]

-- and with one more of an address that is not over the rate
pub passed_are : (l : Limits) (addr : Addr) (now : ℕ) → matches l addr now ≡ false → ArePasses l → ArePasses (passed_at l addr now)
passed_are l addr now within are =
    let source : Addr = source_of l addr in
    let pass : Pass = record { source = source; moment = now } in
    let passes : List Pass = recent_passes now l.passes in
    let left : ArePasses (record l { moment = now; passes = passes; reserved = [] }) = recent_are now l [] are in
    let Counts : Pass → Type 0 = λ p. now < p.moment + 1000 in
    let fewer : count_of source passes < l.qps = (may_pass l.qps (in_window source now l.passes) (live_of source now l.passes) within).0 in record {
      order = put_sorted pass passes left.order;
      count = all_put Counts pass passes (omega arith) left.count;
      rate = λ key. omega (arith, window_within key now (put_pass pass passes), rated_put key source now l.qps passes fewer (rated_recent key now l are));
    }
