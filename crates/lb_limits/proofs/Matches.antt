-- What a limiter tests, by what its buckets hold.
use Rattle.std.proofs.Common.{◌≡◌, Bool, true, false, ◌||◌, ◌&&◌, ◌==◌, ℕ, ◌<◌, ◌≤◌, List, inl, inr, refl, sym, ◌∙◌, ap, arith, nat_le, subst}
use Rattle.std.proofs.lemmas.Bool.{cases_eq}
use Rattle.std.proofs.lemmas.Bool.Decides.{nat_tests}
use Rattle.lb_wire.specs.declared.addr.Addr.{Addr}
use Rattle.lb_limits.specs.declared.bucket.Bucket.{Bucket}
use Rattle.lb_limits.specs.Window.{Limits, source_of, matches, in_window, live_of}
use Rattle.lb_limits.specs.Buckets.{IsHeld, held_at, window_count}
use Rattle.lb_limits.specs.Limiter.{IsLatest}
use Rattle.lb_limits.specs.Ticks.{live_at}
use Rattle.lb_limits.specs.declared.ticks.Ticks.{Ticks}
use Rattle.lb_limits.proofs.Keeps.{left_or, right_or}
use Rattle.lb_limits.proofs.Held.{window_held, live_held}

-- where an address has passes that count, nobody asks how many others have
crowd : (window live latest : ℕ) → (window ≡ 0 → live ≡ latest) → (window == 0 && nat_le 4096 live) ≡ (window == 0 && nat_le 4096 latest)
crowd window live latest same = elim (cases_eq window 0) [
  | inl none ↦ ap (λ (n : ℕ). window == 0 && nat_le 4096 n) (same none)
  | inr some ↦
      let test : (window == 0) ≡ false = grind (arith, nat_tests) in
      rw test refl
]

pub tested : (l : Limits) (bs : List Bucket) (ticks : Ticks) (addr : Addr) (now : ℕ) → l.passes ≡ held_at l.moment bs → l.moment ≤ now → IsHeld l.moment bs → IsLatest l.moment ticks bs → matches l addr now ≡ (nat_le l.qps (window_count (source_of l addr) now bs) || (window_count (source_of l addr) now bs == 0 && nat_le 4096 (live_at now ticks.list.items)))
tested l bs ticks addr now passes le held is =
    let key : Addr = source_of l addr in
    let window : in_window key now l.passes ≡ window_count key now bs = ap (in_window key now) passes ∙ window_held key l.moment now bs le in
    let live : window_count key now bs ≡ 0 → live_of key now l.passes ≡ live_at now ticks.list.items =
    λ none. ap (live_of key now) passes ∙ live_held key l.moment now bs le held.order none ∙ sym (is.live now le) in
    ap (λ (n : ℕ). nat_le l.qps n || (n == 0 && nat_le 4096 (live_of key now l.passes))) window
    ∙ ap (λ (t : Bool). nat_le l.qps (window_count key now bs) || t) (crowd (window_count key now bs) (live_of key now l.passes) (live_at now ticks.list.items) live)

pub tested_by : (l view : Limits) (bs : List Bucket) (ticks : Ticks) (addr key : Addr) (now count : ℕ) → view ≡ l → view.passes ≡ held_at view.moment bs → l.moment ≤ now → IsHeld view.moment bs → IsLatest view.moment ticks bs → key ≡ source_of view addr → count ≡ window_count key now bs → matches l addr now ≡ (nat_le view.qps count || (count == 0 && nat_le 4096 (live_at now ticks.list.items)))
tested_by l view bs ticks addr key now count same passes le held is masked counted =
    let moment : view.moment ≤ now = subst (λ (v : Limits). v.moment ≤ now) (sym same) le in
    let window : count ≡ window_count (source_of view addr) now bs = counted ∙ ap (λ (a : Addr). window_count a now bs) masked in
    ap (λ (v : Limits). matches v addr now) (sym same)
    ∙ tested view bs ticks addr now passes moment held is
    ∙ ap (λ (n : ℕ). nat_le view.qps n || (n == 0 && nat_le 4096 (live_at now ticks.list.items))) (sym window)

fewer : (qps count live : ℕ) → (nat_le qps count || (count == 0 && nat_le 4096 live)) ≡ false → count < qps
fewer qps count live passes =
    let low : nat_le qps count ≡ false = left_or (nat_le qps count) (count == 0 && nat_le 4096 live) passes in
    grind (arith, nat_tests)

others : (qps count live : ℕ) → count ≡ 0 → (nat_le qps count || (count == 0 && nat_le 4096 live)) ≡ false → live < 4096
others qps count live none passes =
    let right : (count == 0 && nat_le 4096 live) ≡ false = right_or (nat_le qps count) (count == 0 && nat_le 4096 live) passes in
    let zero : (count == 0) ≡ true = grind (arith, nat_tests) in
    let crowd_none : nat_le 4096 live ≡ false = ap (λ (t : Bool). t && nat_le 4096 live) (sym zero) ∙ right in
    grind (arith, nat_tests)

-- so an address that may pass has fewer passes than the rate, and where it has none, fewer others are live than may be
pub may_pass : (qps count live : ℕ) → (nat_le qps count || (count == 0 && nat_le 4096 live)) ≡ false → (count < qps) × (count ≡ 0 → live < 4096)
may_pass qps count live passes = (fewer qps count live passes, λ none. others qps count live none passes)

pub allowed : (l view : Limits) (bs : List Bucket) (ticks : Ticks) (addr key : Addr) (now : ℕ) → view ≡ l → view.passes ≡ held_at view.moment bs → l.moment ≤ now → IsHeld view.moment bs → IsLatest view.moment ticks bs → key ≡ source_of view addr → matches l addr now ≡ false → (window_count key now bs < view.qps) × (window_count key now bs ≡ 0 → live_at now ticks.list.items < 4096)
allowed l view bs ticks addr key now same passes le held is masked within =
    may_pass view.qps (window_count key now bs) (live_at now ticks.list.items) (sym (tested_by l view bs ticks addr key now (window_count key now bs) same passes le held is masked refl) ∙ within)
