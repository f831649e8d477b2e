-- A selector that may not hold, by what it asks first, does not hold, and gives no passes.
use Rattle.std.proofs.Common.{◌≡◌, false, ℕ, [], refl}
use Rattle.lb_terms.specs.Selector.{Selector, All, Suffix, Masks, Qtype, And, Or, Not, MaxQps, Selectors, end, more}
use Rattle.lb_terms.specs.Truth.{Asked, truth_at, truth_all, passes_at, passes_all}
use Rattle.lb_chain.specs.FirstAsked.{first_may_hold, may_hold}

mutual
  pub first_fails : (term : Selector) (asked : Asked) (at : ℕ) → may_hold term asked.view asked.addr ≡ false → truth_at term asked at ≡ false
  first_fails All asked at is = absurd (cc)
  first_fails (Suffix names) asked at is = is
  first_fails (Masks group) asked at is = is
  first_fails (Qtype qtype) asked at is = absurd (cc)
  first_fails (And members) asked at is = members_fail members asked at is
  first_fails (Or members) asked at is = absurd (cc)
  first_fails (Not member) asked at is = absurd (cc)
  first_fails (MaxQps qps v4 v6) asked at is = absurd (cc)

  members_fail : (members : Selectors) (asked : Asked) (at : ℕ) → first_may_hold members asked.view asked.addr ≡ false → truth_all members asked at ≡ false
  members_fail end asked at is = absurd (cc)
  members_fail (more member members) asked at is = rw (first_fails member asked at is) refl

mutual
  pub first_passes : (term : Selector) (asked : Asked) (at : ℕ) → may_hold term asked.view asked.addr ≡ false → passes_at term asked at ≡ []
  first_passes All asked at is = absurd (cc)
  first_passes (Suffix names) asked at is = refl
  first_passes (Masks group) asked at is = refl
  first_passes (Qtype qtype) asked at is = absurd (cc)
  first_passes (And members) asked at is = members_pass members asked at is
  first_passes (Or members) asked at is = absurd (cc)
  first_passes (Not member) asked at is = absurd (cc)
  first_passes (MaxQps qps v4 v6) asked at is = absurd (cc)

  members_pass : (members : Selectors) (asked : Asked) (at : ℕ) → first_may_hold members asked.view asked.addr ≡ false → passes_all members asked at ≡ []
  members_pass end asked at is = absurd (cc)
  members_pass (more member members) asked at is = rw (first_fails member asked at is) (first_passes member asked at is)
