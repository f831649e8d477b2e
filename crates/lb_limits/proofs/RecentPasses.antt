-- Passes given up earlier change nothing later.
use Rattle.std.proofs.Common.{◌≡◌, false, ℕ, ◌≤◌, List, [], ◌∷◌, inl, inr, refl, ap, arith}
use Rattle.std.proofs.lemmas.Bool.{cases_Bool}
use Rattle.std.proofs.lemmas.Bool.Decides.{nat_tests}
use Rattle.lb_wire.specs.declared.addr.Addr.{Addr}
use Rattle.lb_limits.specs.declared.pass.Pass.{Pass}
use Rattle.lb_limits.specs.Moments.{is_recent}
use Rattle.lb_limits.specs.Window.{Limits, recent_passes, matches, reserved_at}

-- a pass that does not count does not count later either
still_early : (m now : ℕ) (pass : Pass) → m ≤ now → is_recent m pass.moment ≡ false → is_recent now pass.moment ≡ false
still_early m now pass le early = grind (arith, nat_tests)

pub recent_twice : (m now : ℕ) (passes : List Pass) → m ≤ now → recent_passes now (recent_passes m passes) ≡ recent_passes now passes
recent_twice m now [] le = refl
recent_twice m now (pass ∷ passes) le =
    let rest : recent_passes now (recent_passes m passes) ≡ recent_passes now passes = recent_twice m now passes le in
    elim (cases_Bool (is_recent m pass.moment)) [
      | inr early ↦
          let later : is_recent now pass.moment ≡ false = still_early m now pass le early in
          rw (early, later) rest
      | inl late ↦ elim (cases_Bool (is_recent now pass.moment)) [
        | inl later ↦ rw (late, later) (ap (λ (ps : List Pass). pass ∷ ps) rest)
        | inr later ↦ rw (late, later) rest
      ]
    ]

-- a reservation changes no test at its moment or later
pub same_matches : (l : Limits) (other addr : Addr) (m now : ℕ) → m ≤ now → matches (reserved_at l other m) addr now ≡ matches l addr now
same_matches l other addr m now le = rw (recent_twice m now l.passes le) refl
