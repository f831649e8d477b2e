-- Equal checks, as an operator states them.
use Rattle.std.proofs.Common.{◌≡◌, ℕ, ◌<◌, ap, subst, rules}
use Rattle.std.proofs.Props.{props}
use Rattle.std.specs.declared.num.NonZeroU8.{NonZeroU8}
use Rattle.lb_step.specs.declared.check.CheckSpec.{CheckSpec}

-- numbers from 1 on are equal where their values are
pub same_number : (a b : NonZeroU8) → a.value ≡ b.value → a ≡ b
same_number a b same =
    let one : Prim.IsProp (0 < a.value) = Prim.hlevel props in
    subst (λ (n : ℕ). (more : 0 < n) → a ≡ record { value = n; ok = more }) same (λ more. ap (λ (ok : 0 < a.value). record { value = a.value; ok = ok }) (one a.ok more)) b.ok

-- checks are equal where their fields are
pub same_check : (a b : CheckSpec) → a.fall ≡ b.fall → a.rise ≡ b.rise → a.must_resolve ≡ b.must_resolve → a ≡ b
same_check a b fall rise must = search rules
