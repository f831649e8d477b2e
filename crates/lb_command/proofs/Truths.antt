-- What tests tell.
use Rattle.std.proofs.Common.{◌≡◌, ℕ, ◌+◌, ◌≤◌, Bool, true, false, not, ◌&&◌, ◌||◌, refl, arith}
use Rattle.std.proofs.lemmas.Bool.Decides.{nat_tests}
use Rattle.std.specs.Prelude.{nat_le, nat_lt}

pub both : (a b : Bool) → (a && b) ≡ true → (a ≡ true) × (b ≡ true)
both true b h = (refl, h)
both false b h = absurd (cc)

pub neither : (a b : Bool) → (a || b) ≡ false → (a ≡ false) × (b ≡ false)
neither true b h = absurd (cc)
neither false b h = (refl, h)

pub not_false : (b : Bool) → not b ≡ false → b ≡ true
not_false true h = refl
not_false false h = absurd (cc)

pub le_of : (a b : ℕ) → nat_le a b ≡ true → a ≤ b
le_of a b h = grind (arith, nat_tests)

pub of_le : (a b : ℕ) → a ≤ b → nat_le a b ≡ true
of_le a b h = grind (arith, nat_tests)

pub not_over : (a b : ℕ) → nat_lt b a ≡ false → a ≤ b
not_over a b h = grind (arith, nat_tests)

pub of_not_over : (a b : ℕ) → a ≤ b → nat_lt b a ≡ false
of_not_over a b h = grind (arith, nat_tests)

pub less_of : (a b : ℕ) → nat_lt a b ≡ true → a + 1 ≤ b
less_of a b h = grind (arith, nat_tests)

pub of_less : (a b : ℕ) → a + 1 ≤ b → nat_lt a b ≡ true
of_less a b h = grind (arith, nat_tests)
