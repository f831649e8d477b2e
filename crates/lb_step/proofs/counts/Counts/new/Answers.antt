use Rattle.std.proofs.Common.{◌≡◌, ℕ, zero, suc, get_or, replicate, refl}
use Rattle.lb_step.proofs.counts.Counts.new.Goals as goal

-- each place of so many zeros, and each place after them
all_zero : (n place : ℕ) → let none : ℕ = 0 in get_or (replicate n none) place none ≡ none
all_zero zero place = refl
all_zero (suc n) zero = refl
all_zero (suc n) (suc place) = all_zero n place

pub returns : goal.returns
returns c = λ place. all_zero 286 place
