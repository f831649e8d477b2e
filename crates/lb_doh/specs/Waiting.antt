-- The requests that wait for an answer.
use Rattle.std.specs.Prelude.{◌≡◌, ℕ, ◌+◌, ◌==◌, ◌≤◌, ◌^◌, List, [], ◌∷◌, ◌++◌, Option, None, Some, Result, Ok, Err, if◌then◌else◌, refl}
use Rattle.std.specs.Coded.{Coded, code_by, coded×, coded_list, coded_ℕ}
use Rattle.lb_doh.specs.declared.fault.EnterFault.{EnterFault}
use Rattle.lb_doh.specs.declared.fault.EnterFault.TheVariants.{NoMemory, NoNumber}

module _ {W : Type 0} where
  -- what waits under a number
  abbrev pub waits_under : ℕ → List (ℕ × W) → Option W
  waits_under number [] = None
  waits_under number (request ∷ requests) = if request.0 == number then Some request.1 else waits_under number requests

  -- all but the one of a number
  abbrev pub without : ℕ → List (ℕ × W) → List (ℕ × W)
  without number [] = []
  without number (request ∷ requests) = if request.0 == number then requests else request ∷ without number requests

  -- no number is over the last that was given
  abbrev pub are_given : ℕ → List (ℕ × W) → Type 0
  are_given last [] = Unit {0}
  are_given last (request ∷ requests) = (request.0 ≤ last) × are_given last requests

-- the number that was given last, 0 where none was, and those that wait, each under its number
pub record Waits (W : Type 0) : Type 0 where
  pub last : ℕ
  pub requests : List (ℕ × W)

-- how the logic stores them; no clause cites it
abbrev pub waits_code : {W : Type 0} → Coded W → Coded (Waits W)
waits_code {W} code =
    code_by (ℕ × List (ℕ × W)) (coded× coded_ℕ (coded_list (coded× coded_ℕ code)))
    (λ w. (w.last, w.requests)) (λ p. record { last = p.0; requests = p.1 }) (λ _. refl)

module _ {W : Type 0} where
  -- A request comes to stand after the others, under the next number. Numbers are given once, from 1 on; past 2^64-1 there is none.
  abbrev pub Enters : Waits W → W → Waits W → Result ℕ EnterFault → Type 0
  Enters old waker new (Ok number) = (number ≡ old.last + 1) × (new ≡ record { last = number; requests = old.requests ++ (number, waker) ∷ [] })
  Enters old waker new (Err NoNumber) = (old.last + 1 ≡ 2 ^ 64) × (new ≡ old)
  Enters old waker new (Err NoMemory) = new ≡ old
