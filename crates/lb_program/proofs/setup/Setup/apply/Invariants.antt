use Rattle.std.proofs.Common.{◌+◌, ◌≤◌, ◌^◌, ℕ, List, length}
use Rattle.lb_program.specs.Setup.{Applies, SetupEnd, told_from_number, told_lines}
use Rattle.lb_program.proofs.SetupLines.{Comes}
use Rattle.lb_program.proofs.setup.Setup.apply.Given as goal

-- these lines are to come, and however they are applied, so are all of them
abbrev pub invariant-loop-line : goal.invariant-loop-line
invariant-loop-line l =
    (rest : List (List ℕ))
    × Comes l.line-iterator rest
    × (l.number + length rest ≤ 2 ^ 63)
    × ((end : SetupEnd) → Applies (told_from_number (l.number + 1) rest) l.self l.balancer end → Applies (told_lines l.text) l.fn.self l.fn.balancer end)
