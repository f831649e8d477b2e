use Rattle.lb_loops.specs.Running.{ClockGoesOn}
use Rattle.lb_loops.proofs.rounds.send_again.Given as goal

abbrev pub invariant-loop : goal.invariant-loop
invariant-loop g l = ClockGoesOn l.fn.part l.part
