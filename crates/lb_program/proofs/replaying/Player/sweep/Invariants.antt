use Rattle.std.specs.Prelude.{◌≡◌}
use Rattle.lb_program.proofs.replaying.Player.sweep.Given as goal

-- nothing that is seen changes
abbrev pub invariant-loop : goal.invariant-loop
invariant-loop l = l.self ≡ l.initial.self
