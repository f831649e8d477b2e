use Rattle.std.proofs.Common.{◌≡◌, map}
use Rattle.lb_command.specs.Values.{looked_up, worded}
use Rattle.lb_command.proofs.Lookups.{from_place}
use Rattle.lb_command.proofs.values.look_up.Given as goal

-- what is left of the table says what the whole does
abbrev pub invariant-loop-value : goal.invariant-loop-value
invariant-loop-value g l = from_place l.table l.text l.value-index ≡ looked_up (map worded l.table) l.text
