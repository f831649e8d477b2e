use Rattle.std.proofs.Common.{◌-◌, length}
use Rattle.lb_name.specs.Reading.{Passed}
use Rattle.lb_name.proofs.name.name_len.Given as goal

abbrev pub invariant-loop-octet : goal.invariant-loop-octet
invariant-loop-octet l = Passed l.octets l.len

abbrev pub decreases-loop-octet : goal.decreases-loop-octet
decreases-loop-octet l = length l.octets - l.len
