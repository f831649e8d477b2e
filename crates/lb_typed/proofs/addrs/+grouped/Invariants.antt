use Rattle.std.proofs.Common.{length}
use Rattle.lb_typed.proofs.addrs.+grouped.Given as goal

abbrev pub decreases-grouped : goal.decreases-grouped
decreases-grouped l = length l.octets.now
