use Rattle.std.proofs.Common.{arith}
use Rattle.lb_limits.proofs.Tallies.{all_recent}
use Rattle.lb_limits.proofs.ticks.Ticks.pass.Goals as goal

pub raise-requires-clause-crowd : goal.raise-requires-clause-crowd
raise-requires-clause-crowd c =
    omega (arith, c.requires.crowd, c.take_back.ensures.live c.args.now (omega arith), c.forget.ensures.live c.args.now (omega arith), c.forget.ensures.tally.total, all_recent c.args.now c.forget.new.self.list.items c.forget.ensures.recent)
