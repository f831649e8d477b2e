use Rattle.std.proofs.Common.{◌∙◌}
use Rattle.lb_loops_tcp.proofs.Settling.{settles_on}
use Rattle.lb_loops_tcp.proofs.Then.{goes_before}
use Rattle.lb_loops_tcp.specs.Goes.{none}
use Rattle.lb_loops_tcp.proofs.links.Links.write_all.Goals as goal

pub loop-preserved : goal.loop-preserved
loop-preserved g c = (
  goes_before _ c.loop.self c.write_next.new.self none none c.loop.invariant.0 c.write_next.ensures.goes,
  c.write_next.ensures.reads ∙ c.loop.invariant.1,
  settles_on c.args.self.now c.loop.self c.write_next.new.self c.loop.invariant.2 c.write_next.ensures.settles,
)
