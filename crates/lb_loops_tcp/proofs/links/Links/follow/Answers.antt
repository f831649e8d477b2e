use Rattle.std.proofs.Common.{◌∙◌}
use Rattle.lb_loops_tcp.proofs.Settling.{settles_on}
use Rattle.lb_loops_tcp.proofs.Then.{goes_before}
use Rattle.lb_loops_tcp.specs.Goes.{none}
use Rattle.lb_loops_tcp.proofs.links.Links.follow.Goals as goal

pub loop-place-preserved : goal.loop-place-preserved
loop-place-preserved g c = (
  goes_before c.args.self.now c.loop-place.self c.follow_one.new.self none none c.loop-place.invariant.0 c.follow_one.ensures.goes,
  c.follow_one.ensures.reads ∙ c.loop-place.invariant.1,
  settles_on c.args.self.now c.loop-place.self c.follow_one.new.self c.loop-place.invariant.2 c.follow_one.ensures.settles,
)
