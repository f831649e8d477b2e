use Rattle.lb_loops_tcp.proofs.Opening.{goes_nothing}
use Rattle.lb_loops_tcp.proofs.Settling.{settles_nothing, settles_on}
use Rattle.lb_loops_tcp.proofs.Then.{goes_before}
use Rattle.lb_loops_tcp.specs.Goes.{none}
use Rattle.lb_loops_tcp.proofs.links.Links.write_next.Goals as goal

pub returns-clause-goes : goal.returns-clause-goes
returns-clause-goes g c = goes_before _ _ _ none none (goes_nothing _ _ c.next_touched.ensures) c.write.ensures.goes

pub returns-clause-settles : goal.returns-clause-settles
returns-clause-settles g c = settles_on c.args.self.now c.next_touched.new.self c.write.new.self (settles_nothing c.args.self.now c.next_touched.new.self c.next_touched.ensures) c.write.ensures.settles
