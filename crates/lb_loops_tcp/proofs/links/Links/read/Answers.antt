use Rattle.lb_loops_tcp.proofs.Settling.{but_on, settles_but}
use Rattle.lb_loops_tcp.proofs.Then.{goes_before}
use Rattle.lb_loops_tcp.specs.Goes.{none}
use Rattle.lb_loops_tcp.proofs.links.Links.read.Goals as goal

pub returns-clause-goes : goal.returns-clause-goes
returns-clause-goes g c = goes_before c.args.self.now c.pull.new.self c.settle.new.self none none c.pull.ensures.goes c.settle.ensures.goes

pub returns-clause-settles : goal.returns-clause-settles
returns-clause-settles g c = settles_but c.args.number c.args.self.now c.settle.new.self (but_on c.args.number c.args.self.now c.pull.new.self c.settle.new.self c.pull.ensures.others c.settle.ensures.others) c.settle.ensures.settled
