use Rattle.lb_loops_tcp.proofs.Settling.{but_on}
use Rattle.lb_loops_tcp.proofs.Then.{goes_after, goes_before, misses_before, misses_later}
use Rattle.lb_loops_tcp.specs.Goes.{just, none}
use Rattle.lb_loops_tcp.proofs.links.Links.put_behind.Goals as goal

pub returns-in-Ok-clause-goes : goal.returns-in-Ok-clause-goes
returns-in-Ok-clause-goes g c = goes_after _ _ _ none (just c.args.number c.args.message.now) (goes_before _ _ _ none (just c.args.number c.args.message.now) c.make_room.ensures.goes c.in-Ok.ensures.goes) c.write_urgent.ensures.goes

pub returns-in-Ok-clause-settled : goal.returns-in-Ok-clause-settled
returns-in-Ok-clause-settled g c = c.write_urgent.ensures.settles c.args.number c.in-Ok.ensures.waits

pub returns-in-Ok-clause-others : goal.returns-in-Ok-clause-others
returns-in-Ok-clause-others g c = but_on c.args.number c.args.self.now c.promise.new.self c.write_urgent.new.self (but_on c.args.number c.args.self.now c.make_room.new.self c.promise.new.self c.make_room.ensures.others c.promise.ensures.others) c.write_urgent.ensures.others

pub returns-in-Err-clause-goes : goal.returns-in-Err-clause-goes
returns-in-Err-clause-goes g c = goes_before _ _ _ none none (goes_before _ _ _ none none c.make_room.ensures.goes c.in-Err.ensures.goes) c.settle.ensures.goes

pub returns-in-Err-clause-why : goal.returns-in-Err-clause-why
returns-in-Err-clause-why g c = misses_later c.args.self.now c.promise.new.self c.settle.new.self c.args.number c.args.message.now c.in-Err.why c.settle.ensures.goes
    (misses_before c.args.self.now c.make_room.new.self c.promise.new.self c.args.number c.args.message.now c.in-Err.why c.make_room.ensures.goes c.in-Err.ensures.why)

pub returns-in-Err-clause-others : goal.returns-in-Err-clause-others
returns-in-Err-clause-others g c = but_on c.args.number c.args.self.now c.promise.new.self c.settle.new.self (but_on c.args.number c.args.self.now c.make_room.new.self c.promise.new.self c.make_room.ensures.others c.promise.ensures.others) c.settle.ensures.others
