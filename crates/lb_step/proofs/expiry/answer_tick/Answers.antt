use Rattle.lb_step.proofs.Endings.{ended_none, ended_one}
use Rattle.lb_step.proofs.expiry.answer_tick.Goals as goal

pub returns-in-Some-clause-expires : goal.returns-in-Some-clause-expires
returns-in-Some-clause-expires c = ended_one c.args.upstream.now c.take_due.new.self c.args.moment c.in-Some.waiting c.expired.result c.in-Some.ensures.due c.in-Some.ensures.without c.expired.ensures

pub returns-in-None-clause-expires : goal.returns-in-None-clause-expires
returns-in-None-clause-expires c = ended_none c.args.upstream.now c.take_due.new.self c.args.moment c.in-None.ensures.due c.in-None.ensures.without
