use Rattle.std.proofs.Common.{false, Err, Ok}
use Rattle.lb_step.proofs.ChainEdits.{remove_told}
use Rattle.lb_step.proofs.edit.remove_rule.Goals as goal

pub returns-in-Ok-clause-edit : goal.returns-in-Ok-clause-edit
returns-in-Ok-clause-edit c =
    remove_told c.seen_twice.ensures false c.args.moment c.args.upstream.now c.args.chain.now c.args.id (c.remove.new.self, Ok tt) c.in-Ok.ensures

pub returns-in-Err-clause-edit : goal.returns-in-Err-clause-edit
returns-in-Err-clause-edit c =
    rw c.rules_refused.ensures
    (remove_told c.seen_twice.ensures false c.args.moment c.args.upstream.now c.args.chain.now c.args.id (c.remove.new.self, Err c.in-Err.fault) c.in-Err.ensures)
