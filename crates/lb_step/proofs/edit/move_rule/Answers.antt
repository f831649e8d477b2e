use Rattle.std.proofs.Common.{false, Err, Ok}
use Rattle.lb_chain.specs.Edits.{lacks}
use Rattle.lb_step.proofs.ChainEdits.{may_move, move_told, same_mark}
use Rattle.lb_step.proofs.edit.move_rule.Goals as goal

pub returns-in-Ok-clause-edit : goal.returns-in-Ok-clause-edit
returns-in-Ok-clause-edit c =
    move_told c.seen_twice.ensures false c.args.moment c.args.upstream.now c.args.chain.now c.args.id c.args.place (c.move_to.new.self, Ok tt) c.in-Ok.ensures

pub returns-in-Err-clause-edit : goal.returns-in-Err-clause-edit
returns-in-Err-clause-edit c =
    rw (c.rules_refused.ensures, same_mark (Unit {0}) c.in-Err.fault)
    (move_told c.seen_twice.ensures (lacks {A = Unit {0}} (Err c.in-Err.fault)) c.args.moment c.args.upstream.now c.args.chain.now c.args.id c.args.place (c.move_to.new.self, Err c.in-Err.fault) c.in-Err.ensures)

pub returns-in-Err-clause-mark : goal.returns-in-Err-clause-mark
returns-in-Err-clause-mark c =
    rw c.rules_refused.ensures (may_move c.seen_twice.ensures c.args.moment c.args.upstream.now c.args.chain.now c.move_to.new.self c.args.id c.args.place c.in-Err.fault c.in-Err.ensures)
