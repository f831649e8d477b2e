use Rattle.std.proofs.Common.{sym, ap, ◌∙◌, false, Err, Ok, Option}
use Rattle.lb_wire.specs.declared.ids.RuleId.{RuleId}
use Rattle.lb_chain.specs.Edits.{lacks}
use Rattle.lb_chain.specs.declared.rule.Rule.{Rule}
use Rattle.lb_step.specs.Plain.{plain_of}
use Rattle.lb_step.specs.Edit.{rule_added}
use Rattle.lb_step.proofs.ChainEdits.{add_told, may_add, same_mark}
use Rattle.lb_step.proofs.edit.add_rule.Goals as goal

pub returns-in-Ok-clause-edit : goal.returns-in-Ok-clause-edit
returns-in-Ok-clause-edit c =
    add_told c.seen_twice.ensures false c.args.moment c.args.upstream.now c.args.chain.now c.args.place c.place_or_end-place.result c.in-Some.rule (c.add.new.self, Ok c.in-Ok.id) c.place_or_end-place.ensures c.in-Ok.ensures.added
    ∙ ap (λ (rule : Option Rule). rule_added false (plain_of c.args.moment c.args.chain.now c.args.upstream.now) c.args.place rule) c.in-Some.ensures

pub returns-in-Err-clause-edit : goal.returns-in-Err-clause-edit
returns-in-Err-clause-edit c =
    rw (c.rules_refused.ensures, same_mark RuleId c.in-Err.fault)
    (add_told c.seen_twice.ensures (lacks {A = RuleId} (Err c.in-Err.fault)) c.args.moment c.args.upstream.now c.args.chain.now c.args.place c.place_or_end-place.result c.in-Some.rule (c.add.new.self, Err c.in-Err.fault) c.place_or_end-place.ensures c.in-Err.ensures.added
    ∙ ap (λ (rule : Option Rule). rule_added (lacks {A = RuleId} (Err c.in-Err.fault)) (plain_of c.args.moment c.args.chain.now c.args.upstream.now) c.args.place rule) c.in-Some.ensures)

pub returns-in-Err-clause-mark : goal.returns-in-Err-clause-mark
returns-in-Err-clause-mark c =
    rw c.rules_refused.ensures (may_add c.seen_twice.ensures c.args.moment c.args.upstream.now c.args.chain.now c.add.new.self c.args.place c.place_or_end-place.result c.args.rule c.in-Some.rule c.in-Err.fault
    (sym c.in-Some.ensures) c.place_or_end-place.ensures c.in-Err.ensures.added)
