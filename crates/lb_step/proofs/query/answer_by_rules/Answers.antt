use Rattle.std.proofs.Common.{sym, ◌∙◌, ap, List, arith}
use Rattle.lb_chain.specs.declared.numbered.Numbered.{Numbered}
use Rattle.lb_chain.specs.declared.walked.Walked.{Walked}
use Rattle.lb_chain.specs.Counting.{counted}
use Rattle.lb_chain.specs.Edits.{Rules}
use Rattle.lb_step.specs.declared.noted.Noted.{Noted}
use Rattle.lb_step.specs.Noted.{note}
use Rattle.lb_step.proofs.Noting.{decided_noted}
use Rattle.lb_step.proofs.Steps.{counted_step}
use Rattle.lb_step.proofs.query.answer_by_rules.Goals as goal

pub decide-requires-clause-allow : goal.decide-requires-clause-allow
decide-requires-clause-allow c = λ is.
    ap (λ (w : Walked). w.verdict) c.walk_into.ensures
    ∙ c.first_to_end_decides.ensures.none c.args.chain.now.rules c.args.view.now c.args.asked.now.origin.source c.args.asked.now.kind c.args.asked.now.moment (sym (ap (λ (w : Walked). w.rule) c.walk_into.ensures) ∙ is)

pub returns-in-Ok-clause-step : goal.returns-in-Ok-clause-step
returns-in-Ok-clause-step c =
    counted_step c.args.chain.now c.pass.new.self c.args.upstream.now c.decide.new.upstream c.args.asked.now c.args.bytes.items c.args.view.now _ c.walk_into.new.walked c.in-Ok.answer c.in-Ok.ensures.decides
    (c.walk_into.ensures ∙ sym (c.seen_walks.ensures c.args.asked.now.moment c.args.asked.now.moment c.args.chain.now.rules c.args.view.now c.args.asked.now.origin.source c.args.asked.now.kind (omega arith)))
    (ap (λ (r : Rules). r.next) c.pass.ensures.passes ∙ c.in_default.ensures.next)
    (c.pass.ensures.seen ∙ ap (λ (rules : List Numbered). counted c.walk_into.new.walked.passes c.args.asked.now.origin.source c.args.asked.now.moment rules) c.in_default.ensures.seen)

pub returns-in-Ok-clause-noted : goal.returns-in-Ok-clause-noted
returns-in-Ok-clause-noted c =
    ap (λ (n : Noted). note c.walk_into.new.walked.rule c.decide.new.looked n.served) c.requires.noted
    ∙ decided_noted c.args.upstream.now c.decide.new.upstream c.args.asked.now c.args.bytes.items c.args.view.now _ c.walk_into.new.walked c.in-Ok.answer c.decide.new.looked c.in-Ok.ensures.decides
    (c.walk_into.ensures ∙ sym (c.seen_walks.ensures c.args.asked.now.moment c.args.asked.now.moment c.args.chain.now.rules c.args.view.now c.args.asked.now.origin.source c.args.asked.now.kind (omega arith)))
    c.in-Ok.ensures.looked
