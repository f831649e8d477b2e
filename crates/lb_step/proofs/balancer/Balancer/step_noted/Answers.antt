use Rattle.std.proofs.Common.{◌∙◌, ap, max}
use Rattle.lb_step.specs.Reading.{moment_of}
use Rattle.lb_step.specs.declared.noted.Noted.{Noted}
use Rattle.lb_step.specs.Noted.{note}
use Rattle.lb_step.proofs.Noting.{query_leaves, reply_leaves}
use Rattle.lb_step.proofs.Steps.{edit_answers, query_answers, reply_answers}
use Rattle.lb_step.proofs.balancer.Balancer.step_noted.Goals as goal

pub returns-in-Query-clause-answers : goal.returns-in-Query-clause-answers
returns-in-Query-clause-answers c =
    rw (← c.self.view_is, c.in-Query.is)
    (query_answers c.seen_twice.ensures c.self.inside.moment c.in-Query.now c.max-self-inside.result c.self.inside.chain c.answer_query.new.chain c.self.inside.upstream c.answer_query.new.upstream c.in-Query.origin c.in-Query.kind c.in-Query.word c.in-Query.bytes c.answer_query.result
    (c.max-self-inside.ensures ∙ ap (max c.self.inside.moment) (c.now.ensures ∙ ap moment_of c.in-Query.is)) c.answer_query.ensures.step c.answer_query.ensures.mark)

pub returns-in-Reply-clause-answers : goal.returns-in-Reply-clause-answers
returns-in-Reply-clause-answers c =
    rw (← c.self.view_is, c.in-Reply.is)
    (reply_answers c.seen_twice.ensures c.self.inside.moment c.in-Reply.now c.max-self-inside.result c.self.inside.chain c.self.inside.upstream c.answer_reply.new.upstream c.in-Reply.server c.in-Reply.lane c.in-Reply.bytes c.answer_reply.result
    (c.max-self-inside.ensures ∙ ap (max c.self.inside.moment) (c.now.ensures ∙ ap moment_of c.in-Reply.is)) c.answer_reply.ensures.step c.answer_reply.ensures.mark)

pub returns-in-Edit-clause-answers : goal.returns-in-Edit-clause-answers
returns-in-Edit-clause-answers c =
    rw (← c.self.view_is, c.in-Edit.is)
    (edit_answers c.seen_twice.ensures c.self.inside.moment c.in-Edit.now c.max-self-inside.result c.self.inside.chain c.edit.new.chain c.self.inside.upstream c.edit.new.upstream c.in-Edit.command c.edit.result
    (c.max-self-inside.ensures ∙ ap (max c.self.inside.moment) (c.now.ensures ∙ ap moment_of c.in-Edit.is)) c.edit.ensures.edit c.edit.ensures.mark)

pub returns-in-Query-clause-noted : goal.returns-in-Query-clause-noted
returns-in-Query-clause-noted c =
    rw (← c.self.view_is, c.in-Query.is)
    (query_leaves c.seen_twice.ensures c.self.inside.moment c.in-Query.now c.max-self-inside.result c.self.inside.chain c.self.inside.upstream c.in-Query.origin c.in-Query.kind c.in-Query.word c.in-Query.bytes c.answer_query.result c.answer_query.new.noted
    (c.max-self-inside.ensures ∙ ap (max c.self.inside.moment) (c.now.ensures ∙ ap moment_of c.in-Query.is)) c.answer_query.ensures.noted)

pub returns-in-Reply-clause-noted : goal.returns-in-Reply-clause-noted
returns-in-Reply-clause-noted c =
    rw (← c.self.view_is, c.in-Reply.is)
    (reply_leaves c.seen_twice.ensures c.self.inside.moment c.in-Reply.now c.max-self-inside.result c.self.inside.chain c.self.inside.upstream c.in-Reply.server c.in-Reply.lane c.in-Reply.bytes c.answer_reply.result _ c.answer_reply.new.served
    (c.max-self-inside.ensures ∙ ap (max c.self.inside.moment) (c.now.ensures ∙ ap moment_of c.in-Reply.is)) (ap (λ (n : Noted). note n.rule n.cache c.answer_reply.new.served) c.none.ensures) c.answer_reply.ensures.served)
