use Rattle.std.proofs.Common.{◌≡◌, ◌∙◌, ap, sym}
use Rattle.lb_cache.specs.declared.filing.Span.{Span}
use Rattle.lb_cache.specs.declared.reply.CachedReply.{CachedReply}
use Rattle.lb_cache.specs.Keys.{is_within}
use Rattle.lb_cache.specs.Question.{asks_name, covers_name, question_of_key}
use Rattle.lb_cache.specs.Store.{within}
use Rattle.lb_cache.proofs.Whole.{left_too}
use Rattle.lb_cache.proofs.cache.take_name.Goals as goal
use Rattle.lb_cache.proofs.cache.take_name.Goals.{in-Some, in-None}

pub returns-clause-left : goal.returns-clause-left
returns-clause-left c =
    let same : (r : CachedReply) → within c.match-qtype.span.low c.match-qtype.span.high r ≡ covers_name c.args.name.now c.args.qtype r = λ r.
    elim c.match-qtype.branch [
      | in-Some w ↦
          ap (λ (span : Span). is_within span.low span.high r.key.octets) w.span-is ∙ w.of_type-span.ensures r.key.octets
          ∙ ap (λ qtype. asks_name c.args.name.now qtype (question_of_key r.key.octets)) (sym w.in-Some.is)
      | in-None w ↦
          ap (λ (span : Span). is_within span.low span.high r.key.octets) w.span-is ∙ w.of_name-span.ensures r.key.octets
          ∙ ap (λ qtype. asks_name c.args.name.now qtype (question_of_key r.key.octets)) (sym w.in-None.is)
    ] in
    left_too (within c.match-qtype.span.low c.match-qtype.span.high) (covers_name c.args.name.now c.args.qtype) c.args.store.now c.take_within.new.store same c.take_within.ensures.left
