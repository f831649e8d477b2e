use Rattle.std.proofs.Common.{Some, ap, refl, rules, sym, ◌++◌, ◌∙◌}
use Rattle.std.proofs.lemmas.Option.{slice_get-get_or}
use Rattle.lb_desk.specs.Entry.{receipt_at}
use Rattle.lb_desk.proofs.ReceiptsOf.{lost, receipts_next}
use Rattle.lb_desk.proofs.agree.agrees.Goals as goal

pub loop-place-preserved : goal.loop-place-preserved
loop-place-preserved c = (
  c.in-Some.ensures.found
      ∙ ap (λ x. x ++ receipt_at c.args.seat c.loop-place.place c.index-log-place.result) c.loop-place.invariant.0
      ∙ sym (receipts_next c.args.seat c.loop-place.place c.args.log.now c.index-log-place.result (search rules)
      (slice_get-get_or c.args.log.now c.loop-place.place c.index-log-place.result (search rules) ∙ ap (λ x. Some x) (sym c.index-log-place.is))),
  c.in-Some.ensures.within,
)

pub returns-in-None-clause-found : goal.returns-in-None-clause-found
returns-in-None-clause-found c is =
    absurd (lost c.args.seat c.loop-place.place c.loop-place.next c.args.log.now c.args.receipts.now c.index-log-place.result (search rules)
    (slice_get-get_or c.args.log.now c.loop-place.place c.index-log-place.result (search rules) ∙ ap (λ x. Some x) (sym c.index-log-place.is)) c.loop-place.invariant.0 (c.in-None.ensures.lost refl) is)
