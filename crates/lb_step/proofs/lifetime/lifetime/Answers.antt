use Rattle.std.proofs.Common.{Some, ap}
use Rattle.lb_wire.specs.declared.tally.Survey.{Survey}
use Rattle.lb_step.proofs.Lives.{lives, no_life, not_kept, carried_off}
use Rattle.lb_step.proofs.lifetime.lifetime.Goals as goal
use Rattle.lb_step.proofs.lifetime.lifetime.Goals.{then-not-is_keepable-via-then-not-is_keepable, then-not-is_keepable-via-else-not-is_keepable+then-carries}

pub returns : goal.returns
returns c =
    let m = c.in-Some.ensures.0 in
    let lays = c.in-Some.ensures.1 in (
      Some m,
      lays,
      lives c.args.max_ttl c.args.skips.now c.args.view.now m c.is_keepable.result c.carries.result c.answer_count.result c.life_by.result c.in-Some.survey.least_all c.is_keepable.ensures c.if-not-is_keepable.false (c.carries.ensures m lays) c.if-carries.false (c.answer_count.ensures m lays) (ap (λ (s : Survey). s.least_all) c.in-Some.ensures.2) c.life_by.ensures,
    )

pub returns-then-not-is_keepable : goal.returns-then-not-is_keepable
returns-then-not-is_keepable c =
    let m = c.in-Some.ensures.0 in
    let lays = c.in-Some.ensures.1 in (
      Some m,
      lays,
      elim c.then-not-is_keepable.branch [
        | then-not-is_keepable-via-then-not-is_keepable w ↦ no_life c.args.max_ttl c.args.skips.now c.args.view.now m (not_kept c.args.view.now c.is_keepable.result _ c.is_keepable.ensures w.if-not-is_keepable.true)
        | then-not-is_keepable-via-else-not-is_keepable+then-carries w ↦ no_life c.args.max_ttl c.args.skips.now c.args.view.now m (carried_off c.args.view.now w.carries.result _ (w.carries.ensures m lays) w.if-carries.true)
      ],
    )
