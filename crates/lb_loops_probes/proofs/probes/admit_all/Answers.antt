use Rattle.std.proofs.Common.{◌++◌, ap, ◌∙◌, append_assoc, subst}
use Rattle.lb_loops_probes.specs.Probes.{AreFresh}
use Rattle.lb_loops_probes.proofs.Freshening.{fresh_on, probed_on}
use Rattle.lb_loops_probes.proofs.probes.admit_all.Goals as goal

pub loop-index-preserved : goal.loop-index-preserved
loop-index-preserved c =
    let before = c.loop-index.invariant.0 in
    let after = c.admit.ensures.fresh in
    let roster = c.args.roster.now.listed in
    let p = c.args.watched.now.items in (
      (before.0 ++ after.0, after.1 ∙ ap (λ zs. zs ++ after.0) before.1 ∙ append_assoc p before.0 after.0, fresh_on c.args.now roster p before.0 after.0 before.2 (subst (λ zs. AreFresh c.args.now roster zs after.0) before.1 after.2)),
      c.admit.ensures.room ∙ c.loop-index.invariant.1,
      probed_on _ roster _ _ after.0 after.1 c.loop-index.invariant.2 c.admit.ensures.here,
    )
