use Rattle.std.proofs.Common.{◌≡◌, ap, length, List, ◌∙◌, arith}
use Rattle.lb_limits.specs.Window.{Limits}
use Rattle.lb_terms.specs.Truth.{asked_of, passes_at}
use Rattle.lb_terms.specs.declared.tested.Tested.{Tested}
use Rattle.lb_chain.proofs.Passes.{few_passes}
use Rattle.lb_chain.proofs.walk.test_rule.Goals as goal

pub add_passes-requires : goal.add_passes-requires
add_passes-requires c =
    let n = c.args.n.now in
    let same : c.as_slice-2.result.now ≡ passes_at n.rule.term (asked_of c.args.arrival.now.view.now c.args.arrival.now.addr.now n.limits c.args.arrival.now.moment) 0 =
    c.as_slice-2.ensures.numbers ∙ ap (λ (t : Tested). t.passes) c.holds-tested.ensures ∙ ap (λ (ls : List Limits). passes_at n.rule.term (asked_of c.args.arrival.now.view.now c.args.arrival.now.addr.now ls c.args.arrival.now.moment) 0) c.as_slice.ensures in
    omega (arith, ap length same, few_passes n.rule.term (asked_of c.args.arrival.now.view.now c.args.arrival.now.addr.now n.limits c.args.arrival.now.moment) 0, c.requires.limiters, c.requires.room)
