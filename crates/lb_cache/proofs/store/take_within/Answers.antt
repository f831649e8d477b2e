use Rattle.std.proofs.Common.{◌∙◌, arith, Bool, not, sym, ap}
use Rattle.lb_cache.specs.Store.{in_slot, others, within}
use Rattle.lb_cache.proofs.Views.{all_stay, same_stay}
use Rattle.lb_cache.proofs.store.take_within.Goals as goal

pub loop-slot-preserved : goal.loop-slot-preserved
loop-slot-preserved c =
    let taken = c.in-Some.ensures.some in
    let stay = others (within c.args.span.now.low c.args.span.now.high) in
    (λ s. same_stay stay c.loop-slot.store c.remove.new.self c.in-Some.slot taken.0 taken.1 (ap not taken.2) c.remove.ensures.cells s ∙ c.loop-slot.invariant.0 s, omega (arith, c.remove.ensures.few, c.loop-slot.invariant.1))

pub returns-clause-left : goal.returns-clause-left
returns-clause-left c = λ s.
    sym (all_stay (others (within c.args.span.now.low c.args.span.now.high)) (in_slot c.loop-slot.store s) (λ r is. ap (λ (b : Bool). not (not b)) (c.in_default.ensures.none s r is)))
    ∙ c.loop-slot.invariant.0 s
