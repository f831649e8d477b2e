use Rattle.lb_chain.specs.Places.{places_of}
use Rattle.std.proofs.Common.{ap, ◌∙◌, arith}
use Rattle.lb_chain.proofs.Chains.{kept_inserted, limiters_few}
use Rattle.lb_chain.proofs.chain.Chain.add.Goals as goal

pub of-self-inside-requires : goal.of-self-inside-requires
of-self-inside-requires c =
    limiters_few _ _ _ c.insert_rule.new.rules.items c.as_slice.result.now c.as_slice.ensures.value
    (kept_inserted c.self.inside.last_rule c.self.inside.moment c.self.inside.limiters c.limiter_count-count.result c.args.place c.self.inside.rules.items c.insert_rule.new.rules.items c.args.rule c.self.invariant.0 (omega arith) (omega arith) (omega arith) c.limiter_count-count.ensures.count c.in-Ok.ensures.count c.in-Ok.ensures.moments c.in-Ok.ensures.ok)

pub invariant_of-self : goal.invariant_of-self
invariant_of-self c =
    (kept_inserted c.self.inside.last_rule c.self.inside.moment c.self.inside.limiters c.limiter_count-count.result c.args.place c.self.inside.rules.items c.insert_rule.new.rules.items c.args.rule c.self.invariant.0 (omega arith) (omega arith) (omega arith) c.limiter_count-count.ensures.count c.in-Ok.ensures.count c.in-Ok.ensures.moments c.in-Ok.ensures.ok, c.of-self-inside.ensures ∙ ap places_of c.as_slice.ensures.value, c.insert_rule.ensures.offers)
