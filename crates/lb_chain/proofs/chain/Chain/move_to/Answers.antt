use Rattle.lb_chain.specs.Chain.{IsChain}
use Rattle.lb_chain.specs.Places.{places_of}
use Rattle.std.proofs.Common.{ap, sym, subst, ◌∙◌, ◌<◌, length, slice_get, refl, arith}
use Rattle.lb_chain.proofs.Chains.{limiters_few, kept_put_again}
use Rattle.lb_chain.proofs.chain.Chain.move_to.Goals as goal

pub of-self-inside-requires : goal.of-self-inside-requires
of-self-inside-requires c =
    let rules = c.self.inside.rules.items in
    let lt : c.in-Some.at < length rules = omega (arith, c.in-Some.ensures.within) in
    let to : c.args.place < length rules = omega arith in
    limiters_few _ _ _ c.move_rule.new.rules.items c.as_slice-2.result.now c.as_slice-2.ensures.value
    (kept_put_again c.self.inside.last_rule c.self.inside.moment c.self.inside.limiters rules c.move_rule.new.rules.items c.in-Some.at c.args.place (slice_get rules c.in-Some.at) c.self.invariant.0 lt to refl c.in_ok-move_rule.ensures.ok)

pub invariant_of-self-2 : goal.invariant_of-self-2
invariant_of-self-2 c =
    let rules = c.self.inside.rules.items in
    let lt : c.in-Some.at < length rules = omega (arith, c.in-Some.ensures.within) in
    let to : c.args.place < length rules = omega arith in
    (kept_put_again c.self.inside.last_rule c.self.inside.moment c.self.inside.limiters rules c.move_rule.new.rules.items c.in-Some.at c.args.place (slice_get rules c.in-Some.at) c.self.invariant.0 lt to refl c.in_ok-move_rule.ensures.ok, c.of-self-inside.ensures ∙ ap places_of c.as_slice-2.ensures.value, c.move_rule.ensures.offers)

-- where memory was lacking, the rules are as they were
pub invariant_of-self : goal.invariant_of-self
invariant_of-self c =
    let same = sym c.in_err-move_rule.ensures.err in
    (subst (IsChain c.self.inside.last_rule c.self.inside.moment c.self.inside.limiters) same c.self.invariant.0, c.self.invariant.1 ∙ ap places_of same, c.move_rule.ensures.offers)
