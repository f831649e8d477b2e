use Rattle.lb_chain.specs.Offers.{AreOffers, terms_of}
use Rattle.lb_chain.specs.Places.{places_of}
use Rattle.std.proofs.Common.{ap, sym, subst, ◌∙◌, ◌<◌, length, arith}
use Rattle.lb_chain.proofs.Chains.{limiters_few, limiters_within, kept_removed}
use Rattle.lb_chain.proofs.Reordered.{term_found, terms_removed}
use Rattle.lb_chain.proofs.chain.Chain.remove.Goals as goal

pub overflow_sub-self : goal.overflow_sub-self
overflow_sub-self c =
    let lt : c.in-Some.at < length c.self.inside.rules.items = omega (arith, c.in-Some.ensures.within) in
    omega (arith, c.len.ensures, limiters_within c.self.inside.last_rule c.self.inside.moment c.self.inside.limiters c.self.inside.rules.items c.in-Some.at c.remove-gone.result c.self.invariant.0 lt c.remove-gone.ensures.value)

pub of-self-inside-requires : goal.of-self-inside-requires
of-self-inside-requires c =
    let lt : c.in-Some.at < length c.self.inside.rules.items = omega (arith, c.in-Some.ensures.within) in
    let kept = kept_removed c.self.inside.last_rule c.self.inside.moment c.self.inside.limiters c.self.inside.rules.items c.in-Some.at c.remove-gone.result c.self.invariant.0 lt c.remove-gone.ensures.value in
    limiters_few _ _ _ _ c.as_slice-2.result.now (c.as_slice-2.ensures.value ∙ c.remove-gone.ensures.items) kept

pub invariant_of-self : goal.invariant_of-self
invariant_of-self c =
    let lt : c.in-Some.at < length c.self.inside.rules.items = omega (arith, c.in-Some.ensures.within) in
    let kept = kept_removed c.self.inside.last_rule c.self.inside.moment c.self.inside.limiters c.self.inside.rules.items c.in-Some.at c.remove-gone.result c.self.invariant.0 lt c.remove-gone.ensures.value in
    let rules = c.self.inside.rules.items in
    let found = term_found rules c.in-Some.at c.remove-gone.result lt c.remove-gone.ensures.value in
    let offers : AreOffers c.remove.new.self (terms_of c.remove-gone.new.self.items) =
    subst (AreOffers c.remove.new.self) (sym (terms_removed rules c.in-Some.at) ∙ ap terms_of (sym c.remove-gone.ensures.items)) (c.remove.ensures (terms_of rules) c.self.invariant.2 found) in
    (rw (c.len.ensures, c.remove-gone.ensures.items) kept, c.of-self-inside.ensures ∙ ap places_of c.as_slice-2.ensures.value, offers)
