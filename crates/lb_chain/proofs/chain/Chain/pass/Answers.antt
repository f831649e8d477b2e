use Rattle.std.proofs.Common.{◌≡◌, ◌+◌, ◌≤◌, List, [], sym, ap, subst, ◌∙◌, arith}
use Rattle.lb_limits.specs.Window.{passed_at}
use Rattle.lb_chain.specs.Edits.{Rules}
use Rattle.lb_chain.specs.Counting.{counted, passed_rules, RulesReady}
use Rattle.lb_chain.specs.Offers.{AreOffers, terms_of}
use Rattle.lb_chain.specs.Seen.{seen_rules}
use Rattle.lb_chain.specs.declared.walked.Passed.{Passed}
use Rattle.lb_chain.proofs.Chains.{kept_later}
use Rattle.lb_chain.proofs.Counted.{found_empty, kept_counted, passed_idle, seen_idle, seen_passed}
use Rattle.lb_chain.proofs.Reordered.{terms_counted}
use Rattle.lb_chain.proofs.chain.Chain.pass.Goals as goal

pub invariant_of-self : goal.invariant_of-self
invariant_of-self c =
    let same = ap (λ (chain : Rules). chain.moment) c.self.view_is in
    let le : c.self.inside.moment ≤ c.args.now = omega (arith, same, c.requires.moment) in
    let ready : RulesReady c.as_slice-passes.result.now c.args.addr.now c.args.now c.self.inside.rules.items =
    subst (λ (passes : List Passed). RulesReady passes c.args.addr.now c.args.now c.self.inside.rules.items) (sym c.as_slice-passes.ensures)
    (subst (λ (chain : Rules). RulesReady c.args.walked.now.passes c.args.addr.now c.args.now chain.rules) (sym c.self.view_is) c.requires.ready) in
    let rules = c.self.inside.rules.items in
    let kept = kept_counted c.passed_are_passes.ensures c.self.inside.last_rule c.self.inside.moment c.args.now c.self.inside.limiters c.self.inside.places c.as_slice-passes.result.now c.args.addr.now rules c.pass_rules.new.rules.items le (c.self.invariant.0, c.self.invariant.1) ready c.pass_rules.ensures in
    let same_terms : terms_of c.pass_rules.new.rules.items ≡ terms_of rules = ap terms_of c.pass_rules.ensures ∙ terms_counted (λ l. passed_at l c.args.addr.now c.args.now) c.as_slice-passes.result.now rules in
    (kept.0, kept.1, subst (AreOffers c.self.inside.offers) (sym same_terms) c.self.invariant.2)

pub invariant_of-self-else-not-is_empty : goal.invariant_of-self-else-not-is_empty
invariant_of-self-else-not-is_empty c =
    let same = ap (λ (chain : Rules). chain.moment) c.self.view_is in
    let le : c.self.inside.moment ≤ c.args.now = omega (arith, same, c.requires.moment) in
    (kept_later c.self.inside.last_rule c.self.inside.moment c.args.now c.self.inside.limiters c.self.inside.rules.items le c.self.invariant.0, c.self.invariant.1, c.self.invariant.2)

pub returns-then-not-is_empty-clause-seen : goal.returns-then-not-is_empty-clause-seen
returns-then-not-is_empty-clause-seen c =
    seen_passed c.recent_twice.ensures c.as_slice-passes.result.now c.args.addr.now c.args.now c.self.inside.rules.items c.pass_rules.new.rules.items c.pass_rules.ensures
    ∙ ap (λ (passes : List Passed). counted passes c.args.addr.now c.args.now (seen_rules c.args.now c.self.inside.rules.items)) c.as_slice-passes.ensures
    ∙ ap (λ (chain : Rules). counted c.args.walked.now.passes c.args.addr.now c.args.now (seen_rules c.args.now chain.rules)) c.self.view_is

pub returns-else-not-is_empty-clause-passes : goal.returns-else-not-is_empty-clause-passes
returns-else-not-is_empty-clause-passes c =
    let empty : c.args.walked.now.passes ≡ [] = found_empty c.as_slice-passes.result.now c.args.walked.now.passes c.as_slice-passes.ensures c.if-not-is_empty.ensures in
    let chain : Rules = record { next = c.self.inside.last_rule + 1; moment = c.self.inside.moment; rules = c.self.inside.rules.items } in
    passed_idle c.args.walked.now.passes c.args.addr.now c.args.now chain empty ∙ ap (passed_rules c.args.walked.now.passes c.args.addr.now c.args.now) c.self.view_is

pub returns-else-not-is_empty-clause-seen : goal.returns-else-not-is_empty-clause-seen
returns-else-not-is_empty-clause-seen c =
    let empty : c.args.walked.now.passes ≡ [] = found_empty c.as_slice-passes.result.now c.args.walked.now.passes c.as_slice-passes.ensures c.if-not-is_empty.ensures in
    seen_idle c.args.walked.now.passes c.args.addr.now c.args.now c.self.inside.rules.items empty
    ∙ ap (λ (chain : Rules). counted c.args.walked.now.passes c.args.addr.now c.args.now (seen_rules c.args.now chain.rules)) c.self.view_is
