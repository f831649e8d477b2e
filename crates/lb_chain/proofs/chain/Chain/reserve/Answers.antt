use Rattle.std.proofs.Common.{◌≡◌, ◌+◌, ◌≤◌, List, [], sym, ap, subst, ◌∙◌, arith}
use Rattle.std.proofs.lemmas.Result.{on_ok_weaker}
use Rattle.lb_chain.specs.Edits.{Rules}
use Rattle.lb_chain.specs.Counting.{reserved_rules, RulesReady}
use Rattle.lb_chain.specs.Offers.{AreOffers, terms_of}
use Rattle.lb_chain.specs.Seen.{seen_rules}
use Rattle.lb_chain.specs.Walk.{walk_of}
use Rattle.lb_chain.specs.declared.walked.Passed.{Passed}
use Rattle.lb_chain.specs.declared.walked.Walked.{Walked}
use Rattle.lb_chain.proofs.Chains.{kept_later}
use Rattle.lb_chain.proofs.Counted.{found_empty, kept_reserved, ready_reserved, reserved_idle}
use Rattle.lb_chain.proofs.PartlyReserved.{partly_seen}
use Rattle.lb_chain.proofs.RulesReady.{ready_idle}
use Rattle.lb_chain.proofs.Reordered.{terms_partly}
use Rattle.lb_chain.proofs.chain.Chain.reserve.Goals as goal

pub returns-then-is_empty-clause-ok : goal.returns-then-is_empty-clause-ok
returns-then-is_empty-clause-ok c =
    let empty : c.args.walked.now.passes ≡ [] = found_empty c.as_slice-passes.result.now c.args.walked.now.passes c.as_slice-passes.ensures c.if-is_empty.ensures in
    let chain : Rules = record { next = c.self.inside.last_rule + 1; moment = c.self.inside.moment; rules = c.self.inside.rules.items } in
    reserved_idle c.args.walked.now.passes c.args.addr.now c.args.now chain empty ∙ ap (reserved_rules c.args.walked.now.passes c.args.addr.now c.args.now) c.self.view_is

pub returns-then-is_empty-clause-ready : goal.returns-then-is_empty-clause-ready
returns-then-is_empty-clause-ready c =
    let empty : c.args.walked.now.passes ≡ [] = found_empty c.as_slice-passes.result.now c.args.walked.now.passes c.as_slice-passes.ensures c.if-is_empty.ensures in
    ready_idle c.args.walked.now.passes c.args.addr.now c.args.now c.self.inside.rules.items empty

pub invariant_of-self : goal.invariant_of-self
invariant_of-self c =
    let same = ap (λ (chain : Rules). chain.moment) c.self.view_is in
    let le : c.self.inside.moment ≤ c.args.now = omega (arith, same, c.requires.moment) in
    (kept_later c.self.inside.last_rule c.self.inside.moment c.args.now c.self.inside.limiters c.self.inside.rules.items le c.self.invariant.0, c.self.invariant.1, c.self.invariant.2)

pub invariant_of-self-2 : goal.invariant_of-self-2
invariant_of-self-2 c =
    let same = ap (λ (chain : Rules). chain.moment) c.self.view_is in
    let le : c.self.inside.moment ≤ c.args.now = omega (arith, same, c.requires.moment) in
    let rules = c.self.inside.rules.items in
    let kept = kept_reserved c.recent_are_passes.ensures c.self.inside.last_rule c.self.inside.moment c.args.now c.self.inside.limiters c.self.inside.places c.as_slice-passes.result.now c.args.addr.now rules c.reserve_rules.new.rules.items le (c.self.invariant.0, c.self.invariant.1) c.reserve_rules.ensures.partly in
    let same_terms : terms_of c.reserve_rules.new.rules.items ≡ terms_of rules = terms_partly c.as_slice-passes.result.now c.args.addr.now c.args.now rules c.reserve_rules.new.rules.items c.reserve_rules.ensures.partly in
    (kept.0, kept.1, subst (AreOffers c.self.inside.offers) (sym same_terms) c.self.invariant.2)

pub returns-clause-ready : goal.returns-clause-ready
returns-clause-ready c =
    let view = c.requires.walked.0 in
    let kind = c.requires.walked.1 in
    let walked : c.as_slice-passes.result.now ≡ (walk_of c.self.inside.rules.items view c.args.addr.now kind c.args.now).passes =
    c.as_slice-passes.ensures ∙ ap (λ (w : Walked). w.passes) c.requires.walked.2 ∙ ap (λ (chain : Rules). (walk_of chain.rules view c.args.addr.now kind c.args.now).passes) (sym c.self.view_is) in
    on_ok_weaker c.reserve_rules.result
    (λ is. subst (λ (passes : List Passed). RulesReady passes c.args.addr.now c.args.now c.reserve_rules.new.rules.items) c.as_slice-passes.ensures
    (ready_reserved c.put_is_there.ensures c.reserving_keeps_matches.ensures c.self.inside.last_rule c.self.inside.moment c.args.now c.self.inside.limiters c.as_slice-passes.result.now c.args.addr.now c.self.inside.rules.items c.reserve_rules.new.rules.items view kind c.self.invariant.0 walked is))
    c.reserve_rules.ensures.ok

pub returns-clause-seen : goal.returns-clause-seen
returns-clause-seen c =
    partly_seen c.recent_twice.ensures c.as_slice-passes.result.now c.args.addr.now c.args.now c.self.inside.rules.items c.reserve_rules.new.rules.items c.reserve_rules.ensures.partly
    ∙ ap (λ (chain : Rules). seen_rules c.args.now chain.rules) c.self.view_is
