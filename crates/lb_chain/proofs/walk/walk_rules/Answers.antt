use Rattle.std.proofs.Common.{◌≡◌, ◌<◌, ◌≤◌, ◌+◌, ◌||◌, Bool, false, ℕ, List, length, drop, sym, refl, ap, subst, ◌∙◌, arith}
use Rattle.lb_chain.specs.declared.walked.Walked.{Walked}
use Rattle.lb_chain.specs.Edits.{limiters_in}
use Rattle.lb_chain.specs.Offers.{terms_of}
use Rattle.lb_chain.specs.Walk.{tests_of, walk_of, with_before}
use Rattle.lb_chain.proofs.PassedBy.{fewer, offered_may, offered_within, walk_to, walk_to_end}
use Rattle.lb_chain.proofs.Walks.{ends_behind, ends_here, held_counts, walk_room, next_fails, next_goes_on, not_ended, room_next, with_none}
use Rattle.lb_chain.proofs.walk.walk_rules.Goals as goal

pub rules-init : goal.rules-init
rules-init c =
    let rules = c.args.rules.now in
    let whole = walk_of rules c.args.arrival.now.view.now c.args.arrival.now.addr.now c.args.arrival.now.kind c.args.arrival.now.moment in
    let start = c.ahead-ahead.ensures.start in
    let walked = c.args.walked.now in
    let begun = c.requires.begun in
    let before : with_before walked.no_recurse walked.skip_cache walked.passes walked.tests whole ≡ whole =
    ap (λ (w : Walked). with_before w.no_recurse w.skip_cache w.passes w.tests whole) begun ∙ sym (with_none whole) in (
      omega (arith, start),
      subst (λ (k : ℕ). length walked.passes + limiters_in (drop k rules) ≤ 16) (sym start) (omega (arith, ap (λ (w : Walked). length w.passes) begun, c.requires.few)),
      subst (λ (k : ℕ). with_before walked.no_recurse walked.skip_cache walked.passes walked.tests (walk_of (drop k rules) c.args.arrival.now.view.now c.args.arrival.now.addr.now c.args.arrival.now.kind c.args.arrival.now.moment) ≡ whole) (sym start) before,
      c.ahead-ahead.ensures.ahead c.args.arrival.now.view.now c.args.arrival.now.addr.now,
      omega (arith, ap (λ (w : Walked). w.tests) begun),
      ap (λ (w : Walked). w.rule) begun,
      ap (λ (w : Walked). w.verdict) begun,
    )

pub test_rule-requires-clause-room : goal.test_rule-requires-clause-room
test_rule-requires-clause-room c =
    let rules = c.args.rules.now in
    let place = c.in-Some.place in
    let next = c.in-Some.ensures.next (terms_of rules) c.requires.offers c.rules.invariant.3 in
    let lt : place < length rules = offered_within rules c.rules.ahead.at place c.args.arrival.now.view.now c.args.arrival.now.addr.now next in
    let left : length c.rules.walked.passes + limiters_in (drop place rules) ≤ 16 = omega (arith, fewer rules c.rules.ahead.at place next.0, c.rules.invariant.1) in
    omega (arith, room_next rules place c.index-rules-place.result (length c.rules.walked.passes) lt c.index-rules-place.is left)

pub returns-then-ends : goal.returns-then-ends
returns-then-ends c =
    let rules = c.args.rules.now in
    let place = c.in-Some.place in
    let n = c.index-rules-place.result in
    let next = c.in-Some.ensures.next (terms_of rules) c.requires.offers c.rules.invariant.3 in
    let lt : place < length rules = offered_within rules c.rules.ahead.at place c.args.arrival.now.view.now c.args.arrival.now.addr.now next in
    let counts = held_counts n c.args.arrival.now.view.now c.args.arrival.now.addr.now (offered_may rules c.rules.ahead.at place c.args.arrival.now.view.now c.args.arrival.now.addr.now n next c.index-rules-place.is) in
    let more : c.rules.walked.tests + 1 ≡ c.rules.walked.tests + tests_of n c.args.arrival.now.view.now c.args.arrival.now.addr.now = omega (arith, counts) in
    ends_here rules place n c.ends.new.verdict c.args.arrival.now.view.now c.args.arrival.now.addr.now c.args.arrival.now.kind c.args.arrival.now.moment c.rules.walked.no_recurse c.rules.walked.skip_cache c.rules.walked.passes c.test_rule.new.passes c.rules.walked.tests (c.rules.walked.tests + 1) _ lt c.index-rules-place.is (sym c.test_rule.ensures.truth ∙ c.if-test_rule.true) (c.ends.ensures.ended c.if-ends.true) c.test_rule.ensures.passes more
    (walk_to rules c.rules.ahead.at place c.args.arrival.now.view.now c.args.arrival.now.addr.now c.args.arrival.now.kind c.args.arrival.now.moment c.rules.walked.no_recurse c.rules.walked.skip_cache c.rules.walked.passes c.rules.walked.tests _ next c.rules.invariant.2)

pub rules-preserved-then-test_rule : goal.rules-preserved-then-test_rule
rules-preserved-then-test_rule c =
    let rules = c.args.rules.now in
    let place = c.in-Some.place in
    let n = c.index-rules-place.result in
    let whole = walk_of rules c.args.arrival.now.view.now c.args.arrival.now.addr.now c.args.arrival.now.kind c.args.arrival.now.moment in
    let next = c.in-Some.ensures.next (terms_of rules) c.requires.offers c.rules.invariant.3 in
    let at = c.in-Some.ensures.at in
    let lt : place < length rules = offered_within rules c.rules.ahead.at place c.args.arrival.now.view.now c.args.arrival.now.addr.now next in
    let counts = held_counts n c.args.arrival.now.view.now c.args.arrival.now.addr.now (offered_may rules c.rules.ahead.at place c.args.arrival.now.view.now c.args.arrival.now.addr.now n next c.index-rules-place.is) in
    let more : c.rules.walked.tests + 1 ≡ c.rules.walked.tests + tests_of n c.args.arrival.now.view.now c.args.arrival.now.addr.now = omega (arith, counts) in
    let left : length c.rules.walked.passes + limiters_in (drop place rules) ≤ 16 = omega (arith, fewer rules c.rules.ahead.at place next.0, c.rules.invariant.1) in
    let room = walk_room rules place n c.args.arrival.now.view.now c.args.arrival.now.addr.now c.args.arrival.now.moment c.rules.walked.passes c.test_rule.new.passes c.requires.limiters lt c.index-rules-place.is left c.test_rule.ensures.passes in
    let here = walk_to rules c.rules.ahead.at place c.args.arrival.now.view.now c.args.arrival.now.addr.now c.args.arrival.now.kind c.args.arrival.now.moment c.rules.walked.no_recurse c.rules.walked.skip_cache c.rules.walked.passes c.rules.walked.tests _ next c.rules.invariant.2 in
    let no_recurse : Bool = c.rules.walked.no_recurse || c.is_no_recurse.result in
    let skip_cache : Bool = c.rules.walked.skip_cache || c.is_skip_cache.result in (
      omega (arith, at, lt),
      subst (λ (k : ℕ). length c.test_rule.new.passes + limiters_in (drop k rules) ≤ 16) (sym at) room,
      subst (λ (k : ℕ). with_before no_recurse skip_cache c.test_rule.new.passes (c.rules.walked.tests + 1) (walk_of (drop k rules) c.args.arrival.now.view.now c.args.arrival.now.addr.now c.args.arrival.now.kind c.args.arrival.now.moment) ≡ whole) (sym at)
          (next_goes_on rules place n c.args.arrival.now.view.now c.args.arrival.now.addr.now c.args.arrival.now.kind c.args.arrival.now.moment c.rules.walked.no_recurse c.rules.walked.skip_cache no_recurse skip_cache c.rules.walked.passes c.test_rule.new.passes c.rules.walked.tests (c.rules.walked.tests + 1) _ lt c.index-rules-place.is (sym c.test_rule.ensures.truth ∙ c.if-test_rule.true) (c.ends.ensures.open c.if-ends.false) c.test_rule.ensures.passes more
          (ap (λ (x : Bool). c.rules.walked.no_recurse || x) c.is_no_recurse.ensures) (ap (λ (x : Bool). c.rules.walked.skip_cache || x) c.is_skip_cache.ensures) here),
      c.in-Some.ensures.ahead (terms_of rules) c.requires.offers c.rules.invariant.3,
      omega (arith, at, next.0, c.rules.invariant.4),
      c.rules.invariant.5,
      c.ends.ensures.unwritten c.if-ends.false ∙ c.rules.invariant.6,
    )

pub rules-preserved : goal.rules-preserved
rules-preserved c =
    let rules = c.args.rules.now in
    let place = c.in-Some.place in
    let n = c.index-rules-place.result in
    let whole = walk_of rules c.args.arrival.now.view.now c.args.arrival.now.addr.now c.args.arrival.now.kind c.args.arrival.now.moment in
    let next = c.in-Some.ensures.next (terms_of rules) c.requires.offers c.rules.invariant.3 in
    let at = c.in-Some.ensures.at in
    let lt : place < length rules = offered_within rules c.rules.ahead.at place c.args.arrival.now.view.now c.args.arrival.now.addr.now next in
    let counts = held_counts n c.args.arrival.now.view.now c.args.arrival.now.addr.now (offered_may rules c.rules.ahead.at place c.args.arrival.now.view.now c.args.arrival.now.addr.now n next c.index-rules-place.is) in
    let more : c.rules.walked.tests + 1 ≡ c.rules.walked.tests + tests_of n c.args.arrival.now.view.now c.args.arrival.now.addr.now = omega (arith, counts) in
    let left : length c.rules.walked.passes + limiters_in (drop place rules) ≤ 16 = omega (arith, fewer rules c.rules.ahead.at place next.0, c.rules.invariant.1) in
    let room = walk_room rules place n c.args.arrival.now.view.now c.args.arrival.now.addr.now c.args.arrival.now.moment c.rules.walked.passes c.test_rule.new.passes c.requires.limiters lt c.index-rules-place.is left c.test_rule.ensures.passes in
    let here = walk_to rules c.rules.ahead.at place c.args.arrival.now.view.now c.args.arrival.now.addr.now c.args.arrival.now.kind c.args.arrival.now.moment c.rules.walked.no_recurse c.rules.walked.skip_cache c.rules.walked.passes c.rules.walked.tests _ next c.rules.invariant.2 in (
      omega (arith, at, lt),
      subst (λ (k : ℕ). length c.test_rule.new.passes + limiters_in (drop k rules) ≤ 16) (sym at) room,
      subst (λ (k : ℕ). with_before c.rules.walked.no_recurse c.rules.walked.skip_cache c.test_rule.new.passes (c.rules.walked.tests + 1) (walk_of (drop k rules) c.args.arrival.now.view.now c.args.arrival.now.addr.now c.args.arrival.now.kind c.args.arrival.now.moment) ≡ whole) (sym at)
          (next_fails rules place n c.args.arrival.now.view.now c.args.arrival.now.addr.now c.args.arrival.now.kind c.args.arrival.now.moment c.rules.walked.no_recurse c.rules.walked.skip_cache c.rules.walked.no_recurse c.rules.walked.skip_cache c.rules.walked.passes c.test_rule.new.passes c.rules.walked.tests (c.rules.walked.tests + 1) _ lt c.index-rules-place.is (sym c.test_rule.ensures.truth ∙ c.if-test_rule.false) c.test_rule.ensures.passes more refl refl here),
      c.in-Some.ensures.ahead (terms_of rules) c.requires.offers c.rules.invariant.3,
      omega (arith, at, next.0, c.rules.invariant.4),
      c.rules.invariant.5,
      c.rules.invariant.6,
    )

pub returns : goal.returns
returns c =
    let rules = c.args.rules.now in
    let walked = c.rules.walked in
    let next = c.in_default.ensures.next (terms_of rules) c.requires.offers c.rules.invariant.3 in
    not_ended walked c.rules.invariant.5 c.rules.invariant.6
    ∙ ends_behind rules (length rules) c.args.arrival.now.view.now c.args.arrival.now.addr.now c.args.arrival.now.kind c.args.arrival.now.moment walked.no_recurse walked.skip_cache walked.passes walked.tests _ refl
    (walk_to_end rules c.rules.ahead.at c.args.arrival.now.view.now c.args.arrival.now.addr.now c.args.arrival.now.kind c.args.arrival.now.moment walked.no_recurse walked.skip_cache walked.passes walked.tests _ c.rules.invariant.0 next c.rules.invariant.2)
