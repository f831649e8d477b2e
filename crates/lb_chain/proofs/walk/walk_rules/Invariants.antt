use Rattle.std.proofs.Common.{◌≡◌, ◌+◌, ◌-◌, ◌≤◌, length, drop, None}
use Rattle.lb_chain.specs.declared.walked.Verdict.TheVariants.{Allow}
use Rattle.lb_chain.specs.Ahead.{IsAhead}
use Rattle.lb_chain.specs.Edits.{limiters_in}
use Rattle.lb_chain.specs.Walk.{walk_of, with_before}
use Rattle.lb_chain.proofs.walk.walk_rules.Given as goal

abbrev pub invariant-rules : goal.invariant-rules
invariant-rules l =
    (l.ahead.at ≤ length l.rules)
    × (length l.walked.passes + limiters_in (drop l.ahead.at l.rules) ≤ 16)
    × (with_before l.walked.no_recurse l.walked.skip_cache l.walked.passes l.walked.tests (walk_of (drop l.ahead.at l.rules) l.arrival.view.now l.arrival.addr.now l.arrival.kind l.arrival.moment) ≡ walk_of l.rules l.arrival.view.now l.arrival.addr.now l.arrival.kind l.arrival.moment)
    × IsAhead l.offers l.arrival.view.now l.arrival.addr.now l.ahead
    × (l.walked.tests ≤ l.ahead.at)
    × (l.walked.rule ≡ None)
    × (l.walked.verdict ≡ Allow)

abbrev pub decreases-rules : goal.decreases-rules
decreases-rules l = length l.rules - l.ahead.at
