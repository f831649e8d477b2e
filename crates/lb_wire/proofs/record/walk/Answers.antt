use Rattle.std.proofs.Common.{◌≡◌, ℕ, ◌+◌, ◌-◌, [], ◌∷◌, ◌++◌, sym, ◌∙◌, ap, arith}
use Rattle.lb_wire.specs.Tally.{tally_of, tally_of_one, both_of}
use Rattle.lb_wire.specs.declared.tally.Tally.{Tally}
use Rattle.lb_wire.proofs.Holds.{Holds-more, LeavesOf-more, LeavesOf-none}
use Rattle.lb_wire.proofs.Tallies.{tally_of-append, tally_of-one}
use Rattle.lb_wire.proofs.record.walk.Goals as goal

pub records-preserved : goal.records-preserved
records-preserved c =
    let held = c.records.invariant.1 in
    let found = c.in_ok-spot.ensures.found in
    let r = found.0 in
    let here : c.of_record.result ≡ tally_of (r ∷ []) =
    c.of_record.ensures ∙ ap (λ (n : ℕ). tally_of_one n c.in_ok-spot.spot.ttl) found.3 ∙ ap (λ (n : ℕ). tally_of_one r.rtype n) found.4 ∙ sym (tally_of-one r) in
    let all : c.and-tally.result ≡ tally_of (held.0 ++ r ∷ []) =
    c.and-tally.ensures ∙ ap (λ (t : Tally). both_of t c.of_record.result) held.2 ∙ ap (λ (t : Tally). both_of (tally_of held.0) t) here ∙ sym (tally_of-append held.0 (r ∷ [])) in
    let less : c.args.count - c.records.counter - 1 ≡ c.args.count - (c.records.counter + 1) = omega arith in
    let leaves = LeavesOf-more c.labels_go_on.ensures c.args.count (c.args.count - c.records.counter) _ _ _ r c.records.invariant.2 (omega arith) found.1 found.2 in (
      c.in_ok-spot.ensures.within.0,
      (held.0 ++ r ∷ [], Holds-more _ _ _ _ _ r held.1 found.1 found.2, all),
      rw less at leaves,
    )

pub returns-in_err-spot-clause-none : goal.returns-in_err-spot-clause-none
returns-in_err-spot-clause-none c = rw c.from_residual.ensures (LeavesOf-none c.args.count (c.args.count - c.records.counter) _ _ c.records.invariant.2 (omega arith) c.in_err-spot.ensures.none)
