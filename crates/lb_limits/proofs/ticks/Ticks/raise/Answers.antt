use Rattle.std.proofs.Common.{◌≡◌, ◌<◌, ◌+◌, List, length, ap, refl, arith, rules, ◌∙◌}
use Rattle.lb_limits.specs.declared.ticks.LastPasses.{LastPasses}
use Rattle.lb_limits.specs.declared.ticks.Ticks.{Ticks}
use Rattle.lb_limits.proofs.Tallies.{Raised, raised_tally, raised_set, raised_push, place_now, place_end}
use Rattle.lb_limits.proofs.ticks.Ticks.raise.Goals as goal
use Rattle.lb_limits.proofs.ticks.Ticks.raise.Goals.{then-place-len, else-place-len}

raised : (c : goal.After-self-2-1) → Raised c.args.now c.args.self.now c.if-place-len.self
raised c =
    let ts : List LastPasses = c.args.self.now.list.items in
    let size : c.len.result ≡ length ts = omega (arith, c.len.ensures, c.as_slice.ensures.len, ap (λ (xs : List LastPasses). length xs) c.as_slice.ensures.value) in
    elim c.if-place-len.branch [
      | then-place-len w ↦
          let old : LastPasses = w.index_mut.result.now in
          let lt : c.place_of-place.result < length ts = omega (arith, w.if-place-len.true, size) in
          raised_set c.args.now c.place_of-place.result c.args.self.now c.if-place-len.self (record { moment = old.moment; addresses = old.addresses + 1 }) old c.requires.tally c.requires.past lt
          (place_now c.args.now c.place_of-place.result ts c.as_slice.result.now old c.as_slice.ensures.value c.place_of-place.ensures c.requires.past lt)
          (ap (λ (t : LastPasses). t.moment) w.index_mut.ensures.value) (ap (λ (t : LastPasses). t.addresses + 1) w.index_mut.ensures.value)
          (ap (λ (t : Ticks). t.list.items) w.self-is) (ap (λ (t : Ticks). t.total) w.self-is)
      | else-place-len w ↦
          raised_push c.args.now c.args.self.now c.if-place-len.self (record { moment = c.args.now; addresses = 1 }) c.requires.tally
          (place_end c.args.now c.place_of-place.result ts c.as_slice.result.now c.as_slice.ensures.value c.place_of-place.ensures (omega (arith, w.if-place-len.false, size))) c.requires.recent refl refl
          (ap (λ (t : Ticks). t.list.items) w.self-is ∙ search rules) (ap (λ (t : Ticks). t.total) w.self-is)
    ]

pub returns-clause-tally : goal.returns-clause-tally
returns-clause-tally c = raised_tally c.args.now c.args.self.now c.if-place-len.self (raised c) c.requires.crowd

pub returns-clause-past : goal.returns-clause-past
returns-clause-past c = (raised c).past

pub returns-clause-live : goal.returns-clause-live
returns-clause-live c = (raised c).live
