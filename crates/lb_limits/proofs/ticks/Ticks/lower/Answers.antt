use Rattle.std.proofs.Common.{◌<◌, ◌-◌, List, length, ap, refl, arith, rules}
use Rattle.lb_limits.specs.declared.ticks.LastPasses.{LastPasses}
use Rattle.lb_limits.proofs.Tallies.{IsTickOf, tick_at, one_few, set_moments, set_tally, lowered_live}
use Rattle.lb_limits.proofs.ticks.Ticks.lower.Goals as goal

pub index_mut-requires : goal.index_mut-requires
index_mut-requires c =
    let ts : List LastPasses = c.args.self.now.list.items in
    let there : IsTickOf c.args.moment ts c.place_of-place.result = tick_at c.args.moment c.place_of-place.result ts c.as_slice.result.now c.requires.tally.order c.as_slice.ensures.value c.place_of-place.ensures c.requires.there in
    let lt : c.place_of-place.result < length ts = there.within in
    search rules

pub overflow_sub-index_mut : goal.overflow_sub-index_mut
overflow_sub-index_mut c =
    let ts : List LastPasses = c.args.self.now.list.items in
    let there : IsTickOf c.args.moment ts c.place_of-place.result = tick_at c.args.moment c.place_of-place.result ts c.as_slice.result.now c.requires.tally.order c.as_slice.ensures.value c.place_of-place.ensures c.requires.there in
    omega (arith, there.some c.index_mut.result.now, ap (λ (t : LastPasses). t.addresses) c.index_mut.ensures.value)

pub overflow_sub-self : goal.overflow_sub-self
overflow_sub-self c =
    let ts : List LastPasses = c.args.self.now.list.items in
    let there : IsTickOf c.args.moment ts c.place_of-place.result = tick_at c.args.moment c.place_of-place.result ts c.as_slice.result.now c.requires.tally.order c.as_slice.ensures.value c.place_of-place.ensures c.requires.there in
    omega (arith, there.some c.index_mut.result.now, one_few c.place_of-place.result ts c.index_mut.result.now there.within, c.requires.tally.total)

pub returns-clause-tally : goal.returns-clause-tally
returns-clause-tally c =
    let ts : List LastPasses = c.args.self.now.list.items in
    let there : IsTickOf c.args.moment ts c.place_of-place.result = tick_at c.args.moment c.place_of-place.result ts c.as_slice.result.now c.requires.tally.order c.as_slice.ensures.value c.place_of-place.ensures c.requires.there in
    let old : LastPasses = c.index_mut.result.now in
    set_tally c.args.self.now _ c.place_of-place.result (record { moment = old.moment; addresses = old.addresses - 1 }) old c.requires.tally there.within
    (ap (λ (t : LastPasses). t.moment) c.index_mut.ensures.value) refl
    (omega (arith, there.some old, one_few c.place_of-place.result ts old there.within, c.requires.tally.total, ap (λ (t : LastPasses). t.addresses) c.index_mut.ensures.value))
    (omega (arith, c.requires.tally.crowd))

pub returns-clause-moments : goal.returns-clause-moments
returns-clause-moments c =
    let old : LastPasses = c.index_mut.result.now in
    set_moments c.place_of-place.result c.args.self.now.list.items (record { moment = old.moment; addresses = old.addresses - 1 }) old (ap (λ (t : LastPasses). t.moment) c.index_mut.ensures.value)

pub returns-clause-live : goal.returns-clause-live
returns-clause-live c = λ later.
    let ts : List LastPasses = c.args.self.now.list.items in
    let there : IsTickOf c.args.moment ts c.place_of-place.result = tick_at c.args.moment c.place_of-place.result ts c.as_slice.result.now c.requires.tally.order c.as_slice.ensures.value c.place_of-place.ensures c.requires.there in
    let old : LastPasses = c.index_mut.result.now in
    lowered_live later c.args.moment c.place_of-place.result ts (record { moment = old.moment; addresses = old.addresses - 1 }) old there.within (there.at old)
    (ap (λ (t : LastPasses). t.moment) c.index_mut.ensures.value)
    (omega (arith, there.some old, ap (λ (t : LastPasses). t.addresses) c.index_mut.ensures.value))
