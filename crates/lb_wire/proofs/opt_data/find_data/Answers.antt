use Rattle.std.proofs.Common.{◌≡◌, ◌+◌, ℕ, length, sym, subst, ◌∙◌, ap, arith}
use Rattle.lb_wire.specs.Record.{owner_octets, end_at}
use Rattle.lb_wire.specs.Options.{DataStands}
use Rattle.lb_wire.proofs.Aged.{other_type, opt_type, record_end}
use Rattle.lb_wire.proofs.OptStands.{PastOthers-none, PastOthers-more, first_of, no_first_of, some_todo, stands, data_long}
use Rattle.lb_wire.proofs.opt_data.find_data.Goals as goal

pub records-init : goal.records-init
records-init c = (c.requires.within, λ records rest held. (0, PastOthers-none c.args.bytes.now c.args.at records rest held.each held.parts))

pub records-preserved : goal.records-preserved
records-preserved c =
    let within = c.in-Some.ensures.within in
    let found = c.in-Some.ensures.found in
    let bytes = c.args.bytes.now in
    let ends = record_end bytes c.records.place c.in-Some.spot.end found.0 found.2 c.records.invariant.0 within.0 in (
      within.0,
      λ records rest held.
          let past = c.records.invariant.1 records rest held in
          let first = first_of c.labels_go_on.ensures bytes c.records.place c.in-Some.spot.end found.0 past.1.todo rest found.1 found.2 past.1.each past.1.there (some_todo past.1.before past.1.todo records past.1.whole past.1.none held.some) in (
            past.0 + 1,
            PastOthers-more bytes c.args.at c.records.place c.in-Some.spot.end past.0 found.0 records rest past.1 first found.2 ends (other_type found.0 _ found.3 c.if-spot.false),
          ),
    )

pub unreachable-requires : goal.unreachable-requires
unreachable-requires c =
    let held = c.requires.held in
    let past = c.records.invariant.1 held.0 held.1 held.2 in
    no_first_of c.args.bytes.now c.records.place past.1.todo held.1 past.1.each past.1.there (some_todo past.1.before past.1.todo held.0 past.1.whole past.1.none held.2.some) c.in_default.ensures.none

pub returns-then-spot-clause-within : goal.returns-then-spot-clause-within
returns-then-spot-clause-within c =
    let within = c.in-Some.ensures.within in
    let found = c.in-Some.ensures.found in
    let behind = c.data_after.ensures in
    let ends = behind.1 ∙ record_end c.args.bytes.now c.records.place c.in-Some.spot.end found.0 found.2 c.records.invariant.0 within.0 in
    let place : c.data_after.result.size_at ≡ c.records.place + length (owner_octets found.0.owner) + 8 = omega (arith, behind.0, found.5) in
    let long = data_long c.args.bytes.now c.records.place c.data_after.result.end c.data_after.result.size_at found.0 ends place found.1 in
    (omega arith, long.0, omega (arith, behind.1, within.0), long.1)

pub returns-then-spot-clause-found : goal.returns-then-spot-clause-found
returns-then-spot-clause-found c = λ records rest held.
    let within = c.in-Some.ensures.within in
    let found = c.in-Some.ensures.found in
    let behind = c.data_after.ensures in
    let bytes = c.args.bytes.now in
    let ends = record_end bytes c.records.place c.in-Some.spot.end found.0 found.2 c.records.invariant.0 within.0 in
    let past = c.records.invariant.1 records rest held in
    let first = first_of c.labels_go_on.ensures bytes c.records.place c.in-Some.spot.end found.0 past.1.todo rest found.1 found.2 past.1.each past.1.there (some_todo past.1.before past.1.todo records past.1.whole past.1.none held.some) in
    subst (λ (end : ℕ). DataStands bytes c.args.at records rest c.data_after.result.size_at end) (sym behind.1)
    (stands bytes c.args.at c.records.place c.in-Some.spot.end past.0 found.0 records rest c.data_after.result.size_at past.1 first found.2 ends c.requires.within (omega (arith, behind.0, found.5)) (opt_type found.0 _ found.3 c.if-spot.true))

pub returns-then-spot-clause-sized : goal.returns-then-spot-clause-sized
returns-then-spot-clause-sized c = c.data_after.ensures.1 ∙ c.in-Some.ensures.sized ∙ ap (λ (place : ℕ). end_at place c.args.bytes.now) (sym c.data_after.ensures.0)
