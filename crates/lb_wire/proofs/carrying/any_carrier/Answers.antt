use Rattle.std.proofs.Common.{◌≡◌, ◌+◌, ℕ, false, length, ◌∙◌, ap, arith}
use Rattle.lb_wire.specs.Record.{owner_octets}
use Rattle.lb_wire.specs.Options.{data_at, is_carrier}
use Rattle.lb_wire.proofs.Aged.{other_type, opt_type, record_end}
use Rattle.lb_wire.proofs.OptStands.{data_long, data_there}
use Rattle.lb_wire.proofs.Carriers.{PastNone-none, PastNone-more, PastNone-all, PastNone-found, next_of, never_none, carrier_opt, carrier_other}
use Rattle.lb_wire.proofs.carrying.any_carrier.Goals as goal
use Rattle.lb_wire.proofs.carrying.any_carrier.Goals.{else-spot-via-then-spot+else-holds_listed_code, else-spot-via-else-spot}

pub records-init : goal.records-init
records-init c = (c.requires.within, λ records rest held. PastNone-none c.args.skips.now c.args.bytes.now c.args.at c.args.count records rest held)

pub records-preserved : goal.records-preserved
records-preserved c =
    let within = c.in-Some.ensures.within in
    let found = c.in-Some.ensures.found in
    let bytes = c.args.bytes.now in
    let skips = c.args.skips.now in
    let ends = record_end bytes c.records.place c.in-Some.spot.end found.0 found.2 c.records.invariant.0 within.0 in
    let none : is_carrier skips found.0 ≡ false =
    elim c.else-spot.branch [
      | else-spot-via-then-spot+else-holds_listed_code w ↦
          let behind = w.data_after.ensures in
          let place : w.data_after.result.size_at ≡ c.records.place + length (owner_octets found.0.owner) + 8 = omega (arith, behind.0, found.5) in
          let same = w.data_of.ensures ∙ ap (λ (end : ℕ). data_at w.data_after.result.size_at end bytes) behind.1 ∙ data_there bytes c.records.place c.in-Some.spot.end w.data_after.result.size_at found.0 found.2 ends place in
          carrier_opt skips w.data_of.result.now found.0 w.holds_listed_code.result (opt_type found.0 _ found.3 w.if-spot.true) same w.holds_listed_code.ensures ∙ w.if-holds_listed_code.false
      | else-spot-via-else-spot w ↦ carrier_other skips found.0 (other_type found.0 _ found.3 w.if-spot.false)
    ] in (
      within.0,
      λ records rest held.
          let past = c.records.invariant.1 records rest held in
          let first = next_of c.labels_go_on.ensures skips bytes c.records.place c.in-Some.spot.end c.records.counter c.args.count found.0 records rest past found.1 found.2 held.number c.records-test.true in
          PastNone-more skips bytes c.records.place c.in-Some.spot.end c.records.counter found.0 records rest past first none,
    )

pub returns : goal.returns
returns c = λ records rest held.
    PastNone-all c.args.skips.now c.args.bytes.now c.records.place c.records.counter c.args.count records rest (c.records.invariant.1 records rest held) held.number (omega arith)

pub returns-then-holds_listed_code : goal.returns-then-holds_listed_code
returns-then-holds_listed_code c = λ records rest held.
    let within = c.in-Some.ensures.within in
    let found = c.in-Some.ensures.found in
    let bytes = c.args.bytes.now in
    let skips = c.args.skips.now in
    let ends = record_end bytes c.records.place c.in-Some.spot.end found.0 found.2 c.records.invariant.0 within.0 in
    let behind = c.data_after.ensures in
    let place : c.data_after.result.size_at ≡ c.records.place + length (owner_octets found.0.owner) + 8 = omega (arith, behind.0, found.5) in
    let same = c.data_of.ensures ∙ ap (λ (end : ℕ). data_at c.data_after.result.size_at end bytes) behind.1 ∙ data_there bytes c.records.place c.in-Some.spot.end c.data_after.result.size_at found.0 found.2 ends place in
    let holds = carrier_opt skips c.data_of.result.now found.0 c.holds_listed_code.result (opt_type found.0 _ found.3 c.if-spot.true) same c.holds_listed_code.ensures ∙ c.if-holds_listed_code.true in
    let past = c.records.invariant.1 records rest held in
    let first = next_of c.labels_go_on.ensures skips bytes c.records.place c.in-Some.spot.end c.records.counter c.args.count found.0 records rest past found.1 found.2 held.number c.records-test.true in
    PastNone-found skips bytes c.records.place c.in-Some.spot.end c.records.counter found.0 records rest past first holds

pub data_of-requires : goal.data_of-requires
data_of-requires c =
    let within = c.in-Some.ensures.within in
    let found = c.in-Some.ensures.found in
    let behind = c.data_after.ensures in
    let ends = behind.1 ∙ record_end c.args.bytes.now c.records.place c.in-Some.spot.end found.0 found.2 c.records.invariant.0 within.0 in
    let place : c.data_after.result.size_at ≡ c.records.place + length (owner_octets found.0.owner) + 8 = omega (arith, behind.0, found.5) in
    let long = data_long c.args.bytes.now c.records.place c.data_after.result.end c.data_after.result.size_at found.0 ends place found.1 in
    (long.0, omega (arith, behind.1, within.0))

pub unreachable-requires : goal.unreachable-requires
unreachable-requires c =
    let held = c.requires.held in
    never_none c.args.skips.now c.args.bytes.now c.records.place c.records.counter c.args.count held.0 held.1 (c.records.invariant.1 held.0 held.1 held.2) held.2.number c.records-test.true c.in_default.ensures.none
