use Rattle.std.proofs.Common.{arith}
use Rattle.lb_wire.proofs.Aged.{SoFar-none, SoFar-more, SoFar-all, next_of}
use Rattle.lb_wire.proofs.aging.age_records.Goals as goal

pub records-init : goal.records-init
records-init c = (c.requires.within, λ records rest held lives. SoFar-none c.args.bytes.now c.args.at c.args.secs records rest c.requires.within held.each lives held.parts)

pub records-preserved : goal.records-preserved
records-preserved c = (
  omega (arith, c.age_record-place.ensures.within),
  λ records rest held lives. SoFar-more c.args.bytes.now c.records.bytes c.age_record-place.new.bytes c.args.at c.args.secs c.records.counter c.records.place c.age_record-place.result c.args.count records rest (c.records.invariant.1 records rest held lives) held.number c.records-test.true c.age_record-place.ensures.aged,
)

pub returns : goal.returns
returns c = λ records rest held lives. SoFar-all c.args.bytes.now c.records.bytes c.args.at c.args.secs c.records.counter c.records.place c.args.count records rest (c.records.invariant.1 records rest held lives) held.number (omega arith)

pub age_record-place-requires-clause-held : goal.age_record-place-requires-clause-held
age_record-place-requires-clause-held c =
    let held = c.requires.held in
    next_of c.args.bytes.now c.records.bytes c.args.at c.args.secs c.records.counter c.records.place c.args.count held.0 held.1 (c.records.invariant.1 held.0 held.1 held.2 held.3) held.2.number c.records-test.true
