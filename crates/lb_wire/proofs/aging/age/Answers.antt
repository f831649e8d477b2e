use Rattle.std.proofs.Common.{◌+◌, subst, arith}
use Rattle.std.specs.List.{AllByRecursion}
use Rattle.lb_wire.specs.Message.{Message}
use Rattle.lb_wire.specs.Aging.{Outlives}
use Rattle.lb_wire.proofs.Lays.{Opens, no_lays}
use Rattle.lb_wire.proofs.Aged.{age_held, age_made}
use Rattle.lb_wire.proofs.OneMessage.{one_layout}
use Rattle.lb_wire.proofs.aging.age.Goals as goal

pub age_records-requires-clause-held : goal.age_records-requires-clause-held
age_records-requires-clause-held c =
    let q = c.in-Some.ensures.found in
    let h = c.read_header-header in
    let opens : Opens c.args.bytes.now h.result q.0 c.in-Some.question_end = record { fits = h.ensures.fits; front = h.ensures.parts; asks = q.1 } in
    let held = age_held c.labels_go_on.ensures _ _ _ _ (c.from.result + c.from-2.result + c.from-3.result) c.requires.0 opens c.requires.1 (omega arith) in
    (_, _, held, c.requires.2)

pub returns : goal.returns
returns c = λ m lays.
    let q = c.in-Some.ensures.found in
    let h = c.read_header-header in
    let opens : Opens c.args.bytes.now h.result q.0 c.in-Some.question_end = record { fits = h.ensures.fits; front = h.ensures.parts; asks = q.1 } in
    let held = age_held c.labels_go_on.ensures _ _ _ _ (c.from.result + c.from-2.result + c.from-3.result) m opens lays (omega arith) in
    let P : Message → Type 0 = λ n. AllByRecursion (Outlives c.args.secs) n.records in
    let lives = subst P (one_layout c.labels_go_on.ensures _ c.requires.0 m c.requires.1 lays) c.requires.2 in
    age_made c.labels_go_on.ensures _ _ _ _ _ c.args.secs m opens q.2 lays (c.age_records.ensures m.records m.rest held lives)

pub unreachable-requires : goal.unreachable-requires
unreachable-requires c = no_lays _ c.in_default.ensures.none c.requires.0 c.requires.1
