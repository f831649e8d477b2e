use Rattle.std.proofs.Common.{ℕ, ◌+◌, ◌-◌, length, ◌∙◌, ap}
use Rattle.lb_wire.specs.BigEndian.{four_octets}
use Rattle.lb_wire.specs.Record.{Record, owner_octets, record_octets}
use Rattle.lb_wire.proofs.Aged.{ttl_room, other_type, opt_type, record_ages, record_stays, read_there, record_end}
use Rattle.lb_wire.proofs.aging.age_record.Goals as goal

pub overflow_sub-spot : goal.overflow_sub-spot
overflow_sub-spot c =
    let found = c.in-Some.ensures.found in
    let held = c.requires.held in
    let same = read_there c.labels_go_on.ensures c.args.bytes.now c.args.at c.in-Some.spot.end found.0 held.0 held.1 found.1 held.2 found.2 held.3 in
    ttl_room found.0 held.0 c.args.secs _ _ same found.3 c.if-spot.true found.4 held.4

pub returns-then-spot-clause-aged : goal.returns-then-spot-clause-aged
returns-then-spot-clause-aged c = λ r rest is here.
    let found = c.in-Some.ensures.found in
    let same = read_there c.labels_go_on.ensures c.args.bytes.now c.args.at c.in-Some.spot.end found.0 r rest found.1 is found.2 here in
    let type_is = found.3 ∙ ap (λ (s : Record). s.rtype) same in
    let ttl_is = found.4 ∙ ap (λ (s : Record). s.ttl) same in
    let place = found.5 ∙ ap (λ (s : Record). c.args.at + length (owner_octets s.owner) + 4) same in
    let piece = c.to_be_bytes.ensures ∙ ap (λ (n : ℕ). four_octets (n - c.args.secs)) ttl_is in
    let ends = record_end c.args.bytes.now c.args.at c.in-Some.spot.end found.0 found.2 c.requires.within c.in-Some.ensures.within.0 ∙ ap (λ (s : Record). c.args.at + length (record_octets s)) same in
    (record_ages c.args.bytes.now _ _ c.args.at c.in-Some.spot.ttl_at c.args.secs r rest c.requires.within here (other_type r _ type_is c.if-spot.true) place piece c.overwrite.ensures, ends)

pub returns-else-spot-clause-aged : goal.returns-else-spot-clause-aged
returns-else-spot-clause-aged c = λ r rest is here.
    let found = c.in-Some.ensures.found in
    let same = read_there c.labels_go_on.ensures c.args.bytes.now c.args.at c.in-Some.spot.end found.0 r rest found.1 is found.2 here in
    let type_is = found.3 ∙ ap (λ (s : Record). s.rtype) same in
    let ends = record_end c.args.bytes.now c.args.at c.in-Some.spot.end found.0 found.2 c.requires.within c.in-Some.ensures.within.0 ∙ ap (λ (s : Record). c.args.at + length (record_octets s)) same in
    (record_stays c.args.bytes.now c.args.at c.args.secs r rest here (opt_type r _ type_is c.if-spot.false), ends)
