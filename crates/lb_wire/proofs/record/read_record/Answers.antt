use Rattle.std.proofs.Common.{◌≡◌, ◌+◌, drop, take, length, refl, ◌∙◌, ap, ℕ, arith}
use Rattle.std.proofs.lemmas.List.{length-take-le, length-drop}
use Rattle.lb_wire.proofs.Holds.{number_there, record_there, no_record_fixed, no_record_data}
use Rattle.lb_wire.specs.BigEndian.{number_at}
use Rattle.lb_wire.proofs.OptionLaws.{number_is}
use Rattle.lb_wire.proofs.record.read_record.Goals as goal

pub returns-then-bytes-fixed-lt-FIXED_LEN-clause-none : goal.returns-then-bytes-fixed-lt-FIXED_LEN-clause-none
returns-then-bytes-fixed-lt-FIXED_LEN-clause-none c =
    let found = c.in_ok-fixed.ensures.found in
    let at_owner = rw c.split_at.ensures.back at found.3 in
    no_record_fixed c.labels_go_on.ensures _ _ _ _ found.1 at_owner c.if-bytes-fixed-lt-FIXED_LEN.true

pub returns-then-bytes-end-clause-none : goal.returns-then-bytes-end-clause-none
returns-then-bytes-end-clause-none c =
    let found = c.in_ok-fixed.ensures.found in
    let at_owner = rw c.split_at.ensures.back at found.3 in
    no_record_data c.labels_go_on.ensures c.args.bytes.now c.args.at c.in_ok-fixed.field-0 c.read_u16-2.result found.0 found.1 at_owner c.read_u16-2.type_inv c.read_u16-2.ensures (omega arith) (omega arith)

pub returns-clause-found : goal.returns-clause-found
returns-clause-found c =
    let found = c.in_ok-fixed.ensures.found in
    let at_owner = rw c.split_at.ensures.back at found.3 in
    let len = c.in_ok-fixed.field-0 in
    let bytes = c.args.bytes.now in
    let class = number_there bytes (c.args.at + len + 2) (λ i. omega (arith, c.type_inv.bytes i)) (omega arith) in
    let size = c.read_u16-2.result in
    let there = record_there bytes c.args.at len (c.args.at + len + 10 + c.from.result) found.0 c.read_u16.result class.0 c.read_u32-ttl.result size at_owner c.read_u16.ensures class.2 c.read_u32-ttl.ensures c.read_u16-2.ensures (omega arith) (omega arith) in
    let long : length (take size (drop (c.args.at + len + 10) bytes)) ≡ size = length-take-le size (drop (c.args.at + len + 10) bytes) (omega (arith, length-drop (c.args.at + len + 10) bytes)) in (
      record { owner = found.0; rtype = c.read_u16.result; class = class.0; ttl = c.read_u32-ttl.result; rdata = take size (drop (c.args.at + len + 10) bytes) },
      record { owner = found.1; rtype = c.read_u16.type_inv; class = class.1; ttl = c.read_u32-ttl.type_inv; rdata = omega arith },
      there,
      refl,
      refl,
      omega (arith, found.4),
    )

pub returns-clause-sized : goal.returns-clause-sized
returns-clause-sized c =
    let bytes = c.args.bytes.now in
    let fixed = c.args.at + c.in_ok-fixed.field-0 in
    let place : fixed + 4 + 4 ≡ fixed + 8 = omega arith in
    let size = ap (λ (at : ℕ). number_at bytes at) place ∙ number_is bytes (drop (fixed + 8 + 2) bytes) (fixed + 8) c.read_u16-2.result c.read_u16-2.type_inv c.read_u16-2.ensures in
    omega (arith, size)
