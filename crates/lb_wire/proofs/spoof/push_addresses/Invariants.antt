use Rattle.std.proofs.Common.{◌≡◌, ◌+◌, ◌*◌, ◌≤◌, ◌++◌, length, take, vec_len}
use Rattle.std.specs.List.{flat_map}
use Rattle.lb_wire.specs.Record.{record_octets}
use Rattle.lb_wire.specs.Answer.{spoof_records}
use Rattle.lb_wire.proofs.spoof.push_addresses.Given as goal

-- the records of the addresses so far were appended and counted
abbrev pub invariant-loop-addr : goal.invariant-loop-addr
invariant-loop-addr l = record {
  few : l.number ≤ l.addr-index;
  short : vec_len l.answer ≤ vec_len l.fn.answer + 28 * l.addr-index;
  counted : l.number ≡ length (spoof_records l.qtype.0 (take l.addr-index l.addrs));
  octets : l.answer.items ≡ l.fn.answer.items ++ flat_map record_octets (spoof_records l.qtype.0 (take l.addr-index l.addrs));
}
