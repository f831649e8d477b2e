-- Messages whose RD was cleared.
use Rattle.std.proofs.Common.{ℕ, ◌<◌, ◌^◌, List, ◌++◌, take, drop, ◌∙◌, ap, arith}
use Rattle.std.proofs.lemmas.Nat.{from_be_bytes-to_be_bytes_2}
use Rattle.lb_wire.specs.BigEndian.{two_octets}
use Rattle.lb_wire.specs.Flags.{without_rd}
use Rattle.lb_wire.specs.Message.{Message, Lays, message_octets}
use Rattle.lb_wire.specs.Query.{without_recursion, undesired}

-- flags with RD 0 are no greater
cleared_fits : (flags : ℕ) → flags < 2 ^ 16 → without_rd flags < 2 ^ 16
cleared_fits flags fits = omega (arith, fits)

-- octets with RD 0 are laid as the message with RD 0
pub cleared_laid : (bytes : List ℕ) (m : Message) → Lays bytes m → Lays (without_recursion bytes) (undesired m)
cleared_laid bytes m lays = record {
  header = record {
    id = lays.header.id;
    flags = cleared_fits m.header.flags.0 lays.header.flags;
    questions = lays.header.questions;
    answers = lays.header.answers;
    authorities = lays.header.authorities;
    additionals = lays.header.additionals;
  };
  questions = lays.questions;
  name = lays.name;
  qtype = lays.qtype;
  qclass = lays.qclass;
  each = lays.each;
  number = lays.number;
  parts =
      ap (λ (xs : List ℕ). without_recursion xs) lays.parts
      ∙ ap (λ (n : ℕ). take 2 (message_octets m) ++ (two_octets (without_rd n) ++ drop 4 (message_octets m))) (from_be_bytes-to_be_bytes_2 m.header.flags.0 lays.header.flags);
}
