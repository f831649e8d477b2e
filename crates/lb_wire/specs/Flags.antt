-- The flags of a message (RFC 1035 section 4.1.1; CD by RFC 4035 section 3.2.2).
use Rattle.std.specs.Prelude.{ℕ, ◌+◌, ◌-◌, ◌*◌, ◌/◌, ◌%◌, ◌^◌}

-- what each field counts for: the value of its last bit
abbrev pub qr : ℕ
qr = 2 ^ 15

abbrev pub opcode_unit : ℕ
opcode_unit = 2 ^ 11

abbrev pub tc : ℕ
tc = 2 ^ 9

abbrev pub rd : ℕ
rd = 2 ^ 8

abbrev pub ra : ℕ
ra = 2 ^ 7

abbrev pub cd : ℕ
cd = 2 ^ 4

-- Opcode: four bits
abbrev pub opcode_of : ℕ → ℕ
opcode_of flags = flags / opcode_unit % 2 ^ 4

-- TC: the message is truncated
abbrev pub tc_of : ℕ → ℕ
tc_of flags = flags / tc % 2

-- RCODE: four bits
abbrev pub rcode_of : ℕ → ℕ
rcode_of flags = flags % 2 ^ 4

-- RD: recursion is desired
abbrev pub rd_of : ℕ → ℕ
rd_of flags = flags / rd % 2

-- CD: checking is disabled
abbrev pub cd_of : ℕ → ℕ
cd_of flags = flags / cd % 2

-- the flags of a made answer: QR 1, Opcode kept, AA 0, TC as stated, RD kept, RA equal to RD, Z 0, AD 0, CD kept, the
-- stated RCODE
abbrev pub answer_flags : ℕ → ℕ → ℕ → ℕ
answer_flags flags truncated rcode = qr + opcode_of flags * opcode_unit + truncated * tc + rd_of flags * (rd + ra) + cd_of flags * cd + rcode

-- the flags with RD 0, and every other bit as it is
abbrev pub without_rd : ℕ → ℕ
without_rd flags = flags - rd_of flags * rd
