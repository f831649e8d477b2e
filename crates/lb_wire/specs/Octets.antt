-- How long a message may be.
use Rattle.std.specs.Prelude.{ℕ}

-- the most octets of a message: its length is told in two octets (RFC 1035 section 4.2.2, RFC 7766 section 8)
abbrev pub max_message : ℕ
max_message = 65535
