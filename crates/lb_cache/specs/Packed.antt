-- Kept replies in one block of octets each.
use Rattle.std.specs.Prelude.{ℕ, ◌+◌, ◌≤◌, List, length, take, drop}
use Rattle.lb_wire.specs.Octets.{max_message}
use Rattle.lb_wire.specs.declared.transport.Kind.{Kind}
use Rattle.lb_cache.specs.declared.reply.CachedReply.{CachedReply}

-- the reply with these octets, of which the first so many are its key's and the others its own
abbrev pub unpacked : Kind → List ℕ → ℕ → ℕ → ℕ → CachedReply
unpacked kind octets key_len moment life = record {
  key = record { kind = kind; octets = take key_len octets };
  bytes = drop key_len octets;
  moment = moment;
  life = life;
}

-- the key's octets are there, and after them no more than a message has
pub record IsPacked (octets : List ℕ) (key_len : ℕ) : Type 0 where
  pub key : key_len ≤ length octets
  pub bytes : length octets ≤ key_len + max_message
