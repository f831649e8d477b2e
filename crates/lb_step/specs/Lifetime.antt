-- How long a reply lives in a cache (RFC 2308 sections 5 and 7 for what says that a name is not there, or that a server failed).
use Rattle.std.specs.Prelude.{if◌then◌else◌, ◌≡◌, ℕ, Bool, true, false, not, ◌==◌, ◌&&◌, min, List, Option, None, Some}
use Rattle.lb_wire.specs.Numbers.{opcode_number}
use Rattle.lb_wire.specs.Message.{Message, Lays}
use Rattle.lb_wire.specs.Opt.{least_ttl}
use Rattle.lb_wire.specs.Options.{carries_of}
use Rattle.lb_wire.specs.declared.rcode.Rcode.{Rcode}
use Rattle.lb_wire.specs.declared.rcode.Rcode.TheVariants as rcodes
use Rattle.lb_wire.specs.declared.reply.ReplyView.{ReplyView}

-- the longest that a failure lives, in seconds
abbrev pub max_failure : ℕ
max_failure = 60

-- the longest that a negative reply lives, in seconds (RFC 2308 section 5: one to three hours)
abbrev pub max_negative : ℕ
max_negative = 3600

-- whether a reply with this RCODE and so many answer records is negative: it says that a name or a
-- type is not there (RFC 2308 section 2)
abbrev pub is_negative : Rcode → ℕ → Bool
is_negative rcodes.NXDomain answers = true
is_negative rcodes.NoError answers = answers == 0
is_negative _ answers = false

-- the longest that a reply lives, negative or not, in a cache with this longest life
abbrev pub longest_by : ℕ → Bool → ℕ
longest_by max_ttl true = min max_ttl max_negative
longest_by max_ttl false = max_ttl

-- the lesser of a number and a time to live; another number where there is no time to live
abbrev pub least_of : ℕ → ℕ → Option ℕ → ℕ
least_of most missing None = missing
least_of most missing (Some ttl) = min ttl most

-- the seconds that a reply with this RCODE and so many answer records lives, by the least TTL of its
-- records other than OPT, in a cache with this longest life; 0 if it is not to be kept
abbrev pub life_by : ℕ → ℕ → Rcode → Option ℕ → ℕ
life_by max_ttl answers rcodes.NoError least = least_of (longest_by max_ttl (is_negative rcodes.NoError answers)) 0 least
life_by max_ttl answers rcodes.NXDomain least = least_of (longest_by max_ttl (is_negative rcodes.NXDomain answers)) 0 least
life_by max_ttl answers rcodes.ServFail least = least_of max_failure max_failure least
life_by max_ttl answers rcodes.Refused least = least_of max_failure max_failure least
life_by max_ttl answers _ least = 0

-- whether the header of a reply lets it be kept: its opcode is 0, and it is whole
abbrev pub is_keepable : ReplyView → Bool
is_keepable view = opcode_number view.opcode == 0 && not view.truncated

-- the seconds that a reply with these parts lives, in a cache with this longest life that lists these
-- codes; 0 if it is not to be kept, as when it has no such parts, or when one of its OPT records holds
-- an option of a listed code
abbrev pub life_of : ℕ → List ℕ → ReplyView → Option Message → ℕ
life_of max_ttl skips view None = 0
life_of max_ttl skips view (Some m) =
    if is_keepable view && not (carries_of skips m) then life_by max_ttl m.header.answers view.rcode (least_ttl m.records) else 0

-- the parts of the message that octets are; None if they are no message
abbrev pub HasParts : List ℕ → Option Message → Type 0
HasParts bytes (Some m) = Lays bytes m
HasParts bytes None = (m : Message) → Lays bytes m → ⊥

-- the seconds that a reply of these octets, which read so, lives in a cache with this longest life that
-- lists these codes
abbrev pub LivesFor : ℕ → List ℕ → List ℕ → ReplyView → ℕ → Type 0
LivesFor max_ttl skips bytes view life = (parts : Option Message) × HasParts bytes parts × (life ≡ life_of max_ttl skips view parts)
