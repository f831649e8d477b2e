-- Slots by the keys of the replies in them.
use Rattle.std.specs.Prelude.{if◌then◌else◌, ◌≡◌, ℕ, zero, suc, ◌/◌, ◌%◌, Bool, not, ◌==◌, ◌&&◌, nat_lt, List, [], ◌∷◌, ◌++◌, drop, map, Contains, Option, None, Some}
use Rattle.std.specs.FinMap.Entries.{put, where_key}
use Rattle.std.specs.Ordering.{eq_by_cmp}
use Rattle.lb_wire.specs.declared.key.Key.{Key}
use Rattle.lb_wire.specs.declared.transport.Kind.{Kind}
use Rattle.lb_wire.specs.declared.transport.Kind.TheVariants.{Datagram, Stream}
use Rattle.lb_index_ranks.specs.declared.filed.Filed.{Filed}
use Rattle.lb_index_ranks.specs.Filed.{filed_at, is_before}
use Rattle.lb_suffix.specs.Key.{key_of}
use Rattle.lb_cache.specs.Question.{question_of_key}
use Rattle.lb_cache.specs.Reply.{cmp_key}

-- the key of this transport with these octets
abbrev pub key_with : Kind → List ℕ → Key
key_with kind octets = record { kind = kind; octets = octets }

-- the other keys
abbrev pub without_key : Key → List (Key × ℕ) → List (Key × ℕ)
without_key key = where_key cmp_key (λ k. not (eq_by_cmp cmp_key key k))

-- the slots, in the order of the keys
abbrev pub slots_of : List (Key × ℕ) → List ℕ
slots_of = map (λ e. e.1)

-- a zero after the labels of a name, its type, and a zero
abbrev pub type_octets : ℕ → List ℕ
type_octets rtype = 0 ∷ rtype / 256 ∷ rtype % 256 ∷ 0 ∷ []

-- what stands before a key's octets where it is filed: its question's name from the root in lower case and its type, so that
-- the keys of a name, and those of the names below it, stand together; no label has 255 octets
abbrev pub head_of : Option (List (List ℕ) × ℕ) → List ℕ
head_of None = 255 ∷ []
head_of (Some question) = key_of question.0 ++ type_octets question.1

abbrev pub filed_as : List ℕ → List ℕ
filed_as octets = head_of (question_of_key octets) ++ octets

-- the octets after a head, so many octets of a label being left
abbrev pub behind : ℕ → List ℕ → List ℕ
behind left [] = []
behind (suc left) (octet ∷ octets) = behind left octets
behind zero (octet ∷ octets) = if octet == 0 then drop 3 octets else (if nat_lt octet 64 then behind octet octets else octets)

-- a filed pair as a key of this transport with its slot
abbrev pub entry_of : Kind → Filed → Key × ℕ
entry_of kind f = (key_with kind (behind 0 f.key), f.rank)

-- entries in the order of their keys
abbrev pub in_order : List (Key × ℕ) → List (Key × ℕ)
in_order [] = []
in_order (e ∷ entries) = put cmp_key e.0 e.1 (in_order entries)

-- the keys with their slots, in the order of the keys
abbrev pub entries_of : List Filed → List Filed → List (Key × ℕ)
entries_of datagrams streams = in_order (map (entry_of Datagram) datagrams ++ map (entry_of Stream) streams)

-- each pair is filed as its key is, and no key has two slots
pub record AreKeys (items : List Filed) : Type 0 where
  pub each : (f : Filed) → Contains items f → f.key ≡ filed_as (behind 0 f.key)
  pub once : (f g : Filed) → Contains items f → Contains items g → f.key ≡ g.key → f.rank ≡ g.rank

-- whether a pair's key stands at or after the one and before the other
abbrev pub is_filed_within : List ℕ → List ℕ → Filed → Bool
is_filed_within low high f = not (is_before (filed_at low 0) f) && is_before (filed_at high 0) f

-- whether a key's octets are filed there
abbrev pub is_within : List ℕ → List ℕ → List ℕ → Bool
is_within low high octets = is_filed_within low high (filed_at (filed_as octets) 0)
