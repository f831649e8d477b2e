-- What a value spells in base64url, and what could be a query (RFC 8484 section 6, RFC 4648 section 5, RFC 1035 section 4.1.1).
use Rattle.std.specs.Prelude.{◌≡◌, ℕ, ◌≤◌, ◌<◌, List, length, slice_index, codes, Vec, Result, Ok, Err}
use Rattle.std.specs.declared.alloc.Global.{Global}
use Rattle.base64.specs.Rfc4648.{encode_symbols}
use Rattle.base64.specs.GeneralPurpose.{IsBytes}
use Rattle.lb_wire.specs.Octets.{max_message}
use Rattle.lb_doh_message.specs.declared.fault.DohFault.{DohFault}
use Rattle.lb_doh_message.specs.declared.fault.DohFault.TheVariants.{BadRequest, NoMemory}

-- the symbols of base64url, each at its number (RFC 4648 section 5)
abbrev pub symbols : List ℕ
symbols = codes "ABCDEFGHIJKLMNOPQRSTUVWXYZabcdefghijklmnopqrstuvwxyz0123456789-_"

-- the text is octets in base64url, without padding and with zero bits after the last octet (RFC 8484 section 6)
pub record IsBase64Url (text octets : List ℕ) : Type 0 where
  pub are_octets : IsBytes octets
  pub spells : text ≡ encode_symbols symbols octets

-- the text is no octets in base64url
abbrev pub StandsForNone : List ℕ → Type 0
StandsForNone text = (octets : List ℕ) → IsBase64Url text octets → ⊥

-- octets with a header (RFC 1035 section 4.1.1) in which QR is 0
pub record IsQueryLike (octets : List ℕ) : Type 0 where
  pub long : 12 ≤ length octets
  pub query : slice_index octets 2 < 128

-- the value of a variable stands for a message
pub record StandsFor (value octets : List ℕ) : Type 0 where
  pub in_base64url : IsBase64Url value octets
  pub short : length octets ≤ max_message
  pub like : IsQueryLike octets

-- what a value is read as: the message that it stands for; no message; or it stands for one, and memory was lacking
abbrev pub ReadsValue : List ℕ → Result (Vec ℕ Global) DohFault → Type 0
ReadsValue value (Ok message) = StandsFor value message.items
ReadsValue value (Err BadRequest) = (octets : List ℕ) → StandsFor value octets → ⊥
ReadsValue value (Err NoMemory) = (octets : List ℕ) × StandsFor value octets
ReadsValue value (Err _) = ⊥
