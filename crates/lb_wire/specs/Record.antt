-- Resource records (RFC 1035 sections 4.1.3 and 4.1.4).
use Rattle.std.specs.Prelude.{◌≡◌, ℕ, ◌+◌, ◌/◌, ◌%◌, ◌^◌, ◌<◌, ◌≤◌, List, [], ◌∷◌, ◌++◌, length, Option, None, Some, drop}
use Rattle.std.specs.List.{flat_map, AllByRecursion}
use Rattle.lb_name.specs.Name.{IsLabel, labels_octets}
use Rattle.lb_wire.specs.BigEndian.{two_octets, four_octets, number_at}
use Rattle.lb_wire.specs.declared.record.Spot.{Spot}

-- the owner of a record: labels, then the root or a pointer (section 4.1.4). The RFC has the pointer followed to the rest
-- of the name: here it is never followed, so that it may point anywhere, and the owner ends with it
pub record Owner : Type 0 where
  pub labels : List (List ℕ)
  pub pointer : Option ℕ

-- how an owner ends: a zero octet, or two octets whose top two bits are 11 and whose others are the pointer's place
abbrev pub end_octets : Option ℕ → List ℕ
end_octets None = 0 ∷ []
end_octets (Some place) = (192 + place / 2 ^ 8) ∷ place % 2 ^ 8 ∷ []

-- an owner on the wire
abbrev pub owner_octets : Owner → List ℕ
owner_octets owner = labels_octets owner.labels ++ end_octets owner.pointer

-- a pointer has 14 bits
abbrev pub IsPointer : Option ℕ → Type 0
IsPointer None = Unit {0}
IsPointer (Some place) = place < 2 ^ 14

-- an owner has labels, and at most 255 octets (section 2.3.4). The RFC bounds the name that it stands for: here it is what
-- stands there that counts, the pointer as two octets
pub record IsOwner (owner : Owner) : Type 0 where
  pub each : AllByRecursion IsLabel owner.labels
  pub pointer : IsPointer owner.pointer
  pub fits : length (owner_octets owner) ≤ 255

-- the octets begin with an owner, which takes so many of them
abbrev pub BeginsWithOwner : List ℕ → ℕ → Type 0
BeginsWithOwner octets len = (owner : Owner) × IsOwner owner × (len ≤ length octets) × (octets ≡ owner_octets owner ++ drop len octets) × (len ≡ length (owner_octets owner))

-- a record (section 4.1.3)
pub record Record : Type 0 where
  pub owner : Owner
  pub rtype : ℕ
  pub class : ℕ
  pub ttl : ℕ
  pub rdata : List ℕ

-- TYPE, CLASS, TTL and RDLENGTH on the wire
abbrev pub fixed_octets : Record → List ℕ
fixed_octets r = two_octets r.rtype ++ (two_octets r.class ++ (four_octets r.ttl ++ two_octets (length r.rdata)))

-- a record on the wire
abbrev pub record_octets : Record → List ℕ
record_octets r = owner_octets r.owner ++ (fixed_octets r ++ r.rdata)

-- the numbers of a record fit their octets
pub record IsRecord (r : Record) : Type 0 where
  pub owner : IsOwner r.owner
  pub rtype : r.rtype < 2 ^ 16
  pub class : r.class < 2 ^ 16
  pub ttl : r.ttl < 2 ^ 32
  pub rdata : length r.rdata < 2 ^ 16

-- a record stands at a place of the octets, and this is read of it: its type, its TTL, where its
-- TTL stands, and where it ends
abbrev pub IsReadAt : List ℕ → ℕ → Spot → Type 0
IsReadAt bytes at spot = (r : Record) × IsRecord r × (drop at bytes ≡ record_octets r ++ drop spot.end bytes) × (spot.rtype.0 ≡ r.rtype) × (spot.ttl ≡ r.ttl) × (spot.ttl_at ≡ at + length (owner_octets r.owner) + 4)

-- so many records stand at the front of the octets, and the rest after them
pub record Holds (count : ℕ) (octets : List ℕ) (records : List Record) (rest : List ℕ) : Type 0 where
  pub each : AllByRecursion IsRecord records
  pub number : length records ≡ count
  pub parts : octets ≡ flat_map record_octets records ++ rest

-- the place after the data of an RDLENGTH that stands at a place
abbrev pub end_at : ℕ → List ℕ → ℕ
end_at size_at bytes = size_at + 2 + number_at bytes size_at
