-- The first octets of a key in three numbers.
use Rattle.std.specs.Prelude.{◌≡◌, ℕ, zero, suc, ◌<◌, List, [], ◌∷◌, ◌++◌, take, drop, slice_index}
use Rattle.std.specs.Int.{from_be_bytes, to_be_bytes, w64}
use Rattle.std.specs.Ordering.{nat_cmp, ordering_then}
use Rattle.std.specs.declared.cmp.Ordering.{Ordering}
use Rattle.lb_index_ranks.specs.declared.front.Front.{Front}

-- so many octets from the front, zeros where there are fewer
abbrev pub padded : ℕ → List ℕ → List ℕ
padded zero octets = []
padded (suc n) [] = 0 ∷ padded n []
padded (suc n) (x ∷ octets) = x ∷ padded n octets

-- how many octets there are, and one more than so many where there are more
abbrev pub counted : ℕ → List ℕ → ℕ
counted zero [] = 0
counted zero (x ∷ octets) = 1
counted (suc n) [] = 0
counted (suc n) (x ∷ octets) = suc (counted n octets)

-- how many octets of a key stand in its front
abbrev pub front_len : ℕ
front_len = 23

-- the octets of a key's front, and how many there are
abbrev pub front_octets : List ℕ → List ℕ
front_octets key = padded 23 key ++ counted 23 key ∷ []

-- the three numbers of 24 octets
abbrev pub front_from : List ℕ → Front
front_from octets = record {
  first = from_be_bytes w64 (take 8 octets);
  second = from_be_bytes w64 (take 8 (drop 8 octets));
  third = from_be_bytes w64 (take 8 (drop 8 (drop 8 octets)));
}

-- the front of a key
abbrev pub front_of_key : List ℕ → Front
front_of_key key = front_from (front_octets key)

-- the octets of three numbers
abbrev pub octets_of_front : Front → List ℕ
octets_of_front front = to_be_bytes w64 front.first ++ (to_be_bytes w64 front.second ++ to_be_bytes w64 front.third)

-- the key of a front and the octets after it
abbrev pub key_from : Front → List ℕ → List ℕ
key_from front rest = take (slice_index (octets_of_front front) 23) (take 23 (octets_of_front front)) ++ rest

-- octets, each below 256
abbrev pub AreOctets : List ℕ → Type 0
AreOctets octets = (i : ℕ) → slice_index octets i < 256

-- the front and what is after it are those of their key
pub record IsPacked (front : Front) (rest : List ℕ) : Type 0 where
  pub front_is : front ≡ front_of_key (key_from front rest)
  pub rest_is : rest ≡ drop 23 (key_from front rest)
  pub octets : AreOctets (key_from front rest)

-- by the three numbers, one after the other
abbrev pub front_cmp : Front → Front → Ordering
front_cmp a b = ordering_then (nat_cmp a.first b.first) (ordering_then (nat_cmp a.second b.second) (nat_cmp a.third b.third))
