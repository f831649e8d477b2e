-- The keys under which names are filed.
use Rattle.std.specs.Prelude.{◌≡◌, ℕ, List, [], ◌∷◌, ◌++◌, reverse}
use Rattle.std.specs.List.{flat_map}
use Rattle.lb_name.specs.Name.{label_octets, labels_of, lower_name, IsName, IsWire}

-- labels from the last to the first, each after its length
abbrev pub reversed_octets : List (List ℕ) → List ℕ
reversed_octets labels = flat_map label_octets (reverse labels)

-- the labels of a name in lower case from the root, each after its length: a name stands at or below another exactly
-- where its key begins with the other's
abbrev pub key_of : List (List ℕ) → List ℕ
key_of name = reversed_octets (lower_name name)

-- the labels of a key, from the first to the root
abbrev pub name_of : List ℕ → List (List ℕ)
name_of key = reverse (labels_of (key ++ 0 ∷ []))

-- a key of a name
pub record IsKey (key : List ℕ) : Type 0 where
  pub name : List (List ℕ)
  pub is_name : IsName (lower_name name)
  pub is : key ≡ key_of name

-- the first key that stands after all those that begin with this one: no label has 64 octets
abbrev pub end_of : List ℕ → List ℕ
end_of key = key ++ 64 ∷ []

-- the first label of a name on the wire with its length, and the name after it
pub record FirstOctets (wire octets rest : List ℕ) : Type 0 where
  pub label : List ℕ
  pub is : octets ≡ label_octets label
  pub first : labels_of wire ≡ label ∷ labels_of rest
  pub name : IsWire rest
  pub parts : wire ≡ octets ++ rest
