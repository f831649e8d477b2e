-- Record types, and their names in texts (the names are IANA's).
use Rattle.std.specs.Prelude.{ℕ, List, [], ◌∷◌, Option, option_map, bytes_eq, codes}
use Rattle.std.specs.List.{find}
use Rattle.lb_wire.specs.declared.record_type.RecordType.{RecordType}

-- the type with a number
abbrev pub type_of : ℕ → RecordType
type_of number = record { 0 = number }

-- the types that a text names (RFC 1035 sections 3.2.2 and 3.2.3, RFC 3596, RFC 2782)
abbrev pub type_names : List (RecordType × List ℕ)
type_names =
    (type_of 1, codes "A")
    ∷ (type_of 2, codes "NS")
    ∷ (type_of 5, codes "CNAME")
    ∷ (type_of 6, codes "SOA")
    ∷ (type_of 12, codes "PTR")
    ∷ (type_of 15, codes "MX")
    ∷ (type_of 16, codes "TXT")
    ∷ (type_of 28, codes "AAAA")
    ∷ (type_of 33, codes "SRV")
    ∷ (type_of 255, codes "ANY")
    ∷ []

-- the type that a text names
abbrev pub type_of_name : List ℕ → Option RecordType
type_of_name name = option_map (λ e. e.0) (find (λ e. bytes_eq e.1 name) type_names)
