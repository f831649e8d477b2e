-- The variable of a GET (RFC 8484 sections 4.1 and 6).
use Rattle.std.specs.Prelude.{◌≡◌, ℕ, List, [], ◌∷◌, codes, bytes_eq, map, filter, Option, None, Some}
use Rattle.std.specs.Borrow.{Bor}
use Rattle.form_urlencoded.specs.Form.{parse, decode}

-- the name of the variable that carries the message
abbrev pub dns : List ℕ
dns = codes "dns"

-- the values of the variable `dns` among the pairs of a form, in order; names and values are the octets that they stand for
abbrev pub values_in : List (List ℕ × List ℕ) → List (List ℕ)
values_in pairs = map (λ pair. pair.1) (filter (λ pair. bytes_eq pair.0 dns) pairs)

-- the query has exactly one variable `dns`, and this is its value
abbrev pub IsOnlyValue : List ℕ → List ℕ → Type 0
IsOnlyValue query value = values_in (parse query) ≡ value ∷ []

-- the query has no variable `dns`, or several
abbrev pub HasNoOnlyValue : List ℕ → Type 0
HasNoOnlyValue query = (value : List ℕ) → IsOnlyValue query value → ⊥

-- the value found so far, as a list
abbrev pub found : Option (Bor (List ℕ)) → List (List ℕ)
found None = []
found (Some raw) = decode raw.now ∷ []
