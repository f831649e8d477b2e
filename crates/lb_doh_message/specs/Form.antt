-- What a form's name or value stands for, where it may stand as it is.
use Rattle.std.specs.Prelude.{◌≡◌, ◌<◌, ◌≤◌, ℕ, List, length, Option, MatchOption}
use Rattle.std.specs.Borrow.{Bor}
use Rattle.form_urlencoded.specs.Form.{decode}

-- these are the octets that a name or a value stands for; none where they are more than there is room for
abbrev pub IsDecoded : List ℕ → ℕ → Option (Bor (List ℕ)) → Type 0
IsDecoded raw room found =
    MatchOption found (room < length (decode raw)) (λ octets. (octets.now ≡ decode raw) × (length octets.now ≤ room))
