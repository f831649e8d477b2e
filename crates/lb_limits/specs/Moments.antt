-- The moments of passes, as numbers.
use Rattle.std.specs.Prelude.{ℕ, ◌+◌, Bool, false, nat_lt, List, Option, Some, None}
use Rattle.std.specs.List.{filter}

-- a moment counts where it is later than 1,000 milliseconds before now
abbrev pub is_recent : ℕ → ℕ → Bool
is_recent now moment = nat_lt now (moment + 1000)

-- the moments that count
abbrev pub recent_of : ℕ → List ℕ → List ℕ
recent_of now moments = filter (is_recent now) moments

-- whether there is a last moment that counts
abbrev pub ends_recent : ℕ → Option ℕ → Bool
ends_recent now None = false
ends_recent now (Some moment) = is_recent now moment
