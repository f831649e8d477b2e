-- The codes of the EDNS options that a cache's keys leave out.
use Rattle.std.specs.Prelude.{if◌then◌else◌, ℕ, List, [], ◌∷◌, ◌++◌, ◌==◌}
use Rattle.std.specs.List.{list_any}

-- a code after the others, unless it is listed already
abbrev pub added : ℕ → List ℕ → List ℕ
added code codes = if list_any (λ c. c == code) codes then codes else codes ++ code ∷ []

-- codes after others, each unless it is listed already
abbrev pub listed_after : List ℕ → List ℕ → List ℕ
listed_after before [] = before
listed_after before (code ∷ codes) = listed_after (added code before) codes

-- codes in the order written, each at its first place
abbrev pub each_once : List ℕ → List ℕ
each_once codes = listed_after [] codes

-- Cookie alone (RFC 7873 section 4)
abbrev pub cookie : List ℕ
cookie = 10 ∷ []
