-- What sockets of streams in memory tell.
use Rattle.std.specs.Prelude.{ℕ, List, map}

-- the numbers of connections, in order
abbrev pub firsts : List (ℕ × ℕ) → List ℕ
firsts = map (λ (pair : ℕ × ℕ). pair.0)
