-- What sockets of streams tell.
use Rattle.std.specs.Prelude.{ℕ, List, [], map}
use Rattle.lb_loops_io.specs.Moves.{Traffic}

-- the numbers of connections, in order
abbrev pub firsts : List (ℕ × ℕ) → List ℕ
firsts = map (λ (pair : ℕ × ℕ). pair.0)

-- nothing was given or taken, nobody came, nothing was read, no device failed, and room was refused
-- for nothing
abbrev pub nothing : Traffic
nothing = record { given = []; taken = []; came = []; dialed = []; ended = []; gone = []; turned = 0; failures = 0; reads = 0; failed = []; lacked = [] }
