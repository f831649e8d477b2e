-- Outputs that nothing was written to.
use Rattle.std.proofs.Common.{List, ℕ, refl, Option, None, Some}
use Rattle.std.specs.Io.KnownBytes.{Keeps}

-- an output that is as it was keeps what it had
pub keeps_same : (a : Option (List ℕ)) → Keeps a a
keeps_same None = tt
keeps_same (Some xs) = refl
