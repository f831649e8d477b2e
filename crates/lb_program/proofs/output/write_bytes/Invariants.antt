use Rattle.std.proofs.Common.{◌≤◌, take, length}
use Rattle.std.specs.Io.KnownBytes.{Appends}
use Rattle.lb_program.proofs.output.write_bytes.Given as goal

-- so many of the bytes were written
abbrev pub invariant-writes : goal.invariant-writes
invariant-writes g l = (l.written ≤ length l.bytes) × Appends (g.W.Write.contents l.fn.output) (g.W.Write.contents l.output) (take l.written l.bytes)
