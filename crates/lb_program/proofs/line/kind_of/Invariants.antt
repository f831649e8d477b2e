use Rattle.std.proofs.Common.{◌≡◌, drop}
use Rattle.lb_program.specs.Line.{kind_of}
use Rattle.lb_program.proofs.line.kind_of.Given as goal

abbrev pub invariant-loop-byte : goal.invariant-loop-byte
invariant-loop-byte l = kind_of (drop l.byte-index l.bytes) ≡ kind_of l.bytes
