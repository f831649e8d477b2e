-- The line that a check writes.
use Rattle.std.proofs.Common.{List, ℕ, Option, Result, Ok, Err, OnOk}
use Rattle.std.specs.Io.KnownBytes.{Appends}
use Rattle.std.specs.declared.io.Error.{Error}
use Rattle.lb_program.specs.Checking.{Checks, Shows}
use Rattle.lb_program.specs.Faults.{output_end}
use Rattle.lb_program.specs.Output.{WritesFront}

-- it is written, or a front of it where the output fails
pub line_written : (text line : List ℕ) (old new : Option (List ℕ)) (written : Result (Unit {0}) Error) → Shows text line → WritesFront old new line → OnOk written (Appends old new line) → Checks text old new (output_end written)
line_written text line old new (Ok done) shows front all = (line, shows, all)
line_written text line old new (Err error) shows front all = (line, shows, front)
