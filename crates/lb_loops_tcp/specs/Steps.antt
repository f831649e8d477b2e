-- What came of the step of an event.
use Rattle.std.specs.Prelude.{Bool, true, false, List, [], ◌∷◌}
use Rattle.lb_loops_io.specs.declared.report.Line.{Line}
use Rattle.lb_loops_tcp.specs.declared.rounds.Step.{Step}
use Rattle.lb_loops_tcp.specs.declared.rounds.Step.TheVariants as steps

-- its line
abbrev pub lines_of : Step → List Line
lines_of (steps.Told line) = line ∷ []
lines_of _ = []

-- whether there was no moment to be had
abbrev pub is_blind : Step → Bool
is_blind steps.Blind = true
is_blind _ = false
