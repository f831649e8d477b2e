use Rattle.std.proofs.Common.{◌-◌, ◌^◌, List}
use Rattle.std.specs.Io.Buffered.{reader_remaining}
use Rattle.lb_step.specs.declared.event.Event.{Event}
use Rattle.lb_program.specs.Replaying.{Answered}
use Rattle.lb_program.proofs.Readings.{ReadSoFar}
use Rattle.lb_program.proofs.replaying.Player.answer_lines.Given as goal

-- the events that the told lines so far were read as were answered
abbrev pub invariant-turns : goal.invariant-turns
invariant-turns g l =
    (events : List Event)
    × Answered (g.W.Write.contents l.fn.output) (g.W.Write.contents l.output) l.self.held.items l.self.balancer events
    × ReadSoFar (g.R.Read.remaining l.fn.input) (reader_remaining g.R.Read.remaining l.lines.input) l.lines.ended l.lines.line events

-- each turn is counted
abbrev pub decreases-turns : goal.decreases-turns
decreases-turns g l = 2 ^ 64 - l.lines.turns
