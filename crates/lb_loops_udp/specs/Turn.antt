-- What the loop of datagrams holds, and what rounds of its turn do before anything is sent.
use Rattle.std.specs.Prelude.{◌≡◌, ℕ, ◌+◌, ◌≤◌, Bool, List, [], ◌∷◌, ◌++◌, Option, Some, None, length, map, option_to_list}
use Rattle.lb_step.specs.declared.answer.Answer.{Answer}
use Rattle.lb_step.specs.declared.event.Event.{Event}
use Rattle.lb_loops_udp.specs.Lines.{AreAsked}
use Rattle.lb_loops_io.specs.Counts.{Grows}
use Rattle.lb_loops_io.specs.Events.{event_of, heard, timeless}
use Rattle.lb_loops_io.specs.Letter.{IsOutcome}
use Rattle.lb_loops_io.specs.Lines.{FirstFault, answered_as, events_in, pairs}
use Rattle.lb_loops_io.specs.Stamps.{Stamp, Stamped}
use Rattle.lb_loops_io.specs.declared.report.DeviceFault.{DeviceFault}
use Rattle.lb_loops_io.specs.declared.report.Line.{Line}
use Rattle.lb_loops_io.specs.declared.report.Line.TheVariants as lines
use Rattle.lb_loops_io.specs.declared.report.Outcome.{Outcome}
use Rattle.lb_loops_io.specs.declared.report.Sending.TheVariants.{Nothing}
use Rattle.lb_loops_io.specs.declared.report.Source.TheVariants as sources
use Rattle.lb_loops_io.specs.declared.traffic.Datagram.{Datagram}

-- what its parts tell: the datagrams that its sockets gave and took, at which places they listen,
-- how often they failed, and how often they were asked for a datagram; the answered calls and the
-- pairs; the stamps that were said, and the failures outside; and the room that is kept for lines
pub record World : Type 0 where
  pub given : List Datagram
  pub taken : List Datagram
  pub there : List Bool
  pub failures : ℕ
  pub reads : ℕ
  pub answered : ℕ
  pub pairs : List (Event × Answer)
  pub said : List Stamp
  pub outside : ℕ
  pub room : ℕ

-- these events have stamps that were said, at most so many
pub record Stamps (old new : List Stamp) (events : List Event) (rounds : ℕ) : Type 0 where
  pub stamps : List Stamp
  pub said : new ≡ old ++ stamps
  pub few : length stamps ≤ rounds
  pub stamped : Stamped events stamps

-- so many rounds lead from one world to another, with these lines, these held events, and this device fault as the first
pub record Turns (rounds : ℕ) (old new : World) (lines : List Line) (held : List Event) (device : Option DeviceFault) : Type 0 where
  pub heard_all : heard new.given ≡ heard old.given ++ map timeless (events_in lines ++ held)
  pub reads : length new.given ≤ length old.given + rounds
  pub asks : new.reads ≤ old.reads + rounds
  pub few : length lines + length held ≤ rounds
  pub unsent : new.taken ≡ old.taken
  pub there : new.there ≡ old.there
  pub asked : AreAsked lines
  pub counted : new.answered ≡ old.answered + length (pairs lines)
  pub grows : Grows old.pairs new.pairs (pairs lines)
  pub stamps : Stamps old.said new.said (events_in lines ++ held) rounds
  pub first : FirstFault device old.failures new.failures old.outside new.outside

-- one round, which puts its lines after others
pub record Round (old new : World) (before after : List Line) (held : List Event) (device : Option DeviceFault) : Type 0 where
  pub more : List Line
  pub put : after ≡ before ++ more
  pub turns : Turns 1 old new more held device

-- the line of an event that a datagram made, with what came of it; its send is to come
abbrev pub asked_line : Event → Outcome → Line
asked_line event outcome = lines.Event sources.Datagrams event outcome Nothing

-- an event was handed to the desk: its line stands after the others, and the taker has its answer, if there is one
pub record Asks (event : Event) (before after : List Line) (answered answered' : ℕ) (told told' : List (Event × Answer)) : Type 0 where
  pub outcome : Outcome
  pub put : after ≡ before ++ asked_line event outcome ∷ []
  pub is : IsOutcome event outcome
  pub counted : answered' ≡ answered + length (answered_as event outcome)
  pub grows : Grows told told' (answered_as event outcome)

-- what an event led to: it was handed to the desk; or it is held, and nothing else has changed
abbrev pub Leads : Event → Option Event → List Line → List Line → ℕ → ℕ → List (Event × Answer) → List (Event × Answer) → Type 0
Leads event None before after answered answered' told told' = Asks event before after answered answered' told told'
Leads event (Some held) before after answered answered' told told' = (held ≡ event) × (after ≡ before) × (answered' ≡ answered) × (told' ≡ told)

-- what a datagram led to: its event, if it makes one, has this stamp, and is that of a line after the others, or held
pub record Handles (d : Datagram) (stamp : Stamp) (before after : List Line) (answered answered' : ℕ) (told told' : List (Event × Answer)) (held : Option Event) : Type 0 where
  pub more : List Line
  pub put : after ≡ before ++ more
  pub events : map timeless (events_in more ++ option_to_list held) ≡ option_to_list (event_of d)
  pub stamped : Stamped (events_in more ++ option_to_list held) (stamp ∷ [])
  pub few : length more + length (option_to_list held) ≤ 1
  pub asked : AreAsked more
  pub counted : answered' ≡ answered + length (pairs more)
  pub grows : Grows told told' (pairs more)
