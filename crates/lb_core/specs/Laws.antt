-- The health of a server over a run: it follows from the results given since the server was added.
use Rattle.std.specs.Prelude.{◌≡◌, ◌<◌, Bool, ◌==◌, List, ◌∷◌, ◌++◌, ◌⊎◌, Option, None, Some, option_map}
use Rattle.std.specs.List.{find, flat_map}
use Rattle.lb_wire.specs.declared.ids.ServerId.{ServerId}
use Rattle.lb_servers.specs.declared.server.Server.{Server}
use Rattle.lb_step.specs.declared.event.Event.{Event}
use Rattle.lb_step.specs.declared.answer.Answer.{Answer}
use Rattle.lb_step.specs.Plain.{Plain}
use Rattle.lb_step.specs.Laws.{AreMarked}
use Rattle.lb_step.specs.Results.{BeginsAt, Results, Tells, health_by, health_of, result_in, told_after}
use Rattle.lb_core.specs.Runs.{IsRun}

-- what is told of a server after a list of events with their answers
abbrev pub told_behind : ServerId → Option Results → List Event → List Answer → Option Results
told_behind server told (event ∷ events) (answer ∷ answers) = told_behind server (told_after server told event answer) events answers
told_behind server told _ _ = told

-- the results of a server in a list of events, in order
abbrev pub results_of : ServerId → List Event → List Bool
results_of server events = flat_map (result_in server) events

-- the mark of a server; None where it is not there
abbrev pub has_number : ServerId → Server → Bool
has_number id server = server.id.0 == id.0

abbrev pub mark_of : ServerId → List Server → Option Bool
mark_of server servers = option_map (λ s. s.marked_up) (find (has_number server) servers)

-- each answer to a list of events tells a change of the server at its result
abbrev pub TellsChanges : ServerId → Option Results → List Event → List Answer → Type 0
TellsChanges server told (event ∷ events) (answer ∷ answers) = Tells server told event answer × TellsChanges server (told_after server told event answer) events answers
TellsChanges server told _ _ = Unit {0}

-- a server that has its number since before a run is told of by what was told then, with the results of the run; or it is gone
abbrev pub GoesOn : ServerId → Option Results → List Event → Option Results → Type 0
GoesOn server None events behind = behind ≡ None
GoesOn server (Some told) events behind = (behind ≡ None) ⊎ (behind ≡ Some (record told { given = told.given ++ results_of server events }))

-- what a run leaves of a server's health: the servers are marked as their health says; its health and its mark are what the
-- results leave that were given since it was added, or since it stood at first; each change is told at its result; and numbers
-- are never given again
pub record FollowsResults (server : ServerId) (told : Option Results) (old : Plain) (events : List Event) (answers : List Answer) (new : Plain) : Type 0 where
  pub marked : AreMarked new
  pub health : health_of server new.checks ≡ option_map health_by (told_behind server told events answers)
  pub mark : mark_of server new.servers ≡ option_map (λ t. (health_by t).up) (told_behind server told events answers)
  pub tells : TellsChanges server told events answers
  pub goes_on : server.0 < old.next_server → GoesOn server told events (told_behind server told events answers)

-- in every run, whatever edits, queries, replies and ticks stand between, a server's health and its mark follow from the
-- results given since it was added, or since it stood at first, and each answer that it came up or went down stands exactly
-- where the last of a row does
abbrev pub MarksFollowResults : Type 0
MarksFollowResults =
    (server : ServerId) (told : Option Results) (old new : Plain) (events : List Event) (answers : List Answer) →
    AreMarked old → BeginsAt told → health_of server old.checks ≡ option_map health_by told → IsRun old events answers new →
    FollowsResults server told old events answers new
