-- The health of a server over one event: what is told of it after the event, and what the answer tells.
use Rattle.std.specs.Prelude.{◌≡◌, ◌<◌, ◌≤◌, Bool, true, false, ◌==◌, if◌then◌else◌, List, [], ◌∷◌, ◌++◌, ◌⊎◌, Option, None, Some, option_map}
use Rattle.std.specs.Int.NonZero.{non_zero_u8_get}
use Rattle.std.specs.List.{find}
use Rattle.lb_wire.specs.declared.ids.ServerId.{ServerId}
use Rattle.lb_health.specs.Health.{IsStanding, Standing, AtTheLast, after, new_standing, row_against, since}
use Rattle.lb_health.specs.declared.health.Changed.TheVariants as changes
use Rattle.lb_step.specs.declared.check.Check.{Check}
use Rattle.lb_step.specs.declared.check.CheckSpec.{CheckSpec}
use Rattle.lb_step.specs.declared.command.Command.TheVariants.{ServerAdd, ServerRemove}
use Rattle.lb_step.specs.declared.event.Event.{Event}
use Rattle.lb_step.specs.declared.event.Event.TheVariants.{Edit, HealthResult}
use Rattle.lb_step.specs.declared.answer.Answer.{Answer}
use Rattle.lb_step.specs.declared.answer.Answer.TheVariants.{Edited, Ignored}
use Rattle.lb_step.specs.declared.answer.IgnoreReason.TheVariants as ignores
use Rattle.lb_step.specs.declared.answer.Note.TheVariants as notes
use Rattle.lb_step.specs.Answer.{change_told}
use Rattle.lb_step.specs.Laws.{AreMarked}
use Rattle.lb_step.specs.Plain.{Plain}
use Rattle.lb_step.specs.Reading.{Reading}
use Rattle.lb_step.specs.Step.{Steps}
use Rattle.lb_step.specs.Upstream.{is_check}

-- what is told of a server's health: where it stood at first, and the results given since then, in order
pub record Results : Type 0 where
  pub first : Standing
  pub given : List Bool

-- the health that they leave
abbrev pub health_by : Results → Standing
health_by told = after told.first told.given

-- what is told of a new server, which is up
abbrev pub of_new : CheckSpec → Results
of_new spec = record { first = new_standing (non_zero_u8_get spec.fall) (non_zero_u8_get spec.rise); given = [] }

-- with one result more
abbrev pub with_result : Bool → Results → Results
with_result ok told = record told { given = told.given ++ ok ∷ [] }

-- what is told of a server after an event with its answer, where the server is there: a result of it is one more; where it was
-- added, nothing was told before; where it was removed, nothing is told; no other event, no mode, no query, no tick and no
-- result of another server has a part in it
abbrev pub told_after : ServerId → Option Results → Event → Answer → Option Results
told_after server told (HealthResult now of ok) answer = if of.0 == server.0 then option_map (with_result ok) told else told
told_after server told (Edit now (ServerAdd spec check)) (Edited (notes.ServerAdded id)) = if id.0 == server.0 then Some (of_new check) else told
told_after server told (Edit now (ServerRemove name)) (Edited (notes.ServerRemoved id)) = if id.0 == server.0 then None else told
told_after server told _ _ = told

-- the results of a server in an event
abbrev pub result_in : ServerId → Event → List Bool
result_in server (HealthResult now of ok) = if of.0 == server.0 then ok ∷ [] else []
result_in server _ = []

-- the health of a server, by its health check; None where it is not there
abbrev pub health_of : ServerId → List Check → Option Standing
health_of server checks = option_map (λ check. check.health) (find (is_check server) checks)

-- an answer to a result of a server: that it came up or went down is told exactly where the result is the last of so many in a
-- row that go against what it is, all given since it last changed; the result of a server that is not there is ignored
abbrev pub TellsResult : ServerId → Option Results → Bool → Answer → Type 0
TellsResult server None ok answer = answer ≡ Ignored ignores.NoServer
TellsResult server (Some told) ok answer = AtTheLast (health_by told) (since told.first (row_against told.first) told.given) ok (change_told server answer)

-- an answer to any other event tells no change of the server
abbrev pub TellsIf : Bool → ServerId → Option Results → Bool → Answer → Type 0
TellsIf true server told ok answer = TellsResult server told ok answer
TellsIf false server told ok answer = change_told server answer ≡ changes.No

abbrev pub Tells : ServerId → Option Results → Event → Answer → Type 0
Tells server told (HealthResult now of ok) answer = TellsIf (of.0 == server.0) server told ok answer
Tells server told _ answer = change_told server answer ≡ changes.No

-- where a server's results begin, it could stand
abbrev pub BeginsAt : Option Results → Type 0
BeginsAt None = Unit {0}
BeginsAt (Some told) = IsStanding told.first

-- what is told goes on with these results, or the server is gone
abbrev pub GoesBy : Option Results → List Bool → Option Results → Type 0
GoesBy None more left = left ≡ None
GoesBy (Some told) more left = (left ≡ None) ⊎ (left ≡ Some (record told { given = told.given ++ more }))

abbrev pub Goes : ServerId → Option Results → Event → Option Results → Type 0
Goes server told event left = GoesBy told (result_in server event) left

-- the servers of a plain state are marked as their health says, and this is told of the health of one
pub record IsTold (server : ServerId) (told : Option Results) (plain : Plain) : Type 0 where
  pub marked : AreMarked plain
  pub begins : BeginsAt told
  pub health : health_of server plain.checks ≡ option_map health_by told

-- what an event with its answer leaves of it: what is told after it; the answer tells a change at its result; and a server that
-- has its number since before the event goes on, or is gone
pub record HealthAfter (server : ServerId) (told : Option Results) (old : Plain) (event : Event) (answer : Answer) (new : Plain) : Type 0 where
  pub is_told : IsTold server (told_after server told event answer) new
  pub tells : Tells server told event answer
  pub numbers : old.next_server ≤ new.next_server
  pub goes : server.0 < old.next_server → Goes server told event (told_after server told event answer)

-- so it is at every event
abbrev pub HealthFollows : Type 0
HealthFollows = (server : ServerId) (told : Option Results) (old new : Plain) (event : Event) (reading : Reading) (answer : Answer) →
    IsTold server told old → Steps old event reading answer new → HealthAfter server told old event answer new
