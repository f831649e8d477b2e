-- What the front's part of the desk tells, and what a request's question does to it.
use Rattle.std.specs.Prelude.{◌≡◌, ℕ, ◌+◌, ◌-◌, ◌^◌, ◌⊎◌, min, List, [], ◌∷◌, ◌++◌, Option, None, Some}
use Rattle.lb_wire.specs.declared.addr.Origin.{Origin}
use Rattle.lb_step.specs.declared.answer.Answer.{Answer}
use Rattle.lb_step.specs.declared.answer.Answer.TheVariants.{Forward}
use Rattle.lb_step.specs.declared.event.Event.{Event}
use Rattle.lb_doh_message.specs.Response.{bare}
use Rattle.lb_doh_message.specs.declared.response.DohResponse.{DohResponse}
use Rattle.lb_loops_io.specs.Counts.{Fails, Grows}
use Rattle.lb_loops_io.specs.Stamps.{Stamp}
use Rattle.lb_outbox.specs.Outbox.{Sending}
use Rattle.lb_outbox.specs.declared.job.Job.{Job}
use Rattle.lb_outbox.specs.declared.job.Job.TheVariants.{ToServer}
use Rattle.lb_doh.specs.Next.{Returns, asked}

-- what it tells: its sender of the outbox, and how many jobs found that full; the answered calls and
-- the pairs of its handler; the stamps that were said, and the failures outside
pub record Asking : Type 0 where
  pub outbox : Sending
  pub lost : ℕ
  pub answered : ℕ
  pub pairs : List (Event × Answer)
  pub said : List Stamp
  pub failures : ℕ

-- one more job was lost; at 2^64 - 1 the number stays
abbrev pub one_lost : ℕ → ℕ
one_lost lost = min (lost + 1) (2 ^ 64 - 1)

-- a job goes after the others, or is dropped and counted if the outbox is full; nothing else changes
abbrev pub Puts : Job → Asking → Asking → Type 0
Puts job old new =
    (new ≡ record old { lost = one_lost old.lost })
    ⊎ (new ≡ record old { outbox = record (old.outbox) { sent = old.outbox.sent ++ job ∷ [] } })

-- no event was made, as no moment was had: 503
pub record Timeless (old new : Asking) (result : Option DohResponse) : Type 0 where
  pub unavailable : result ≡ Some (bare 503)
  pub failed : Fails old.failures new.failures
  pub same : new ≡ record old { failures = new.failures }

-- the desk took no event, which had this stamp: 503
pub record Untaken (stamp : Stamp) (old new : Asking) (result : Option DohResponse) : Type 0 where
  pub unavailable : result ≡ Some (bare 503)
  pub same : new ≡ record old { said = old.said ++ stamp ∷ [] }

-- the request's response, or that it waits, by the answer; and what was sent
abbrev pub Ends : Answer → Sending → Sending → Option DohResponse → Type 0
Ends (Forward server lane id bytes) old new None = (new ≡ old) ⊎ (new ≡ record old { sent = old.sent ++ ToServer server lane bytes ∷ [] })
Ends answer old new None = ⊥
Ends answer old new (Some response) = Returns answer response × (new ≡ old)

-- the desk answered an event that had this stamp
pub record Taken (stamp : Stamp) (origin : Origin) (message : List ℕ) (answer : Answer) (old new : Asking) (result : Option DohResponse) : Type 0 where
  pub said : (new.said ≡ old.said ++ stamp ∷ []) × (new.failures ≡ old.failures)
  pub answered : new.answered ≡ old.answered + 1
  pub pairs : Grows old.pairs new.pairs ((asked stamp origin message, answer) ∷ [])
  pub ends : Ends answer old.outbox new.outbox result

-- What a request's question does: the event that the desk is handed is the request's message from its origin, and what the request gets is
-- by the desk's answer to it.
abbrev pub Asks : Origin → List ℕ → Asking → Asking → Option DohResponse → Type 0
Asks origin message old new result =
    Timeless old new result
    ⊎ ((stamp : Stamp) × (Untaken stamp old new result ⊎ ((answer : Answer) × Taken stamp origin message answer old new result)))
