-- What the loop of the clock holds.
use Rattle.std.specs.Prelude.{◌≡◌, ◌++◌, ◌∷◌, [], ℕ, Bool, List, Option, Some, None, map}
use Rattle.std.specs.List.{range_with_len}
use Rattle.lb_step.specs.declared.answer.Answer.{Answer}
use Rattle.lb_step.specs.declared.event.Event.{Event}
use Rattle.lb_loops_io.specs.Stamps.{Stamp}
use Rattle.lb_loops_io.specs.declared.traffic.Datagram.{Datagram}
use Rattle.lb_loops_io.specs.declared.traffic.Service.{Service}
use Rattle.lb_outbox.specs.Outbox.{Sending}
use Rattle.lb_outbox.specs.declared.job.Job.{Job}
use Rattle.lb_loops_probes.specs.Probes.{Probed}
use Rattle.lb_wire.specs.declared.addr.Origin.{Origin}

-- what its parts tell: the servers that are probed; the datagrams that its sockets gave and took,
-- at which places they listen, how often they failed, and how often they were asked for a datagram;
-- the jobs that were sent; what listens at each place; what was handed to requests; the answered
-- calls and the pairs; the stamps that were said, and the failures outside
pub record World : Type 0 where
  pub probes : Probed
  pub given : List Datagram
  pub taken : List Datagram
  pub there : List Bool
  pub failures : ℕ
  pub outbox : Sending
  pub fronts : List Service
  pub handed : List (Origin × List ℕ)
  pub answered : ℕ
  pub pairs : List (Event × Answer)
  pub said : List Stamp
  pub outside : ℕ
  pub reads : ℕ

-- a job was sent, if there is one, and nothing else changed
abbrev pub SentAgain : World → World → Option Job → Type 0
SentAgain old new (Some job) = new ≡ record old { outbox = record old.outbox { sent = old.outbox.sent ++ job ∷ [] } }
SentAgain old new None = new ≡ old

-- at which of the 256 places there is a listener
abbrev pub listened : (ℕ → Bool) → List Bool
listened listens = map listens (range_with_len 0 256)
