-- The senders and the receiver of an outbox, and what is left when they have ended.
use Rattle.std.specs.Prelude.{List}
use Rattle.atomic_table.specs.Seated.{TableId}
use Rattle.crossbeam_queue.specs.Passes.{Pass, view}
use Rattle.lb_outbox.specs.declared.job.Job.{Job}
use Rattle.lb_outbox.specs.declared.rule.Delivery.{Delivery}
use Rattle.lb_outbox.specs.declared.rule.SenderId.{SenderId}
use Rattle.lb_outbox.specs.declared.rule.SenderId.TheVariants.{One, Two}
use Rattle.lb_outbox.specs.declared.rule.View.{View}

-- what a pass knows
abbrev pub known : Pass Delivery View → View
known pass = view pass

-- a sender: which outbox it is of, which of its two senders it is, and what it has sent, in order
pub record Sending : Type 0 where
  pub outbox : TableId
  pub id : SenderId
  pub sent : List Job

-- a receiver: which outbox it is of, and what it has received, in order, each with its sender
pub record Receiving : Type 0 where
  pub outbox : TableId
  pub received : List Delivery

-- what two senders have sent and their receiver has received
pub record Settling : Type 0 where
  pub one : List Job
  pub two : List Job
  pub received : List Delivery

-- what a sender has sent
abbrev pub sent_by : SenderId → Settling → List Job
sent_by One s = s.one
sent_by Two s = s.two
