-- What lies under the lock of a desk.
use Rattle.std.specs.Prelude.{◌≡◌, ℕ, ◌++◌, ◌-◌, ◌^◌, ◌≤◌, ◌<◌, ◌∷◌, [], false, List, length, None, Option, Some}
use Rattle.lb_step.specs.declared.answer.Answer.{Answer}
use Rattle.lb_step.specs.declared.counts_by_number.CountsByNumber.{CountsByNumber}
use Rattle.lb_step.specs.declared.event.Event.{Event}
use Rattle.lb_step.specs.declared.noted.Noted.{Noted}
use Rattle.lb_step.specs.declared.tally.Tally.{Tally}
use Rattle.lb_step.specs.Counts.{count_at, raised, times, AreRaised}
use Rattle.lb_step.specs.CountsByNumber.{AreCounted, AreNone}
use Rattle.lb_step.specs.Noted.{IsNoted}
use Rattle.lb_step.specs.Plain.{Plain}
use Rattle.lb_step.specs.Snapshot.{IsShown, Snapshot, snapshot_of}
use Rattle.lb_core.specs.Counts.{times_in, IsNotedRun}
use Rattle.lb_core.specs.CountsByNumber.{AreCountedIn}
use Rattle.lb_desk.specs.Entry.{Tells, entry}
use Rattle.lb_desk.specs.declared.book.ticket.Answered.{Answered}
use Rattle.lb_desk.specs.declared.book.ticket.Ticket.{Ticket}
use Rattle.lb_desk.specs.declared.entry.LogEntry.{LogEntry}
use Rattle.lb_desk.specs.declared.entry.SeatId.{SeatId}

-- the balancer; what was counted of it; how many calls it has answered; how many the log has at most; the log; and the event for
-- whose entry room is taken
pub record Booked : Type 0 where
  pub balancer : Plain
  pub tally : Tally
  pub count : ℕ
  pub limit : ℕ
  pub log : List LogEntry
  pub ready : Option Event

-- a log tells of a run from a snapshot; while it has all calls the balancer stands at the run's end
pub record Keeps (opening : Snapshot) (limit count : ℕ) (log : List LogEntry) (balancer : Plain) : Type 0 where
  pub end : Plain
  pub tells : Tells opening log end
  pub current : count ≤ limit → balancer ≡ end

-- the counts of a balancer that has answered so many calls: those of a run of so many events from a
-- snapshot to it, also past the log's limit; at 2^64-1 a count stays. The counts of rules, servers and
-- caches are those of what its steps note, unless memory for one was refused.
pub record Counted (opening : Snapshot) (count : ℕ) (balancer : Plain) (tally : Tally) : Type 0 where
  pub start : Plain
  pub shown : IsShown start
  pub opens : snapshot_of start ≡ opening
  pub events : List Event
  pub answers : List Answer
  pub notes : List Noted
  pub many : length events ≡ count
  pub run : IsNotedRun start events answers notes balancer
  pub counted : (place : ℕ) → count_at place tally.counts.items ≡ raised (times_in events answers place) 0
  pub first : CountsByNumber
  pub none : AreNone first
  pub numbers : tally.by_number.lacked ≡ false → AreCountedIn answers notes first tally.by_number

-- what a call counts: its event and its answer; and, unless memory for a count was refused, what its step notes, by number
pub record Counts (balancer : Plain) (event : Event) (answer : Answer) (old new : Tally) : Type 0 where
  pub raised : AreRaised (times event answer) old.counts.items new.counts.items
  pub numbers : (noted : Noted) × IsNoted balancer event answer noted × (new.by_number.lacked ≡ false → AreCounted answer noted old.by_number new.by_number)

-- a book is ready for a call of this event: it can be counted, and where the log takes one more, room for its entry is there
abbrev pub IsReadyFor : Event → Booked → Type 0
IsReadyFor event book = (book.count < 2 ^ 64 - 1) × (book.count < book.limit → book.ready ≡ Some event)

-- the ticket of a call at a place of the log, with its event
abbrev pub ticket_of : ℕ → Event → Ticket
ticket_of place event = record { place = place; event = event }

-- a call is logged: its ticket has the next place of the log, the log has its entry there under the
-- seat's number, and the room that was taken for it is spent
abbrev pub Logs : SeatId → Event → Answered → Booked → Booked → Type 0
Logs seat event answered old new =
    (answered.ticket ≡ Some (ticket_of old.count event)) × (new.log ≡ old.log ++ entry seat event answered.answer ∷ []) × (new.ready ≡ None)
