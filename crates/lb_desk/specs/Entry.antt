-- The log of a desk, and the receipts of a seat.
use Rattle.std.specs.Prelude.{◌≡◌, ℕ, ◌+◌, ◌==◌, if◌then◌else◌, List, [], ◌∷◌, map}
use Rattle.lb_step.specs.declared.answer.Answer.{Answer}
use Rattle.lb_step.specs.declared.event.Event.{Event}
use Rattle.lb_step.specs.Plain.{Plain}
use Rattle.lb_step.specs.Routes.{routes_of}
use Rattle.lb_step.specs.Snapshot.{IsShown, Snapshot, snapshot_of}
use Rattle.lb_core.specs.Provenance.{MeetsHits, MeetsProvenance}
use Rattle.lb_core.specs.Runs.{IsRun}
use Rattle.lb_desk.specs.declared.entry.LogEntry.{LogEntry}
use Rattle.lb_desk.specs.declared.entry.Receipt.{Receipt}
use Rattle.lb_desk.specs.declared.entry.SeatId.{SeatId}

abbrev pub entry : SeatId → Event → Answer → LogEntry
entry seat event answer = record { seat = seat; event = event; answer = answer }

abbrev pub receipt : ℕ → Event → Answer → Receipt
receipt place event answer = record { place = place; event = event; answer = answer }

-- the events and the answers of a log, in order
abbrev pub events_of : List LogEntry → List Event
events_of log = map (λ (e : LogEntry). e.event) log

abbrev pub answers_of : List LogEntry → List Answer
answers_of log = map (λ (e : LogEntry). e.answer) log

-- the receipt of the entry at a place of the log, where it is of this seat
abbrev pub receipt_at : SeatId → ℕ → LogEntry → List Receipt
receipt_at seat place e = if e.seat.0 == seat.0 then receipt place e.event e.answer ∷ [] else []

-- the receipts of a seat's entries, in order, where the first entry has this place
abbrev pub receipts_from : SeatId → ℕ → List LogEntry → List Receipt
receipts_from seat place [] = []
receipts_from seat place (e ∷ es) =
    if e.seat.0 == seat.0 then receipt place e.event e.answer ∷ receipts_from seat (place + 1) es else receipts_from seat (place + 1) es

-- the receipts of a seat's entries of a log
abbrev pub receipts_of : SeatId → List LogEntry → List Receipt
receipts_of seat log = receipts_from seat 0 log

-- from the state that this snapshot shows, the events of a log are given its answers, one after the other, and this state stands
-- at the end
pub record Tells (opening : Snapshot) (log : List LogEntry) (end : Plain) : Type 0 where
  pub start : Plain
  pub shown : IsShown start
  pub opens : snapshot_of start ≡ opening
  pub run : IsRun start (events_of log) (answers_of log) end

-- each answer of a log from a cache is a kept reply's, by what the log itself tells
pub record TellsCaches (opening : Snapshot) (log : List LogEntry) : Type 0 where
  pub start : Plain
  pub shown : IsShown start
  pub opens : snapshot_of start ≡ opening
  pub provenance : MeetsProvenance (routes_of start) (events_of log) (answers_of log)

-- the octets of each hit of a log are those of a reply that still lives: one that the snapshot has, or one that the log itself tells of
pub record TellsHits (opening : Snapshot) (log : List LogEntry) : Type 0 where
  pub start : Plain
  pub shown : IsShown start
  pub opens : snapshot_of start ≡ opening
  pub hits : MeetsHits start (events_of log) (answers_of log)
