-- What a turn of streams does.
use Rattle.std.specs.Prelude.{◌≡◌, ℕ, ◌+◌, ◌≤◌, ◌⊎◌, Bool, true, false, IsTrue, List, [], ◌∷◌, ◌++◌, Option, Some, None, length}
use Rattle.lb_loops_connections.specs.Table.{IsOverdue, at, clients}
use Rattle.lb_loops_connections.specs.declared.connection.Connection.{Connection}
use Rattle.lb_step.specs.declared.event.Event.{Event}
use Rattle.lb_loops_io.specs.Counts.{Fails, Grows, Rose}
use Rattle.lb_loops_io.specs.Letter.{Letter}
use Rattle.lb_loops_io.specs.Lines.{any_by_device, events_in, is_by_device, jobs_received, pairs}
use Rattle.lb_loops_io.specs.Stamps.{Stamp, Stamped}
use Rattle.lb_loops_io.specs.Ways.{message_in, post_in, posts}
use Rattle.lb_loops_io.specs.declared.report.Line.{Line}
use Rattle.lb_loops_io.specs.declared.report.Sending.{Sending}
use Rattle.lb_loops_io.specs.declared.roster.Listed.{Listed}
use Rattle.lb_outbox.specs.Outbox.{Receiving}
use Rattle.lb_outbox.specs.declared.job.Job.{Job}
use Rattle.lb_outbox.specs.declared.rule.Delivery.{Delivery}
use Rattle.lb_loops_tcp.specs.Goes.{Goes, Settles, none}
use Rattle.lb_loops_tcp.specs.Lines.{AreLines, Comes, messages_by, sends_to}
use Rattle.lb_loops_tcp.specs.Links.{Net}
use Rattle.lb_loops_tcp.specs.World.{World}

-- a letter, and what came of its send
pub record Sends (roster : List Listed) (old new : World) (letter : Option Letter) (sending : Sending) : Type 0 where
  pub goes : Goes old.net new.net none (λ c. message_in c letter sending)
  pub settles : Settles old.net new.net
  pub comes : Comes old.fronts roster old.net new.net none letter sending
  pub handed : new.handed ≡ old.handed ++ post_in letter sending
  pub failed : IsTrue (is_by_device sending) → Rose old.net.told.failures new.net.told.failures
  pub same : new ≡ record old { net = new.net; handed = new.handed }

-- these jobs came, each from one of the two senders
abbrev pub AreOf : List Job → List Delivery → Type 0
AreOf [] [] = Unit {0}
AreOf (job ∷ jobs) (d ∷ more) = (d.job ≡ job) × AreOf jobs more
AreOf _ _ = ⊥

pub record Receives (old new : Receiving) (jobs : List Job) : Type 0 where
  pub deliveries : List Delivery
  pub are : AreOf jobs deliveries
  pub received : new ≡ record old { received = old.received ++ deliveries }

-- these events have stamps that were said since, in their order
pub record Stamps (old new : List Stamp) (events : List Event) : Type 0 where
  pub stamps : List Stamp
  pub said : new ≡ old ++ stamps
  pub stamped : Stamped events stamps

-- what is outside failed, or did not
abbrev pub Fared : Bool → ℕ → ℕ → Type 0
Fared true before after = Fails before after
Fared false before after = after ≡ before

-- Steps with at most so many events and jobs lead from one world to another, with these lines; what is outside failed at their end, or did not.
pub record Turns (roster : List Listed) (events jobs : ℕ) (old new : World) (lines : List Line) (blind : Bool) : Type 0 where
  pub goes : Goes old.net new.net (messages_by lines) (sends_to lines)
  pub settles : Settles old.net new.net
  pub are : AreLines old.fronts roster old.net new.net none lines
  pub received : Receives old.jobs new.jobs (jobs_received lines)
  pub handed : new.handed ≡ old.handed ++ posts lines
  pub counted : new.answered ≡ old.answered + length (pairs lines)
  pub grows : Grows old.pairs new.pairs (pairs lines)
  pub stamps : Stamps old.said new.said (events_in lines)
  pub failed : IsTrue (any_by_device lines) → Rose old.net.told.failures new.net.told.failures
  pub few_events : length (events_in lines) ≤ events
  pub few_jobs : length (jobs_received lines) ≤ jobs
  pub fronts : new.fronts ≡ old.fronts
  pub fared : Fared blind old.outside new.outside

-- Steps with one event at most. This stamp, which is the last one that was said before them, is
-- counted as said in them.
abbrev pub TurnsFromStamp : Stamp → List Listed → World → World → List Line → Bool → Type 0
TurnsFromStamp stamp roster old new lines blind = (said : List Stamp) → old.said ≡ said ++ stamp ∷ [] → Turns roster 1 0 (record old { said = said }) new lines blind

-- One round more, with one event and one job at most: if any number of rounds leads to its beginning
-- with the first lines, one more leads to its end with the second. What is outside failed, or did not.
abbrev pub OneRoundMore : List Listed → World → World → List Line → List Line → Bool → Type 0
OneRoundMore roster old new before after blind = (first : World) (n : ℕ) → Turns roster n n first old before false → Turns roster (n + 1) (n + 1) first new after blind

-- connections whose time is over at this moment are closed, and no fault is noted
pub record Sweeps (now : ℕ) (old new : Net) : Type 0 where
  pub told : new.told ≡ old.told
  pub each : (c : ℕ) → (at c new.table ≡ at c old.table) ⊎ ((at c new.table ≡ None) × ((x : Connection) × (at c old.table ≡ Some x) × IsOverdue now x))
  pub next : new.table.next ≡ old.table.next
  pub refusals : new.table.refusals ≡ old.table.refusals
  pub clients : clients new.table ≤ clients old.table
  pub device : new.device ≡ old.device

-- A whole turn: the connections whose time was over at its first moment were closed, and then it went on with these lines; or there was no moment to be had, and nothing was done.
pub record Went (roster : List Listed) (old new : World) (lines : List Line) : Type 0 where
  pub now : ℕ
  pub swept : Net
  pub sweeps : Sweeps now (record old.net { device = None }) swept
  pub word : ℕ
  pub later : List Stamp
  pub said : new.said ≡ old.said ++ (now, word) ∷ later
  pub blind : Bool
  pub turns : Turns roster 64 64 (record old { net = swept }) new lines blind

pub record Stood (old new : World) (lines : List Line) : Type 0 where
  pub same : new ≡ record old { net = record old.net { device = None }; outside = new.outside }
  pub fails : Fails old.outside new.outside
  pub no_lines : lines ≡ []

abbrev pub Turned : List Listed → World → World → List Line → Type 0
Turned roster old new lines = Went roster old new lines ⊎ Stood old new lines
