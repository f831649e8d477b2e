-- What a turn of the clock does.
use Rattle.std.specs.Prelude.{◌≡◌, ◌⊎◌, ◌+◌, ◌≤◌, ℕ, Bool, true, false, List, [], ◌∷◌, ◌++◌, Option, Some, None, length, slice_get}
use Rattle.lb_loops_clock.specs.Acts.{Act, AllProbes, Asked, Blinded, Followed, Setting, Stops, any_blind, any_failed, first_device, lines_in, or_device, reads_in, setting, stamps_in, tries_in}
use Rattle.lb_loops_clock.specs.Lines.{AreLines, Comes, datagrams, is_quiet, probes_in}
use Rattle.lb_loops_clock.specs.World.{World}
use Rattle.lb_loops_clock.specs.declared.turn.End.{End}
use Rattle.lb_loops_clock.specs.declared.turn.End.TheVariants as ends
use Rattle.lb_step.specs.declared.event.Event.{Event}
use Rattle.lb_step.specs.declared.event.Event.TheVariants.{Tick}
use Rattle.lb_loops_io.specs.Counts.{Fails, Grows}
use Rattle.lb_loops_io.specs.Letter.{IsOutcome, Letter, outcome_letter}
use Rattle.lb_loops_io.specs.Lines.{answered_as, events_in, is_by_device, pairs}
use Rattle.lb_loops_io.specs.Roster.{Rostered}
use Rattle.lb_loops_io.specs.Ways.{job_in, jobs_sent, packet_in, post_in, posts}
use Rattle.lb_loops_io.specs.declared.report.DeviceFault.{DeviceFault}
use Rattle.lb_loops_io.specs.declared.report.Line.{Line}
use Rattle.lb_loops_io.specs.declared.report.Line.TheVariants as lines
use Rattle.lb_loops_io.specs.declared.report.Outcome.{Outcome}
use Rattle.lb_loops_io.specs.declared.report.Sending.{Sending}
use Rattle.lb_loops_io.specs.declared.report.Source.TheVariants as sources
use Rattle.lb_loops_io.specs.declared.roster.Listed.{Listed}
use Rattle.lb_loops_probes.specs.Probes.{Each, Follows, Here, IsAsked, IsDue, IsTimely, later, second}
use Rattle.lb_loops_probes.specs.declared.probes.Due.{Due}
use Rattle.lb_loops_probes.specs.declared.watched.Watched.{Watched}

-- a count of failures: one more or several where something failed, and the same else
abbrev pub FailsBy : Bool → ℕ → ℕ → Type 0
FailsBy true before after = Fails before after
FailsBy false before after = after ≡ before

-- what becomes of a letter, if there is one: what came of its send, and what it was sent by
pub record Sends (old new : World) (letter : Option Letter) (sending : Sending) : Type 0 where
  pub comes : Comes old.fronts old.there letter sending
  pub taken : (roster : List Listed) → new.taken ≡ old.taken ++ packet_in roster letter sending
  pub sent : new.outbox ≡ record old.outbox { sent = old.outbox.sent ++ job_in letter sending }
  pub handed : new.handed ≡ old.handed ++ post_in letter sending
  pub failed : FailsBy (is_by_device sending) old.failures new.failures
  pub same : new ≡ record old { taken = new.taken; outbox = new.outbox; handed = new.handed; failures = new.failures }

-- what becomes of an event that is handed to the desk: what comes of it, and of its send
pub record Tells (old new : World) (event : Event) (outcome : Outcome) (sending : Sending) : Type 0 where
  pub is : IsOutcome event outcome
  pub comes : Comes old.fronts old.there (outcome_letter event outcome) sending
  pub taken : (roster : List Listed) → new.taken ≡ old.taken ++ packet_in roster (outcome_letter event outcome) sending
  pub sent : new.outbox ≡ record old.outbox { sent = old.outbox.sent ++ job_in (outcome_letter event outcome) sending }
  pub handed : new.handed ≡ old.handed ++ post_in (outcome_letter event outcome) sending
  pub counted : new.answered ≡ old.answered + length (answered_as event outcome)
  pub grows : Grows old.pairs new.pairs (answered_as event outcome)
  pub failed : FailsBy (is_by_device sending) old.failures new.failures
  pub same : new ≡ record old { taken = new.taken; outbox = new.outbox; handed = new.handed; answered = new.answered; pairs = new.pairs; failures = new.failures }

-- These acts lead from one world to another: what was read and said, how often a datagram was asked
-- for, what was sent each way, what the desk answered, and how the probes stand, are what the acts
-- say, in order; a device failed only where an act says so.
pub record Turns (on : Setting) (acts : List Act) (old new : World) : Type 0 where
  pub probes : AllProbes on acts old.probes new.probes
  pub given : new.given ≡ old.given ++ reads_in acts
  pub said : new.said ≡ old.said ++ stamps_in acts
  pub taken : new.taken ≡ old.taken ++ datagrams on.roster.listed (lines_in acts)
  pub sent : new.outbox ≡ record old.outbox { sent = old.outbox.sent ++ jobs_sent (lines_in acts) }
  pub handed : new.handed ≡ old.handed ++ posts (lines_in acts)
  pub are : AreLines old.fronts old.there (lines_in acts)
  pub counted : new.answered ≡ old.answered + length (pairs (lines_in acts))
  pub grows : Grows old.pairs new.pairs (pairs (lines_in acts))
  pub failed : FailsBy (any_failed acts) old.failures new.failures
  pub blind : FailsBy (any_blind acts) old.outside new.outside
  pub fronts : new.fronts ≡ old.fronts
  pub there : new.there ≡ old.there
  pub reads : new.reads ≡ old.reads + tries_in acts

-- steps, with at most so many reads, whatever came of them: the lines that they add, the first
-- device fault, and why the turn ends with them, where it does
pub record Goes (on : Setting) (reads : ℕ) (old new : World) (before after : List Line) (device later : Option DeviceFault) (end : Option End) : Type 0 where
  pub acts : List Act
  pub turns : Turns on acts old new
  pub lines : after ≡ before ++ lines_in acts
  pub noted : later ≡ or_device device (first_device acts)
  pub stops : Stops acts end
  pub few : tries_in acts ≤ reads

-- steps without a read, for a server whose next probe is due at the moment at which the turn began,
-- by whatever roster
abbrev pub GoesWhenDue : ℕ → Due → World → World → List Line → List Line → Option DeviceFault → Option DeviceFault → Option End → Type 0
GoesWhenDue start due old new before after device later end = (roster : Rostered) → IsDue roster.listed start due.watched due.place → Goes (setting roster start) 0 old new before after device later end

-- nothing more was due at the end, or as many events were told as may be
abbrev pub Rests : List Line → Type 0
Rests told = (length (events_in told) ≡ 64) ⊎ ((more : List Line) × (now : ℕ) × (outcome : Outcome) × (sending : Sending) × (told ≡ more ++ lines.Event sources.Clock (Tick now) outcome sending ∷ []) × (is_quiet outcome ≡ true))

-- whether the gate held an event
abbrev pub held_by : Option End → Bool
held_by (Some ends.Held) = true
held_by _ = false

-- a turn begins at this moment, which was said with a word, and the servers that are probed become
-- those of the roster
abbrev pub BeginsTurn : Rostered → ℕ → World → World → Type 0
BeginsTurn roster now old new = (word : ℕ) × (new ≡ record old { probes = new.probes; said = old.said ++ (now, word) ∷ [] }) × Follows roster now old.probes new.probes

-- how a turn begins: with a moment, at which the servers that are probed become those of the roster, or there is none to be had
abbrev pub Begins : ℕ → List Act → Type 0
Begins start acts = (acts ≡ Blinded ∷ []) ⊎ ((word : ℕ) × (more : List Act) × (acts ≡ Asked (start, word) ∷ Followed ∷ more))

-- the others stay, and as many
abbrev pub Others : ℕ → List Watched → List Watched → Type 0
Others i p q = (length q ≡ length p) × ((j : ℕ) → (j ≡ i → ⊥) → slice_get q j ≡ slice_get p j)

-- how the server at a place goes on where its probe ends if it is over, unless as many events were told as may be: their number before and after
abbrev pub EndsAt : ℕ → ℕ → List Watched → List Watched → ℕ → ℕ → Type 0
EndsAt now i p q before after =
    Others i p q × (before ≤ after) × ((64 ≤ after) ⊎ Here (IsTimely now) i q) × ((w : Watched) → slice_get p i ≡ Some w → (x : Watched) × (slice_get q i ≡ Some x) × (x.next ≡ w.next))

-- the server at a place is sent a probe: its next one is due a second later
abbrev pub BeginsAt : ℕ → ℕ → List Watched → List Watched → Type 0
BeginsAt now i p q = Others i p q × ((w : Watched) × (slice_get q i ≡ Some w) × (w.next ≡ later now second))

-- the same where it is sent one if that is due, unless as many were sent as may be, and one that could not be sent ends, unless as many events were told as may be
abbrev pub ProbesAt : List Listed → ℕ → ℕ → List Watched → List Watched → ℕ → ℕ → ℕ → ℕ → Type 0
ProbesAt roster now i p q before after sent more =
    Others i p q × (before ≤ after) × (sent ≤ more) × ((64 ≤ after) ⊎ (Here (IsTimely now) i p → Here (IsTimely now) i q)) × ((64 ≤ more) ⊎ Here (IsAsked roster now) i q)

-- the same for a server whose next probe is due, by whatever roster
abbrev pub ProbesDueAt : ℕ → ℕ → List Watched → List Watched → ℕ → ℕ → ℕ → ℕ → Type 0
ProbesDueAt now i p q before after sent more = (roster : List Listed) → ProbesAt roster now i p q before after sent more

-- Steps that are a whole turn. It ends before it rests only where the gate held an event, and where there was no moment to be had; at rest,
-- unless as many events or probes were told as may be, no probe is over and none is due at the moment at which it began.
pub record Steps (roster : Rostered) (old new : World) (before after : List Line) (device later : Option DeviceFault) (end : Option End) : Type 0 where
  pub start : ℕ
  pub goes : Goes (setting roster start) 64 old new before after device later end
  pub begins : Begins start goes.acts
  pub rests : end ≡ None → Rests after
  pub timely : end ≡ None → (64 ≤ length (events_in after)) ⊎ Each (IsTimely start) new.probes.watched
  pub asked : end ≡ None → (64 ≤ length (probes_in after)) ⊎ Each (IsAsked roster.listed start) new.probes.watched

-- a whole turn, its lines, its first device fault, and whether the gate held an event
pub record Turned (roster : Rostered) (old new : World) (told : List Line) (device : Option DeviceFault) (held : Bool) : Type 0 where
  pub end : Option End
  pub steps : Steps roster old new [] told None device end
  pub holds : held ≡ held_by end
  pub few_events : length (events_in told) ≤ 64
  pub few_probes : length (probes_in told) ≤ 64
