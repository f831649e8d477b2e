-- What a turn of the clock does, act by act.
use Rattle.std.specs.Prelude.{◌≡◌, ◌+◌, ℕ, Bool, true, false, List, [], ◌∷◌, Option, Some, None, flat_map, if◌then◌else◌, slice_get, ◌||◌}
use Rattle.lb_loops_clock.specs.Lines.{is_done}
use Rattle.lb_loops_clock.specs.declared.turn.End.{End}
use Rattle.lb_loops_clock.specs.declared.turn.End.TheVariants as ends
use Rattle.lb_loops_clock.specs.declared.turn.Step.{Step}
use Rattle.lb_loops_clock.specs.declared.turn.Step.TheVariants as steps
use Rattle.lb_step.specs.declared.event.Event.TheVariants.{HealthResult, Tick}
use Rattle.lb_loops_io.specs.Lines.{is_by_device}
use Rattle.lb_loops_io.specs.Roster.{Rostered}
use Rattle.lb_loops_io.specs.Stamps.{Stamp}
use Rattle.lb_loops_io.specs.declared.report.DeviceFault.{DeviceFault}
use Rattle.lb_loops_io.specs.declared.report.DeviceFault.TheVariants as devices
use Rattle.lb_loops_io.specs.declared.report.Line.{Line}
use Rattle.lb_loops_io.specs.declared.report.Line.TheVariants as lines
use Rattle.lb_loops_io.specs.declared.report.Outcome.{Outcome}
use Rattle.lb_loops_io.specs.declared.report.Sending.{Sending}
use Rattle.lb_loops_io.specs.declared.report.Source.TheVariants as sources
use Rattle.lb_loops_io.specs.declared.roster.Place.{Place}
use Rattle.lb_loops_io.specs.declared.traffic.Datagram.{Datagram}
use Rattle.lb_loops_probes.specs.Probes.{Answers, Follows, IsDue, IsOver, Probed, Unheard, begun, ended, place_of}
use Rattle.lb_loops_probes.specs.declared.watched.Waits.{Waits}
use Rattle.lb_loops_probes.specs.declared.watched.Watched.{Watched}

-- What is done at one moment, which is the act's own:
--   Asked          nothing but to ask for it: the moment at which the turn begins
--   Blinded        there was none to be had
--   Followed       the servers that are probed become those of the roster
--   Unread         no datagram was read: none waits, or a socket failed
--   Passed         a datagram was read that answers no probe
--   Heard          one was read that answers a probe: the good result goes to the desk
--   HeldBack       the same, and the gate held the result
--   Ended          a probe was over: the bad result goes to the desk
--   Begun          a probe was sent, or could not be
--   Ticked         a tick goes to the desk
--   Held           the gate held a bad result or a tick
pub data Act : Type 0 where
  Asked : Stamp → Act
  Blinded : Act
  Followed : Act
  Unread : Stamp → Bool → Act
  Passed : Stamp → Datagram → Act
  Heard : Stamp → Datagram → ℕ → Watched → Waits → Outcome → Sending → Act
  HeldBack : Stamp → Datagram → Act
  Ended : Stamp → ℕ → Watched → Waits → Outcome → Sending → Act
  Begun : Stamp → ℕ → Watched → Place → Sending → Act
  Ticked : Stamp → Outcome → Sending → Act
  Held : Stamp → Act

-- the line of an act
abbrev pub line_in : Act → List Line
line_in (Heard stamp d i w x outcome sending) = lines.Event (sources.Probe w.server x.word) (HealthResult stamp.0 w.server true) outcome sending ∷ []
line_in (Ended stamp i w x outcome sending) = lines.Event (sources.Probe w.server x.word) (HealthResult stamp.0 w.server false) outcome sending ∷ []
line_in (Begun stamp i w place sending) = lines.Probe w.server stamp.1 sending ∷ []
line_in (Ticked stamp outcome sending) = lines.Event sources.Clock (Tick stamp.0) outcome sending ∷ []
line_in _ = []

abbrev pub lines_in : List Act → List Line
lines_in = flat_map line_in

-- the datagram that was read
abbrev pub read_in : Act → List Datagram
read_in (Passed stamp d) = d ∷ []
read_in (Heard stamp d i w x outcome sending) = d ∷ []
read_in (HeldBack stamp d) = d ∷ []
read_in _ = []

abbrev pub reads_in : List Act → List Datagram
reads_in = flat_map read_in

-- how often the sockets were asked for a datagram, whatever came of it
abbrev pub tried_in : Act → ℕ
tried_in (Unread stamp failed) = 1
tried_in (Passed stamp d) = 1
tried_in (Heard stamp d i w x outcome sending) = 1
tried_in (HeldBack stamp d) = 1
tried_in _ = 0

abbrev pub tries_in : List Act → ℕ
tries_in [] = 0
tries_in (act ∷ more) = tried_in act + tries_in more

-- the moment that was said for it, with its word
abbrev pub stamp_in : Act → List Stamp
stamp_in (Asked stamp) = stamp ∷ []
stamp_in Blinded = []
stamp_in Followed = []
stamp_in (Unread stamp failed) = stamp ∷ []
stamp_in (Passed stamp d) = stamp ∷ []
stamp_in (Heard stamp d i w x outcome sending) = stamp ∷ []
stamp_in (HeldBack stamp d) = stamp ∷ []
stamp_in (Ended stamp i w x outcome sending) = stamp ∷ []
stamp_in (Begun stamp i w place sending) = stamp ∷ []
stamp_in (Ticked stamp outcome sending) = stamp ∷ []
stamp_in (Held stamp) = stamp ∷ []

abbrev pub stamps_in : List Act → List Stamp
stamps_in = flat_map stamp_in

-- the sockets failed
abbrev pub failed_in : Act → Bool
failed_in (Unread stamp failed) = failed
failed_in (Heard stamp d i w x outcome sending) = is_by_device sending
failed_in (Ended stamp i w x outcome sending) = is_by_device sending
failed_in (Begun stamp i w place sending) = is_by_device sending
failed_in (Ticked stamp outcome sending) = is_by_device sending
failed_in _ = false

abbrev pub any_failed : List Act → Bool
any_failed [] = false
any_failed (act ∷ more) = failed_in act || any_failed more

-- there was no moment to be had
abbrev pub blind_in : Act → Bool
blind_in Blinded = true
blind_in _ = false

abbrev pub any_blind : List Act → Bool
any_blind [] = false
any_blind (act ∷ more) = blind_in act || any_blind more

-- the device fault that an act shows, and the first one of several acts
abbrev pub device_in : Act → Option DeviceFault
device_in act = if failed_in act then Some devices.Sockets else (if blind_in act then Some devices.Outside else None)

abbrev pub or_device : Option DeviceFault → Option DeviceFault → Option DeviceFault
or_device None later = later
or_device (Some fault) later = Some fault

abbrev pub first_device : List Act → Option DeviceFault
first_device [] = None
first_device (act ∷ more) = or_device (device_in act) (first_device more)

-- why a turn ends with this act, where it does
abbrev pub end_by : Act → Option End
end_by Blinded = Some ends.Blind
end_by (HeldBack stamp d) = Some ends.Held
end_by (Held stamp) = Some ends.Held
end_by _ = None

-- why a turn ends with a step, where it does
abbrev pub end_of : Step → Option End
end_of steps.More = None
end_of steps.Last = None
end_of (steps.Over end) = Some end

-- acts that end a turn for this reason, or do not: nothing is done after one that ends it
abbrev pub StopsAt : Option End → List Act → Type 0 → Option End → Type 0
StopsAt None more rest end = rest
StopsAt (Some this) more rest end = (more ≡ []) × (end ≡ Some this)

abbrev pub Stops : List Act → Option End → Type 0
Stops [] end = end ≡ None
Stops (act ∷ more) end = StopsAt (end_by act) more (Stops more end) end

-- what a turn stands on: the roster, and the moment at which it begins
pub record Setting : Type 0 where
  pub roster : Rostered
  pub start : ℕ

abbrev pub setting : Rostered → ℕ → Setting
setting roster start = record { roster = roster; start = start }

-- what an act does to the probes, and what it is done for
abbrev pub Probes : Setting → Act → Probed → Probed → Type 0
Probes on Followed p q = Follows on.roster on.start p q
Probes on (Passed stamp d) p q = (q ≡ p) × Unheard stamp.0 d p.watched
Probes on (Heard stamp d i w x outcome sending) p q =
    (place_of d.socket p.watched ≡ Some i) × (slice_get p.watched i ≡ Some w) × (w.waits ≡ Some x) × Answers stamp.0 d w × (q ≡ ended p i w)
Probes on (Ended stamp i w x outcome sending) p q =
    (slice_get p.watched i ≡ Some w) × (w.waits ≡ Some x) × IsOver on.start x × (q ≡ ended p i w)
Probes on (Begun stamp i w place sending) p q =
    (slice_get p.watched i ≡ Some w) × IsDue on.roster.listed on.start w place × (q ≡ begun p i w place on.start stamp (is_done sending))
Probes on _ p q = q ≡ p

-- acts, one after the other
abbrev pub AllProbes : Setting → List Act → Probed → Probed → Type 0
AllProbes on [] p q = q ≡ p
AllProbes on (act ∷ more) p q = (mid : Probed) × Probes on act p mid × AllProbes on more mid q
