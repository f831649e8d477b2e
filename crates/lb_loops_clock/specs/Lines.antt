-- The lines of a turn of the clock.
use Rattle.std.specs.Prelude.{◌≡◌, ℕ, Bool, true, false, List, [], ◌∷◌, Option, Some, None, flat_map, option_map, option_to_list, get_or, slice_get, if◌then◌else◌, ◌==◌}
use Rattle.lb_step.specs.declared.answer.Answer.TheVariants as answers
use Rattle.lb_health.specs.Probes.{probe_octets}
use Rattle.lb_loops_io.specs.Letter.{IsOutcome, Letter, outcome_letter}
use Rattle.lb_loops_io.specs.Roster.{end_of}
use Rattle.lb_loops_io.specs.Ways.{letter_of, packet_in}
use Rattle.lb_loops_io.specs.declared.endpoint.Endpoint.{Endpoint}
use Rattle.lb_loops_io.specs.declared.letter.End.TheVariants.{Client, Server}
use Rattle.lb_loops_io.specs.declared.report.Line.{Line}
use Rattle.lb_loops_io.specs.declared.report.Line.TheVariants as lines
use Rattle.lb_loops_io.specs.declared.report.Outcome.{Outcome}
use Rattle.lb_loops_io.specs.declared.report.Outcome.TheVariants.{Answered, Fault}
use Rattle.lb_loops_io.specs.declared.report.Sending.{Sending}
use Rattle.lb_loops_io.specs.declared.report.Sending.TheVariants.{Done, Failed, Nothing}
use Rattle.lb_loops_io.specs.declared.report.Way.{Way}
use Rattle.lb_loops_io.specs.declared.report.Way.TheVariants as ways
use Rattle.lb_loops_io.specs.declared.report.Why.{Why}
use Rattle.lb_loops_io.specs.declared.report.Why.TheVariants as whys
use Rattle.lb_loops_io.specs.declared.roster.Listed.{Listed}
use Rattle.lb_loops_io.specs.declared.traffic.Datagram.{Datagram}
use Rattle.lb_loops_io.specs.declared.traffic.Service.{Service}
use Rattle.lb_loops_io.specs.declared.traffic.Service.TheVariants as services
use Rattle.lb_loops_io.specs.declared.traffic.Socket.TheVariants as sockets
use Rattle.lb_outbox.specs.declared.job.Job.{Job}
use Rattle.lb_outbox.specs.declared.job.Job.TheVariants as jobs
use Rattle.lb_wire.specs.declared.addr.Origin.{Origin}
use Rattle.lb_wire.specs.declared.ids.ServerId.{ServerId}

-- the way to a client that asked by this listener, in this slot: its datagrams have slot 0; a console, and no listener, is no way
abbrev pub way_to : Option Service → ℕ → Option Way
way_to (Some services.Datagram) slot = if slot == 0 then Some ways.Datagram else None
way_to (Some services.Stream) slot = Some ways.Outbox
way_to (Some services.Http) slot = Some ways.Post
way_to (Some services.Console) slot = None
way_to None slot = None

-- the way of a letter: to a client by what its listener is; to a server there is none
abbrev pub way_of : List Service → Letter → Option Way
way_of fronts (Client origin, bytes) = way_to (slice_get fronts origin.front) origin.slot
way_of fronts (Server server lane, bytes) = None

-- whether the sockets have the listener of a letter
abbrev pub is_listened : List Bool → Letter → Bool
is_listened there (Client origin, bytes) = get_or there origin.front false
is_listened there (Server server lane, bytes) = false

-- there is no way, or the request had ended, or the sockets have no such listener
abbrev pub IsGone : Option Way → Bool → Type 0
IsGone None there = Unit {0}
IsGone (Some ways.Datagram) there = there ≡ false
IsGone (Some ways.Post) there = Unit {0}
IsGone (Some ways.Outbox) there = ⊥
IsGone (Some (ways.Connection n)) there = ⊥

-- why a letter with this way is not sent: the outbox was full, a socket failed, memory was lacking, or it was gone
abbrev pub Fits : Option Way → Bool → Why → Type 0
Fits way there whys.NoServer = ⊥
Fits way there whys.Gone = IsGone way there
Fits way there whys.Limit = ⊥
Fits way there whys.Full = way ≡ Some ways.Outbox
Fits way there whys.Device = way ≡ Some ways.Datagram
Fits way there whys.NoMemory = Unit {0}

-- what comes of the send of a letter: it went its way, or failed for a cause
abbrev pub ComesBy : Option Way → Bool → Sending → Type 0
ComesBy way there Nothing = ⊥
ComesBy way there (Done by) = way ≡ Some by
ComesBy way there (Failed why) = Fits way there why

-- what comes of a send: nothing where there is no letter
abbrev pub Comes : List Service → List Bool → Option Letter → Sending → Type 0
Comes fronts there None sending = sending ≡ Nothing
Comes fronts there (Some letter) sending = ComesBy (way_of fronts letter) (is_listened there letter) sending

-- what comes of the send of a probe: a socket took it or failed, or memory was lacking
abbrev pub ProbeComes : Sending → Type 0
ProbeComes (Done ways.Datagram) = Unit {0}
ProbeComes (Failed whys.Device) = Unit {0}
ProbeComes (Failed whys.NoMemory) = Unit {0}
ProbeComes _ = ⊥

-- a line of the clock: an event, with what came of it and of its send; or a probe
abbrev pub IsLine : List Service → List Bool → Line → Type 0
IsLine fronts there (lines.Event source event outcome sending) = IsOutcome event outcome × Comes fronts there (outcome_letter event outcome) sending
IsLine fronts there (lines.Probe server word sending) = ProbeComes sending
IsLine fronts there (lines.Job job sending) = ⊥

abbrev pub AreLines : List Service → List Bool → List Line → Type 0
AreLines fronts there [] = Unit {0}
AreLines fronts there (line ∷ more) = IsLine fronts there line × AreLines fronts there more

abbrev pub is_done : Sending → Bool
is_done (Done way) = true
is_done _ = false

-- the answer of a query that timed out, and its client
abbrev pub expired_in : Outcome → Option (Origin × List ℕ)
expired_in (Answered (answers.Expired origin bytes)) = Some (origin, bytes)
expired_in _ = None

-- that of a line, if there was no memory for its copy
abbrev pub unsent : Line → Option (Origin × List ℕ)
unsent (lines.Event source event outcome (Failed whys.NoMemory)) = expired_in outcome
unsent _ = None

-- the job that carries a message to a client of this listener, if it is one of streams
abbrev pub stream_job : Option Service → Origin → List ℕ → Option Job
stream_job (Some services.Stream) origin bytes = Some (jobs.ToClient origin bytes)
stream_job _ origin bytes = None

-- the job that carries such an answer itself
abbrev pub job_again : List Service → Option (Origin × List ℕ) → Option Job
job_again fronts (Some (origin, bytes)) = stream_job (slice_get fronts origin.front) origin bytes
job_again fronts None = None

-- the datagram of a probe: from the server's socket to the end that the roster has of it
abbrev pub probe_to : ServerId → ℕ → Endpoint → Datagram
probe_to server word at = record { socket = sockets.Server server 0 at; peer = at; bytes = probe_octets word }

abbrev pub probe_in : List Listed → ServerId → ℕ → Sending → List Datagram
probe_in roster server word sending = if is_done sending then option_to_list (option_map (probe_to server word) (end_of server roster)) else []

-- the datagram of a line whose send was done so: of a letter, or a probe
abbrev pub datagram_in : List Listed → Line → List Datagram
datagram_in roster (lines.Probe server word sending) = probe_in roster server word sending
datagram_in roster (lines.Event source event outcome sending) = packet_in roster (outcome_letter event outcome) sending
datagram_in roster (lines.Job job sending) = packet_in roster (letter_of (lines.Job job sending)) sending

-- the datagrams of these lines, in order
abbrev pub datagrams : List Listed → List Line → List Datagram
datagrams roster = flat_map (datagram_in roster)

-- a line of a probe
abbrev pub probe_line : Line → List Line
probe_line (lines.Probe server word sending) = lines.Probe server word sending ∷ []
probe_line _ = []

-- the probes of these lines, in order
abbrev pub probes_in : List Line → List Line
probes_in = flat_map probe_line

-- nothing more is due after what came of a tick
abbrev pub is_quiet : Outcome → Bool
is_quiet (Answered answers.Quiet) = true
is_quiet (Answered _) = false
is_quiet (Fault fault excuse) = true
