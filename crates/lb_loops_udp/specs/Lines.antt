-- The lines of a turn of datagrams.
use Rattle.std.specs.Prelude.{◌≡◌, ℕ, Bool, true, false, List, [], ◌∷◌, ◌++◌, Option, Some, None, ◌==◌, ◌&&◌, get_or, map}
use Rattle.std.specs.List.{range_with_len}
use Rattle.lb_loops_io.specs.Counts.{Fails}
use Rattle.lb_loops_io.specs.Letter.{IsOutcome, Letter, outcome_letter}
use Rattle.lb_loops_io.specs.Moves.{is_there}
use Rattle.lb_loops_io.specs.Ways.{letter_of, packet_of}
use Rattle.lb_loops_io.specs.declared.letter.End.TheVariants.{Client, Server}
use Rattle.lb_loops_io.specs.declared.report.Line.{Line}
use Rattle.lb_loops_io.specs.declared.report.Line.TheVariants as lines
use Rattle.lb_loops_io.specs.declared.report.Sending.{Sending}
use Rattle.lb_loops_io.specs.declared.report.Sending.TheVariants.{Done, Failed, Nothing}
use Rattle.lb_loops_io.specs.declared.report.Source.TheVariants as sources
use Rattle.lb_loops_io.specs.declared.report.Way.TheVariants as ways
use Rattle.lb_loops_io.specs.declared.report.Why.{Why}
use Rattle.lb_loops_io.specs.declared.report.Why.TheVariants as whys
use Rattle.lb_loops_io.specs.declared.roster.Listed.{Listed}
use Rattle.lb_loops_io.specs.declared.traffic.Datagram.{Datagram}
use Rattle.lb_wire.specs.declared.transport.Kind.{Kind}
use Rattle.lb_wire.specs.declared.transport.Kind.TheVariants as kinds

abbrev pub is_datagram : Kind → Bool
is_datagram kinds.Datagram = true
is_datagram kinds.Stream = false

-- at which of the 256 places there is a listener
abbrev pub listened : (ℕ → Bool) → List Bool
listened listens = map listens (range_with_len 0 256)

-- whether there is a listener at a place
abbrev pub hears : List Bool → ℕ → Bool
hears there front = get_or there front false

-- whether sockets of datagrams have a way to the end of a letter
abbrev pub reaches : (ℕ → Bool) → Letter → Bool
reaches listens (Client origin, bytes) = (origin.slot == 0) && listens origin.front
reaches listens (Server server lane, bytes) = is_datagram lane.kind

-- why a letter is not sent: its server is not in the roster; there is no way to its end; a device failed, or memory was lacking
abbrev pub Fits : List Listed → (ℕ → Bool) → Letter → Why → Type 0
Fits roster listens letter whys.NoServer = packet_of roster letter ≡ None
Fits roster listens letter whys.Gone = (reaches listens letter ≡ false) × ((d : Datagram) × (packet_of roster letter ≡ Some d))
Fits roster listens letter whys.Limit = ⊥
Fits roster listens letter whys.Full = ⊥
Fits roster listens letter whys.Device = Unit {0}
Fits roster listens letter whys.NoMemory = Unit {0}

-- what comes of a send: nothing where there is no letter; else it is done, and reached its end, or failed for a cause
abbrev pub Comes : List Listed → (ℕ → Bool) → Option Letter → Sending → Type 0
Comes roster listens None sending = sending ≡ Nothing
Comes roster listens (Some letter) Nothing = ⊥
Comes roster listens (Some letter) (Done way) = (way ≡ ways.Datagram) × (reaches listens letter ≡ true) × ((d : Datagram) × (packet_of roster letter ≡ Some d))
Comes roster listens (Some letter) (Failed why) = Fits roster listens letter why

-- a line: an event that a datagram made, what came of it, and what came of its send
abbrev pub IsLine : List Listed → (ℕ → Bool) → Line → Type 0
IsLine roster listens (lines.Event source event outcome sending) = (source ≡ sources.Datagrams) × IsOutcome event outcome × Comes roster listens (outcome_letter event outcome) sending
IsLine roster listens _ = ⊥

abbrev pub AreLines : List Listed → (ℕ → Bool) → List Line → Type 0
AreLines roster listens [] = Unit {0}
AreLines roster listens (line ∷ more) = IsLine roster listens line × AreLines roster listens more

-- a line whose event a datagram made, with what came of it; its send is to come
abbrev pub IsAsked : Line → Type 0
IsAsked (lines.Event source event outcome sending) = (source ≡ sources.Datagrams) × IsOutcome event outcome
IsAsked _ = ⊥

abbrev pub AreAsked : List Line → Type 0
AreAsked [] = Unit {0}
AreAsked (line ∷ more) = IsAsked line × AreAsked more

-- a line with what came of its send
abbrev pub sent_as : Sending → Line → Line
sent_as sending (lines.Event source event outcome before) = lines.Event source event outcome sending
sent_as sending line = line

-- a line before its send and after it
abbrev pub IsSent : List Listed → (ℕ → Bool) → Line → Line → Type 0
IsSent roster listens line sent = (sending : Sending) × (sent ≡ sent_as sending line) × Comes roster listens (letter_of line) sending

abbrev pub AreSent : List Listed → (ℕ → Bool) → List Line → List Line → Type 0
AreSent roster listens [] [] = Unit {0}
AreSent roster listens (line ∷ more) (sent ∷ others) = IsSent roster listens line sent × AreSent roster listens more others
AreSent roster listens _ _ = ⊥

-- a count of failures after a send: it rose where the send failed by a device, and is as it was else
abbrev pub FailsBy : Bool → ℕ → ℕ → Type 0
FailsBy true before after = Fails before after
FailsBy false before after = after ≡ before

-- what came of a datagram: it was taken, and its socket is there; or it was not, for a cause that a socket may have
abbrev pub SentAs : Sending → (ℕ → Bool) → Datagram → List Datagram → List Datagram → Type 0
SentAs Nothing listens d old new = ⊥
SentAs (Done way) listens d old new = (way ≡ ways.Datagram) × (new ≡ old ++ d ∷ []) × (is_there listens d.socket ≡ true)
SentAs (Failed whys.NoServer) listens d old new = ⊥
SentAs (Failed whys.Gone) listens d old new = (new ≡ old) × (is_there listens d.socket ≡ false)
SentAs (Failed whys.Limit) listens d old new = ⊥
SentAs (Failed whys.Full) listens d old new = ⊥
SentAs (Failed whys.Device) listens d old new = new ≡ old
SentAs (Failed whys.NoMemory) listens d old new = new ≡ old
