-- The way that a message goes, and what was sent by each way.
use Rattle.std.specs.Prelude.{◌≡◌, ◌≢◌, ℕ, ◌+◌, ◌≤◌, List, [], ◌∷◌, Option, Some, None, flat_map, length, option_and_then, option_map, option_to_list, if◌then◌else◌, ◌==◌}
use Rattle.lb_wire.specs.declared.addr.Origin.{Origin}
use Rattle.lb_outbox.specs.declared.job.Job.{Job}
use Rattle.lb_outbox.specs.declared.job.Job.TheVariants as jobs
use Rattle.lb_loops_io.specs.Letter.{Letter, job_letter, outcome_letter}
use Rattle.lb_loops_io.specs.Roster.{end_of}
use Rattle.lb_loops_io.specs.declared.endpoint.Endpoint.{Endpoint}
use Rattle.lb_loops_io.specs.declared.letter.End.TheVariants.{Client, Server}
use Rattle.lb_loops_io.specs.declared.report.Line.{Line}
use Rattle.lb_loops_io.specs.declared.report.Line.TheVariants as lines
use Rattle.lb_loops_io.specs.declared.report.Sending.{Sending}
use Rattle.lb_loops_io.specs.declared.report.Sending.TheVariants.{Done}
use Rattle.lb_loops_io.specs.declared.report.Way.TheVariants as ways
use Rattle.lb_loops_io.specs.declared.roster.Listed.{Listed}
use Rattle.lb_loops_io.specs.declared.traffic.Datagram.{Datagram}
use Rattle.lb_loops_io.specs.declared.traffic.Socket.TheVariants as sockets

-- the datagram that carries a letter: from a listener to its client, or from a server's socket to the server's end
abbrev pub packet_of : List Listed → Letter → Option Datagram
packet_of roster (Client origin, bytes) = Some (record { socket = sockets.Listener origin.front; peer = record { addr = origin.source; port = origin.port }; bytes = bytes })
packet_of roster (Server server lane, bytes) = option_map (λ (at : Endpoint). record { socket = sockets.Server server lane.number at; peer = at; bytes = bytes }) (end_of server roster)

-- the datagram of a letter, where its send was done so
abbrev pub packet_in : List Listed → Option Letter → Sending → List Datagram
packet_in roster letter (Done ways.Datagram) = option_to_list (option_and_then (packet_of roster) letter)
packet_in roster letter _ = []

-- the message of a letter, where it was sent to this connection
abbrev pub message_in : ℕ → Option Letter → Sending → List (List ℕ)
message_in c (Some letter) (Done (ways.Connection n)) = if n == c then letter.1 ∷ [] else []
message_in c _ _ = []

-- the job that a letter made, where the outbox took it
abbrev pub job_in : Option Letter → Sending → List Job
job_in (Some (Client origin, bytes)) (Done ways.Outbox) = jobs.ToClient origin bytes ∷ []
job_in (Some (Server server lane, bytes)) (Done ways.Outbox) = jobs.ToServer server lane bytes ∷ []
job_in _ _ = []

-- the origin and the octets of a letter, where a waiting request took it
abbrev pub post_in : Option Letter → Sending → List (Origin × List ℕ)
post_in (Some (Client origin, bytes)) (Done ways.Post) = (origin, bytes) ∷ []
post_in _ _ = []

-- the letter of a line; a probe is its own send
abbrev pub letter_of : Line → Option Letter
letter_of (lines.Event source event outcome sending) = outcome_letter event outcome
letter_of (lines.Job job sending) = Some (job_letter job)
letter_of (lines.Probe server word sending) = None

-- what came of the send of a line
abbrev pub sending_of : Line → Sending
sending_of (lines.Event source event outcome sending) = sending
sending_of (lines.Job job sending) = sending
sending_of (lines.Probe server word sending) = sending

-- what the sends of these lines that were done put on each way, in order
abbrev pub packets : List Listed → List Line → List Datagram
packets roster = flat_map (λ (l : Line). packet_in roster (letter_of l) (sending_of l))

abbrev pub messages_to : ℕ → List Line → List (List ℕ)
messages_to c = flat_map (λ (l : Line). message_in c (letter_of l) (sending_of l))

abbrev pub jobs_sent : List Line → List Job
jobs_sent = flat_map (λ (l : Line). job_in (letter_of l) (sending_of l))

abbrev pub posts : List Line → List (Origin × List ℕ)
posts = flat_map (λ (l : Line). post_in (letter_of l) (sending_of l))

-- a line puts one message at most on all ways, whichever connection is looked at
abbrev pub OneMessage : Type 0
OneMessage = (roster : List Listed) (c : ℕ) (line : Line) → length (packet_in roster (letter_of line) (sending_of line)) + length (message_in c (letter_of line) (sending_of line)) + length (job_in (letter_of line) (sending_of line)) + length (post_in (letter_of line) (sending_of line)) ≤ 1

-- and not one on each of two connections
abbrev pub OneConnection : Type 0
OneConnection = (c d : ℕ) (line : Line) → c ≢ d → length (message_in c (letter_of line) (sending_of line)) + length (message_in d (letter_of line) (sending_of line)) ≤ 1
