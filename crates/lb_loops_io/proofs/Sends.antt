-- A line's one send.
use Rattle.std.proofs.Common.{◌≡◌, ◌≢◌, ℕ, ◌+◌, ◌≤◌, Bool, true, false, List, [], ◌∷◌, Option, Some, None, if◌then◌else◌, ◌==◌, length, option_to_list, refl, sym, ◌∙◌, arith}
use Rattle.std.proofs.lemmas.Bool.{eqb-true}
use Rattle.lb_loops_io.specs.Letter.{Letter}
use Rattle.lb_loops_io.specs.Roster.{end_of}
use Rattle.lb_loops_io.specs.Ways.{OneConnection, OneMessage, job_in, letter_of, message_in, packet_in, packet_of, post_in, sending_of}
use Rattle.lb_loops_io.specs.declared.endpoint.Endpoint.{Endpoint}
use Rattle.lb_loops_io.specs.declared.letter.End.TheVariants.{Client, Server}
use Rattle.lb_loops_io.specs.declared.report.Sending.{Sending}
use Rattle.lb_loops_io.specs.declared.report.Sending.TheVariants.{Done, Failed, Nothing}
use Rattle.lb_loops_io.specs.declared.report.Way.TheVariants as ways
use Rattle.lb_loops_io.specs.declared.roster.Listed.{Listed}
use Rattle.lb_loops_io.specs.declared.traffic.Datagram.{Datagram}

-- a message or none
either_one : (b : Bool) (message : List ℕ) → length (if b then message ∷ [] else []) ≤ 1
either_one true message = omega arith
either_one false message = omega arith

-- a datagram or none, alone
one_packet : (found : Option Datagram) → length (option_to_list found) + 0 + 0 + 0 ≤ 1
one_packet None = omega arith
one_packet (Some d) = omega arith

-- a letter's message on all ways
one_of : (roster : List Listed) (c : ℕ) (letter : Option Letter) (sending : Sending) → length (packet_in roster letter sending) + length (message_in c letter sending) + length (job_in letter sending) + length (post_in letter sending) ≤ 1
one_of roster c None Nothing = omega arith
one_of roster c None (Failed why) = omega arith
one_of roster c None (Done ways.Datagram) = omega arith
one_of roster c None (Done (ways.Connection n)) = omega arith
one_of roster c None (Done ways.Outbox) = omega arith
one_of roster c None (Done ways.Post) = omega arith
one_of roster c (Some (Client origin, bytes)) Nothing = omega arith
one_of roster c (Some (Client origin, bytes)) (Failed why) = omega arith
one_of roster c (Some (Client origin, bytes)) (Done ways.Datagram) = omega arith
one_of roster c (Some (Client origin, bytes)) (Done (ways.Connection n)) = let few = either_one (n == c) bytes in omega arith
one_of roster c (Some (Client origin, bytes)) (Done ways.Outbox) = omega arith
one_of roster c (Some (Client origin, bytes)) (Done ways.Post) = omega arith
one_of roster c (Some (Server server lane, bytes)) Nothing = omega arith
one_of roster c (Some (Server server lane, bytes)) (Failed why) = omega arith
one_of roster c (Some (Server server lane, bytes)) (Done ways.Datagram) = one_packet (packet_of roster (Server server lane, bytes))
one_of roster c (Some (Server server lane, bytes)) (Done (ways.Connection n)) = let few = either_one (n == c) bytes in omega arith
one_of roster c (Some (Server server lane, bytes)) (Done ways.Outbox) = omega arith
one_of roster c (Some (Server server lane, bytes)) (Done ways.Post) = omega arith

pub one_message : OneMessage
one_message roster c line = one_of roster c (letter_of line) (sending_of line)

-- two connections
two_other : (c d n : ℕ) (bytes : List ℕ) (b : Bool) → c ≢ d → n ≡ c → (n == d) ≡ b → 1 + length (if b then bytes ∷ [] else []) ≤ 1
two_other c d n bytes false apart is other = omega arith
two_other c d n bytes true apart is other = absurd (apart (sym is ∙ eqb-true n d other))

two_at : (c d n : ℕ) (bytes : List ℕ) (b : Bool) → c ≢ d → (n == c) ≡ b → length (if b then bytes ∷ [] else []) + length (if n == d then bytes ∷ [] else []) ≤ 1
two_at c d n bytes false apart is = let few = either_one (n == d) bytes in omega arith
two_at c d n bytes true apart is = two_other c d n bytes (n == d) apart (eqb-true n c is) refl

of_two : (c d : ℕ) (letter : Option Letter) (sending : Sending) → c ≢ d → length (message_in c letter sending) + length (message_in d letter sending) ≤ 1
of_two c d None sending apart = omega arith
of_two c d (Some letter) Nothing apart = omega arith
of_two c d (Some letter) (Failed why) apart = omega arith
of_two c d (Some letter) (Done ways.Datagram) apart = omega arith
of_two c d (Some letter) (Done (ways.Connection n)) apart = two_at c d n letter.1 (n == c) apart refl
of_two c d (Some letter) (Done ways.Outbox) apart = omega arith
of_two c d (Some letter) (Done ways.Post) apart = omega arith

pub one_connection : OneConnection
one_connection c d line apart = of_two c d (letter_of line) (sending_of line) apart
