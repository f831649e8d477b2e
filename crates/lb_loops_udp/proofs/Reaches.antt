-- What came of a datagram is what comes of its letter.
use Rattle.std.proofs.Common.{◌≡◌, ℕ, ◌<◌, Bool, false, List, Some, sym, ◌∙◌, arith}
use Rattle.std.proofs.lemmas.List.FromFn.{get_or-map-range_with_len}
use Rattle.lb_loops_udp.specs.Lines.{Comes, SentAs, hears, listened, reaches}
use Rattle.lb_loops_io.specs.Letter.{Letter}
use Rattle.lb_loops_io.specs.Moves.{is_there}
use Rattle.lb_loops_io.specs.Ways.{packet_of}
use Rattle.lb_loops_io.specs.declared.report.Sending.{Sending}
use Rattle.lb_loops_io.specs.declared.report.Sending.TheVariants.{Done, Failed, Nothing}
use Rattle.lb_loops_io.specs.declared.report.Why.TheVariants as whys
use Rattle.lb_loops_io.specs.declared.roster.Listed.{Listed}
use Rattle.lb_loops_io.specs.declared.traffic.Datagram.{Datagram}

pub heard_at : (listens : ℕ → Bool) (front : ℕ) → front < 256 → hears (listened listens) front ≡ listens front
heard_at listens front within = get_or-map-range_with_len listens 0 256 front front false within (omega arith)

-- where the datagram of a letter is known, and its socket is there exactly where the letter's end is reached
pub comes : (roster : List Listed) (listens there : ℕ → Bool) (letter : Letter) (d : Datagram) (sending : Sending) (old new : List Datagram)
    → packet_of roster letter ≡ Some d → is_there listens d.socket ≡ reaches there letter → SentAs sending listens d old new → Comes roster there (Some letter) sending
comes roster listens there letter d Nothing old new is same sent = sent
comes roster listens there letter d (Done way) old new is same sent = (sent.0, sym same ∙ sent.2, (d, is))
comes roster listens there letter d (Failed whys.NoServer) old new is same sent = absurd sent
comes roster listens there letter d (Failed whys.Gone) old new is same sent = (sym same ∙ sent.1, (d, is))
comes roster listens there letter d (Failed whys.Limit) old new is same sent = sent
comes roster listens there letter d (Failed whys.Full) old new is same sent = sent
comes roster listens there letter d (Failed whys.Device) old new is same sent = tt
comes roster listens there letter d (Failed whys.NoMemory) old new is same sent = tt
