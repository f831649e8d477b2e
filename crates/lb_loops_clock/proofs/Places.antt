-- Places of the listen lines.
use Rattle.std.proofs.Common.{◌≡◌, ℕ, ◌<◌, Bool, false, List, Some, Err, get_or, refl, ◌∙◌, arith}
use Rattle.std.proofs.lemmas.List.FromFn.{get_or-map-range_with_len}
use Rattle.lb_loops_clock.specs.Lines.{Fits}
use Rattle.lb_loops_clock.specs.World.{listened}
use Rattle.lb_loops_io.specs.Moves.{Sent}
use Rattle.lb_loops_io.specs.declared.endpoint.Endpoint.{Endpoint}
use Rattle.lb_loops_io.specs.declared.report.Way.TheVariants as ways
use Rattle.lb_loops_io.specs.declared.report.Why.{Why}
use Rattle.lb_loops_io.specs.declared.report.Why.TheVariants as whys
use Rattle.lb_loops_io.specs.declared.traffic.Datagram.{Datagram}
use Rattle.lb_loops_io.specs.declared.traffic.Socket.TheVariants.{Listener}

listened_at : (listens : ℕ → Bool) (front : ℕ) → front < 256 → get_or (listened listens) front false ≡ listens front
listened_at listens front within = get_or-map-range_with_len listens 0 256 front front false within (omega arith)

-- why a datagram of a listener is not sent
pub packet_missed : (listens : ℕ → Bool) (front : ℕ) → front < 256 → (peer : Endpoint) (bytes : List ℕ) (old new : List Datagram) (before after : ℕ) (why : Why)
    → Sent (Err why) listens (record { socket = Listener front; peer = peer; bytes = bytes }) old new before after → Fits (Some ways.Datagram) (get_or (listened listens) front false) why
packet_missed listens front within peer bytes old new before after whys.NoServer sent = sent
packet_missed listens front within peer bytes old new before after whys.Gone sent = listened_at listens front within ∙ sent.2
packet_missed listens front within peer bytes old new before after whys.Limit sent = sent
packet_missed listens front within peer bytes old new before after whys.Full sent = absurd sent
packet_missed listens front within peer bytes old new before after whys.Device sent = refl
packet_missed listens front within peer bytes old new before after whys.NoMemory sent = tt
