use Rattle.std.proofs.Common.{rules, ◌≡◌, false, Some, refl, sym, subst}
use Rattle.lb_step.specs.declared.event.Event.TheVariants.{Query, Reply}
use Rattle.lb_loops_udp.proofs.Handling.{handles, query_of, reply_of}
use Rattle.lb_loops_io.specs.Events.{asker, event_of, is_strange, timeless}
use Rattle.lb_loops_io.specs.Stamps.{Bears}
use Rattle.lb_loops_io.specs.declared.traffic.Socket.TheVariants as sockets
use Rattle.lb_wire.specs.declared.transport.Kind.TheVariants as kinds
use Rattle.lb_loops_udp.proofs.turn.packet.Goals as goal

pub returns-in-Listener-clause-handled : goal.returns-in-Listener-clause-handled
returns-in-Listener-clause-handled g c =
    let d = c.args.datagram in
    let front = c.in-Listener.front in
    let is : c.args.datagram.socket ≡ sockets.Listener c.in-Listener.front = search rules in
    let made : c.query_made-event.result ≡ Query c.args.stamp.0 (asker c.in-Listener.front c.args.datagram.peer) kinds.Datagram c.args.stamp.1 c.args.datagram.bytes = search rules in
    handles d c.query_made-event.result (c.args.stamp.0, c.args.stamp.1) c.handled.result.held _ _ _ _ _ _
    (subst (λ e. event_of c.args.datagram ≡ Some (timeless e)) (sym made) (query_of d.socket d.peer d.bytes front c.args.stamp.0 c.args.stamp.1 is))
    (subst (λ e. Bears e (c.args.stamp.0, c.args.stamp.1)) (sym made) (refl, refl)) c.handled.ensures.led

pub returns-in-Server-clause-handled : goal.returns-in-Server-clause-handled
returns-in-Server-clause-handled g c =
    let d = c.args.datagram in
    let is : c.args.datagram.socket ≡ sockets.Server c.in-Server.server c.in-Server.number c.in-Server.field-2 = search rules in
    let known : is_strange c.args.datagram.socket c.args.datagram.peer ≡ false = c.requires.known in
    let made : c.reply_made-event.result ≡ Reply c.args.stamp.0 c.in-Server.server (record { kind = kinds.Datagram; number = c.in-Server.number }) c.args.datagram.bytes = search rules in
    handles d c.reply_made-event.result (c.args.stamp.0, c.args.stamp.1) c.handled-in-Server.result.held _ _ _ _ _ _
    (subst (λ e. event_of c.args.datagram ≡ Some (timeless e)) (sym made) (reply_of d.socket d.peer d.bytes c.in-Server.server c.in-Server.number c.in-Server.field-2 c.args.stamp.0 is known))
    (subst (λ e. Bears e (c.args.stamp.0, c.args.stamp.1)) (sym made) refl) c.handled-in-Server.ensures.led
