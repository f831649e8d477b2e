use Rattle.std.proofs.Common.{◌≡◌, ◌≢◌, ℕ, ◌++◌, IsTrue, Some, drop, take}
use Rattle.lb_loops_udp.specs.Lines.{AreSent, hears, listened}
use Rattle.lb_loops_io.specs.Counts.{Rose}
use Rattle.lb_loops_io.specs.Lines.{FirstFault, any_by_device}
use Rattle.lb_loops_io.specs.Ways.{packets}
use Rattle.lb_loops_io.specs.declared.report.DeviceFault.TheVariants as devices
use Rattle.lb_loops_udp.proofs.sending.send_lines.Given as goal

abbrev pub invariant-loop-line : goal.invariant-loop-line
invariant-loop-line g l =
    AreSent l.roster.listed (hears (listened (g.S.Datagrams.listens l.fn.sockets))) (take l.line-index l.fn.lines) (take l.line-index l.lines)
    × (drop l.line-index l.lines ≡ drop l.line-index l.fn.lines)
    × (g.S.Datagrams.taken l.sockets ≡ g.S.Datagrams.taken l.fn.sockets ++ packets l.roster.listed (take l.line-index l.lines))
    × (IsTrue (any_by_device (take l.line-index l.lines)) → Rose (g.S.Datagrams.failures l.fn.sockets) (g.S.Datagrams.failures l.sockets))
    × ((o : ℕ) → FirstFault l.device (g.S.Datagrams.failures l.fn.sockets) (g.S.Datagrams.failures l.sockets) o o)
    × (l.device ≢ Some devices.Outside)
    × (g.S.Datagrams.given l.sockets ≡ g.S.Datagrams.given l.fn.sockets)
    × (g.S.Datagrams.listens l.sockets ≡ g.S.Datagrams.listens l.fn.sockets)
    × (g.S.Datagrams.reads l.sockets ≡ g.S.Datagrams.reads l.fn.sockets)
