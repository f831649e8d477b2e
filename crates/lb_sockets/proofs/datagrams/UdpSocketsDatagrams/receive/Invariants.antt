use Rattle.std.proofs.Common.{◌≡◌, ◌+◌, length}
use Rattle.lb_sockets.proofs.datagrams.UdpSocketsDatagrams.receive.Given as goal

abbrev pub invariant-loop : goal.invariant-loop
invariant-loop g l = (l.self.reader.given ≡ l.fn.self.reader.given) × (l.self.sender ≡ l.fn.self.sender) × (l.self.failures ≡ l.fn.self.failures) × (l.self.listeners ≡ l.fn.self.listeners) × (length l.self.asked.items ≡ length l.fn.self.asked.items + 1)
