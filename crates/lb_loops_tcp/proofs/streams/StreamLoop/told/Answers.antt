use Rattle.std.proofs.Common.{ap}
use Rattle.lb_loops_tcp.proofs.Turning.{turns_said}
use Rattle.lb_loops_tcp.proofs.streams.StreamLoop.told.Goals as goal

pub returns-then-not-pass-clause-turns : goal.returns-then-not-pass-clause-turns
returns-then-not-pass-clause-turns g c = λ said stamp. turns_said c.args.roster.now.listed 1 0 (record c.args.self.now { said = said }) c.args.self.now (c.args.heard.moment, c.args.heard.word) (ap (λ zs. record c.args.self.now { said = zs }) stamp)
