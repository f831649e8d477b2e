use Rattle.std.proofs.Common.{rules, tests, not, ◌==◌}
use Rattle.std.proofs.lemmas.Fn.{filter_same}
use Rattle.lb_loops_io.proofs.roster.take_out.Goals as goal

pub returns-clause-items : goal.returns-clause-items
returns-clause-items c = filter_same _ (λ l. not (l.server.0 == c.args.server.0)) _ (λ x b f' k. search (rules, tests)) _ _ c.retain.ensures.filtered
