use Rattle.std.proofs.Common.{rules, tests}
use Rattle.std.proofs.lemmas.Fn.{filter_same}
use Rattle.lb_loops_probes.specs.Probes.{stands}
use Rattle.lb_loops_probes.proofs.probes.keep_standing.Goals as goal

pub returns-clause-items : goal.returns-clause-items
returns-clause-items c = filter_same _ (stands c.args.roster.now.listed) _ (λ x b f' k. search (rules, tests)) _ _ c.retain.ensures.filtered
