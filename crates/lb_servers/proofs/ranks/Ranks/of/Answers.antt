use Rattle.std.proofs.Common.{List, subst, arith}
use Rattle.std.proofs.lemmas.List.{take_all}
use Rattle.lb_servers.specs.declared.server.Loaded.{Loaded}
use Rattle.lb_servers.specs.Ranks.{StandAt, by_order}
use Rattle.lb_servers.proofs.ranks.Ranks.of.Goals as goal

pub put-requires-clause-ranked : goal.put-requires-clause-ranked
put-requires-clause-ranked c = c.loop-at.invariant

pub loop-at-preserved : goal.loop-at-preserved
loop-at-preserved c = c.put.ensures

pub returns : goal.returns
returns c = subst (λ (ls : List Loaded). StandAt c.args.servers.now c.loop-at.ranks (by_order ls)) (take_all c.loop-at.at c.args.servers.now (omega arith)) c.loop-at.invariant
