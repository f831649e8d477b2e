use Rattle.std.proofs.Common.{rules, subst}
use Rattle.lb_program.specs.declared.servers.ServerPlace.{ServerPlace}
use Rattle.lb_program_serve.specs.News.{Puts}
use Rattle.lb_program_serve.proofs.Rosters.{puts_more}
use Rattle.lb_program_serve.proofs.operator.roster_of.Goals as goal

pub loop-server-preserved : goal.loop-server-preserved
loop-server-preserved c =
    puts_more c.args.servers.now c.loop-server.server-index c.server-item.result _ _ _ (search rules) c.loop-server.invariant (subst (λ (s : ServerPlace). Puts s c.loop-server.roster c.put.new.roster) c.server-item.is c.put.ensures)
