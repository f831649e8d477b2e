use Rattle.std.proofs.Common.{List, ℕ, length, sym, ap, subst, ◌∙◌, arith}
use Rattle.std.proofs.lemmas.List.{take_all}
use Rattle.lb_servers.specs.Pick.{up_places, up_servers}
use Rattle.lb_servers.specs.Ranks.{StandAt}
use Rattle.lb_servers.proofs.UpServers.{few_up, stand_up}
use Rattle.lb_servers.proofs.ranks.Ranks.up_in.Goals as goal

pub push-requires : goal.push-requires
push-requires c = (
  omega arith,
  omega (arith, ap length c.loop-at.invariant, few_up c.args.pool c.args.servers.now c.args.self.now c.loop-at.at-index (omega (arith, c.loop-at-test.true, ap length c.as_slice-at-items.ensures.value, ap length c.self.view_is)), c.loop-at-test.true, c.as_slice-at-items.ensures.fits),
)

pub returns : goal.returns
returns c =
    subst (λ (places : List ℕ). StandAt c.args.servers.now places (up_servers c.args.pool c.args.servers.now))
    (sym (c.loop-at.invariant ∙ ap (up_places c.args.pool c.args.servers.now) (take_all c.loop-at.at-index c.args.self.now (omega (arith, c.loop-at-test.false, ap length c.as_slice-at-items.ensures.value, ap length c.self.view_is)))))
    (stand_up c.args.pool c.args.servers.now c.args.self.now c.requires)
