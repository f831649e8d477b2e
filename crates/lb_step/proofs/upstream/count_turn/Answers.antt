use Rattle.std.proofs.Common.{sym, ◌∙◌, ap, List}
use Rattle.lb_servers.specs.declared.pool.Pool.{Pool}
use Rattle.lb_step.specs.Upstream.{takes_turns}
use Rattle.lb_step.proofs.Turned.{stays, turns}
use Rattle.lb_step.proofs.upstream.count_turn.Goals as goal

pub returns-then-takes_turns : goal.returns-then-takes_turns
returns-then-takes_turns c =
    c.turn.ensures
    ∙ ap (λ (pools : List Pool). record c.args.park.now { pools = pools }) (turns c.args.pool.0 c.args.park.now.pools (sym (ap takes_turns c.policy_of.ensures) ∙ sym c.takes_turns.ensures ∙ c.if-takes_turns.true))

pub returns-else-takes_turns : goal.returns-else-takes_turns
returns-else-takes_turns c =
    ap (λ (pools : List Pool). record c.args.park.now { pools = pools }) (stays c.args.pool.0 c.args.park.now.pools (sym (ap takes_turns c.policy_of.ensures) ∙ sym c.takes_turns.ensures ∙ c.if-takes_turns.false))
