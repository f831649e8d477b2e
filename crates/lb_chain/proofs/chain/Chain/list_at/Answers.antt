use Rattle.std.specs.List.{All}
use Rattle.std.proofs.Common.{subst, sym, ◌≤◌, length, List}
use Rattle.lb_chain.specs.declared.numbered.Numbered.{Numbered}
use Rattle.lb_chain.proofs.Chains.{few_each}
use Rattle.lb_chain.proofs.chain.Chain.list_at.Goals as goal

pub list_rules_at-requires : goal.list_rules_at-requires
list_rules_at-requires c =
    subst (λ (rules : List Numbered). All (λ (n : Numbered). length n.limits ≤ 16) rules) (sym c.as_slice.ensures.value) (few_each c.self.inside.last_rule c.self.inside.moment c.self.inside.limiters c.self.inside.rules.items c.self.invariant.0)
