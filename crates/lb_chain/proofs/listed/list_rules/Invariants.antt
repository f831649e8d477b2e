use Rattle.std.proofs.Common.{◌≡◌, map, take}
use Rattle.lb_chain.specs.Listed.{listed_of}
use Rattle.lb_chain.proofs.listed.list_rules.Given as goal

abbrev pub invariant-loop-numbered : goal.invariant-loop-numbered
invariant-loop-numbered l = l.list.items ≡ map listed_of (take l.numbered-index l.rules)
