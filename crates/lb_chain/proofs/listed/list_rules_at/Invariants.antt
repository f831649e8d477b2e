use Rattle.std.proofs.Common.{◌≡◌, map, take}
use Rattle.lb_chain.specs.Listed.{listed_of}
use Rattle.lb_chain.specs.Seen.{seen_rules}
use Rattle.lb_chain.proofs.listed.list_rules_at.Given as goal

abbrev pub invariant-loop-numbered : goal.invariant-loop-numbered
invariant-loop-numbered l = l.seen.items ≡ map listed_of (seen_rules l.now (take l.numbered-index l.rules))
