use Rattle.std.proofs.Common.{◌≡◌, take}
use Rattle.lb_terms.proofs.names.Names.copy.Given as goal

abbrev pub invariant-loop-name : goal.invariant-loop-name
invariant-loop-name l = (l.name-items ≡ l.self) × (l.items.items ≡ take l.name-index l.name-items)
