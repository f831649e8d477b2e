use Rattle.std.proofs.Common.{rules, ◌≡◌}
use Rattle.std.specs.Bool.{Decides}
use Rattle.std.proofs.lemmas.Slice.Eq.{slice_eq-Decides}
use Rattle.lb_wire.specs.declared.addr.Addr.{Addr}
use Rattle.lb_chain.proofs.addrs.Addrs.equals.Goals as goal

-- what `==` says of the two lists
decides : (c : goal.After-eq) → Decides c.eq.result (c.as_slice.result.now ≡ c.as_slice-2.result.now)
decides c = slice_eq-Decides (λ (a : Addr) (b : Addr). search rules) _ _ _ c.eq.ensures

pub returns-clause-equal : goal.returns-clause-equal
returns-clause-equal c same = let lists = (decides c).0 same in cc

pub returns-clause-found : goal.returns-clause-found
returns-clause-found c same = (decides c).1 (cc)
