use Rattle.std.proofs.Common.{arith, rules}
use Rattle.std.proofs.lemmas.Bool.Decides.{nat_tests}
use Rattle.lb_chain.proofs.IsAddrs.{in_places}
use Rattle.lb_chain.proofs.addrs.Addrs.from_slice.Goals as goal

pub invariant_of-result : goal.invariant_of-result
invariant_of-result c = in_places c.copy_from_slice.new.self c.args.addrs.now (search rules) (grind (arith, nat_tests)) (omega arith)
