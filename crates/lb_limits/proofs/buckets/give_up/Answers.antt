use Rattle.std.proofs.Common.{arith}
use Rattle.lb_limits.proofs.Leaves.{left_then}
use Rattle.lb_limits.proofs.buckets.give_up.Goals as goal

pub sweep_many-requires-clause-crowd : goal.sweep_many-requires-clause-crowd
sweep_many-requires-clause-crowd c = omega (arith, c.requires.crowd, c.give_up_one-next.ensures.keeps.live c.args.moment (omega arith))

pub returns-clause-left : goal.returns-clause-left
returns-clause-left c = left_then c.args.reserved.now c.args.moment c.args.buckets.now.items c.give_up_one-next.new.buckets.items c.sweep_many.new.buckets.items c.give_up_one-next.ensures c.sweep_many.ensures.left
