use Rattle.std.proofs.Common.{List, subst}
use Rattle.lb_index_ranks.specs.declared.filed.Filed.{Filed}
use Rattle.lb_index_ranks.specs.Block.{back_in, front_in, TakesBelow}
use Rattle.lb_index_ranks.specs.Chunk.{all_of}
use Rattle.lb_index_ranks.specs.Filed.{filed_at, TakesFirst}
use Rattle.lb_index_ranks.proofs.Taking.{below_order, takes_first}
use Rattle.lb_index_ranks.proofs.ranks.Ranks.take_first.Goals as goal

pub invariant_of-self : goal.invariant_of-self
invariant_of-self c = (below_order c.of-first.result c.of-end.result (all_of c.self.inside.blocks.items) c.take_in.result (all_of c.take_in.new.blocks.items) c.self.invariant.0 c.take_in.ensures.taken, c.take_in.ensures.filled)

pub returns : goal.returns
returns c =
    let low = c.args.low.now in
    let high = c.args.high.now in
    let all = all_of c.self.inside.blocks.items in
    let found = c.take_in.result in
    let new = all_of c.take_in.new.blocks.items in
    let took : TakesBelow (filed_at high 0) (front_in (filed_at low 0) all) (back_in (filed_at low 0) all) found new =
    subst (λ (f : Filed). TakesBelow (filed_at high 0) (front_in f all) (back_in f all) found new) c.of-first.ensures
    (subst (λ (f : Filed). TakesBelow f (front_in c.of-first.result all) (back_in c.of-first.result all) found new) c.of-end.ensures c.take_in.ensures.taken) in
    subst (λ (xs : List Filed). TakesFirst low high xs found new) c.self.view_is (takes_first low high all found new c.self.invariant.0 took)
