use Rattle.lb_index_ranks.specs.Chunk.{all_of}
use Rattle.lb_index_ranks.proofs.Edges.{cut_order, left_order}
use Rattle.lb_index_ranks.proofs.ranks.Ranks.cut.Goals as goal

pub invariant_of-result : goal.invariant_of-result
invariant_of-result c =
    let was = all_of c.self.inside.blocks.items in
    let cut = all_of c.in_ok-blocks.blocks.items in
    (cut_order c.of-from.result c.of-to.result was cut (all_of c.cut_in.new.blocks.items) c.self.invariant.0 c.in_ok-blocks.ensures.cut, c.in_ok-blocks.ensures.cut_filled)

pub invariant_of-self-2 : goal.invariant_of-self-2
invariant_of-self-2 c =
    let was = all_of c.self.inside.blocks.items in
    let cut = all_of c.in_ok-blocks.blocks.items in
    (left_order c.of-from.result c.of-to.result was cut (all_of c.cut_in.new.blocks.items) c.self.invariant.0 c.in_ok-blocks.ensures.cut, c.cut_in.ensures.filled)
