use Rattle.lb_index_ranks.proofs.Ends.{fence_end}
use Rattle.lb_index_ranks.proofs.block.fence_of.Goals as goal

pub returns-in-Some : goal.returns-in-Some
returns-in-Some c = fence_end c.args.chunks.now c.in-Some.field-0-1.now c.in-Some.chunk.now c.fence.result c.in-Some.ensures.cases.0 c.requires c.fence.ensures
