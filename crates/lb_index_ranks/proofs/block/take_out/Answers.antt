use Rattle.std.proofs.Common.{◌<◌, ◌≤◌, ◌+◌, ◌↔◌, IsTrue, suc, length, List, subst}
use Rattle.lb_index_ranks.specs.declared.filed.Filed.{Filed}
use Rattle.lb_index_ranks.specs.Chunk.{all_of}
use Rattle.lb_index_ranks.proofs.Ends.{fence_take, not_last}
use Rattle.lb_index_ranks.proofs.block.take_out.Goals as goal

pub returns-else-last-clause-fence : goal.returns-else-last-clause-fence
returns-else-last-clause-fence c =
    let cs = c.args.chunks.now.items in
    let k = c.args.spot.chunk in
    let lt : suc k < length cs = not_last c.is_last-last.result k (length cs) (subst (λ (xs : List (List Filed)). IsTrue c.is_last-last.result ↔ (length xs ≤ k + 1)) c.as_slice.ensures.value c.is_last-last.ensures) c.if-last.false in
    fence_take c.args.fence.now cs k c.args.spot.place (all_of c.take_at-rank.new.chunks.items) c.requires.filled lt c.requires.fence c.take_at-rank.ensures.pairs
