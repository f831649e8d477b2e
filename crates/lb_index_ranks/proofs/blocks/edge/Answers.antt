use Rattle.std.proofs.Common.{◌≡◌, ◌<◌, length, [], arith, rules, ap, sym, subst, ◌∙◌, IsTrue, List}
use Rattle.lb_index_ranks.specs.declared.filed.Filed.{Filed}
use Rattle.lb_index_ranks.specs.Block.{IsBelow, place_in}
use Rattle.lb_index_ranks.specs.Chunk.{chunk_at, ends_before, IsFilled}
use Rattle.lb_index_ranks.proofs.Edges.{edge_first, edge_last, place_first, place_last}
use Rattle.lb_index_ranks.proofs.Spots.{order_chunk}
use Rattle.lb_index_ranks.proofs.blocks.edge.Goals as goal

pub returns-then-not-begins_before-clause-cut : goal.returns-then-not-begins_before-clause-cut
returns-then-not-begins_before-clause-cut c =
    let at = c.args.at.now in
    let bs = c.args.blocks.now in
    let k = c.block_of-here.result in
    let here : c.in-Some.block.now ≡ chunk_at bs k = search rules in
    let none : place_in at (chunk_at bs k) ≡ 0 =
    subst (λ (xs : List Filed). place_in at xs ≡ 0) here (place_first at c.in-Some.block.now (λ below. let yes : IsTrue c.begins_before.result = c.begins_before.ensures.1 below in absurd (cc (yes, c.if-not-begins_before.true)))) in
    edge_first at bs k (place_in at (chunk_at bs k)) none c.block_of-here.ensures.cut

pub returns-then-ends_before-clause-cut : goal.returns-then-ends_before-clause-cut
returns-then-ends_before-clause-cut c =
    let at = c.args.at.now in
    let bs = c.args.blocks.now in
    let k = c.block_of-here.result in
    let here : c.in-Some.block.now ≡ chunk_at bs k = search rules in
    let lt : k < length bs = search rules in
    let filled : IsFilled (chunk_at bs k) = c.requires.filled k [] lt in
    edge_last at bs k _ (place_in at (chunk_at bs k)) (omega arith) lt (place_last at (chunk_at bs k) (order_chunk bs k c.requires.order) filled (search rules)) c.block_of-here.ensures.cut
