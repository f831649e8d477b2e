use Rattle.std.proofs.Common.{rules}
use Rattle.std.proofs.lemmas.List.Sorted.{IsPartitionPoint-from_clause}
use Rattle.lb_index_ranks.specs.Block.{place_in}
use Rattle.lb_index_ranks.specs.Chunk.{chunk_at, ends_before}
use Rattle.lb_index_ranks.proofs.InPlace.{parts_in, place_upto}
use Rattle.lb_index_ranks.proofs.Spots.{Ends, order_chunk, others_parted, spot_cut, spot_place}
use Rattle.lb_index_ranks.proofs.blocks.block_of.Goals as goal

pub returns-clause-place : goal.returns-clause-place
returns-clause-place c =
    let at = c.args.at.now in
    let cs = c.args.blocks.now in
    let others = c.in-Some.others.now in
    let last = c.in-Some.field-0-0.now in
    let k = c.partition_point.result in
    let is = c.in-Some.ensures.cases.0 in
    let ends : Ends at others k = IsPartitionPoint-from_clause (ends_before at) others k c.partition_point.ensures.partitioned (others_parted at cs others last is c.requires.order c.requires.filled) (λ a r f k. search rules) in
    spot_place at cs others last k (place_in at (chunk_at cs k)) is c.requires.filled ends c.partition_point.ensures.bound c.in-Some.ensures.cases.1 (parts_in at (chunk_at cs k) (order_chunk cs k c.requires.order)) (place_upto at (chunk_at cs k))

pub returns-clause-cut : goal.returns-clause-cut
returns-clause-cut c =
    let at = c.args.at.now in
    let cs = c.args.blocks.now in
    let others = c.in-Some.others.now in
    let last = c.in-Some.field-0-0.now in
    let k = c.partition_point.result in
    let is = c.in-Some.ensures.cases.0 in
    let ends : Ends at others k = IsPartitionPoint-from_clause (ends_before at) others k c.partition_point.ensures.partitioned (others_parted at cs others last is c.requires.order c.requires.filled) (λ a r f k. search rules) in
    spot_cut at cs others last k (place_in at (chunk_at cs k)) is c.requires.order c.requires.filled ends c.partition_point.ensures.bound (parts_in at (chunk_at cs k) (order_chunk cs k c.requires.order)) (place_upto at (chunk_at cs k))
