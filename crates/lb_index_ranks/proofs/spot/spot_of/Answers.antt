use Rattle.std.proofs.Common.{◌≡◌, sym, subst, List, rules, length, ◌≤◌}
use Rattle.std.proofs.lemmas.List.Sorted.{IsPartitionPoint-from_clause}
use Rattle.lb_index_ranks.specs.declared.filed.Filed.{Filed}
use Rattle.lb_index_ranks.specs.Chunk.{chunk_at, ends_before}
use Rattle.lb_index_ranks.specs.Filed.{AreInOrder}
use Rattle.lb_index_ranks.proofs.Spots.{Ends, Parts, order_chunk, others_parted, spot_cut, spot_place}
use Rattle.lb_index_ranks.proofs.spot.spot_of.Goals as goal

pub place_of-requires : goal.place_of-requires
place_of-requires c =
    let here : c.in-Some-get.here.now ≡ chunk_at c.args.chunks.now c.partition_point-chunk.result = search rules in
    subst AreInOrder (sym here) (order_chunk c.args.chunks.now c.partition_point-chunk.result c.requires.order)

pub returns-clause-place : goal.returns-clause-place
returns-clause-place c =
    let at = c.args.at.now in
    let cs = c.args.chunks.now in
    let others = c.in-Some.others.now in
    let last = c.in-Some.field-0-0.now in
    let k = c.partition_point-chunk.result in
    let p = c.place_of.result in
    let is = c.in-Some.ensures.cases.0 in
    let here : c.in-Some-get.here.now ≡ chunk_at cs k = search rules in
    let ends : Ends at others k = IsPartitionPoint-from_clause (ends_before at) others k c.partition_point-chunk.ensures.partitioned (others_parted at cs others last is c.requires.order c.requires.filled) (λ a r f k. search rules) in
    spot_place at cs others last k p is c.requires.filled ends c.partition_point-chunk.ensures.bound c.in-Some.ensures.cases.1
    (subst (λ (xs : List Filed). Parts at xs p) here c.place_of.ensures.place) (subst (λ (xs : List Filed). p ≤ length xs) here c.place_of.ensures.within)

pub returns-clause-cut : goal.returns-clause-cut
returns-clause-cut c =
    let at = c.args.at.now in
    let cs = c.args.chunks.now in
    let others = c.in-Some.others.now in
    let last = c.in-Some.field-0-0.now in
    let k = c.partition_point-chunk.result in
    let p = c.place_of.result in
    let is = c.in-Some.ensures.cases.0 in
    let here : c.in-Some-get.here.now ≡ chunk_at cs k = search rules in
    let ends : Ends at others k = IsPartitionPoint-from_clause (ends_before at) others k c.partition_point-chunk.ensures.partitioned (others_parted at cs others last is c.requires.order c.requires.filled) (λ a r f k. search rules) in
    spot_cut at cs others last k p is c.requires.order c.requires.filled ends c.partition_point-chunk.ensures.bound
    (subst (λ (xs : List Filed). Parts at xs p) here c.place_of.ensures.place) (subst (λ (xs : List Filed). p ≤ length xs) here c.place_of.ensures.within)
