use Rattle.std.proofs.Common.{◌≡◌, ◌<◌, List, [], length, rules, set, subst, sym}
use Rattle.lb_index_ranks.specs.declared.filed.Filed.{Filed}
use Rattle.lb_index_ranks.specs.Block.{back_in, front_in, IsUnfiledIn, place_in}
use Rattle.lb_index_ranks.specs.Chunk.{all_of, chunk_at}
use Rattle.lb_index_ranks.specs.Filed.{AreInOrder, IsCut}
use Rattle.lb_index_ranks.proofs.InPlace.{at_spot}
use Rattle.lb_index_ranks.proofs.Lifts.{lift_unfiled}
use Rattle.lb_index_ranks.proofs.Chunks.{filled_but}
use Rattle.lb_index_ranks.proofs.Spots.{order_chunk, same_at}
use Rattle.lb_index_ranks.specs.Chunk.{back_of, front_of, IsPlace}
use Rattle.lb_index_ranks.proofs.blocks.unfile_in.Goals as goal

pub unfile-requires : goal.unfile-requires
unfile-requires c =
    let bs = c.args.blocks.now.items in
    let k = c.block_of-here.result in
    let lt : k < length bs = search rules in
    let here : c.index_mut.result.now ≡ chunk_at bs k = search (rules, same_at bs k c.index_mut.result.now [] lt) in
    subst AreInOrder (sym here) (order_chunk bs k c.requires.order)

pub give_up_empty-requires-clause-others : goal.give_up_empty-requires-clause-others
give_up_empty-requires-clause-others c = filled_but c.args.blocks.now.items c.block_of-here.result c.unfile.new.self c.requires.filled

pub returns-then-here-len-clause-taken : goal.returns-then-here-len-clause-taken
returns-then-here-len-clause-taken c =
    let at = c.args.at.now in
    let bs = c.args.blocks.now.items in
    let k = c.block_of-here.result in
    let lt : k < length bs = search rules in
    let here : c.index_mut.result.now ≡ chunk_at bs k = search (rules, same_at bs k c.index_mut.result.now [] lt) in
    let p = place_in at (chunk_at bs k) in
    let new = c.unfile.new.self in
    let place : IsPlace bs k p = subst (λ (xs : List (List Filed)). IsPlace xs k (place_in at (chunk_at xs k))) c.as_slice.ensures.value c.block_of-here.ensures.place in
    let cut : IsCut at (front_of bs k p) (back_of bs k p) = subst (λ (xs : List (List Filed)). IsCut at (front_of xs k (place_in at (chunk_at xs k))) (back_of xs k (place_in at (chunk_at xs k)))) c.as_slice.ensures.value c.block_of-here.ensures.cut in
    subst (λ (xs : List Filed). IsUnfiledIn at (front_in at (all_of bs)) (back_in at (all_of bs)) (xs)) (sym c.give_up_empty.ensures.pairs)
    (at_spot at bs k p (λ front back. IsUnfiledIn at (front) (back) (all_of (set bs k new))) cut
    (lift_unfiled at bs k p new lt place (subst (λ (xs : List Filed). IsUnfiledIn at (front_in at xs) (back_in at xs) (new)) here c.unfile.ensures)))
