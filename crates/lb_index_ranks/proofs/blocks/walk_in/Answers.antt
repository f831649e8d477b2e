use Rattle.std.proofs.Common.{◌∙◌, drop, subst, sym}
use Rattle.std.proofs.lemmas.List.Elements.{All-append, All-drop}
use Rattle.lb_index_ranks.specs.Chunk.{IsFilled}
use Rattle.lb_index_ranks.specs.Filed.{AreInOrder}
use Rattle.lb_index_ranks.proofs.Chunks.{filled_rest}
use Rattle.lb_index_ranks.proofs.Spots.{order_chunk}
use Rattle.lb_index_ranks.proofs.Walks.{block_on, first_filled, walk_back, walk_place}
use Rattle.lb_index_ranks.proofs.blocks.walk_in.Goals as goal

pub walk_from-place-requires : goal.walk_from-place-requires
walk_from-place-requires c =
    let is = sym c.split_at.ensures.back ∙ c.in-Some.ensures.cases.0 in
    subst AreInOrder (block_on c.args.blocks.now c.block_of.result c.in-Some.others.now c.in-Some.block.now is) (order_chunk c.args.blocks.now c.block_of.result c.requires.order)

pub new-requires-clause-filled : goal.new-requires-clause-filled
new-requires-clause-filled c =
    let is = sym c.split_at.ensures.back ∙ c.in-Some.ensures.cases.0 in
    All-append IsFilled c.walk_from-place.result.0.now c.in-Some.others.now c.walk_from-place.ensures.filled
    (filled_rest (drop c.block_of.result c.args.blocks.now) c.in-Some.others.now c.in-Some.block.now is (All-drop IsFilled c.block_of.result c.args.blocks.now c.requires.filled))

pub new-requires-clause-place : goal.new-requires-clause-place
new-requires-clause-place c =
    let is = sym c.split_at.ensures.back ∙ c.in-Some.ensures.cases.0 in
    walk_place c.args.at.now c.args.blocks.now c.block_of.result c.in-Some.others.now c.in-Some.block.now c.walk_from-place.result.0.now c.walk_from-place.result.1 is c.block_of.ensures.place c.walk_from-place.ensures.pairs c.walk_from-place.ensures.place
    (c.walk_from-place.ensures.some (first_filled (drop c.block_of.result c.args.blocks.now) c.in-Some.others.now c.in-Some.block.now is (All-drop IsFilled c.block_of.result c.args.blocks.now c.requires.filled)))

pub returns : goal.returns
returns c =
    let is = sym c.split_at.ensures.back ∙ c.in-Some.ensures.cases.0 in
    c.new.ensures ∙ walk_back c.args.at.now c.args.blocks.now c.block_of.result c.in-Some.others.now c.in-Some.block.now c.walk_from-place.result.0.now c.walk_from-place.result.1 is c.block_of.ensures.cut c.walk_from-place.ensures.pairs
    (c.walk_from-place.ensures.some (first_filled (drop c.block_of.result c.args.blocks.now) c.in-Some.others.now c.in-Some.block.now is (All-drop IsFilled c.block_of.result c.args.blocks.now c.requires.filled)))
