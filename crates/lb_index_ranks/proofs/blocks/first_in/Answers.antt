use Rattle.std.proofs.Common.{◌∙◌, ◌≡◌, List, ap, refl, rules, slice_get, subst, sym}
use Rattle.lb_index_ranks.specs.declared.filed.Filed.{Filed}
use Rattle.lb_index_ranks.specs.Block.{back_in, place_in}
use Rattle.lb_index_ranks.specs.Chunk.{all_of, chunk_at}
use Rattle.lb_index_ranks.specs.Filed.{AreInOrder}
use Rattle.lb_index_ranks.proofs.InPlace.{spot_back}
use Rattle.lb_index_ranks.proofs.Lifts.{own_head}
use Rattle.lb_index_ranks.proofs.Spots.{order_chunk}
use Rattle.lb_index_ranks.proofs.blocks.first_in.Goals as goal

pub first_from-requires : goal.first_from-requires
first_from-requires c =
    let here : c.in_ok-get.field-0.now ≡ chunk_at c.args.blocks.now c.block_of.result = search rules in
    subst AreInOrder (sym here) (order_chunk c.args.blocks.now c.block_of.result c.requires.order)

pub returns : goal.returns
returns c =
    let at = c.args.at.now in
    let bs = c.args.blocks.now in
    let k = c.block_of.result in
    let p = place_in at (chunk_at bs k) in
    let here : c.in_ok-get.field-0.now ≡ chunk_at bs k = search rules in
    c.first_from.ensures ∙ ap (λ (xs : List Filed). slice_get (back_in at xs) 0) here ∙ own_head bs k p c.block_of.ensures.place
    ∙ ap (λ (xs : List Filed). slice_get xs 0) (sym (spot_back at (all_of bs) bs k p refl c.block_of.ensures.cut))
