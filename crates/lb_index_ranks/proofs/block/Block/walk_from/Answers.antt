use Rattle.std.proofs.Common.{◌∙◌, List, ap, subst, sym}
use Rattle.lb_index_ranks.specs.declared.filed.Filed.{Filed}
use Rattle.lb_index_ranks.specs.Chunk.{all_of, back_of, IsPlace}
use Rattle.lb_index_ranks.proofs.Chunks.{back_on, place_on}
use Rattle.lb_index_ranks.proofs.InPlace.{spot_back}
use Rattle.lb_index_ranks.proofs.block.Block.walk_from.Goals as goal

pub returns-clause-pairs : goal.returns-clause-pairs
returns-clause-pairs c =
    let cs = c.as_slice-chunks.result.now in
    let k = c.spot_of-spot.result.chunk in
    let p = c.spot_of-spot.result.place in
    ap (λ (xs : List (List Filed)). back_of xs 0 p) c.split_at.ensures.back ∙ back_on cs k p
    ∙ sym (spot_back c.args.at.now c.args.self.now cs k p (sym c.self.view_is ∙ ap all_of (sym c.as_slice-chunks.ensures.value)) c.spot_of-spot.ensures.cut)

pub returns-clause-place : goal.returns-clause-place
returns-clause-place c =
    let p = c.spot_of-spot.result.place in
    subst (λ (xs : List (List Filed)). IsPlace xs 0 p) (sym c.split_at.ensures.back) (place_on c.as_slice-chunks.result.now c.spot_of-spot.result.chunk p c.spot_of-spot.ensures.place)
