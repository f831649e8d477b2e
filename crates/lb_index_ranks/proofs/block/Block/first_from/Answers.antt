use Rattle.std.proofs.Common.{◌∙◌, List, ap, slice_get, sym}
use Rattle.lb_index_ranks.specs.declared.filed.Filed.{Filed}
use Rattle.lb_index_ranks.specs.Chunk.{all_of}
use Rattle.lb_index_ranks.proofs.InPlace.{spot_back}
use Rattle.lb_index_ranks.proofs.block.Block.first_from.Goals as goal

pub returns : goal.returns
returns c =
    c.pair_at.ensures.pair
    ∙ ap (λ (xs : List Filed). slice_get xs 0) (sym (spot_back c.args.at.now c.args.self.now c.as_slice-chunks.result.now c.spot_of.result.chunk c.spot_of.result.place (sym c.self.view_is ∙ ap all_of (sym c.as_slice-chunks.ensures.value)) c.spot_of.ensures.cut))
