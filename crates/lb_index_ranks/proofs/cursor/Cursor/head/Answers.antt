use Rattle.std.proofs.Common.{◌∙◌, List, ap, slice_get}
use Rattle.lb_index_ranks.specs.declared.filed.Filed.{Filed}
use Rattle.lb_index_ranks.proofs.Walks.{head_first, place_first}
use Rattle.lb_index_ranks.proofs.cursor.Cursor.head.Goals as goal

pub pair_at-requires : goal.pair_at-requires
pair_at-requires c = place_first c.self.inside.chunks.now c.self.inside.others.now c.self.inside.place c.self.invariant.1 c.self.invariant.2

pub returns : goal.returns
returns c =
    c.pair_at.ensures.pair ∙ head_first c.self.inside.chunks.now c.self.inside.others.now c.self.inside.place c.self.invariant.1 c.self.invariant.2
    ∙ ap (λ (xs : List Filed). slice_get xs 0) c.self.view_is
