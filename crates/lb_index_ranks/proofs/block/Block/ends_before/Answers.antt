use Rattle.std.proofs.Common.{◌≡◌, ◌==◌, length, ap, sym, ◌∙◌, rules}
use Rattle.lb_index_ranks.specs.Chunk.{all_of, ends_before}
use Rattle.lb_index_ranks.proofs.Ends.{none_same}
use Rattle.lb_index_ranks.proofs.Fences.{fence_greater, fence_less}
use Rattle.lb_index_ranks.proofs.block.Block.ends_before.Goals as goal

pub returns-in-Less : goal.returns-in-Less
returns-in-Less c =
    let own = c.self.inside in
    let empty : c.is_empty.result ≡ (length own.chunks.items == 0) = search rules in
    fence_less own.fence (all_of own.chunks.items) c.args.at.now c.is_empty.result c.self.invariant.1 c.order_of.ensures.octets (sym c.order_of.ensures.order ∙ c.in-Less.is) (empty ∙ none_same own.chunks.items c.self.invariant.0)
    ∙ ap (ends_before c.args.at.now) c.self.view_is

pub returns-in-Greater : goal.returns-in-Greater
returns-in-Greater c =
    let own = c.self.inside in
    fence_greater own.fence (all_of own.chunks.items) c.args.at.now c.self.invariant.1 c.order_of.ensures.octets (sym c.order_of.ensures.order ∙ c.in-Greater.is)
    ∙ ap (ends_before c.args.at.now) c.self.view_is
