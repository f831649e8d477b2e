use Rattle.std.proofs.Common.{ap, sym, ◌∙◌, rules}
use Rattle.lb_index_ranks.specs.Chunk.{ends_before}
use Rattle.lb_index_ranks.proofs.Fences.{fence_greater, fence_less}
use Rattle.lb_index_ranks.proofs.chunk.Chunk.ends_before.Goals as goal

pub returns-in-Less : goal.returns-in-Less
returns-in-Less c =
    let own = c.self.inside in
    fence_less own.fence own.items.items c.args.at.now c.is_empty.result c.self.invariant c.order_of.ensures.octets (sym c.order_of.ensures.order ∙ c.in-Less.is) (search rules)
    ∙ ap (ends_before c.args.at.now) c.self.view_is

pub returns-in-Greater : goal.returns-in-Greater
returns-in-Greater c =
    let own = c.self.inside in
    fence_greater own.fence own.items.items c.args.at.now c.self.invariant c.order_of.ensures.octets (sym c.order_of.ensures.order ∙ c.in-Greater.is)
    ∙ ap (ends_before c.args.at.now) c.self.view_is
