use Rattle.std.proofs.Common.{List, subst, rules}
use Rattle.lb_index_ranks.specs.declared.filed.Filed.{Filed}
use Rattle.lb_index_ranks.specs.Chunk.{IsFence}
use Rattle.lb_index_ranks.proofs.Fences.{rank_at}
use Rattle.lb_index_ranks.proofs.chunk.Chunk.take.Goals as goal

pub invariant_of-self : goal.invariant_of-self
invariant_of-self c = subst (λ (items : List Filed). IsFence c.fence_of-self-inside.result items) c.as_slice.ensures.value c.fence_of-self-inside.ensures

pub returns-clause-rank : goal.returns-clause-rank
returns-clause-rank c =
    rank_at c.args.self.now c.args.place c.rank-rank.result c.remove.result c.requires (search rules) c.rank-rank.ensures
