use Rattle.lb_index_ranks.specs.Chunk.{all_of}
use Rattle.lb_index_ranks.proofs.Edges.{last_order}
use Rattle.lb_index_ranks.proofs.ranks.Ranks.take_last.Goals as goal

pub invariant_of-self : goal.invariant_of-self
invariant_of-self c = (last_order (all_of c.self.inside.blocks.items) c.take_last_in.result (all_of c.take_last_in.new.blocks.items) c.self.invariant.0 c.take_last_in.ensures.taken, c.take_last_in.ensures.filled)
