use Rattle.std.proofs.Common.{rules}
use Rattle.lb_index_ranks.proofs.Spots.{none_ends}
use Rattle.lb_index_ranks.proofs.chunk.Chunk.last_is_before.Goals as goal

pub returns-in-None : goal.returns-in-None
returns-in-None c = none_ends c.args.at.now c.args.self.now (search rules)
