use Rattle.std.proofs.Common.{◌∙◌}
use Rattle.lb_index_ranks.proofs.Ends.{ends_end, no_chunks}
use Rattle.lb_index_ranks.proofs.block.last_is_before.Goals as goal

pub returns-in-Some : goal.returns-in-Some
returns-in-Some c = c.ends_before.ensures ∙ ends_end c.args.at.now c.args.chunks.now c.in-Some.field-0-1.now c.in-Some.chunk.now c.in-Some.ensures.cases.0 c.requires

pub returns-in-None : goal.returns-in-None
returns-in-None c = no_chunks c.args.at.now c.args.chunks.now c.in-None.ensures.cases
