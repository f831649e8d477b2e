use Rattle.std.proofs.lemmas.List.Elements.{All-append}
use Rattle.lb_index_ranks.specs.Chunk.{IsFilled}
use Rattle.lb_index_ranks.proofs.Chunks.{filled_rest}
use Rattle.lb_index_ranks.proofs.Walks.{filled_back}
use Rattle.lb_index_ranks.proofs.cursor.behind.Goals as goal

pub returns-in-Some-clause-filled : goal.returns-in-Some-clause-filled
returns-in-Some-clause-filled c =
    All-append IsFilled c.chunks.result.now c.in-Some.others.now c.chunks.ensures.filled
    (filled_rest c.args.blocks.now c.in-Some.others.now c.in-Some.block.now c.in-Some.ensures.cases.0 (filled_back c.args.rest.now c.args.blocks.now c.requires))
