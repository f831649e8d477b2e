use Rattle.std.proofs.Common.{◌≡◌, ◌<◌, ◌^◌, length, take}
use Rattle.lb_index_ranks.specs.Chunk.{all_of}
use Rattle.lb_index_ranks.proofs.block.Block.len.Given as goal

abbrev pub invariant-chunks : goal.invariant-chunks
invariant-chunks l = length (all_of (take l.chunk-index l.chunk-items)) < 2 ^ 64 → l.len ≡ length (all_of (take l.chunk-index l.chunk-items))
