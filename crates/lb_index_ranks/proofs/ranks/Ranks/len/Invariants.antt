use Rattle.std.proofs.Common.{◌≡◌, ◌<◌, ◌^◌, length, take}
use Rattle.lb_index_ranks.specs.Chunk.{all_of}
use Rattle.lb_index_ranks.proofs.ranks.Ranks.len.Given as goal

abbrev pub invariant-all : goal.invariant-all
invariant-all l = length (all_of (take l.block-index l.block-items)) < 2 ^ 64 → l.len ≡ length (all_of (take l.block-index l.block-items))
