use Rattle.std.proofs.Common.{◌∙◌, ◌≡◌, ◌<◌, ◌++◌, ◌+◌, [], ap, arith, insert, length, set, rules, subst, sym}
use Rattle.lb_index_ranks.specs.Chunk.{all_of, chunk_at}
use Rattle.lb_index_ranks.specs.Filed.{AreInOrder}
use Rattle.lb_index_ranks.proofs.Chunks.{divided}
use Rattle.lb_index_ranks.proofs.Spots.{order_chunk, same_at}
use Rattle.lb_index_ranks.proofs.blocks.part.Goals as goal

pub part-requires : goal.part-requires
part-requires c =
    let bs = c.args.blocks.now.items in
    let k = c.block_of-here.result in
    let lt : k < length bs = search rules in
    let here : c.index_mut.result.now ≡ chunk_at bs k = search (rules, same_at bs k c.index_mut.result.now [] lt) in
    subst AreInOrder (sym here) (order_chunk bs k c.requires.order)

pub returns-clause-pairs : goal.returns-clause-pairs
returns-clause-pairs c =
    let bs = c.args.blocks.now.items in
    let k = c.block_of-here.result in
    let lt : k < length bs = search rules in
    let is : c.insert.new.self.items ≡ insert (set bs k c.part.new.self) (k + 1) c.in-Some.upper = search rules in
    let here : c.index_mut.result.now ≡ chunk_at bs k = search (rules, same_at bs k c.index_mut.result.now [] lt) in
    let parts : c.index_mut.result.now ≡ c.part.new.self ++ c.in-Some.upper = search rules in
    ap all_of is ∙ divided bs k (k + 1) c.part.new.self c.in-Some.upper (omega arith) lt (sym here ∙ parts)
