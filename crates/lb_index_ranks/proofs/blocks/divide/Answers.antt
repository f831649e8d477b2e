use Rattle.std.proofs.Common.{◌∙◌, ◌≡◌, ◌++◌, ◌+◌, [], ap, arith, insert, set, rules, sym}
use Rattle.lb_index_ranks.specs.Chunk.{all_of, chunk_at}
use Rattle.lb_index_ranks.proofs.Chunks.{divided}
use Rattle.lb_index_ranks.proofs.Spots.{same_at}
use Rattle.lb_index_ranks.proofs.blocks.divide.Goals as goal

pub returns-clause-pairs : goal.returns-clause-pairs
returns-clause-pairs c =
    let bs = c.args.blocks.now.items in
    let is : c.insert.new.self.items ≡ insert (set bs c.args.at c.divide.new.self) (c.args.at + 1) c.in-Some.upper = search rules in
    let here : c.index_mut.result.now ≡ chunk_at bs c.args.at = search (rules, same_at bs c.args.at c.index_mut.result.now [] c.requires.within) in
    let parts : c.index_mut.result.now ≡ c.divide.new.self ++ c.in-Some.upper = search rules in
    ap all_of is ∙ divided bs c.args.at (c.args.at + 1) c.divide.new.self c.in-Some.upper (omega arith) c.requires.within (sym here ∙ parts)
