use Rattle.std.proofs.Common.{◌∙◌, ◌≡◌, ◌+◌, [], ap, arith, insert, set, rules, sym}
use Rattle.lb_index_ranks.specs.Chunk.{all_of, chunk_at}
use Rattle.lb_index_ranks.proofs.Chunks.{divided}
use Rattle.lb_index_ranks.proofs.Spots.{same_at}
use Rattle.lb_index_ranks.proofs.edits.part.Goals as goal

pub returns-clause-pairs : goal.returns-clause-pairs
returns-clause-pairs c =
    let cs = c.args.chunks.now.items in
    let k = c.args.spot.chunk in
    let is : c.insert.new.self.items ≡ insert (set cs k c.part.new.self) (k + 1) c.in_ok-upper.upper = search rules in
    let here : c.index_mut.result.now ≡ chunk_at cs k = search (rules, same_at cs k c.index_mut.result.now [] c.requires.within) in
    ap all_of is ∙ divided cs k (k + 1) c.part.new.self c.in_ok-upper.upper (omega arith) c.requires.within (sym here ∙ c.in_ok-upper.ensures.upper.1)
