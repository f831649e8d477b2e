use Rattle.std.proofs.Common.{◌∙◌, ◌≡◌, [], ap, rules, sym, IsTrue}
use Rattle.lb_index_ranks.specs.Chunk.{all_of, chunk_at}
use Rattle.lb_index_ranks.proofs.Chunks.{empty_gone, filled_with, some_or_none}
use Rattle.lb_index_ranks.proofs.Spots.{same_at}
use Rattle.lb_index_ranks.proofs.blocks.give_up_empty.Goals as goal

pub returns-then-is_empty-clause-pairs : goal.returns-then-is_empty-clause-pairs
returns-then-is_empty-clause-pairs c =
    let bs = c.args.blocks.now.items in
    let here : c.index.result.now ≡ chunk_at bs c.args.at = search (rules, same_at bs c.args.at c.index.result.now [] c.requires.within) in
    ap all_of c.remove-empty.ensures.items ∙ empty_gone bs c.args.at (sym here ∙ c.is_empty.ensures.0 (search rules))

pub returns-else-is_empty-clause-filled : goal.returns-else-is_empty-clause-filled
returns-else-is_empty-clause-filled c =
    let bs = c.args.blocks.now.items in
    let here : c.index.result.now ≡ chunk_at bs c.args.at = search (rules, same_at bs c.args.at c.index.result.now [] c.requires.within) in
    filled_with bs c.args.at c.requires.others
    (some_or_none (chunk_at bs c.args.at) (λ none. let yes : IsTrue c.is_empty.result = c.is_empty.ensures.1 (here ∙ none) in absurd (cc (yes, c.if-is_empty.false))))
