use Rattle.std.proofs.Common.{◌∙◌, ◌≡◌, List, [], length, ap, arith, rules, sym}
use Rattle.lb_index_ranks.specs.declared.filed.Filed.{Filed}
use Rattle.lb_index_ranks.specs.Chunk.{all_of, chunk_at}
use Rattle.lb_index_ranks.proofs.Chunks.{empty_gone, filled_with, no_pair}
use Rattle.lb_index_ranks.proofs.Spots.{same_at}
use Rattle.lb_index_ranks.proofs.edits.give_up_empty.Goals as goal

pub returns-then-len-eq0-clause-pairs : goal.returns-then-len-eq0-clause-pairs
returns-then-len-eq0-clause-pairs c =
    let cs = c.args.chunks.now.items in
    let here : c.index.result.now ≡ chunk_at cs c.args.at = search (rules, same_at cs c.args.at c.index.result.now [] c.requires.within) in
    let none : length (chunk_at cs c.args.at) ≡ 0 = ap (λ (xs : List Filed). length xs) (sym here) ∙ sym c.len.ensures ∙ c.if-len-eq0.true in
    ap all_of c.remove-empty.ensures.items ∙ empty_gone cs c.args.at (no_pair (chunk_at cs c.args.at) none)

pub returns-else-len-eq0-clause-filled : goal.returns-else-len-eq0-clause-filled
returns-else-len-eq0-clause-filled c =
    let cs = c.args.chunks.now.items in
    let here : c.index.result.now ≡ chunk_at cs c.args.at = search (rules, same_at cs c.args.at c.index.result.now [] c.requires.within) in
    filled_with cs c.args.at c.requires.others (omega (arith, c.if-len-eq0.false, c.len.ensures, ap (λ (xs : List Filed). length xs) here))
