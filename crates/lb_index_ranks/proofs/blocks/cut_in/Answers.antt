use Rattle.std.proofs.Common.{◌≡◌, ◌≤◌, ◌∙◌, List, drop, take, arith, subst}
use Rattle.lb_index_ranks.specs.declared.filed.Filed.{Filed}
use Rattle.lb_index_ranks.specs.Chunk.{all_of}
use Rattle.lb_index_ranks.specs.Filed.{IsCut}
use Rattle.lb_index_ranks.proofs.Edges.{cut_among}
use Rattle.lb_index_ranks.proofs.blocks.cut_in.Goals as goal

pub returns-in-Ok-clause-cut : goal.returns-in-Ok-clause-cut
returns-in-Ok-clause-cut c =
    let low = c.args.low.now in
    let high = c.args.end.now in
    let bs = c.part-2.new.blocks.items in
    let i = c.in_ok-from.from in
    let j = c.in_ok-to.to in
    let le : i ≤ j = omega (arith, c.if-to-from.false) in
    let from : IsCut low (all_of (take i bs)) (all_of (drop i bs)) = subst (λ (xs : List (List Filed)). IsCut low (all_of (take i xs)) (all_of (drop i xs))) c.as_slice.ensures.value c.in_ok-from.ensures.cut in
    let below : IsCut high (all_of (take j bs)) (all_of (drop j bs)) = subst (λ (xs : List (List Filed)). IsCut high (all_of (take j xs)) (all_of (drop j xs))) c.as_slice-2.ensures.value c.in_ok-to.ensures.cut in
    cut_among low high bs c.args.blocks.now.items c.in-Ok.cut.items c.take_blocks.new.blocks.items i j (c.part-2.ensures.pairs ∙ c.part.ensures.pairs) le from below c.in-Ok.ensures.taken c.in-Ok.ensures.left
