use Rattle.std.proofs.Common.{IsTrue, List, rules, subst, sym}
use Rattle.lb_index_ranks.specs.declared.filed.Filed.{Filed}
use Rattle.lb_index_ranks.specs.Block.{IsBelow}
use Rattle.lb_index_ranks.specs.Chunk.{all_of, back_of, front_of, IsTaken}
use Rattle.lb_index_ranks.specs.Filed.{IsCut}
use Rattle.lb_index_ranks.proofs.AtSpots.{below_here, below_none}
use Rattle.lb_index_ranks.proofs.block.Block.take_first.Goals as goal

pub returns-then-not-is_below : goal.returns-then-not-is_below
returns-then-not-is_below c =
    let at = c.args.low.now in
    let cs = c.self.inside.chunks.items in
    let k = c.spot_of-spot.result.chunk in
    let p = c.spot_of-spot.result.place in
    let cut : IsCut at (front_of cs k p) (back_of cs k p) = subst (λ (xs : List (List Filed)). IsCut at (front_of xs k p) (back_of xs k p)) c.as_slice-chunks.ensures.value c.spot_of-spot.ensures.cut in
    let other = λ (same : IsBelow c.args.end.now (back_of cs k p)). (
    let yes : IsTrue c.is_below.result = c.is_below.ensures.pair.1 (subst (λ (xs : List (List Filed)). IsBelow c.args.end.now (back_of xs k p)) (sym c.as_slice-chunks.ensures.value) same) in
    absurd (cc (yes, c.if-not-is_below.true))
    ) in
    below_none at c.args.end.now c.args.self.now cs k p (sym c.self.view_is) cut other

pub returns : goal.returns
returns c =
    let at = c.args.low.now in
    let cs = c.self.inside.chunks.items in
    let k = c.spot_of-spot.result.chunk in
    let p = c.spot_of-spot.result.place in
    let cut : IsCut at (front_of cs k p) (back_of cs k p) = subst (λ (xs : List (List Filed)). IsCut at (front_of xs k p) (back_of xs k p)) c.as_slice-chunks.ensures.value c.spot_of-spot.ensures.cut in
    let here : IsBelow c.args.end.now (back_of cs k p) = subst (λ (xs : List (List Filed)). IsBelow c.args.end.now (back_of xs k p)) c.as_slice-chunks.ensures.value (c.is_below.ensures.pair.0 (search rules)) in
    let taken : IsTaken cs k p = subst (λ (xs : List (List Filed)). IsTaken xs k p) c.as_slice-chunks.ensures.value (c.is_below.ensures.taken (search rules)) in
    below_here at c.args.end.now c.args.self.now cs k p c.take_out.result (all_of c.take_out.new.chunks.items) (sym c.self.view_is) cut here taken c.take_out.ensures.rank c.take_out.ensures.pairs
