use Rattle.std.proofs.Common.{◌≡◌, IsTrue, List, Some, rules, slice_get, subst, sym}
use Rattle.lb_index_ranks.specs.declared.filed.Filed.{Filed}
use Rattle.lb_index_ranks.specs.Chunk.{all_of, back_of, front_of, IsTaken}
use Rattle.lb_index_ranks.specs.Filed.{IsCut}
use Rattle.lb_index_ranks.proofs.AtSpots.{unfiled_here, unfiled_none}
use Rattle.lb_index_ranks.proofs.block.Block.unfile.Goals as goal

pub returns-then-stands_at : goal.returns-then-stands_at
returns-then-stands_at c =
    let at = c.args.at.now in
    let cs = c.self.inside.chunks.items in
    let k = c.spot_of-spot.result.chunk in
    let p = c.spot_of-spot.result.place in
    let cut : IsCut at (front_of cs k p) (back_of cs k p) = subst (λ (xs : List (List Filed)). IsCut at (front_of xs k p) (back_of xs k p)) c.as_slice-chunks.ensures.value c.spot_of-spot.ensures.cut in
    let here : slice_get (back_of cs k p) 0 ≡ Some at = subst (λ (xs : List (List Filed)). slice_get (back_of xs k p) 0 ≡ Some at) c.as_slice-chunks.ensures.value (c.if-stands_at.ensures.pair.0 (search rules)) in
    let taken : IsTaken cs k p = subst (λ (xs : List (List Filed)). IsTaken xs k p) c.as_slice-chunks.ensures.value (c.if-stands_at.ensures.taken (search rules)) in
    unfiled_here at c.args.self.now cs k p (all_of c.take_out-rank.new.chunks.items) (sym c.self.view_is) cut here taken c.take_out-rank.ensures.pairs

pub returns-else-stands_at : goal.returns-else-stands_at
returns-else-stands_at c =
    let at = c.args.at.now in
    let cs = c.self.inside.chunks.items in
    let k = c.spot_of-spot.result.chunk in
    let p = c.spot_of-spot.result.place in
    let cut : IsCut at (front_of cs k p) (back_of cs k p) = subst (λ (xs : List (List Filed)). IsCut at (front_of xs k p) (back_of xs k p)) c.as_slice-chunks.ensures.value c.spot_of-spot.ensures.cut in
    let other = λ (same : slice_get (back_of cs k p) 0 ≡ Some at). (
    let yes : IsTrue c.stands_at.result = c.stands_at.ensures.pair.1 (subst (λ (xs : List (List Filed)). slice_get (back_of xs k p) 0 ≡ Some at) (sym c.as_slice-chunks.ensures.value) same) in
    absurd (cc (yes, c.if-stands_at.false))
    ) in
    unfiled_none at c.args.self.now cs k p (sym c.self.view_is) cut other
