use Rattle.std.proofs.Common.{◌∙◌, ◌≡◌, ◌∷◌, ◌++◌, IsTrue, List, Some, ap, rules, slice_get, subst, sym}
use Rattle.std.proofs.lemmas.Result.{on_ok_weaker}
use Rattle.lb_index_ranks.specs.declared.filed.Filed.{Filed}
use Rattle.lb_index_ranks.specs.Chunk.{all_of, back_of, front_of, IsFence}
use Rattle.lb_index_ranks.specs.Filed.{IsCut}
use Rattle.lb_index_ranks.proofs.AtSpots.{filed_here, filed_there}
use Rattle.lb_index_ranks.proofs.block.Block.file.Goals as goal

pub returns-then-stands_at-clause-ok : goal.returns-then-stands_at-clause-ok
returns-then-stands_at-clause-ok c =
    let at = c.args.at.now in
    let cs = c.self.inside.chunks.items in
    let k = c.spot_of-spot.result.chunk in
    let p = c.spot_of-spot.result.place in
    let cut : IsCut at (front_of cs k p) (back_of cs k p) = subst (λ (xs : List (List Filed)). IsCut at (front_of xs k p) (back_of xs k p)) c.as_slice.ensures.value c.spot_of-spot.ensures.cut in
    let here : slice_get (back_of cs k p) 0 ≡ Some at = subst (λ (xs : List (List Filed)). slice_get (back_of xs k p) 0 ≡ Some at) c.as_slice-2.ensures.value (c.if-stands_at.ensures.pair.0 (search rules)) in
    filed_there at c.args.self.now cs k p (sym c.self.view_is) cut here

pub invariant_of-self : goal.invariant_of-self
invariant_of-self c = (c.room_at.ensures.filled, subst (λ (xs : List Filed). IsFence c.self.inside.fence xs) (sym c.room_at.ensures.pairs) c.self.invariant.1)

pub returns-clause-ok : goal.returns-clause-ok
returns-clause-ok c =
    let at = c.args.at.now in
    let was = c.self.inside.chunks.items in
    let j = c.spot_of-spot.result.chunk in
    let o = c.spot_of-spot.result.place in
    let cs = c.room_at.new.chunks.items in
    let k = c.in_ok-spot.spot.chunk in
    let p = c.in_ok-spot.spot.place in
    let filed : c.in_ok-filed.filed ≡ at = search rules in
    let cut : IsCut at (front_of was j o) (back_of was j o) = subst (λ (xs : List (List Filed)). IsCut at (front_of xs j o) (back_of xs j o)) c.as_slice.ensures.value c.spot_of-spot.ensures.cut in
    let other = λ (same : slice_get (back_of was j o) 0 ≡ Some at). (
    let yes : IsTrue c.stands_at.result = c.stands_at.ensures.pair.1 (subst (λ (xs : List (List Filed)). slice_get (back_of xs j o) 0 ≡ Some at) (sym c.as_slice-2.ensures.value) same) in
    absurd (cc (yes, c.if-stands_at.false))
    ) in
    on_ok_weaker c.put_in.result
    (λ put.
    filed_here at c.args.self.now was j o cs k p (all_of c.put_in.new.chunks.items) (sym c.self.view_is) cut other (sym c.self.view_is ∙ sym c.room_at.ensures.pairs) c.in_ok-spot.ensures.cut
    (put ∙ ap (λ (f : Filed). front_of cs k p ++ f ∷ back_of cs k p) filed))
    c.put_in.ensures.ok
