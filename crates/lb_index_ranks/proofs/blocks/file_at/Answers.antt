use Rattle.std.proofs.Common.{◌≡◌, ◌<◌, List, [], length, rules, set, subst, sym}
use Rattle.lb_index_ranks.specs.declared.filed.Filed.{Filed}
use Rattle.lb_index_ranks.specs.Block.{back_in, front_in, IsFiledIn, place_in}
use Rattle.lb_index_ranks.specs.Chunk.{all_of, chunk_at}
use Rattle.lb_index_ranks.specs.Filed.{AreInOrder}
use Rattle.lb_index_ranks.proofs.InPlace.{at_spot}
use Rattle.lb_index_ranks.proofs.Lifts.{lift_filed}
use Rattle.lb_index_ranks.proofs.Spots.{order_chunk, same_at}
use Rattle.std.proofs.lemmas.Result.{on_ok_weaker}
use Rattle.lb_index_ranks.proofs.blocks.file_at.Goals as goal

pub file-requires : goal.file-requires
file-requires c =
    let bs = c.args.blocks.now.items in
    let k = c.args.here in
    let lt : k < length bs = c.requires.place.there (search rules) in
    let here : c.index_mut.result.now ≡ chunk_at bs k = search (rules, same_at bs k c.index_mut.result.now [] lt) in
    subst AreInOrder (sym here) (order_chunk bs k c.requires.order)

pub returns-clause-ok : goal.returns-clause-ok
returns-clause-ok c =
    let at = c.args.at.now in
    let bs = c.args.blocks.now.items in
    let k = c.args.here in
    let new = c.file.new.self in
    let p = place_in at (chunk_at bs k) in
    let lt : k < length bs = c.requires.place.there (search rules) in
    let here : c.index_mut.result.now ≡ chunk_at bs k = search (rules, same_at bs k c.index_mut.result.now [] lt) in
    on_ok_weaker c.file.result
    (λ filed.
    at_spot at bs k p (λ front back. IsFiledIn at front back (all_of (set bs k new))) c.requires.cut
    (lift_filed at bs k p new lt c.requires.place (subst (λ (xs : List Filed). IsFiledIn at (front_in at xs) (back_in at xs) new) here filed)))
    c.file.ensures.ok
