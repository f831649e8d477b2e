use Rattle.std.proofs.Common.{◌∙◌, ◌≡◌, ◌<◌, List, [], length, ap, insert, set, rules, subst, sym}
use Rattle.std.proofs.lemmas.Result.{on_ok_weaker}
use Rattle.lb_index_ranks.specs.declared.filed.Filed.{Filed}
use Rattle.lb_index_ranks.specs.Chunk.{all_of, chunk_at, IsFilled}
use Rattle.lb_index_ranks.proofs.Chunks.{put_whole, set_filled}
use Rattle.lb_index_ranks.proofs.Spots.{same_at}
use Rattle.lb_index_ranks.proofs.edits.put_at.Goals as goal

pub returns-clause-ok : goal.returns-clause-ok
returns-clause-ok c =
    let cs = c.args.chunks.now.items in
    let k = c.args.spot.chunk in
    let p = c.args.spot.place in
    let lt : k < length cs = c.requires.place.there (search rules) in
    let here : c.index_mut.result.now ≡ chunk_at cs k = search (rules, same_at cs k c.index_mut.result.now [] lt) in
    on_ok_weaker c.put.result
    (λ is. ap (λ (xs : List Filed). all_of (set cs k xs)) (is ∙ ap (λ (xs : List Filed). insert xs p c.args.filed) here) ∙ put_whole cs k p c.args.filed lt)
    c.put.ensures.ok

pub returns-clause-filled : goal.returns-clause-filled
returns-clause-filled c =
    let cs = c.args.chunks.now.items in
    let k = c.args.spot.chunk in
    let lt : k < length cs = c.requires.place.there (search rules) in
    let here : chunk_at cs k ≡ c.index_mut.result.now = sym (search (rules, same_at cs k c.index_mut.result.now [] lt)) in
    set_filled c.put.result cs k c.args.spot.place c.index_mut.result.now c.put.new.self c.args.filed c.requires.filled
    (subst IsFilled here (c.requires.filled k [] lt)) c.put.ensures.ok c.put.ensures.err
