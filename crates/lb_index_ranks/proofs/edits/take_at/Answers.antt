use Rattle.std.proofs.Common.{◌∙◌, ◌≡◌, List, [], ap, remove, set, rules, sym, option_map, slice_get, Option}
use Rattle.lb_index_ranks.specs.declared.filed.Filed.{Filed}
use Rattle.lb_index_ranks.specs.Chunk.{all_of, chunk_at}
use Rattle.lb_index_ranks.proofs.Chunks.{filled_but, get_taken, take_whole}
use Rattle.lb_index_ranks.proofs.Spots.{same_at}
use Rattle.lb_index_ranks.proofs.edits.take_at.Goals as goal

pub returns-clause-rank : goal.returns-clause-rank
returns-clause-rank c =
    let cs = c.args.chunks.now.items in
    let k = c.args.spot.chunk in
    let p = c.args.spot.place in
    let here : c.index_mut.result.now ≡ chunk_at cs k = search (rules, same_at cs k c.index_mut.result.now [] c.requires.taken.there) in
    ap (λ (r : Option Filed). option_map (λ (f : Filed). f.rank) r) (sym (ap (λ (xs : List Filed). slice_get xs p) here ∙ get_taken cs k p c.requires.taken)) ∙ c.take-rank.ensures.rank

pub returns-clause-pairs : goal.returns-clause-pairs
returns-clause-pairs c =
    let cs = c.args.chunks.now.items in
    let k = c.args.spot.chunk in
    let p = c.args.spot.place in
    let here : c.index_mut.result.now ≡ chunk_at cs k = search (rules, same_at cs k c.index_mut.result.now [] c.requires.taken.there) in
    c.give_up_empty.ensures.pairs ∙ ap (λ (xs : List Filed). all_of (set cs k xs)) (c.take-rank.ensures.items ∙ ap (λ (xs : List Filed). remove xs p) here) ∙ take_whole cs k p c.requires.taken.there

pub give_up_empty-requires-clause-others : goal.give_up_empty-requires-clause-others
give_up_empty-requires-clause-others c = filled_but c.args.chunks.now.items c.args.spot.chunk c.take-rank.new.self c.requires.filled
