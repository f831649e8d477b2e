use Rattle.std.proofs.Common.{◌∙◌, ◌≡◌, ap, slice_get, List, rules, option_copied}
use Rattle.lb_index_ranks.specs.declared.filed.Filed.{Filed}
use Rattle.lb_index_ranks.specs.Chunk.{chunk_at}
use Rattle.lb_index_ranks.proofs.Chunks.{get_back, got_within, some_copied}
use Rattle.lb_index_ranks.proofs.spot.pair_at.Goals as goal

pub returns-clause-pair : goal.returns-clause-pair
returns-clause-pair c =
    let here : c.in_ok-get.field-0.now ≡ chunk_at c.args.chunks.now c.args.spot.chunk = search rules in
    c.get-2.ensures ∙ ap (λ (xs : List Filed). slice_get xs c.args.spot.place) here ∙ get_back c.args.chunks.now c.args.spot.chunk c.args.spot.place c.requires

pub returns-clause-taken : goal.returns-clause-taken
returns-clause-taken c = λ some.
    let here : c.in_ok-get.field-0.now ≡ chunk_at c.args.chunks.now c.args.spot.chunk = search rules in
    record {
      there = search rules;
      within = got_within (chunk_at c.args.chunks.now c.args.spot.chunk) c.args.spot.place (option_copied c.get-2.result) (c.get-2.ensures ∙ ap (λ (xs : List Filed). slice_get xs c.args.spot.place) here) (some_copied c.get-2.result some);
    }
