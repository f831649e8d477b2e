use Rattle.std.proofs.Common.{◌≡◌, List, length, suc, ◌<◌, arith, rules, subst, sym, [], ℕ, Some}
use Rattle.lb_index_ranks.specs.declared.filed.Filed.{Filed}
use Rattle.lb_index_ranks.specs.Chunk.{all_of, chunk_at}
use Rattle.lb_index_ranks.specs.Filed.{TakesLast}
use Rattle.lb_index_ranks.proofs.Edges.{last_out}
use Rattle.lb_index_ranks.proofs.Spots.{same_at}
use Rattle.lb_index_ranks.proofs.block.Block.take_last.Goals as goal

pub returns : goal.returns
returns c =
    let cs = c.self.inside.chunks.items in
    let k = c.in_ok-chunk.chunk in
    let p = c.in_ok-place.place in
    let last : suc k ≡ length cs = search rules in
    let lt : k < length cs = omega (arith, last) in
    let here : c.index.result.now ≡ chunk_at cs k = search (rules, same_at cs k c.index.result.now [] lt) in
    let own : suc p ≡ length c.index.result.now = search rules in
    let end : suc p ≡ length (chunk_at cs k) = subst (λ (xs : List Filed). suc p ≡ length xs) here own in
    subst (λ (xs : List Filed). TakesLast xs (Some c.take_out-rank.result) (all_of c.take_out-rank.new.chunks.items)) c.self.view_is
    (last_out cs k p c.take_out-rank.result (all_of c.take_out-rank.new.chunks.items) last end c.take_out-rank.ensures.rank c.take_out-rank.ensures.pairs)
