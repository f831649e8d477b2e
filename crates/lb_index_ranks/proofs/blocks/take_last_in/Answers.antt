use Rattle.std.proofs.Common.{◌≡◌, List, length, suc, arith, rules, subst, sym, [], ℕ, ◌<◌, Option}
use Rattle.lb_index_ranks.specs.declared.filed.Filed.{Filed}
use Rattle.lb_index_ranks.specs.Chunk.{all_of, chunk_at, IsFilled}
use Rattle.lb_index_ranks.specs.Filed.{TakesLast}
use Rattle.lb_index_ranks.proofs.Edges.{lift_last}
use Rattle.lb_index_ranks.proofs.Spots.{same_at}
use Rattle.lb_index_ranks.proofs.blocks.take_last_in.Goals as goal

pub returns-clause-taken : goal.returns-clause-taken
returns-clause-taken c =
    let bs = c.args.blocks.now.items in
    let k = c.in_ok-last.last in
    let last : suc k ≡ length bs = search rules in
    let lt : k < length bs = omega (arith, last) in
    let here : c.index_mut.result.now ≡ chunk_at bs k = search (rules, same_at bs k c.index_mut.result.now [] lt) in
    let new = c.take_last-rank.new.self in
    let took : TakesLast (chunk_at bs k) c.take_last-rank.result new = subst (λ (xs : List Filed). TakesLast xs c.take_last-rank.result new) here c.take_last-rank.ensures in
    subst (λ (xs : List Filed). TakesLast (all_of bs) c.take_last-rank.result xs) (sym c.give_up_empty.ensures.pairs)
    (lift_last bs k c.take_last-rank.result new last (c.requires.filled k [] lt) took)
