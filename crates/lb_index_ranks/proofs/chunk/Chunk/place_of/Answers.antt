use Rattle.std.proofs.Common.{List, subst, sym, ◌∙◌, rules}
use Rattle.std.proofs.lemmas.List.Sorted.{IsPartitionPoint-from_clause}
use Rattle.lb_index_ranks.specs.declared.filed.Filed.{Filed}
use Rattle.lb_index_ranks.specs.Filed.{is_before, AreInOrder}
use Rattle.lb_index_ranks.proofs.Order.{parted}
use Rattle.lb_index_ranks.proofs.Spots.{Parts}
use Rattle.lb_index_ranks.proofs.chunk.Chunk.place_of.Goals as goal

pub returns-clause-place : goal.returns-clause-place
returns-clause-place c =
    let at = c.args.at.now in
    let same = c.deref.ensures.value in
    let order : AreInOrder c.args.self.now = c.requires in
    subst (λ (xs : List Filed). Parts at xs c.partition_point.result) c.self.view_is
    (subst (λ (xs : List Filed). Parts at xs c.partition_point.result) same
    (IsPartitionPoint-from_clause (is_before at) c.deref.result.now c.partition_point.result c.partition_point.ensures.partitioned (parted at c.deref.result.now (subst AreInOrder (sym (same ∙ c.self.view_is)) order)) (λ a r f k. search rules)))
