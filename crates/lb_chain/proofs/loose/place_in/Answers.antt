use Rattle.std.proofs.Common.{nat_lt, rules}
use Rattle.std.proofs.lemmas.List.Sorted.{IsPartitionPoint-from_clause}
use Rattle.lb_chain.proofs.Rising.{ranks_parted}
use Rattle.lb_chain.proofs.LooseRanks.{place_where_parted}
use Rattle.lb_chain.proofs.loose.place_in.Goals as goal

pub returns-clause-below : goal.returns-clause-below
returns-clause-below c =
    let ranks = c.args.ranks.now in
    (place_where_parted ranks c.args.rank c.partition_point.result c.partition_point.ensures.bound (IsPartitionPoint-from_clause (λ r. nat_lt r c.args.rank) ranks c.partition_point.result c.partition_point.ensures.partitioned (ranks_parted c.args.rank ranks c.requires) (λ a r f k. search rules))).below

pub returns-clause-above : goal.returns-clause-above
returns-clause-above c =
    let ranks = c.args.ranks.now in
    (place_where_parted ranks c.args.rank c.partition_point.result c.partition_point.ensures.bound (IsPartitionPoint-from_clause (λ r. nat_lt r c.args.rank) ranks c.partition_point.result c.partition_point.ensures.partitioned (ranks_parted c.args.rank ranks c.requires) (λ a r f k. search rules))).above
