use Rattle.std.proofs.Common.{nat_lt, rules}
use Rattle.std.proofs.lemmas.List.Sorted.{IsPartitionPoint-from_clause}
use Rattle.lb_chain.proofs.Rising.{found_at, ranks_parted}
use Rattle.lb_chain.proofs.offers.place_of_rank.Goals as goal

pub returns-clause-place : goal.returns-clause-place
returns-clause-place c = λ rising k lt is.
    let ranks = c.args.ranks.now in
    found_at ranks c.args.rank c.partition_point.result k (IsPartitionPoint-from_clause (λ r. nat_lt r c.args.rank) ranks c.partition_point.result c.partition_point.ensures.partitioned (ranks_parted c.args.rank ranks rising) (λ a r f k. search rules)) rising lt is
