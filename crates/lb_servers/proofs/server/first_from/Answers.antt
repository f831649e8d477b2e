use Rattle.std.proofs.Common.{nat_lt, refl, ap, rules, ◌∙◌}
use Rattle.std.specs.Prelude.{is_some, slice_get}
use Rattle.std.proofs.lemmas.List.Sorted.{IsPartitionPoint-from_clause}
use Rattle.lb_servers.specs.Server.{is_server}
use Rattle.lb_servers.proofs.ByNumber.{parted, place_is, some_place}
use Rattle.lb_servers.proofs.server.first_from.Goals as goal

pub returns-clause-place : goal.returns-clause-place
returns-clause-place c =
    let ls = c.args.servers.now in
    place_is c.args.id ls c.partition_point.result (slice_get ls c.partition_point.result) c.requires (IsPartitionPoint-from_clause (λ l. nat_lt l.server.id.0 c.args.id.0) ls c.partition_point.result c.partition_point.ensures.partitioned (parted c.args.id ls c.requires) (λ a r f k. search rules)) refl

pub returns-clause-there : goal.returns-clause-there
returns-clause-there c =
    ap is_some (returns-clause-place c) ∙ some_place (is_server c.args.id) c.args.servers.now
