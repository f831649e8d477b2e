use Rattle.std.proofs.Common.{◌≡◌, List, ℕ, length, take, ◌+◌, sym, ap, subst, ◌∙◌, arith}
use Rattle.std.specs.List.{insert}
use Rattle.std.proofs.lemmas.List.{length-take-le}
use Rattle.lb_servers.specs.Ranks.{StandAt, by_order}
use Rattle.lb_servers.proofs.ByOrder.{by_order_long}
use Rattle.lb_servers.proofs.Places.{stand_long, stand_next}
use Rattle.lb_servers.proofs.ranks.Ranks.put.Goals as goal

pub insert-requires : goal.insert-requires
insert-requires c =
    let long : length c.args.self.now ≡ length (by_order (take c.args.at c.args.servers.now)) = stand_long c.args.servers.now c.args.self.now (by_order (take c.args.at c.args.servers.now)) c.requires.ranked in
    let few : length (by_order (take c.args.at c.args.servers.now)) ≡ c.args.at = by_order_long (take c.args.at c.args.servers.now) ∙ length-take-le c.args.at c.args.servers.now (omega arith) in
    (omega arith, (omega (arith, c.place_by_order-place.ensures.within, ap length c.as_slice.ensures.value), omega (arith, ap length c.self.view_is)))

pub returns : goal.returns
returns c =
    let same : c.self.inside.items.items ≡ c.args.self.now = c.self.view_is in
    subst (λ (places : List ℕ). StandAt c.args.servers.now places (by_order (take (c.args.at + 1) c.args.servers.now)))
    (ap (λ (places : List ℕ). insert places c.place_by_order-place.result c.args.at) (sym same) ∙ sym c.insert.ensures.items)
    (stand_next c.args.servers.now c.args.self.now c.as_slice.result.now c.args.at c.place_by_order-place.result c.index-servers-at.result c.requires.at (c.as_slice.ensures.value ∙ same) c.place_by_order-place.ensures.place c.requires.ranked)
