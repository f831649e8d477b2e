use Rattle.std.proofs.Common.{◌≡◌, ◌∙◌, ◌++◌, List, ap, map, rules, ℕ}
use Rattle.lb_index_ranks.specs.declared.filed.Filed.{Filed}
use Rattle.lb_cache.proofs.Listings.{whole_walk}
use Rattle.lb_cache.proofs.listing.list_slots.Goals as goal

pub slots-init : goal.slots-init
slots-init c =
    let same : c.reserve.new.self.items ≡ c.args.list.now.items = search rules in
    ap (λ (list : List ℕ). list ++ map (λ (f : Filed). f.rank) c.walk_from-walk.result) same
    ∙ ap (λ (items : List Filed). c.args.list.now.items ++ map (λ (f : Filed). f.rank) items) (whole_walk c.args.slots.now c.walk_from-walk.result c.walk_from-walk.ensures)
