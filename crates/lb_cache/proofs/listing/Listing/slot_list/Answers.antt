use Rattle.std.proofs.Common.{◌≡◌, ◌∙◌, ◌++◌, List, ap, map, rules, ℕ}
use Rattle.lb_index_ranks.specs.declared.filed.Filed.{Filed}
use Rattle.lb_cache.specs.Keys.{slots_of}
use Rattle.lb_cache.proofs.Listings.{slots_are}
use Rattle.lb_cache.proofs.listing.Listing.slot_list.Goals as goal

pub returns : goal.returns
returns c =
    let first : c.list_slots.new.list.items ≡ map (λ (f : Filed). f.rank) c.self.inside.datagrams = search rules in
    let all : c.list_slots-2.new.list.items ≡ c.list_slots.new.list.items ++ map (λ (f : Filed). f.rank) c.self.inside.streams = search rules in
    all
    ∙ ap (λ (list : List ℕ). list ++ map (λ (f : Filed). f.rank) c.self.inside.streams) first
    ∙ slots_are c.self.inside.datagrams c.self.inside.streams
    ∙ ap slots_of c.self.view_is
