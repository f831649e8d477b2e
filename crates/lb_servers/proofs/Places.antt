-- Servers by their places in the list.
use Rattle.std.proofs.Common.{◌≡◌, ℕ, ◌+◌, ◌<◌, List, [], ◌∷◌, length, get_or, map, take, Option, Some, option_map, refl, sym, ap, ◌∙◌}
use Rattle.std.specs.List.{insert, slice_get}
use Rattle.std.proofs.lemmas.List.{length-map}
use Rattle.std.proofs.lemmas.List.Sums.{fold_more}
use Rattle.std.proofs.lemmas.Option.{slice_get-get_or, slice_get-map}
use Rattle.lb_servers.specs.declared.server.Loaded.{Loaded}
use Rattle.lb_servers.specs.Ranks.{StandAt, behind, by_order, is_behind, put_by_order}
use Rattle.lb_servers.proofs.ByOrder.{by_order_map, insert_map, place_map, place_or_end}

-- there are as many places as servers
pub stand_long : (servers : List Loaded) (places : List ℕ) (those : List Loaded) → StandAt servers places those → length places ≡ length those
stand_long servers places those stand = sym (length-map places (slice_get servers)) ∙ ap length stand ∙ length-map those Some

-- the place of a server put among the others
pub stand_put : (servers : List Loaded) (places : List ℕ) (sorted : List Loaded) (at : ℕ) (l : Loaded) → slice_get servers at ≡ Some l → StandAt servers places sorted → StandAt servers (insert places (place_or_end (λ k. behind l.server.order (slice_get servers k)) places) at) (put_by_order sorted l)
stand_put servers places sorted at l is stand =
    let order : ℕ = l.server.order in
    let place : ℕ = place_or_end (λ k. behind order (slice_get servers k)) places in
    let same : place ≡ place_or_end (is_behind order) sorted =
    sym (place_map (slice_get servers) (behind order) (λ k. behind order (slice_get servers k)) (λ k. refl) places)
    ∙ ap (place_or_end (behind order)) stand
    ∙ place_map Some (behind order) (is_behind order) (λ m. refl) sorted in
    sym (insert_map (slice_get servers) places place at)
    ∙ ap (λ (o : Option Loaded). insert (map (slice_get servers) places) place o) is
    ∙ ap (λ (ls : List (Option Loaded)). insert ls place (Some l)) stand
    ∙ insert_map Some sorted place l
    ∙ ap (λ (k : ℕ). map Some (insert sorted k l)) same

-- the next server put among those before it, whose places are seen
pub stand_next : (servers : List Loaded) (places seen : List ℕ) (at place : ℕ) (d : Loaded) → at < length servers → seen ≡ places → place ≡ place_or_end (λ k. behind (get_or servers at d).server.order (slice_get servers k)) seen → StandAt servers places (by_order (take at servers)) → StandAt servers (insert places place at) (by_order (take (at + 1) servers))
stand_next servers places seen at place d lt same is stand =
    let l : Loaded = get_or servers at d in
    let there : place ≡ place_or_end (λ k. behind l.server.order (slice_get servers k)) places = is ∙ ap (place_or_end (λ k. behind l.server.order (slice_get servers k))) same in
    rw (there, fold_more put_by_order [] servers at d lt) (stand_put servers places (by_order (take at servers)) at l (slice_get-get_or servers at d lt) stand)

-- by places that stay, of changed servers
pub gets_map : (f : Loaded → Loaded) (servers : List Loaded) (places : List ℕ) → map (slice_get (map f servers)) places ≡ map (option_map f) (map (slice_get servers) places)
gets_map f servers [] = refl
gets_map f servers (place ∷ places) = rw (slice_get-map f servers place, gets_map f servers places) refl

pub somes_map : (f : Loaded → Loaded) (servers : List Loaded) → map (option_map f) (map Some servers) ≡ map Some (map f servers)
somes_map f [] = refl
somes_map f (l ∷ servers) = rw (somes_map f servers) refl

-- a change that leaves the orders leaves the places
pub stand_changed : (f : Loaded → Loaded) → ((l : Loaded) → (f l).server.order ≡ l.server.order) → (servers : List Loaded) (places : List ℕ) → StandAt servers places (by_order servers) → StandAt (map f servers) places (by_order (map f servers))
stand_changed f keeps servers places stand =
    gets_map f servers places ∙ ap (map (option_map f)) stand ∙ somes_map f (by_order servers) ∙ ap (map Some) (sym (by_order_map f keeps servers))
