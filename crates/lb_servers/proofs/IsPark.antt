-- What the table keeps true.
use Rattle.std.proofs.Common.{◌≡◌, ℕ, Bool, true, false, not, ◌≤◌, List, length, map, refl, ◌∙◌, arith}
use Rattle.std.specs.List.{filter}
use Rattle.std.proofs.lemmas.List.{length-map}
use Rattle.std.proofs.lemmas.List.Filters.{length-filter_both}
use Rattle.lb_servers.specs.declared.pool.Pool.{Pool}
use Rattle.lb_servers.specs.declared.server.Loaded.{Loaded}
use Rattle.lb_servers.specs.Park.{IsPark}
use Rattle.lb_servers.specs.Pick.{AreUps}
use Rattle.lb_servers.specs.Server.{change_if}
use Rattle.lb_servers.proofs.Places.{stand_changed}

-- a change of the servers that leaves their orders
pub park_changed : (f : Loaded → Loaded) → ((l : Loaded) → (f l).server.order ≡ l.server.order) → (servers : List Loaded) (pools : List Pool) (ranks : List ℕ) (ups made : List (List ℕ)) → IsPark servers pools ranks ups → length made ≡ length ups → AreUps (map f servers) made → IsPark (map f servers) pools ranks made
park_changed f keeps servers pools ranks ups made is each up = record {
  servers_few = omega (arith, length-map servers f, is.servers_few);
  pools_few = is.pools_few;
  ranked = stand_changed f keeps servers ranks is.ranked;
  ups_each = each ∙ is.ups_each;
  up = up;
}

pub keeps_if : (this : Bool) (change : Loaded → Loaded) → ((l : Loaded) → (change l).server.order ≡ l.server.order) → (l : Loaded) → (change_if this change l).server.order ≡ l.server.order
keeps_if true change keeps l = keeps l
keeps_if false change keeps l = refl

-- a filter leaves no more than there were
pub fewer : {X : Type 0} (p : X → Bool) (xs : List X) → length (filter p xs) ≤ length xs
fewer p xs = omega (arith, length-filter_both p (λ x. not (p x)) (λ x. refl) xs)
