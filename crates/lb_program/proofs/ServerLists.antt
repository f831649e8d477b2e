-- Servers with their load, and without it.
use Rattle.std.proofs.Common.{◌≡◌, inl, inr, List, [], ◌∷◌, map, Option, None, Some, option_map, refl, sym, ap, ◌∙◌}
use Rattle.std.specs.List.{find}
use Rattle.std.proofs.lemmas.Bool.{cases_Bool}
use Rattle.lb_wire.specs.declared.ids.ServerId.{ServerId}
use Rattle.lb_servers.specs.declared.server.Loaded.{Loaded}
use Rattle.lb_servers.specs.declared.server.Server.{Server}
use Rattle.lb_step.specs.Upstream.{server_of}
use Rattle.lb_core.specs.Laws.{has_number}

-- what is found of a number among servers is the server of what is found among them with their load
found_server : (id : ServerId) (loaded : List Loaded) → find (has_number id) (map server_of loaded) ≡ option_map server_of (find (λ (l : Loaded). has_number id (server_of l)) loaded)
found_server id [] = refl
found_server id (l ∷ loaded) = elim (cases_Bool (has_number id (server_of l))) [
  | inl t ↦ rw t refl
  | inr t ↦ rw t (found_server id loaded)
]

map_found : {A : Type 0} (f : Server → A) (found : Option Loaded) → option_map (λ (l : Loaded). f (server_of l)) found ≡ option_map f (option_map server_of found)
map_found f None = refl
map_found f (Some l) = refl

-- and so is what is made of it
pub made_of_found : {A : Type 0} (f : Server → A) (id : ServerId) (loaded : List Loaded) (servers : List Server) (found : Option Loaded) → map server_of loaded ≡ servers → found ≡ find (λ (l : Loaded). has_number id (server_of l)) loaded → option_map (λ (l : Loaded). f (server_of l)) found ≡ option_map f (find (has_number id) servers)
made_of_found f id loaded servers found are is =
    map_found f found ∙ ap (λ (o : Option Loaded). option_map f (option_map server_of o)) is ∙ ap (option_map f) (sym (found_server id loaded)) ∙ ap (λ (xs : List Server). option_map f (find (has_number id) xs)) are

map_each : {A : Type 0} (f : Server → A) (loaded : List Loaded) → map (λ (l : Loaded). f (server_of l)) loaded ≡ map f (map server_of loaded)
map_each f [] = refl
map_each f (l ∷ loaded) = ap (λ xs. f (server_of l) ∷ xs) (map_each f loaded)

-- what is made of each server
pub made_of_each : {A : Type 0} (f : Server → A) (loaded : List Loaded) (servers : List Server) → map server_of loaded ≡ servers → map (λ (l : Loaded). f (server_of l)) loaded ≡ map f servers
made_of_each f loaded servers are = map_each f loaded ∙ ap (map f) are
