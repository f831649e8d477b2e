-- Where servers are.
use Rattle.std.specs.Prelude.{◌≡◌, ℕ, ◌+◌, ◌^◌, List, [], ◌∷◌, Option, None, option_map, find, filter, not, ◌==◌, if◌then◌else◌}
use Rattle.lb_wire.specs.declared.ids.ServerId.{ServerId}
use Rattle.lb_loops_io.specs.declared.endpoint.Endpoint.{Endpoint}
use Rattle.lb_loops_io.specs.declared.roster.Listed.{Listed}
use Rattle.lb_loops_io.specs.declared.roster.Place.{Place}

-- how many servers a roster has room for
abbrev pub most_servers : ℕ
most_servers = 256

-- the place of a server in a list
abbrev pub place_in : ServerId → List Listed → Option Place
place_in server listed = option_map (λ (l : Listed). l.place) (find (λ (l : Listed). l.server.0 == server.0) listed)

-- where a server is
abbrev pub end_of : ServerId → List Listed → Option Endpoint
end_of server listed = option_map (λ (p : Place). p.at) (place_in server listed)

-- the servers other than this one
abbrev pub others : ServerId → List Listed → List Listed
others server listed = filter (λ (l : Listed). not (l.server.0 == server.0)) listed

-- each server stands once
abbrev pub AreApart : List Listed → Type 0
AreApart [] = Unit {0}
AreApart (l ∷ ls) = (place_in l.server ls ≡ None) × AreApart ls

-- the number after a version
abbrev pub next_version : ℕ → ℕ
next_version version = if version + 1 == 2 ^ 64 then 0 else version + 1

-- a roster: how often it was changed, and the servers
pub record Rostered : Type 0 where
  pub version : ℕ
  pub listed : List Listed
