-- The server that a pool picks is one of those that are there.
use Rattle.std.proofs.Common.{ℕ, ◌%◌, ◌<◌, Bool, true, false, List, [], ◌∷◌, length, Option, Some, None, IfSome, inl, inr, sym, subst, nat_lt}
use Rattle.std.specs.Prelude.{if◌then◌else◌, slice_get, option_map}
use Rattle.std.specs.Option.{option_and_then}
use Rattle.std.specs.List.{AllByRecursion, fold}
use Rattle.std.proofs.lemmas.Option.{slice_get_cases}
use Rattle.lb_wire.specs.declared.ids.PoolId.{PoolId}
use Rattle.lb_servers.specs.declared.pool.Policy.{Policy}
use Rattle.lb_servers.specs.declared.pool.Policy.TheVariants.{FirstAvailable, LeastOutstanding, RoundRobin}
use Rattle.lb_servers.specs.declared.pool.Pool.{Pool}
use Rattle.lb_servers.specs.declared.server.Loaded.{Loaded}
use Rattle.lb_servers.specs.Pick.{chosen, less_loaded, picked, up_servers}
use Rattle.lb_servers.specs.Ranks.{by_order, put_by_order}
use Rattle.lb_servers.specs.Server.{is_up_in}
use Rattle.lb_step.proofs.Each.{each_at, each_filter, each_insert}

-- sorted by order, they are the same servers
sorted : (P : Loaded → Type 0) (before servers : List Loaded) → AllByRecursion P before → AllByRecursion P servers → AllByRecursion P (fold put_by_order before servers)
sorted P before [] all rest = all
sorted P before (l ∷ servers) all rest = sorted P (put_by_order before l) servers (each_insert P before _ l all rest.0) rest.1

lesser : (P : Loaded → Type 0) (b : Bool) (x y : Loaded) → P x → P y → P (if b then y else x)
lesser P true x y first second = second
lesser P false x y first second = first

-- the least of several is one of them
least : (P : Loaded → Type 0) (l : Loaded) (servers : List Loaded) → P l → AllByRecursion P servers → P (fold less_loaded l servers)
least P l [] one rest = one
least P l (m ∷ servers) one rest = least P (less_loaded l m) servers (lesser P (nat_lt m.outstanding l.outstanding) l m one rest.0) rest.1

found : (P : Loaded → Type 0) (servers : List Loaded) (at : ℕ) → AllByRecursion P servers → IfSome (slice_get servers at) P
found P servers at all = elim ((slice_get_cases servers at).1) [
  | inl h ↦ subst (λ (o : Option Loaded). IfSome o P) (sym h.2) (subst P h.3 (each_at P servers at h.0 all h.1))
  | inr h ↦ subst (λ (o : Option Loaded). IfSome o P) (sym h.1) tt
]

one_chosen : (P : Loaded → Type 0) (policy : Policy) (turn : ℕ) (ups : List Loaded) → AllByRecursion P ups → IfSome (chosen policy turn ups) P
one_chosen P FirstAvailable turn ups all = found P ups 0 all
one_chosen P LeastOutstanding turn [] all = tt
one_chosen P LeastOutstanding turn (l ∷ ups) all = least P l ups all.0 all.1
one_chosen P RoundRobin turn ups all = found P ups (turn % length ups) all

number_of : (next : ℕ) (l : Option Loaded) → IfSome l (λ l. l.server.id.0 < next) → IfSome (option_map (λ l. l.server.id) l) (λ id. id.0 < next)
number_of next None is = tt
number_of next (Some l) is = is

by_pool : (next : ℕ) (servers : List Loaded) (pool : PoolId) (p : Option Pool) → AllByRecursion (λ l. l.server.id.0 < next) servers →
    IfSome (option_and_then (λ p. option_map (λ l. l.server.id) (chosen p.policy p.turn (up_servers pool servers))) p) (λ id. id.0 < next)
by_pool next servers pool None all = tt
by_pool next servers pool (Some p) all =
    let Given : Loaded → Type 0 = λ l. l.server.id.0 < next in
    number_of next (chosen p.policy p.turn (up_servers pool servers)) (one_chosen Given p.policy p.turn (up_servers pool servers) (each_filter Given (is_up_in pool) (by_order servers) (sorted Given [] servers tt all)))

-- its number was given
pub picked_given : (next : ℕ) (servers : List Loaded) (pools : List Pool) (pool : PoolId) → AllByRecursion (λ l. l.server.id.0 < next) servers → IfSome (picked servers pools pool) (λ id. id.0 < next)
picked_given next servers pools pool all = by_pool next servers pool (slice_get pools pool.0) all
