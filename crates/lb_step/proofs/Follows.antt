-- Edits of the chain and of the servers and pools: one that is refused leaves what it was given, and one that is carried out
-- is what it is where no memory is lacking.
use Rattle.std.proofs.Common.{◌≡◌, ℕ, ◌+◌, ◌^◌, ◌==◌, Bool, true, false, not, [], ◌∷◌, ◌++◌, length, Option, Some, None, Result, Ok, Err, nat_le, nat_lt, refl}
use Rattle.std.specs.Prelude.{if◌then◌else◌, is_some, slice_get}
use Rattle.std.specs.List.{filter, insert, list_any}
use Rattle.lb_wire.specs.declared.ids.PoolId.{PoolId}
use Rattle.lb_wire.specs.declared.ids.RuleId.{RuleId}
use Rattle.lb_wire.specs.declared.ids.ServerId.{ServerId}
use Rattle.lb_terms.specs.Truth.{limiters_of}
use Rattle.lb_chain.specs.declared.fault.ChainFault.TheVariants as chain_faults
use Rattle.lb_chain.specs.declared.rule.Rule.{Rule}
use Rattle.lb_chain.specs.Edits.{Rules, added, limiters_in, max_limiters, max_rules, moved, moved_at, numbered_of, place_of, put_again, removed, removed_at}
use Rattle.lb_servers.specs.declared.fault.ParkFault.TheVariants as park_faults
use Rattle.lb_servers.specs.declared.pool.Pool.{Pool}
use Rattle.lb_servers.specs.declared.pool.PoolName.{PoolName}
use Rattle.lb_servers.specs.declared.server.Loaded.{Loaded}
use Rattle.lb_servers.specs.declared.spec.ServerSpec.{ServerSpec}
use Rattle.lb_servers.specs.Park.{Backends, added_pool, added_server, changed_pool, changed_server, max_pools, max_servers, removed_server}
use Rattle.lb_servers.specs.Pool.{change_at, is_named, new_pool}
use Rattle.lb_servers.specs.Server.{change_server, is_server, server_named}
use Rattle.lb_servers.specs.Spec.{lacks_pool, new_server, stated_pools}
use Rattle.lb_step.proofs.ChainEdits.{false_true}

-- whether a result is a refusal
abbrev pub refuses : {A E : Type 0} → Result A E → Bool
refuses (Ok x) = false
refuses (Err fault) = true

-- an edit that gives x, and gives y where no memory is lacking
pub record Follows {C A E : Type 0} (old : C) (x y : C × Result A E) : Type 0 where
  pub carried : refuses x.1 ≡ false → x ≡ y
  pub kept : refuses x.1 ≡ true → x.0 ≡ old

true_false : true ≡ false → ⊥
true_false is = cc is

follows_if : {C A E : Type 0} (b : Bool) (old : C) (fault : E) (x y : C × Result A E) → Follows old x y → Follows old (if b then (old, Err fault) else x) (if b then (old, Err fault) else y)
follows_if true old fault x y rest = record { carried = λ is. absurd (true_false is); kept = λ is. refl }
follows_if false old fault x y rest = rest

follows_lacking : {C A E : Type 0} (lacking : Bool) (old new : C) (fault : E) (given : A) → Follows old (if lacking then (old, Err fault) else (new, Ok given)) (new, Ok given)
follows_lacking true old new fault given = record { carried = λ is. absurd (true_false is); kept = λ is. refl }
follows_lacking false old new fault given = record { carried = λ is. refl; kept = λ is. absurd (false_true is) }

follows_done : {C A E : Type 0} (b : Bool) (old new : C) (fault : E) (given : A) → Follows old (if b then (new, Ok given) else (old, Err fault)) (if b then (new, Ok given) else (old, Err fault))
follows_done true old new fault given = record { carried = λ is. refl; kept = λ is. absurd (false_true is) }
follows_done false old new fault given = record { carried = λ is. refl; kept = λ is. refl }

pub follows_added : (lacking : Bool) (chain : Rules) (place : ℕ) (rule : Rule) → Follows chain (added lacking chain place rule) (added false chain place rule)
follows_added lacking chain place rule =
    follows_if (nat_lt (length chain.rules) place) chain chain_faults.BadPlace _ _
    (follows_if (nat_le max_rules (length chain.rules)) chain chain_faults.TooManyRules _ _
    (follows_if (nat_lt max_limiters (limiters_in chain.rules + limiters_of rule.term)) chain chain_faults.TooManyLimiters _ _
    (follows_if (chain.next == 2 ^ 64) chain chain_faults.NoMoreIds _ _
    (follows_lacking lacking chain (record chain { next = chain.next + 1; rules = insert chain.rules place (numbered_of chain.next rule) }) chain_faults.NoMemory (record { 0 = chain.next })))))

removes : (chain : Rules) (at : Option ℕ) → Follows chain (removed_at chain at) (removed_at chain at)
removes chain None = record { carried = λ is. refl; kept = λ is. refl }
removes chain (Some at) = record { carried = λ is. refl; kept = λ is. absurd (false_true is) }

pub follows_removed : (chain : Rules) (id : RuleId) → Follows chain (removed chain id) (removed chain id)
follows_removed chain id = removes chain (place_of id chain.rules)

moves : (lacking : Bool) (chain : Rules) (place : ℕ) (at : Option ℕ) → Follows chain (moved_at lacking chain place at) (moved_at false chain place at)
moves lacking chain place None = record { carried = λ is. refl; kept = λ is. refl }
moves lacking chain place (Some at) =
    follows_if (nat_le (length chain.rules) place) chain chain_faults.BadPlace _ _
    (follows_lacking lacking chain (record chain { rules = put_again chain.rules at place (slice_get chain.rules at) }) chain_faults.NoMemory tt)

pub follows_moved : (lacking : Bool) (chain : Rules) (id : RuleId) (place : ℕ) → Follows chain (moved lacking chain id place) (moved false chain id place)
follows_moved lacking chain id place = moves lacking chain place (place_of id chain.rules)

pub follows_pool : (lacking : Bool) (park : Backends) (name : PoolName) → Follows park (added_pool lacking park name) (added_pool false park name)
follows_pool lacking park name =
    follows_if (list_any (is_named name) park.pools) park park_faults.NameTaken _ _
    (follows_if (nat_le max_pools (length park.pools)) park park_faults.TooMany _ _
    (follows_lacking lacking park (record park { pools = park.pools ++ new_pool name ∷ [] }) park_faults.NoMemory (record { 0 = length park.pools })))

pub follows_server : (lacking : Bool) (park : Backends) (spec : ServerSpec) → Follows park (added_server lacking park spec) (added_server false park spec)
follows_server lacking park spec =
    follows_if (lacks_pool park.pools (stated_pools spec.pools)) park park_faults.NoSuchPool _ _
    (follows_if (is_some (server_named park.servers spec.name)) park park_faults.NameTaken _ _
    (follows_if (nat_le max_servers (length park.servers)) park park_faults.TooMany _ _
    (follows_if (park.next == 2 ^ 64) park park_faults.NoMoreIds _ _
    (follows_lacking lacking park (record park { next = park.next + 1; servers = park.servers ++ new_server park.next park.pools spec ∷ [] }) park_faults.NoMemory (record { 0 = park.next })))))

pub follows_removed_server : (park : Backends) (id : ServerId) → Follows park (removed_server park id) (removed_server park id)
follows_removed_server park id = follows_done (list_any (is_server id) park.servers) park (record park { servers = filter (λ l. not (is_server id l)) park.servers }) park_faults.NoSuchServer tt

pub follows_changed_server : (change : Loaded → Loaded) (park : Backends) (id : ServerId) → Follows park (changed_server change park id) (changed_server change park id)
follows_changed_server change park id = follows_done (list_any (is_server id) park.servers) park (record park { servers = change_server id change park.servers }) park_faults.NoSuchServer tt

pub follows_changed_pool : (change : Pool → Pool) (park : Backends) (pool : PoolId) → Follows park (changed_pool change park pool) (changed_pool change park pool)
follows_changed_pool change park pool = follows_done (is_some (slice_get park.pools pool.0)) park (record park { pools = change_at change pool.0 park.pools }) park_faults.NoSuchPool tt
