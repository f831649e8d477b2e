-- The health checks beside the table of servers.
use Rattle.std.proofs.Common.{◌≡◌, ℕ, ◌<◌, Bool, List, length, get_or, Some, Result, refl, sym, ◌∙◌, ap}
use Rattle.std.specs.List.{position}
use Rattle.std.proofs.lemmas.Option.{slice_get_read}
use Rattle.lb_wire.specs.declared.ids.ServerId.{ServerId}
use Rattle.lb_health.specs.Health.{Standing, result_of}
use Rattle.lb_health.specs.declared.health.Changed.{Changed}
use Rattle.lb_servers.specs.declared.fault.ParkFault.{ParkFault}
use Rattle.lb_servers.specs.declared.spec.ServerSpec.{ServerSpec}
use Rattle.lb_servers.specs.Park.{Backends, added_server, changed_server, lacks, removed_server}
use Rattle.lb_servers.specs.Server.{marked}
use Rattle.lb_table.specs.declared.entry.Waiting.{Waiting}
use Rattle.lb_cache.specs.Caches.{CacheLists}
use Rattle.lb_step.specs.declared.check.Check.{Check}
use Rattle.lb_step.specs.declared.check.CheckSpec.{CheckSpec}
use Rattle.lb_step.specs.Upstream.{Upstreams, IsTied, added_checked, checked_by, is_check, removed_checked, unchecked_by, with_backends, with_check, with_mark, without_check}
use Rattle.lb_step.specs.Health.{result_at, result_by, result_taken, with_change, with_check_at}
use Rattle.lb_step.proofs.Tied.{counted_tied, on_tied, seen_as}

-- a server that is marked in the table
pub mark_seen : (timeout : ℕ) (caches : CacheLists) (checks : List Check) (park after : Backends) (t : List Waiting) (up : Bool) (server : ServerId) → IsTied park t →
    after ≡ (changed_server (marked up) park server).0 → seen_as timeout caches checks after t ≡ with_mark up server (seen_as timeout caches checks park t)
mark_seen timeout caches checks park after t up server tied is =
    let ups = seen_as timeout caches checks park t in
    ap (λ (b : Backends). with_backends b ups) is
    ∙ ap (λ (b : Backends). with_backends (changed_server (marked up) b server).0 ups) (sym (counted_tied timeout caches checks park t tied))

-- a server that is added with its check, or refused
pub added_seen : (timeout : ℕ) (caches : CacheLists) (checks : List Check) (park new : Backends) (t : List Waiting) (spec : ServerSpec) (check : CheckSpec) (given : Result ServerId ParkFault) → IsTied park t →
    (new, given) ≡ added_server (lacks given) park spec →
    (with_check check given (seen_as timeout caches checks new t), given) ≡ added_checked (lacks given) (seen_as timeout caches checks park t) spec check
added_seen timeout caches checks park new t spec check given tied is =
    ap (checked_by check) (on_tied (seen_as timeout caches checks park t) park new given (λ p. added_server (lacks given) p spec) (counted_tied timeout caches checks park t tied) is)

-- a server that is taken out with its check, or not there
pub removed_seen : (timeout : ℕ) (caches : CacheLists) (checks : List Check) (park new : Backends) (t : List Waiting) (id : ServerId) (given : Result (Unit {0}) ParkFault) → IsTied park t →
    (new, given) ≡ removed_server park id →
    (without_check id given (seen_as timeout caches checks new t), given) ≡ removed_checked (seen_as timeout caches checks park t) id
removed_seen timeout caches checks park new t id given tied is =
    ap (unchecked_by id) (on_tied (seen_as timeout caches checks park t) park new given (λ p. removed_server p id) (counted_tied timeout caches checks park t tied) is)

-- a result taken by the check that stands at a place
pub result_seen : (ups new : Upstreams) (server : ServerId) (ok : Bool) (at : ℕ) (check : Check) (health : Standing) (change : Changed) →
    Some at ≡ position (is_check server) ups.checks → at < length ups.checks → check ≡ get_or ups.checks at check → (health, change) ≡ result_of check.health ok →
    new ≡ with_change server change (with_check_at at (record check { health = health }) ups) →
    (new, Some change) ≡ result_taken ups server ok
result_seen ups new server ok at check health change place within here result is =
    ap (λ (u : Upstreams). (u, Some change)) is
    ∙ ap (λ (r : Standing × Changed). (with_change server r.1 (with_check_at at (record check { health = r.0 }) ups), Some r.1)) result
    ∙ ap (result_by ups server ok at) (sym (slice_get_read ups.checks (length ups.checks) at check refl within here))
    ∙ ap (result_at ups server ok) place
