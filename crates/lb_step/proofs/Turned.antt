-- The turn of a pool goes up where its policy is roundrobin, and nowhere else.
use Rattle.std.proofs.Common.{◌≡◌, ℕ, zero, suc, Bool, true, false, List, [], ◌∷◌, refl, sym, ap}
use Rattle.std.specs.Prelude.{slice_get, option_map, if◌then◌else◌}
use Rattle.lb_servers.specs.declared.pool.Pool.{Pool}
use Rattle.lb_servers.specs.Pool.{change_at, turned}
use Rattle.lb_step.specs.Upstream.{takes_turns, turned_if}

pub turns : (at : ℕ) (pools : List Pool) → takes_turns (option_map (λ p. p.policy) (slice_get pools at)) ≡ true → change_at turned at pools ≡ change_at turned_if at pools
turns at [] is = refl
turns zero (pool ∷ pools) is = ap (λ (b : Bool). (if b then turned pool else pool) ∷ pools) (sym is)
turns (suc at) (pool ∷ pools) is = ap (λ (ps : List Pool). pool ∷ ps) (turns at pools is)

pub stays : (at : ℕ) (pools : List Pool) → takes_turns (option_map (λ p. p.policy) (slice_get pools at)) ≡ false → pools ≡ change_at turned_if at pools
stays at [] is = refl
stays zero (pool ∷ pools) is = ap (λ (b : Bool). (if b then turned pool else pool) ∷ pools) (sym is)
stays (suc at) (pool ∷ pools) is = ap (λ (ps : List Pool). pool ∷ ps) (stays at pools is)
