-- The pool at a place changed.
use Rattle.std.proofs.Common.{◌≡◌, ℕ, zero, suc, ◌<◌, ◌≤◌, List, [], ◌∷◌, length, get_or, set, refl, ap, arith}
use Rattle.lb_servers.specs.declared.pool.Pool.{Pool}
use Rattle.lb_servers.specs.Pool.{change_at}

-- where one stands there
pub changed_there : (f : Pool → Pool) (at : ℕ) (pools : List Pool) (d : Pool) → at < length pools → change_at f at pools ≡ set pools at (f (get_or pools at d))
changed_there f at [] d lt = absurd (omega arith)
changed_there f zero (pool ∷ pools) d lt = refl
changed_there f (suc at) (pool ∷ pools) d lt = ap (λ (ps : List Pool). pool ∷ ps) (changed_there f at pools d (omega arith))

-- and where none does
pub changed_past : (f : Pool → Pool) (at : ℕ) (pools : List Pool) → length pools ≤ at → change_at f at pools ≡ pools
changed_past f at [] le = refl
changed_past f zero (pool ∷ pools) le = absurd (omega arith)
changed_past f (suc at) (pool ∷ pools) le = ap (λ (ps : List Pool). pool ∷ ps) (changed_past f at pools (omega arith))
