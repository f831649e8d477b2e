-- Pools, each once.
use Rattle.std.proofs.Common.{◌≡◌, ℕ, ◌+◌, ◌<◌, ◌≤◌, List, [], length, get_or, take, Option, Some, None, inl, inr, sym, ap, ◌∙◌, arith}
use Rattle.std.specs.List.{cons_option, filter_map, fold, list_any}
use Rattle.std.proofs.lemmas.Bool.{cases_Bool}
use Rattle.std.proofs.lemmas.List.{length_push}
use Rattle.std.proofs.lemmas.List.Sums.{fold-append}
use Rattle.lb_wire.specs.declared.ids.PoolId.{PoolId}
use Rattle.lb_servers.specs.declared.pool.PoolName.{PoolName}
use Rattle.lb_servers.specs.declared.pool.Pool.{Pool}
use Rattle.lb_servers.specs.Pool.{pool_named, same_pool}
use Rattle.lb_servers.specs.Spec.{joined, pools_named}
use Rattle.lb_servers.proofs.Taken.{taken_more}

-- one pool more at most
pub joined_long : (pools : List PoolId) (pool : PoolId) → length (joined pools pool) ≤ length pools + 1
joined_long pools pool = elim (cases_Bool (list_any (same_pool pool) pools)) [
  | inl among ↦ rw among (omega arith)
  | inr other ↦ rw other (omega (arith, length_push pools pool))
]

named_more : (pools : List Pool) (names : List PoolName) (i : ℕ) (name : PoolName) (found : Option PoolId) → i < length names → name ≡ get_or names i name → found ≡ pool_named pools name → pools_named pools (take (i + 1) names) ≡ fold joined (pools_named pools (take i names)) (cons_option found [])
named_more pools names i name found lt is number =
    ap (fold joined []) (taken_more (pool_named pools) names i name lt)
    ∙ fold-append joined [] (filter_map (pool_named pools) (take i names)) (cons_option (pool_named pools (get_or names i name)) [])
    ∙ ap (λ (m : PoolName). fold joined (pools_named pools (take i names)) (cons_option (pool_named pools m) [])) (sym is)
    ∙ ap (λ (o : Option PoolId). fold joined (pools_named pools (take i names)) (cons_option o [])) (sym number)

-- one name more, of a pool
pub named_some : (pools : List Pool) (names : List PoolName) (i : ℕ) (name : PoolName) (ids : List PoolId) (found : Option PoolId) (pool : PoolId) → i < length names → name ≡ get_or names i name → found ≡ pool_named pools name → found ≡ Some pool → ids ≡ pools_named pools (take i names) → joined ids pool ≡ pools_named pools (take (i + 1) names)
named_some pools names i name ids found pool lt is number some so_far =
    ap (λ (before : List PoolId). joined before pool) so_far
    ∙ sym (named_more pools names i name found lt is number ∙ ap (λ (o : Option PoolId). fold joined (pools_named pools (take i names)) (cons_option o [])) some)

-- one name more, of none
pub named_none : (pools : List Pool) (names : List PoolName) (i : ℕ) (name : PoolName) (ids : List PoolId) (found : Option PoolId) → i < length names → name ≡ get_or names i name → found ≡ pool_named pools name → found ≡ None → ids ≡ pools_named pools (take i names) → ids ≡ pools_named pools (take (i + 1) names)
named_none pools names i name ids found lt is number none so_far =
    so_far ∙ sym (named_more pools names i name found lt is number ∙ ap (λ (o : Option PoolId). fold joined (pools_named pools (take i names)) (cons_option o [])) none)
