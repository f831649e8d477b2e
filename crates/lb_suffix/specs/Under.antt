-- A walk over what is filed at a name and below it.
use Rattle.std.specs.Prelude.{ℕ, List, [], ◌∷◌, map, if◌then◌else◌}
use Rattle.lb_index_ranks.specs.declared.filed.Filed.{Filed}
use Rattle.lb_index_ranks.specs.Filed.{filed_at, is_before}
use Rattle.lb_suffix.specs.Index.{Pair, shown}

-- what is kept up to the first pair whose key does not stand before this one
abbrev pub kept_before : List ℕ → List Filed → List Filed
kept_before high [] = []
kept_before high (f ∷ items) = if is_before (filed_at high 0) f then f ∷ kept_before high items else []

-- the pairs that a walk has not passed
abbrev pub pairs_before : List ℕ → List Filed → List Pair
pairs_before high items = map shown (kept_before high items)
