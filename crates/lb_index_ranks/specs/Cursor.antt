-- A walk over pairs in their order.
use Rattle.std.specs.Prelude.{ℕ, List, [], ◌∷◌, Option, None, Some, if◌then◌else◌}
use Rattle.lb_index_ranks.specs.declared.filed.Filed.{Filed}
use Rattle.lb_index_ranks.specs.Filed.{filed_at, is_before}

-- the rank of the next pair, where its key stands before this one
abbrev pub next_below : List ℕ → List Filed → Option ℕ
next_below high [] = None
next_below high (f ∷ rest) = if is_before (filed_at high 0) f then Some f.rank else None

-- the pairs that are left after that
abbrev pub left_below : List ℕ → List Filed → List Filed
left_below high [] = []
left_below high (f ∷ rest) = if is_before (filed_at high 0) f then rest else f ∷ rest
