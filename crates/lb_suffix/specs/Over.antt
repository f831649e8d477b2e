-- What is filed under a key or a front of it.
use Rattle.std.specs.Prelude.{◌⊎◌, ℕ, List, [], ◌∷◌, ◌++◌}
use Rattle.lb_name.specs.Name.{label_octets}
use Rattle.lb_index_ranks.specs.declared.filed.Filed.{Filed}
use Rattle.lb_index_ranks.specs.Filed.{IsFiledAt}

-- the rank is filed under the front, or under it and some of the labels that follow
abbrev pub IsOver : List Filed → List ℕ → List (List ℕ) → ℕ → Type 0
IsOver items front [] rank = IsFiledAt items front rank
IsOver items front (label ∷ labels) rank = IsFiledAt items front rank ⊎ IsOver items (front ++ label_octets label) labels rank
