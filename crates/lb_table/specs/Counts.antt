-- How many queries wait for each server.
use Rattle.std.specs.Prelude.{ℕ, List}
use Rattle.std.specs.BTreeMap.{is_at as is_key}
use Rattle.std.specs.Map.{lookup}
use Rattle.std.specs.Option.{unwrap_or}
use Rattle.std.specs.Ordering.{nat_cmp}

-- the number of a server, 0 where it has none
abbrev pub count_of : List (ℕ × ℕ) → ℕ → ℕ
count_of counts server = unwrap_or (lookup (is_key (nat_cmp server)) counts) 0
