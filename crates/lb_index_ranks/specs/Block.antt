-- Where a pair stands among pairs in order, and what is put and taken there.
use Rattle.std.specs.Prelude.{◌≡◌, ◌⊎◌, ℕ, zero, suc, List, [], ◌∷◌, ◌++◌, true, Option, None, Some, option_map, take, drop, slice_get, if◌then◌else◌}
use Rattle.lb_index_ranks.specs.declared.filed.Filed.{Filed}
use Rattle.lb_index_ranks.specs.Filed.{is_before}

-- how many pairs stand before this one, up to the first that does not: its place among pairs in order
abbrev pub place_in : Filed → List Filed → ℕ
place_in at [] = zero
place_in at (f ∷ items) = if is_before at f then suc (place_in at items) else zero

-- the pairs before that place
abbrev pub front_in : Filed → List Filed → List Filed
front_in at items = take (place_in at items) items

-- the pairs from that place on
abbrev pub back_in : Filed → List Filed → List Filed
back_in at items = drop (place_in at items) items

-- the pair is put between front and back, where the back does not begin with it
abbrev pub IsFiledIn : Filed → List Filed → List Filed → List Filed → Type 0
IsFiledIn at front back new = ((slice_get back 0 ≡ Some at) × (new ≡ front ++ back)) ⊎ ((slice_get back 0 ≡ Some at → ⊥) × (new ≡ front ++ at ∷ back))

-- the pair is taken out, where the back begins with it
abbrev pub IsUnfiledIn : Filed → List Filed → List Filed → List Filed → Type 0
IsUnfiledIn at front back new = ((slice_get back 0 ≡ Some at) × (new ≡ front ++ drop 1 back)) ⊎ ((slice_get back 0 ≡ Some at → ⊥) × (new ≡ front ++ back))

-- whether the back begins with a pair that stands before this one
abbrev pub IsBelow : Filed → List Filed → Type 0
IsBelow high back = option_map (is_before high) (slice_get back 0) ≡ Some true

-- the first pair of the back is taken out and its rank is told, where it stands before this one
abbrev pub TakesBelow : Filed → List Filed → List Filed → Option ℕ → List Filed → Type 0
TakesBelow high front back None new = (IsBelow high back → ⊥) × (new ≡ front ++ back)
TakesBelow high front back (Some rank) new = IsBelow high back × (option_map (λ f. f.rank) (slice_get back 0) ≡ Some rank) × (new ≡ front ++ drop 1 back)
