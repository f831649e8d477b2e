-- Sets of names, and the index of a set.
use Rattle.std.specs.Prelude.{ℕ, List, map}
use Rattle.lb_suffix.specs.Index.{Pair, pair_of, HaveSame}

-- each of the names with rank 0
abbrev pub pairs_of : List (List (List ℕ)) → List Pair
pairs_of names = map (λ name. pair_of name 0) names

-- the pairs of an index are those of these names, and no others
abbrev pub IsIndexOf : List (List (List ℕ)) → List Pair → Type 0
IsIndexOf names pairs = HaveSame pairs (pairs_of names)
