-- Groups of masks, and the index of a group.
use Rattle.std.specs.Prelude.{List, map}
use Rattle.lb_masks.specs.Mask.{Prefix}
use Rattle.lb_masks.specs.Index.{Pair, pair_of, HaveSame}

-- each of the masks with rank 0
abbrev pub pairs_of : List Prefix → List Pair
pairs_of masks = map (λ mask. pair_of mask 0) masks

-- the pairs of an index are those of these masks, and no others
abbrev pub IsIndexOf : List Prefix → List Pair → Type 0
IsIndexOf masks pairs = HaveSame pairs (pairs_of masks)
