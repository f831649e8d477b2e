-- The places of the rules that have limiters.
use Rattle.std.specs.Prelude.{ℕ, ◌+◌, ◌==◌, List, [], ◌∷◌, length, if◌then◌else◌}
use Rattle.lb_chain.specs.declared.numbered.Numbered.{Numbered}

-- the places of the rules that have limiters, where the first rule has this place
abbrev pub places_from : ℕ → List Numbered → List ℕ
places_from at [] = []
places_from at (n ∷ rules) = if length n.limits == 0 then places_from (at + 1) rules else at ∷ places_from (at + 1) rules

-- the places of the rules that have limiters
abbrev pub places_of : List Numbered → List ℕ
places_of rules = places_from 0 rules
