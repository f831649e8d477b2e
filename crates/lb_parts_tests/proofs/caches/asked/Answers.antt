use Rattle.std.proofs.Common.{◌≡◌, [], ◌∷◌, List, ℕ, drop, ◌∙◌, refl, ap}
use Rattle.lb_name.specs.Name.{labels_of}
use Rattle.lb_parts_tests.proofs.caches.asked.Goals as goal

-- the question name of the octets
labels_asked : labels_of (7 ∷ 101 ∷ 120 ∷ 97 ∷ 109 ∷ 112 ∷ 108 ∷ 101 ∷ 3 ∷ 99 ∷ 111 ∷ 109 ∷ 0 ∷ 0 ∷ 1 ∷ 0 ∷ 1 ∷ []) ≡ (101 ∷ 120 ∷ 97 ∷ 109 ∷ 112 ∷ 108 ∷ 101 ∷ []) ∷ (99 ∷ 111 ∷ 109 ∷ []) ∷ []
unfolding labels_of
labels_asked = refl

pub returns : goal.returns
returns c = ap (λ (octets : List ℕ). labels_of (drop 10 octets)) (c.from_vec.ensures ∙ c.in_ok-from_slice.ensures.items ∙ c.as_slice.ensures) ∙ labels_asked
