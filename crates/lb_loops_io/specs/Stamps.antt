-- The moments and random words that events are made with.
use Rattle.std.specs.Prelude.{◌≡◌, ℕ, ◌⊎◌, List, [], ◌∷◌}
use Rattle.lb_step.specs.declared.event.Event.{Event}
use Rattle.lb_step.specs.declared.event.Event.TheVariants.{Edit, HealthResult, Query, Reply, Tick}

-- a moment and a random word, as they were told
abbrev pub Stamp : Type 0
Stamp = ℕ × ℕ

-- an event has the moment, and a query the word
abbrev pub Bears : Event → Stamp → Type 0
Bears (Query now origin kind word bytes) stamp = (now ≡ stamp.0) × (word ≡ stamp.1)
Bears (Reply now server lane bytes) stamp = now ≡ stamp.0
Bears (Tick now) stamp = now ≡ stamp.0
Bears (HealthResult now server ok) stamp = now ≡ stamp.0
Bears (Edit now command) stamp = now ≡ stamp.0

-- each of these events has one of these stamps, in their order, and no two have the same one
abbrev pub Stamped : List Event → List Stamp → Type 0
Stamped [] stamps = Unit {0}
Stamped (event ∷ events) [] = ⊥
Stamped (event ∷ events) (stamp ∷ stamps) = (Bears event stamp × Stamped events stamps) ⊎ Stamped (event ∷ events) stamps
