-- The event handler of a loop.
use Rattle.std.specs.Prelude.{◌≡◌, ◌⊎◌, ◌<◌, ℕ, List, [], ◌∷◌, ◌++◌, map}
use Rattle.lb_step.specs.declared.answer.Answer.{Answer}
use Rattle.lb_step.specs.declared.event.Event.{Event}
use Rattle.lb_desk.specs.Entry.{receipt}
use Rattle.lb_desk.specs.declared.entry.Receipt.{Receipt}

-- the events and the answers of receipts
abbrev pub pairs_of : List Receipt → List (Event × Answer)
pairs_of receipts = map (λ (r : Receipt). (r.event, r.answer)) receipts

-- a call with this event and this answer kept no receipt, or kept one after the others, which names a
-- place of a log with so many places
abbrev pub MayKeepReceipt : ℕ → Event → Answer → List Receipt → List Receipt → Type 0
MayKeepReceipt limit event answer old new = (new ≡ old) ⊎ ((place : ℕ) × (place < limit) × (new ≡ old ++ receipt place event answer ∷ []))
