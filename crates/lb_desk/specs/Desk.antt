-- What clauses say of a call of a desk, and of a reader.
use denote.Ref.{Bor}
use Rattle.std.specs.Prelude.{◌≡◌, ◌++◌, ◌<◌, ◌∷◌, ◌⊎◌, ℕ, List, [], vec_len}
use Rattle.std.specs.Fn.{FnOnceReturns, Once}
use Rattle.lb_step.specs.declared.answer.Answer.{Answer}
use Rattle.lb_step.specs.declared.event.Event.{Event}
use Rattle.lb_step.specs.declared.noted.Noted.{Noted}
use Rattle.lb_step.specs.Noted.{IsNoted}
use Rattle.lb_step.specs.Plain.{Plain}
use Rattle.lb_step.specs.Step.{Answers}
use Rattle.lb_desk.specs.declared.book.ticket.Receipts.{Receipts}
use Rattle.lb_desk.specs.declared.entry.Receipt.{Receipt}
use Rattle.lb_desk.specs.Entry.{receipt}

-- an event had this answer by a step of a balancer, which left this
abbrev pub IsStep : Event → Answer → Noted → Type 0
IsStep event answer noted = (old new : Plain) × Answers old event answer new × IsNoted old event answer noted

-- a seat's receipts after a call: as before, if the log has no entry of it; otherwise with one more,
-- that of the call, whose place is below the log's limit
abbrev pub ReceiptsAfter : ℕ → Event → Answer → List Receipt → List Receipt → Type 0
ReceiptsAfter limit event answer old new = (new ≡ old) ⊎ ((place : ℕ) × (place < limit) × (new ≡ old ++ receipt place event answer ∷ []))

-- the same receipts, whatever room there is for one more
abbrev pub SameReceipts : Receipts → Receipts → Type 0
SameReceipts old new = (new.kept.items ≡ old.kept.items) × (vec_len new.kept ≡ vec_len old.kept)

-- r is a result that the call of f may give at references to x and y
abbrev pub OnceReturnsAtBoth : {F T U R : Type 0} → Once F (Bor T × (Bor U × Unit {0})) R → F → T → U → R → Type 0
OnceReturnsAtBoth {F} {T} {U} g f x y r = (p : Bor T) × (q : Bor U) × FnOnceReturns g f (p, (q, tt)) r × (p.now ≡ x) × (q.now ≡ y)
