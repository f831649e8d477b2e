-- Counts by the numbers of rules, servers and caches, over a run.
use Rattle.std.specs.Prelude.{◌≡◌, ℕ, ◌+◌, ◌-◌, ◌^◌, ◌≤◌, ◌==◌, Bool, false, min, List, ◌∷◌, Option, None, Some}
use Rattle.std.specs.List.{AllByRecursion}
use Rattle.lb_tallies.specs.Tallies.{raised, shut, tally_of}
use Rattle.lb_step.specs.declared.answer.Answer.{Answer}
use Rattle.lb_step.specs.declared.counts_by_number.CountsByNumber.{CountsByNumber}
use Rattle.lb_step.specs.declared.noted.Noted.{Noted}
use Rattle.lb_step.specs.declared.event.Event.{Event}
use Rattle.lb_step.specs.Counts.{one_if}
use Rattle.lb_step.specs.Plain.{Plain}
use Rattle.lb_step.specs.CountsByNumber.{asked_of, by_note, cache_removed, ended_by, expired_at, hit_in, replied_by, rule_removed, sent_to, server_removed}
use Rattle.lb_core.specs.Counts.{IsNotedRun}

-- what a number has after a run with these answers, of whose steps these were noted: at each step its
-- count goes if the answer removes it, and then rises if the step is of that number
abbrev pub tally_after : (Answer → Option ℕ) → (Answer → Noted → Option ℕ) → List Answer → List Noted → ℕ → ℕ → ℕ
tally_after removed named (answer ∷ answers) (noted ∷ notes) id tally =
    tally_after removed named answers notes id (raised (named answer noted) id (shut (removed answer) id tally))
tally_after removed named _ _ id tally = tally

-- each count after a run with these answers, of whose steps these were noted
pub record AreCountedIn (answers : List Answer) (notes : List Noted) (old new : CountsByNumber) : Type 0 where
  pub ended : (id : ℕ) → tally_of id new.ended ≡ tally_after (by_note rule_removed) ended_by answers notes id (tally_of id old.ended)
  pub forwarded : (id : ℕ) → tally_of id new.forwarded ≡ tally_after (by_note server_removed) sent_to answers notes id (tally_of id old.forwarded)
  pub replied : (id : ℕ) → tally_of id new.replied ≡ tally_after (by_note server_removed) replied_by answers notes id (tally_of id old.replied)
  pub expired : (id : ℕ) → tally_of id new.expired ≡ tally_after (by_note server_removed) expired_at answers notes id (tally_of id old.expired)
  pub asked : (id : ℕ) → tally_of id new.asked ≡ tally_after (by_note cache_removed) asked_of answers notes id (tally_of id old.asked)
  pub hit : (id : ℕ) → tally_of id new.hit ≡ tally_after (by_note cache_removed) hit_in answers notes id (tally_of id old.hit)

-- the counts of a run if no memory for one was refused: then none was refused before it
pub record AreExact (answers : List Answer) (notes : List Noted) (old new : CountsByNumber) : Type 0 where
  pub before : old.lacked ≡ false
  pub counted : AreCountedIn answers notes old new

-- a run that counts: the events are given these answers, one after the other, and the counts after
-- it are exact, unless memory for one was refused
abbrev pub IsCountedRun : Plain → List Event → List Answer → Plain → CountsByNumber → CountsByNumber → Type 0
IsCountedRun first events answers end old new =
    (notes : List Noted) × IsNotedRun first events answers notes end × (new.lacked ≡ false → AreExact answers notes old new)

-- whether a step is of a number
abbrev pub is_of : Option ℕ → ℕ → Bool
is_of (Some one) id = id == one
is_of None id = false

-- how many steps of a run are of a number
abbrev pub times_named : (Answer → Noted → Option ℕ) → List Answer → List Noted → ℕ → ℕ
times_named named (answer ∷ answers) (noted ∷ notes) id = one_if (is_of (named answer noted) id) + times_named named answers notes id
times_named named _ _ id = 0

-- if no step of a run removes a number, its count is the one from before and how many steps are of
-- that number; at 2^64-1 it stays
abbrev pub CountsAreNumbers : Type 0
CountsAreNumbers =
    (removed : Answer → Option ℕ) (named : Answer → Noted → Option ℕ) (answers : List Answer) (notes : List Noted) (id tally : ℕ) →
    tally ≤ 2 ^ 64 - 1 → AllByRecursion (λ answer. removed answer ≡ Some id → ⊥) answers →
    tally_after removed named answers notes id tally ≡ min (tally + times_named named answers notes id) (2 ^ 64 - 1)
