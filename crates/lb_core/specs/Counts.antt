-- Counts over a run.
use Rattle.std.specs.Prelude.{◌≡◌, ℕ, ◌+◌, List, [], ◌∷◌}
use Rattle.lb_step.specs.declared.answer.Answer.{Answer}
use Rattle.lb_step.specs.declared.event.Event.{Event}
use Rattle.lb_step.specs.declared.noted.Noted.{Noted}
use Rattle.lb_step.specs.Noted.{IsNoted}
use Rattle.lb_step.specs.Plain.{Plain}
use Rattle.lb_step.specs.Step.{Answers}
use Rattle.lb_step.specs.Counts.{times}

-- how many of these events, and of their answers, are of the count at a place
abbrev pub times_in : List Event → List Answer → ℕ → ℕ
times_in (event ∷ events) (answer ∷ answers) place = times event answer place + times_in events answers place
times_in _ _ place = 0

-- a run, with what each step leaves
abbrev pub IsNotedRun : Plain → List Event → List Answer → List Noted → Plain → Type 0
IsNotedRun old [] [] [] new = new ≡ old
IsNotedRun old (event ∷ events) (answer ∷ answers) (noted ∷ notes) new =
    (mid : Plain) × Answers old event answer mid × IsNoted old event answer noted × IsNotedRun mid events answers notes new
IsNotedRun old _ _ _ new = ⊥
