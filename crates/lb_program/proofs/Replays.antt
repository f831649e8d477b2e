-- Replays that go on.
use Rattle.std.proofs.Common.{◌≡◌, ℕ, List, [], ◌∷◌, ◌++◌, refl, sym, subst, Option, Err}
use Rattle.std.specs.Prelude.{codes}
use Rattle.std.proofs.lemmas.List.{flat_map_more}
use Rattle.lb_step.specs.declared.event.Event.{Event}
use Rattle.lb_step.specs.declared.answer.Answer.{Answer}
use Rattle.lb_step.specs.Plain.{Plain, empty}
use Rattle.lb_step.specs.Step.{Answers}
use Rattle.lb_core.specs.Runs.{CachedAnswersAreKeptReplies, IsRun}
use Rattle.lb_command.specs.Answers.{line_of, lines_of}
use Rattle.lb_program.specs.Output.{Writes}
use Rattle.lb_program.specs.Faults.{End, IsFailure, IsOutput, IsOutputWell}
use Rattle.lb_program.specs.Replaying.{Answered, AnswersUpTo, ReadUpTo, Replays}
use Rattle.lb_program.specs.declared.faults.Stop.{Stop}
use Rattle.lb_program.specs.declared.faults.Stop.TheVariants.{BadLine, Refused, NotUtf8, Input, Output, CountFull, NoMemory}
use Rattle.lb_program.proofs.Outputs.{writes_both, writes_more, writes_none}

-- a run and one more step are a run
pub run_more : (old : Plain) (events : List Event) (answers : List Answer) (mid : Plain) (event : Event) (answer : Answer) (new : Plain) → IsRun old events answers mid → Answers mid event answer new → IsRun old (events ++ event ∷ []) (answers ++ answer ∷ []) new
run_more old [] [] mid event answer new run step =
    let P : Plain → Type 0 = λ p. Answers p event answer new in
    (new, subst P run step, refl)
run_more old [] (a ∷ answers) mid event answer new run step = absurd run
run_more old (e ∷ events) [] mid event answer new run step = absurd run
run_more old (e ∷ events) (a ∷ answers) mid event answer new run step = (run.0, run.1, run_more run.0 events answers mid event answer new run.2 step)

-- at first
pub answered_none : (a : Option (List ℕ)) (held : List ℕ) (end : Plain) → held ≡ [] → end ≡ empty → Answered a a held end []
answered_none a held end none start = record { answers = []; run = start; written = subst (Writes a a []) (sym none) (writes_none a []) }

-- some of what was held is written out
pub answered_out : (a b c : Option (List ℕ)) (held rest : List ℕ) (end : Plain) (events : List Event) → Answered a b held end events → Writes b c held rest → Answered a c rest end events
answered_out a b c held rest end events old out = record { answers = old.answers; run = old.run; written = writes_both a b c (lines_of old.answers) held rest old.written out }

-- no more is held
pub answered_same : (a b : Option (List ℕ)) (held new_held : List ℕ) (end : Plain) (events : List Event) → Answered a b held end events → new_held ≡ held → Answered a b new_held end events
answered_same a b held new_held end events old same =
    let P : List ℕ → Type 0 = λ zs. Answered a b zs end events in
    subst P (sym same) old

-- the lines of the answers and of one more
last_line : (answers : List Answer) (answer : Answer) → lines_of (answers ++ answer ∷ []) ≡ lines_of answers ++ (line_of answer ++ codes "\n")
last_line answers answer = sym (flat_map_more (λ (a : Answer). line_of a ++ codes "\n") [] answers answer)

-- one more answer is held
pub answered_more : (a b : Option (List ℕ)) (held new_held : List ℕ) (end new : Plain) (events : List Event) (event : Event) (answer : Answer) → Answered a b held end events → Answers end event answer new → new_held ≡ held ++ (line_of answer ++ codes "\n") → Answered a b new_held new (events ++ event ∷ [])
answered_more a b held new_held end new events event answer old step more =
    let line = line_of answer ++ codes "\n" in
    let P : List ℕ → Type 0 = λ zs. Writes a b zs new_held in
    let Q : List ℕ → Type 0 = λ zs. Writes a b (lines_of old.answers ++ line) zs in
    record { answers = old.answers ++ answer ∷ []; run = run_more empty events old.answers end event answer new old.run step; written = subst P (sym (last_line old.answers answer)) (subst Q (sym more) (writes_more a b (lines_of old.answers) held line old.written)) }

-- what was held is written out, or some of it
pub replays_out : CachedAnswersAreKeptReplies → (input a b c : Option (List ℕ)) (held rest : List ℕ) (was result : End) → (all : AnswersUpTo input a b held was) → Writes b c held rest → ReadUpTo input all.events result → (IsOutputWell result → rest ≡ []) → Replays input a c result
replays_out law input a b c held rest was result all out read whole =
    let old = all.answered in
    record {
      events = all.events;
      answers = old.answers;
      end = all.end;
      run = old.run;
      provenance = law empty all.end all.events old.answers refl refl old.run;
      unwritten = rest;
      written = writes_both a b c (lines_of old.answers) held rest old.written out;
      whole = whole;
      read = read;
    }

-- nothing was answered
pub replays_none : CachedAnswersAreKeptReplies → (input a : Option (List ℕ)) (result : End) → ReadUpTo input [] result → Replays input a a result
replays_none law input a result read =
    record { events = []; answers = []; end = empty; run = refl; provenance = law empty empty [] [] refl refl refl; unwritten = []; written = writes_none a []; whole = λ well. refl; read = read }

-- the output failed
pub output_fails : (stop : Stop) → IsOutput stop → IsFailure stop × (IsOutputWell (Err stop) → ⊥)
output_fails (BadLine number fault) failed = absurd failed
output_fails (Refused number fault) failed = absurd failed
output_fails (NotUtf8 number) failed = absurd failed
output_fails (Input error) failed = absurd failed
output_fails (Output error) failed = (tt, λ well. well)
output_fails (CountFull full) failed = absurd failed
output_fails NoMemory failed = absurd failed
