-- Reading the told lines of an input, turn by turn.
use Rattle.std.proofs.Common.{◌≡◌, ℕ, ◌+◌, List, [], ◌∷◌, ◌++◌, map, Option, None, Some, IfSome, Ok, Err, refl, sym, ◌∙◌, ap, append_assoc}
use Rattle.std.proofs.lemmas.List.{map_push}
use Rattle.std.specs.Io.KnownBytes.{Keeps}
use Rattle.lb_step.specs.declared.event.Event.{Event}
use Rattle.lb_program.specs.Line.{IsFresh, IsSound}
use Rattle.lb_program.specs.Faults.{End, IsFailure}
use Rattle.lb_program.specs.Input.{Reading, StopsAt, Turns, left_of, readings}
use Rattle.lb_program.specs.Replaying.{ReadThen, ReadUpTo}
use Rattle.lb_program.specs.declared.faults.Stop.{Stop}
use Rattle.lb_program.specs.declared.faults.Stop.TheVariants.{BadLine, Refused, NotUtf8, Input, Output, CountFull, NoMemory}
use Rattle.lb_program.specs.declared.line.Line.{Line}
use Rattle.lb_program.specs.declared.input.Turn.TheVariants as turns
use Rattle.lb_program.proofs.ToldLines.{told_all}
use Rattle.lb_program.proofs.Turns.{fresh_sound, fresh_left}

-- a failure may come before any readings
stops_anywhere : (stop : Stop) (left : List (ℕ × Reading)) → IsFailure stop → StopsAt stop left
stops_anywhere (BadLine number fault) left failed = absurd failed
stops_anywhere (Refused number fault) left failed = absurd failed
stops_anywhere (NotUtf8 number) left failed = absurd failed
stops_anywhere (Input error) left failed = tt
stops_anywhere (Output error) left failed = tt
stops_anywhere (CountFull full) left failed = tt
stops_anywhere NoMemory left failed = tt

-- where the bytes of an input are known, its told lines were read as these events up to the line in hand
abbrev pub ReadSoFar : Option (List ℕ) → Option (List ℕ) → ℕ → Line → List Event → Type 0
ReadSoFar input left ended line events = IfSome input (λ bytes. (rest : List ℕ) × (left ≡ Some rest) × IsSound line × ReadThen (readings bytes) events (left_of ended line rest))

-- at first
pub none_read : (input left : Option (List ℕ)) (ended : ℕ) (line : Line) → Keeps input left → ended ≡ 0 → IsFresh line → ReadSoFar input left ended line []
none_read None left ended line keeps start fresh = tt
none_read (Some bytes) None ended line keeps start fresh = absurd keeps
none_read (Some bytes) (Some rest) ended line keeps start fresh =
    let all : readings bytes ≡ left_of ended line rest =
    ap readings (sym keeps) ∙ sym (told_all rest) ∙ sym (ap (λ (n : ℕ). left_of n line rest) start ∙ fresh_left 0 line rest fresh) in
    (rest, refl, fresh_sound line fresh, ([], all, refl))

-- a turn that is told of what is known
turned : (P : List ℕ → Type 0) (left : Option (List ℕ)) (rest : List ℕ) → left ≡ Some rest → IfSome left P → P rest
turned P left rest is known = rw is at known

-- after a turn that gives nothing
pub nothing_read : (input left new_left : Option (List ℕ)) (ended new_ended : ℕ) (line new : Line) (events : List Event) → ReadSoFar input left ended line events → (IsSound line → IfSome left (λ bytes. Turns ended line bytes (Ok turns.Nothing) new_ended new new_left)) → ReadSoFar input new_left new_ended new events
nothing_read None left new_left ended new_ended line new events so turn = tt
nothing_read (Some bytes) left new_left ended new_ended line new events so turn =
    let gave = turned (λ rest. Turns ended line rest (Ok turns.Nothing) new_ended new new_left) left so.0 so.1 (turn so.2) in
    let read = so.3 in
    (gave.0, gave.1, gave.2, (read.0, read.1 ∙ ap (λ (more : List (ℕ × Reading)). read.0 ++ more) gave.3, read.2))

-- one more line was read
more_read : (all front : List (ℕ × Reading)) (number : ℕ) (event : Event) (left : List (ℕ × Reading)) (events : List Event) → all ≡ front ++ ((number, Some (Ok event)) ∷ left) → map (λ r. r.1) front ≡ map (λ e. Some (Ok e)) events → ReadThen all (events ++ event ∷ []) left
more_read all front number event left events is read =
    let reading : ℕ × Reading → Reading = λ r. r.1 in
    let of_event : Event → Reading = λ e. Some (Ok e) in
    (front ++ (number, Some (Ok event)) ∷ [], is ∙ sym (append_assoc front ((number, Some (Ok event)) ∷ []) left), map_push reading front (number, Some (Ok event)) ∙ ap (λ (rs : List Reading). rs ++ Some (Ok event) ∷ []) read ∙ sym (map_push of_event events event))

-- after a turn that gives an event
pub event_read : (input left new_left : Option (List ℕ)) (ended new_ended : ℕ) (line new : Line) (events : List Event) (event : Event) → ReadSoFar input left ended line events → (IsSound line → IfSome left (λ bytes. Turns ended line bytes (Ok (turns.Event event)) new_ended new new_left)) → ReadSoFar input new_left new_ended new (events ++ event ∷ [])
event_read None left new_left ended new_ended line new events event so turn = tt
event_read (Some bytes) left new_left ended new_ended line new events event so turn =
    let gave = turned (λ rest. Turns ended line rest (Ok (turns.Event event)) new_ended new new_left) left so.0 so.1 (turn so.2) in
    let read = so.3 in
    (gave.0, gave.1, gave.2, more_read (readings bytes) read.0 (ended + 1) event (left_of new_ended new gave.0) events (read.1 ∙ ap (λ (more : List (ℕ × Reading)). read.0 ++ more) gave.3) read.2)

-- at the end
pub all_read : (input left new_left : Option (List ℕ)) (ended new_ended : ℕ) (line new : Line) (events : List Event) → ReadSoFar input left ended line events → (IsSound line → IfSome left (λ bytes. Turns ended line bytes (Ok turns.End) new_ended new new_left)) → ReadUpTo input events (Ok (tt {0}))
all_read None left new_left ended new_ended line new events so turn = tt
all_read (Some bytes) left new_left ended new_ended line new events so turn =
    let gave = turned (λ rest. Turns ended line rest (Ok turns.End) new_ended new new_left) left so.0 so.1 (turn so.2) in
    (left_of ended line so.0, so.3, gave)

-- where it stops
pub stops_read : (input left new_left : Option (List ℕ)) (ended new_ended : ℕ) (line new : Line) (events : List Event) (stop : Stop) → ReadSoFar input left ended line events → (IsSound line → IfSome left (λ bytes. Turns ended line bytes (Err stop) new_ended new new_left)) → ReadUpTo input events (Err stop)
stops_read None left new_left ended new_ended line new events stop so turn = tt
stops_read (Some bytes) left new_left ended new_ended line new events stop so turn =
    let gave = turned (λ rest. Turns ended line rest (Err stop) new_ended new new_left) left so.0 so.1 (turn so.2) in
    (left_of ended line so.0, so.3, gave)

-- a failure stands where a replay ends at any place
pub fails_read : (input left : Option (List ℕ)) (ended : ℕ) (line : Line) (events : List Event) (stop : Stop) → ReadSoFar input left ended line events → IsFailure stop → ReadUpTo input events (Err stop)
fails_read None left ended line events stop so failed = tt
fails_read (Some bytes) left ended line events stop so failed = (left_of ended line so.0, so.3, stops_anywhere stop (left_of ended line so.0) failed)

-- the same where nothing was read yet
pub fails_first : (input : Option (List ℕ)) (stop : Stop) → IsFailure stop → ReadUpTo input [] (Err stop)
fails_first None stop failed = tt
fails_first (Some bytes) stop failed = (readings bytes, ([], refl, refl), stops_anywhere stop (readings bytes) failed)

-- the same where the replay had ended in another way
pub fails_later : (input : Option (List ℕ)) (events : List Event) (result : End) (stop : Stop) → ReadUpTo input events result → IsFailure stop → ReadUpTo input events (Err stop)
fails_later None events result stop read failed = tt
fails_later (Some bytes) events result stop read failed = (read.0, read.1, stops_anywhere stop read.0 failed)
