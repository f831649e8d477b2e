-- What `lb serve` does.
use Rattle.std.specs.Prelude.{◌≡◌, ◌⊎◌, ℕ, min, List, [], ◌++◌, length, codes, true, Option, IfSome, Result, Ok, Err}
use Rattle.std.specs.Fmt.{decimal}
use Rattle.std.specs.Io.KnownBytes.{Appends, Keeps}
use Rattle.std.specs.declared.io.Error.{Error}
use Rattle.lb_step.specs.Plain.{Plain, empty}
use Rattle.lb_step.specs.Snapshot.{Snapshot, snapshot_of}
use Rattle.lb_desk.specs.Book.{Keeps as KeepsTrue}
use Rattle.lb_desk.specs.declared.entry.LogEntry.{LogEntry}
use Rattle.lb_program.specs.Faults.{Tells, stop_status, stop_text}
use Rattle.lb_program.specs.Output.{WritesFront}
use Rattle.lb_program.specs.Setup.{Applies, Stated, StopsBy, nothing_stated, told_lines}
use Rattle.lb_program.specs.declared.faults.Stop.{Stop}
use Rattle.lb_program_serve.specs.Fault.{fault_status, fault_text}
use Rattle.lb_program_serve.specs.Sentences.{are_sentences}
use Rattle.lb_program_serve.specs.declared.fault.Fault.{Fault}
use Rattle.lb_program_serve.specs.declared.fault.Fault.TheVariants.{Output}

-- the first line on the output: clients are answered from now on
abbrev pub ready_text : List ℕ
ready_text = codes "ready\n"

-- the last one: how many calls the desk had
abbrev pub closed_text : ℕ → List ℕ
closed_text count = codes "closed " ++ decimal count ++ codes "\n"

-- a desk that was made at this snapshot, whose log takes so many calls, was closed after so many: its log is a run of the balancer, and has
-- all calls up to its limit
pub record Closes (opening : Snapshot) (limit count : ℕ) : Type 0 where
  pub log : List LogEntry
  pub balancer : Plain
  pub true : ∥ KeepsTrue opening limit count log balancer ∥₁
  pub filled : length log ≡ min count limit

-- what was written when serving ended so: at `stop` that it was ready, and how many calls there were; else no more than a front of such a text,
-- and only where the output failed another one than the first line
abbrev pub Served : Snapshot → ℕ → Option (List ℕ) → Option (List ℕ) → Result (Unit {0}) Fault → Type 0
Served opening limit old new (Ok done) = (count : ℕ) × Closes opening limit count × Appends old new (ready_text ++ closed_text count)
Served opening limit old new (Err (Output error)) = (count : ℕ) × WritesFront old new (ready_text ++ closed_text count)
Served opening limit old new (Err fault) = Keeps old new ⊎ Appends old new ready_text

-- what was written when serving ended by this fault, at whatever desk
abbrev pub Fails : Option (List ℕ) → Option (List ℕ) → Fault → Type 0
Fails old new fault = (opening : Snapshot) (limit : ℕ) → Served opening limit old new (Err fault)

-- the same of any desk that was closed with so many calls, of which nothing but `ready` was written before
abbrev pub ServedOnceClosed : ℕ → Option (List ℕ) → Option (List ℕ) → Result (Unit {0}) Fault → Type 0
ServedOnceClosed count mid new result =
    (old : Option (List ℕ)) (opening : Snapshot) (limit : ℕ) → Closes opening limit count → Appends old mid ready_text → Served opening limit old new result

-- what writing to the output gave, as the end of serving
abbrev pub output_end : Result (Unit {0}) Error → Result (Unit {0}) Fault
output_end (Ok done) = Ok done
output_end (Err error) = Err (Output error)

-- how serving ends, once the setup file was applied
abbrev pub ServeEnd : Type 0
ServeEnd = Result (Unit {0}) Fault

abbrev pub serve_status : ServeEnd → ℕ
serve_status (Ok done) = 0
serve_status (Err fault) = fault_status fault

-- the text of the status
abbrev pub serve_text : ServeEnd → List ℕ
serve_text (Ok done) = []
serve_text (Err fault) = fault_text fault

-- sentences for an operator were told, or a front of them
abbrev pub Says : Option (List ℕ) → Option (List ℕ) → Type 0
Says old new = (text : List ℕ) × (are_sentences text ≡ true) × WritesFront old new text

-- what is told: sentences before the program serves, sentences of what ended it, and the text of its status as the last line
pub record TellsBehind (old new : Option (List ℕ)) (text : List ℕ) (told : Result (Unit {0}) Error) : Type 0 where
  pub first : Option (List ℕ)
  pub then : Option (List ℕ)
  pub warned : Says old first
  pub explained : Says first then
  pub tells : Tells then new text told

-- the setup file's lines were applied up to one that is at fault, as a check applies them, and nothing was bound
pub record StopsServe (text : List ℕ) (old new told_old told_new : Option (List ℕ)) (status : ℕ) (told : Result (Unit {0}) Error) : Type 0 where
  pub stop : Stop
  pub stops : StopsBy stop (Applies (told_lines text) nothing_stated empty)
  pub unwritten : Keeps old new
  pub status_is : status ≡ stop_status stop
  pub tells : Tells told_old told_new (stop_text stop) told

-- all its lines were applied to an empty balancer, which then served with what they state
pub record ServesBy (text : List ℕ) (old new told_old told_new : Option (List ℕ)) (status : ℕ) (told : Result (Unit {0}) Error) : Type 0 where
  pub stated : Stated
  pub balancer : Plain
  pub applied : Applies (told_lines text) nothing_stated empty (Ok (stated, balancer))
  pub end : ServeEnd
  pub served : Served (snapshot_of balancer) stated.log old new end
  pub status_is : status ≡ serve_status end
  pub tells : TellsBehind told_old told_new (serve_text end) told

-- serving by a setup file's text ended with this status
abbrev pub EndsServe : List ℕ → Option (List ℕ) → Option (List ℕ) → Option (List ℕ) → Option (List ℕ) → ℕ → Result (Unit {0}) Error → Type 0
EndsServe text old new told_old told_new status told =
    StopsServe text old new told_old told_new status told ⊎ ServesBy text old new told_old told_new status told
