-- What the console says to an operator's lines.
use Rattle.std.specs.Prelude.{◌≡◌, ◌⊎◌, ℕ, ◌+◌, ◌++◌, List, [], ◌∷◌, codes, string_bytes, None, Some, Result, Ok, Err, IsErr}
use Rattle.std.specs.Fmt.{decimal}
use Rattle.lb_command.specs.Answers.{line_of}
use Rattle.lb_command.specs.Commands.{command_of}
use Rattle.lb_command.specs.Fault.{fault_name, fault_number}
use Rattle.lb_command.specs.declared.fault.CommandFault.{CommandFault}
use Rattle.lb_command.specs.declared.fault.FaultKind.TheVariants as kinds
use Rattle.lb_step.specs.declared.answer.Answer.{Answer}
use Rattle.lb_step.specs.declared.command.Command.{Command}
use Rattle.lb_step.specs.declared.event.Event.{Event}
use Rattle.lb_step.specs.declared.event.Event.TheVariants.{Edit}
use Rattle.lb_desk.specs.declared.fault.DeskFault.{DeskFault}
use Rattle.lb_desk.specs.declared.fault.DeskFault.TheVariants as calling
use Rattle.lb_loops_io.specs.Counts.{Grows}
use Rattle.lb_program.specs.declared.servers.ServerPlace.{ServerPlace}
use Rattle.lb_loops_io.specs.Roster.{Rostered}
use Rattle.lb_words.specs.Word.{console_word}
use Rattle.lb_words.specs.declared.word.Word.{Word}
use Rattle.lb_words.specs.declared.word.Word.TheVariants as words
use Rattle.lb_program_serve.specs.News.{IsNewsOf, Puts}
use Rattle.lb_program_serve.specs.declared.news.News.{News}
use Rattle.lb_program_serve.specs.declared.operator.Said.{Said}
use Rattle.lb_program_serve.specs.declared.operator.Said.TheVariants.{Line, Lines, Quit, Stop}

-- the line that tells the fault of a line
abbrev pub fault_text : CommandFault → List ℕ
fault_text fault = codes "fault " ++ decimal fault.place ++ codes " " ++ decimal (fault_number fault.kind) ++ codes " " ++ fault_name fault.kind

-- the line that tells that the desk took no event
abbrev pub desk_text : DeskFault → List ℕ
desk_text calling.CountFull = codes "desk 1 CountFull"
desk_text calling.NoMemory = codes "desk 2 NoMemory"

-- what was said is this line
abbrev pub IsLine : Said → List ℕ → Type 0
IsLine (Line text) line = string_bytes text ≡ line
IsLine _ line = ⊥

-- the number of a handler's answered calls, and its pairs
pub record Told : Type 0 where
  pub answered : ℕ
  pub pairs : List (Event × Answer)

-- what a handler has that answered so many calls and has these pairs
abbrev pub told : ℕ → List (Event × Answer) → Told
told answered pairs = record { answered = answered; pairs = pairs }

-- a line is told a fault for lack of memory, and nothing was done
pub record Lacks (said : Said) (old new : Told) : Type 0 where
  pub fault : CommandFault
  pub kind : fault.kind ≡ kinds.NoMemory
  pub is : IsLine said (fault_text fault)
  pub same : new ≡ old

-- the desk took no event
pub record Refuses (said : Said) (old new : Told) : Type 0 where
  pub fault : DeskFault
  pub is : IsLine said (desk_text fault)
  pub same : new ≡ old

-- a command was an edit, which was answered so by a step of the balancer; the loops learn what is so right after it
pub record Answers (command : Command) (said : Said) (old new : Told) : Type 0 where
  pub now : ℕ
  pub answer : Answer
  pub news : News
  pub is : IsLine said (line_of answer)
  pub counted : new.answered ≡ old.answered + 1
  pub pair : Grows old.pairs new.pairs ((Edit now command, answer) ∷ [])
  pub learned : IsNewsOf (Edit now command) answer news

-- a command was an edit, which was carried out, and of which the loops learn too; nothing is said
pub record Carries (command : Command) (old new : Told) : Type 0 where
  pub now : ℕ
  pub answer : Answer
  pub news : News
  pub counted : new.answered ≡ old.answered + 1
  pub pair : Grows old.pairs new.pairs ((Edit now command, answer) ∷ [])
  pub learned : IsNewsOf (Edit now command) answer news

-- what came of a line with this command
abbrev pub Took : Command → Said → Told → Told → Type 0
Took command said old new = Answers command said old new ⊎ (Refuses said old new ⊎ Lacks said old new)

-- what is said to a line that is no command: it is answered as a word of the console, if it begins with one, or else by its fault;
-- or it is told a lack of memory
abbrev pub IsHeard : List ℕ → CommandFault → Said → Type 0
IsHeard line fault (Line text) =
    ((console_word line ≡ None) × IsLine (Line text) (fault_text fault)) ⊎ ((own : CommandFault) × (own.kind ≡ kinds.NoMemory) × IsLine (Line text) (fault_text own))
IsHeard line fault (Lines text) = (fault.kind ≡ kinds.NoMemory → ⊥) × (word : Word) × (console_word line ≡ Some word)
IsHeard line fault Quit = (fault.kind ≡ kinds.NoMemory → ⊥) × (console_word line ≡ Some words.Quit)
IsHeard line fault Stop = ⊥

-- what came of a line by what it is read as
abbrev pub BySaid : List ℕ → Result Command CommandFault → Said → Told → Told → Type 0
BySaid line (Ok command) said old new = Took command said old new ⊎ Lacks said old new
BySaid line (Err fault) said old new = ((console_word line ≡ None) × IsLine said (fault_text fault) × (new ≡ old)) ⊎ Lacks said old new

-- what came of a line: it ends serving, or is answered by what it is read as; a word of the console is no command, and nothing is
-- done for it
abbrev pub Says : List ℕ → Said → Told → Told → Type 0
Says line Stop old new = (line ≡ codes "stop") × (new ≡ old)
Says line (Lines text) old new = IsErr (command_of line) × ((word : Word) × (console_word line ≡ Some word)) × (new ≡ old)
Says line Quit old new = IsErr (command_of line) × (console_word line ≡ Some words.Quit) × (new ≡ old)
Says line (Line text) old new = BySaid line (command_of line) (Line text) old new

-- nothing was done, or a command was carried out
abbrev pub MayCarry : Command → Told → Told → Type 0
MayCarry command old new = (new ≡ old) ⊎ Carries command old new

-- what came of a line to which nothing is said, by what it is read as
abbrev pub LeavesBy : Result Command CommandFault → Told → Told → Type 0
LeavesBy (Ok command) old new = MayCarry command old new
LeavesBy (Err fault) old new = new ≡ old

abbrev pub Leaves : List ℕ → Told → Told → Type 0
Leaves line old new = LeavesBy (command_of line) old new

-- servers are put into a roster, one after the other
abbrev pub PutsAll : List ServerPlace → Rostered → Rostered → Type 0
PutsAll [] old new = new ≡ old
PutsAll (server ∷ servers) old new = (mid : Rostered) × Puts server old mid × PutsAll servers mid new

-- the roster of a list of servers: they are put into an empty one
abbrev pub IsRosterOf : List ServerPlace → Rostered → Type 0
IsRosterOf servers roster = PutsAll servers (record { version = 0; listed = [] }) roster
