-- What an answer tells of its event.
use Rattle.std.specs.Prelude.{◌≡◌, Bool, true, false, ◌==◌, if◌then◌else◌}
use Rattle.lb_wire.specs.declared.ids.ServerId.{ServerId}
use Rattle.lb_wire.specs.declared.kept.Kept.{Kept}
use Rattle.lb_wire.specs.declared.kept.Kept.TheVariants as kept
use Rattle.lb_chain.specs.declared.fault.ChainFault.TheVariants as chain_faults
use Rattle.lb_servers.specs.declared.fault.ParkFault.TheVariants as park_faults
use Rattle.lb_health.specs.declared.health.Changed.{Changed}
use Rattle.lb_health.specs.declared.health.Changed.TheVariants.{No, Up, Down}
use Rattle.lb_step.specs.declared.answer.Answer.{Answer}
use Rattle.lb_step.specs.declared.answer.Answer.TheVariants.{Deliver, Edited, Refused, NoMemory}
use Rattle.lb_step.specs.declared.answer.EditFault.{EditFault}
use Rattle.lb_step.specs.declared.answer.EditFault.TheVariants.{Rules, Servers}
use Rattle.lb_step.specs.declared.answer.Note.TheVariants.{ServerUp, ServerDown}

-- a new state and an answer are what is done
abbrev pub Leaves : {State : Type 0} → State → Answer → State × Answer → Type 0
Leaves new answer done = (new, answer) ≡ done

-- whether a command was refused for lack of memory
abbrev pub lacks_memory : EditFault → Bool
lacks_memory (Rules chain_faults.NoMemory) = true
lacks_memory (Servers park_faults.NoMemory) = true
lacks_memory _ = false

-- whether a reply was not kept for lack of memory
abbrev pub is_unkept : Kept → Bool
is_unkept kept.NoMemory = true
is_unkept _ = false

-- whether an answer shows that memory was lacking: the mark of its event
abbrev pub marked : Answer → Bool
marked (NoMemory bytes) = true
marked (Deliver origin bytes kept) = is_unkept kept
marked (Refused fault) = lacks_memory fault
marked _ = false

-- whether an event was refused, or met lack of memory
abbrev pub is_refused : Answer → Bool
is_refused (Refused fault) = true
is_refused (NoMemory bytes) = true
is_refused _ = false

-- the change of a server that an answer tells
abbrev pub change_told : ServerId → Answer → Changed
change_told server (Edited (ServerUp id)) = if id.0 == server.0 then Up else No
change_told server (Edited (ServerDown id)) = if id.0 == server.0 then Down else No
change_told server _ = No
