-- What ends serving other than by stop: its status and its text.
use Rattle.std.specs.Prelude.{ℕ, List, codes}
use Rattle.std.specs.IoError.{error_kind}
use Rattle.lb_doh_server.specs.declared.cut.FrontFault.{FrontFault}
use Rattle.lb_doh_server.specs.declared.cut.FrontFault.TheVariants as fronts
use Rattle.lb_loops.specs.declared.fault.LoopFault.{LoopFault}
use Rattle.lb_loops.specs.declared.fault.LoopFault.TheVariants as loops
use Rattle.lb_program.specs.Faults.{device_text, failure_text, memory_text}
use Rattle.lb_program_serve.specs.declared.fault.Fault.{Fault}
use Rattle.lb_program_serve.specs.declared.fault.Fault.TheVariants.{Switch, NoThreads, NoListener, Bind, System, Loops, Front, Console, Output, Closing, NoMemory}
use Rattle.lb_sockets.specs.declared.listening.BindFault.{BindFault}
use Rattle.lb_sockets.specs.declared.listening.BindFault.TheVariants as binding

-- the exit status
abbrev pub fault_status : Fault → ℕ
fault_status (Closing fault) = 4
fault_status _ = 3

-- the text where an address was not bound
abbrev pub bind_text : BindFault → List ℕ
bind_text binding.NoMemory = memory_text
bind_text _ = device_text

-- the text where a loop ended by itself
abbrev pub loop_text : LoopFault → List ℕ
loop_text loops.NoMemory = memory_text
loop_text _ = device_text

-- the text where the front of DNS on HTTP ended by itself
abbrev pub front_text : FrontFault → List ℕ
front_text fronts.NoMemory = memory_text
front_text (fronts.System error) = failure_text (error_kind error)
front_text fronts.Held = device_text

-- the text of the status
abbrev pub fault_text : Fault → List ℕ
fault_text (Switch switch) = device_text
fault_text (NoThreads count) = device_text
fault_text NoListener = device_text
fault_text (Bind line fault) = bind_text fault
fault_text (System error) = failure_text (error_kind error)
fault_text (Loops fault) = loop_text fault
fault_text (Front fault) = front_text fault
fault_text Console = device_text
fault_text (Output error) = failure_text (error_kind error)
fault_text (Closing fault) = codes "audit differs\n"
fault_text NoMemory = memory_text
