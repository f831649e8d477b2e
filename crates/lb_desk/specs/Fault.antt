-- The numbers of the faults of a desk.
use Rattle.std.specs.Prelude.{ℕ}
use Rattle.lb_desk.specs.declared.fault.CloseFault.{CloseFault}
use Rattle.lb_desk.specs.declared.fault.CloseFault.TheVariants as closing
use Rattle.lb_desk.specs.declared.fault.DeskFault.{DeskFault}
use Rattle.lb_desk.specs.declared.fault.DeskFault.TheVariants as calling

-- the number that texts give the fault of a call
abbrev pub desk_fault_number : DeskFault → ℕ
desk_fault_number calling.CountFull = 1
desk_fault_number calling.NoMemory = 2

-- the number that texts give the fault of a closing
abbrev pub close_fault_number : CloseFault → ℕ
close_fault_number closing.MissingSeat = 1
close_fault_number closing.Differs = 2
