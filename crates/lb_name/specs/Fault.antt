-- The numbers of a name's faults.
use Rattle.std.specs.Prelude.{ℕ}
use Rattle.lb_name.specs.declared.fault.NameFault.{NameFault}
use Rattle.lb_name.specs.declared.fault.NameFault.TheVariants.{EmptyLabel, LongLabel, LongName, BadByte, Pointer, Cut}

-- the number that texts give a fault
abbrev pub fault_number : NameFault → ℕ
fault_number EmptyLabel = 1
fault_number LongLabel = 2
fault_number LongName = 3
fault_number BadByte = 4
fault_number Pointer = 5
fault_number Cut = 6
