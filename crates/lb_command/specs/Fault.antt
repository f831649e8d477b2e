-- The numbers and the names of faults.
use Rattle.std.specs.Prelude.{ℕ, List, codes}
use Rattle.lb_command.specs.declared.fault.FaultKind.{FaultKind}
use Rattle.lb_command.specs.declared.fault.FaultKind.TheVariants as kinds

abbrev pub fault_number : FaultKind → ℕ
fault_number kinds.UnknownWord = 1
fault_number kinds.Missing = 2
fault_number kinds.Extra = 3
fault_number kinds.BadNumber = 4
fault_number kinds.BadName = 5
fault_number kinds.BadAddress = 6
fault_number kinds.BadHex = 7
fault_number kinds.BadTerm = 8
fault_number kinds.NoMemory = 9

abbrev pub fault_name : FaultKind → List ℕ
fault_name kinds.UnknownWord = codes "UnknownWord"
fault_name kinds.Missing = codes "Missing"
fault_name kinds.Extra = codes "Extra"
fault_name kinds.BadNumber = codes "BadNumber"
fault_name kinds.BadName = codes "BadName"
fault_name kinds.BadAddress = codes "BadAddress"
fault_name kinds.BadHex = codes "BadHex"
fault_name kinds.BadTerm = codes "BadTerm"
fault_name kinds.NoMemory = codes "NoMemory"
