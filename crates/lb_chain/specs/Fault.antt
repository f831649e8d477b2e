-- The numbers of a chain's faults.
use Rattle.std.specs.Prelude.{ℕ}
use Rattle.lb_chain.specs.declared.fault.ChainFault.{ChainFault}
use Rattle.lb_chain.specs.declared.fault.ChainFault.TheVariants.{NoSuchRule, BadPlace, TooManyRules, TooManyLimiters, NoMemory, NoMoreIds}

-- the number that texts give a fault
abbrev pub fault_number : ChainFault → ℕ
fault_number NoSuchRule = 1
fault_number BadPlace = 2
fault_number TooManyRules = 3
fault_number TooManyLimiters = 4
fault_number NoMemory = 5
fault_number NoMoreIds = 6
