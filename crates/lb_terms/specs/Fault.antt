-- The numbers of a term's faults.
use Rattle.std.specs.Prelude.{ℕ}
use Rattle.lb_terms.specs.declared.fault.TermFault.{TermFault}
use Rattle.lb_terms.specs.declared.fault.TermFault.TheVariants.{TooDeep, TooLarge, Empty, BadRate}

-- the number that texts give a fault
abbrev pub fault_number : TermFault → ℕ
fault_number TooDeep = 1
fault_number TooLarge = 2
fault_number Empty = 3
fault_number BadRate = 4
