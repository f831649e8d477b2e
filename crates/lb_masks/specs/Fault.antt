-- The numbers of a mask's faults.
use Rattle.std.specs.Prelude.{ℕ}
use Rattle.lb_masks.specs.declared.fault.MaskFault.{MaskFault}
use Rattle.lb_masks.specs.declared.fault.MaskFault.TheVariants.{BadAddress, BadLength}

-- the number that texts give a fault
abbrev pub fault_number : MaskFault → ℕ
fault_number BadAddress = 1
fault_number BadLength = 2
