-- The numbers of the faults of the table of servers and pools.
use Rattle.std.specs.Prelude.{ℕ}
use Rattle.lb_servers.specs.declared.fault.ParkFault.{ParkFault}
use Rattle.lb_servers.specs.declared.fault.ParkFault.TheVariants.{NoSuchServer, NoSuchPool, NameTaken, TooMany, NoMemory, NoMoreIds}

-- the number that texts give a fault
abbrev pub fault_number : ParkFault → ℕ
fault_number NoSuchServer = 1
fault_number NoSuchPool = 2
fault_number NameTaken = 3
fault_number TooMany = 4
fault_number NoMemory = 5
fault_number NoMoreIds = 6
