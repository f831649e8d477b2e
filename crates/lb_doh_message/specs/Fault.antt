-- The statuses of the faults (RFC 9110 section 15).
use Rattle.std.specs.Prelude.{ℕ}
use Rattle.lb_doh_message.specs.declared.fault.DohFault.{DohFault}
use Rattle.lb_doh_message.specs.declared.fault.DohFault.TheVariants.{NotFound, BadMethod, BadMedia, TooLong, BadRequest, NoMemory}

-- the status of a fault
abbrev pub fault_status : DohFault → ℕ
fault_status NotFound = 404
fault_status BadMethod = 405
fault_status BadMedia = 415
fault_status TooLong = 413
fault_status BadRequest = 400
fault_status NoMemory = 503
