-- Why loops end by themselves.
use Rattle.std.specs.Prelude.{ℕ, Bool, true, false, Option, Some, None, Result, Ok, Err}
use Rattle.lb_loops_io.specs.declared.report.DeviceFault.{DeviceFault}
use Rattle.lb_loops_io.specs.declared.report.DeviceFault.TheVariants as devices
use Rattle.lb_loops.specs.declared.fault.LoopFault.{LoopFault}
use Rattle.lb_loops.specs.declared.fault.LoopFault.TheVariants as faults

abbrev pub number_of : LoopFault → ℕ
number_of faults.Device = 1
number_of faults.NoMemory = 2
number_of faults.Held = 3

-- whether a loop goes on after a turn: not where a gate held an event, nor where what is outside failed; a socket that fails ends none
abbrev pub end_behind : Bool → Option DeviceFault → Result (Unit {0}) LoopFault
end_behind true device = Err faults.Held
end_behind false (Some devices.Outside) = Err faults.Device
end_behind false (Some devices.Sockets) = Ok tt
end_behind false None = Ok tt
