-- Why the rounds of a turn ended.
use Rattle.std.specs.Prelude.{Bool, true, false, Option, Some, None}
use Rattle.lb_loops_io.specs.declared.report.DeviceFault.{DeviceFault}
use Rattle.lb_loops_io.specs.declared.report.DeviceFault.TheVariants as devices
use Rattle.lb_loops_tcp.specs.declared.turn.End.{End}
use Rattle.lb_loops_tcp.specs.declared.turn.End.TheVariants as ends

-- whether they ended for lack of a moment
abbrev pub is_blind : End → Bool
is_blind ends.Blind = true
is_blind _ = false

abbrev pub is_blinded : Option End → Bool
is_blinded None = false
is_blinded (Some end) = is_blind end

-- the first device fault, where the sockets had this one, and what is outside failed at the end or did not
abbrev pub first_device : Bool → Option DeviceFault → Option DeviceFault
first_device blind (Some device) = Some device
first_device true None = Some devices.Outside
first_device false None = None
