-- A request has one outcome.
use Rattle.std.specs.Prelude.{◌≡◌, ℕ, List, Vec, Result, Ok, Err}
use Rattle.std.specs.declared.alloc.Global.{Global}
use Rattle.lb_doh_message.specs.Request.{Reads}
use Rattle.lb_doh_message.specs.declared.request.DohBody.{DohBody}
use Rattle.lb_doh_message.specs.declared.fault.DohFault.{DohFault}
use Rattle.lb_doh_message.specs.declared.fault.DohFault.TheVariants.{NoMemory}

-- two outcomes are the same: the same message, the same fault, or a message for which memory was lacking once
abbrev pub AreSame : Result (Vec ℕ Global) DohFault → Result (Vec ℕ Global) DohFault → Type 0
AreSame (Ok message) (Ok other) = message.items ≡ other.items
AreSame (Ok message) (Err fault) = fault ≡ NoMemory
AreSame (Err fault) (Ok message) = fault ≡ NoMemory
AreSame (Err fault) (Err other) = fault ≡ other

-- whatever a request is read as, once and once more, is the same but for lack of memory
abbrev pub OneOutcome : Type 0
OneOutcome =
    (method path query media : List ℕ) (body : DohBody) (first second : Result (Vec ℕ Global) DohFault)
    → Reads method path query media body first → Reads method path query media body second → AreSame first second
