-- What a request gets: by its head, by its body, and by what the desk says to its message.
use Rattle.std.specs.Prelude.{◌≡◌, ◌≤◌, ◌<◌, ◌⊎◌, ⊤, ℕ, List, length, Option, None, Some, Result, Ok, Err}
use Rattle.http.specs.declared.response.Response.{Response as Http}
use Rattle.http_body_util.specs.Collected.{collected_bytes}
use Rattle.http_body_util.specs.declared.collected.Collected.{Collected}
use Rattle.http_body_util.specs.declared.full.Full.{Full}
use Rattle.http_body_util.specs.declared.limited.LimitedError.{LimitedError}
use Rattle.http_body_util.specs.declared.limited.LimitedError.TheVariants as limits
use Rattle.lb_wire.specs.Octets.{max_message}
use Rattle.lb_wire.specs.declared.addr.Origin.{Origin}
use Rattle.lb_doh_message.specs.Fault.{fault_status}
use Rattle.lb_doh_message.specs.Response.{Carries, bare}
use Rattle.lb_doh_message.specs.declared.fault.DohFault.{DohFault}
use Rattle.lb_doh_message.specs.declared.fault.DohFault.TheVariants as faults
use Rattle.lb_doh_message.specs.declared.response.DohResponse.{DohResponse}
use Rattle.lb_doh.specs.Asking.{Asking, Asks}
use Rattle.lb_doh_message.specs.Request.{ReadsBody}
use Rattle.lb_doh_message.specs.declared.request.DohBody.TheVariants.{Whole}
use Rattle.lb_doh_server.specs.Response.{IsBuilt, IsUnbuilt}
use Rattle.lb_doh_server.specs.declared.answering.Asked.{Asked}
use Rattle.lb_doh_server.specs.declared.answering.Asked.TheVariants as asked
use Rattle.lb_doh_server.specs.declared.answering.Stage.{Stage}
use Rattle.lb_doh_server.specs.declared.answering.Stage.TheVariants as stages
use Rattle.lb_doh_server.specs.declared.cut.Cut.{Cut}
use Rattle.lb_doh_server.specs.declared.cut.Cut.TheVariants as cuts
use Rattle.lb_doh_server.specs.declared.heads.Client.{Client}
use Rattle.lb_doh_server.specs.declared.heads.First.{First}
use Rattle.lb_doh_server.specs.declared.heads.First.TheVariants as firsts

-- what a request ends with: its response, or the end of its connection
abbrev pub Outcome : Type 0
Outcome = Result (Http (Full (List ℕ))) Cut

-- it ends with this response, or that was not built
abbrev pub Responds : DohResponse → Outcome → Type 0
Responds response (Ok http) = IsBuilt response http
Responds response (Err cut) = IsUnbuilt cut

-- what the octets of a body are read as: those of a POST, which has 65,535 at most
abbrev pub ReadsOctets : List ℕ → Result (List ℕ) DohFault → Type 0
ReadsOctets octets read = (max_message < length octets → read ≡ Err faults.TooLong) × (length octets ≤ max_message → ReadsBody (Whole octets) read)

module _ {E : Type 0} where
  -- what comes of a body: what it is read as; where it did not come whole, the connection ends, as it may for lack of memory
  abbrev pub Comes : Result Collected (LimitedError E) → Result (Result (List ℕ) DohFault) Cut → Type 0
  Comes (Err limits.LengthLimit) read = read ≡ Ok (Err faults.TooLong)
  Comes (Err (limits.Body error)) read = read ≡ Err cuts.Body
  Comes (Ok collected) (Ok read) = ReadsOctets (collected_bytes collected) read
  Comes (Ok collected) (Err cut) = cut ≡ cuts.NoMemory

-- where a client's request with this number came from
abbrev pub origin_of : Client → ℕ → Origin
origin_of client number = record { front = client.place; slot = number; source = client.source; port = client.port }

-- what the front's part of the desk says to a message of this origin: what the desk does; 503 where it was given back, as nothing is asked then
abbrev pub Says : Origin → List ℕ → Option Asking → Option Asking → Option DohResponse → Type 0
Says origin message None new said = (new ≡ None) × (said ≡ Some (bare 503))
Says origin message (Some old) None said = ⊥
Says origin message (Some old) (Some new) said = Asks origin message old new said

-- how many queries found the outbox full, by the front's part of the desk
abbrev pub lost_in : Option Asking → ℕ
lost_in None = 0
lost_in (Some asking) = asking.lost

-- what was said to a client's message under this number: a response, or that the request waits
abbrev pub IsSaidUnder : Client → List ℕ → ℕ → Option DohResponse → Type 0
IsSaidUnder client message number said =
    (old : Option Asking) × (new : Option Asking) × Says (origin_of client number) message old new said

-- what a message gets at once: what the desk said under some number, or 503 where there is no desk
abbrev pub IsSaid : Client → List ℕ → DohResponse → Type 0
IsSaid client message response = (response ≡ bare 503) ⊎ ((number : ℕ) × IsSaidUnder client message number (Some response))

-- what is brought: the octets of an answer
abbrev pub IsBrought : DohResponse → Type 0
IsBrought response = (octets : List ℕ) × Carries octets response

-- what a message gets: what is said at once; or, where the request waits, what is brought
abbrev pub Gets : Client → List ℕ → DohResponse → Type 0
Gets client message response =
    IsSaid client message response ⊎ ((number : ℕ) × IsSaidUnder client message number None × IsBrought response)

-- its request did not come to be asked, or its response was not built
abbrev pub IsUnasked : Cut → Type 0
IsUnasked (cuts.Entering fault) = ⊤
IsUnasked cut = IsUnbuilt cut

-- no answer comes any more, or its response was not built
abbrev pub IsUnanswered : Cut → Type 0
IsUnanswered cuts.Unanswered = ⊤
IsUnanswered cut = IsUnbuilt cut

-- a request whose message is there is cut by this: by anything but its body
abbrev pub IsBehindBody : Cut → Type 0
IsBehindBody cuts.Body = ⊥
IsBehindBody cut = ⊤

module _ {R : Type 0} where
  -- what comes of asking: a response that was said; or the request waits, and the desk was asked under the number of its ticket
  abbrev pub IsAskedFor : Client → List ℕ → Asked R → Type 0
  IsAskedFor client message (asked.Response http) = (response : DohResponse) × IsSaid client message response × IsBuilt response http
  IsAskedFor client message (asked.Waits brought number) = IsSaidUnder client message number None

-- what a request ends with that waits for its answer
abbrev pub FromAnswer : Outcome → Type 0
FromAnswer (Ok http) = (response : DohResponse) × IsBrought response × IsBuilt response http
FromAnswer (Err cut) = IsUnanswered cut

-- what a request ends with that has this message
abbrev pub FromMessage : Client → List ℕ → Outcome → Type 0
FromMessage client message (Ok http) = (response : DohResponse) × Gets client message response × IsBuilt response http
FromMessage client message (Err cut) = IsBehindBody cut

-- what a request ends with whose body was read so
abbrev pub FromRead : Client → Result (Result (List ℕ) DohFault) Cut → Outcome → Type 0
FromRead client (Ok (Ok message)) outcome = FromMessage client message outcome
FromRead client (Ok (Err fault)) outcome = Responds (bare (fault_status fault)) outcome
FromRead client (Err cut) outcome = outcome ≡ Err cut

module _ {E : Type 0} where
  -- what a request ends with whose body this is
  abbrev pub FromBody : Client → Result Collected (LimitedError E) → Outcome → Type 0
  FromBody client body outcome = (read : Result (Result (List ℕ) DohFault) Cut) × Comes body read × FromRead client read outcome

module _ {F E : Type 0} (gives : F → Result Collected (LimitedError E) → Type 0) where
  -- what a request ends with that waits for its body: by what that comes to, unless it takes too long
  abbrev pub GivesBody : Client → Option F → Outcome → Type 0
  GivesBody client None outcome = outcome ≡ Err cuts.Body
  GivesBody client (Some reading) outcome =
      (outcome ≡ Err cuts.Body) ⊎ ((body : Result Collected (LimitedError E)) × gives reading body × FromBody client body outcome)

module _ {R F E : Type 0} (gives : F → Result Collected (LimitedError E) → Type 0) where
  -- what a request ends with that stands at this stage
  abbrev pub Gives : Client → Option F → Stage R → Outcome → Type 0
  Gives client reading (stages.Body late) outcome = GivesBody gives client reading outcome
  Gives client reading (stages.Answer brought number) outcome = FromAnswer outcome
  Gives client reading (stages.Message message) outcome = FromMessage client message outcome
  Gives client reading (stages.Refused fault) outcome = Responds (bare (fault_status fault)) outcome
  Gives client reading stages.Over outcome = outcome ≡ Err cuts.Unanswered

-- a body has at least so many octets, by what is known of its length
abbrev pub HasAtLeast : Option ℕ → ℕ → Type 0
HasAtLeast None least = ⊤
HasAtLeast (Some length) least = least ≡ length

module _ {R : Type 0} where
  -- the stage of a request, by what there is to do first
  abbrev pub StandsAt : First → Stage R → Type 0
  StandsAt (firsts.Message message) stage = stage ≡ stages.Message message
  StandsAt firsts.Body stage = stage ≡ stages.Body None
  StandsAt (firsts.Refused fault) stage = stage ≡ stages.Refused fault

  -- it waits for its body
  abbrev pub IsBody : Stage R → Type 0
  IsBody (stages.Body late) = ⊤
  IsBody stage = ⊥
