-- What a request of DNS on HTTP asks (RFC 8484 section 4.1): its message, or the first status that applies.
use Rattle.std.specs.Prelude.{◌≡◌, ◌≢◌, ℕ, ◌⊎◌, List, codes, Vec, Result, Ok, Err}
use Rattle.std.specs.declared.alloc.Global.{Global}
use Rattle.lb_doh_message.specs.Media.{IsDnsMedia}
use Rattle.lb_doh_message.specs.Variable.{IsOnlyValue}
use Rattle.lb_doh_message.specs.Message.{IsQueryLike, StandsFor}
use Rattle.lb_doh_message.specs.declared.request.DohBody.{DohBody}
use Rattle.lb_doh_message.specs.declared.request.DohBody.TheVariants.{Whole, TooLong}
use Rattle.lb_doh_message.specs.declared.request.DohHead.{DohHead}
use Rattle.lb_doh_message.specs.declared.request.DohHead.TheVariants as heads
use Rattle.lb_doh_message.specs.declared.fault.DohFault.{DohFault}
use Rattle.lb_doh_message.specs.declared.fault.DohFault.TheVariants as faults

-- the one path that is served
abbrev pub the_path : List ℕ
the_path = codes "/dns-query"

abbrev pub get : List ℕ
get = codes "GET"

abbrev pub post : List ℕ
post = codes "POST"

-- the message of a POST is its body
pub record Posts (method media : List ℕ) (body : DohBody) (octets : List ℕ) : Type 0 where
  pub is_post : method ≡ post
  pub is_dns : IsDnsMedia media
  pub holds : body ≡ Whole octets
  pub like : IsQueryLike octets

-- the message of a GET is what the value of its variable stands for
pub record Gets (method query octets : List ℕ) : Type 0 where
  pub is_get : method ≡ get
  pub by_value : (value : List ℕ) × IsOnlyValue query value × StandsFor value octets

-- a request may carry a message: a GET, or a POST whose media type and body's length are in order
abbrev pub IsFit : List ℕ → List ℕ → DohBody → Type 0
IsFit method media body = (method ≡ get) ⊎ ((method ≡ post) × IsDnsMedia media × (body ≢ TooLong))

-- a request carries these octets
abbrev pub Carries : List ℕ → List ℕ → List ℕ → DohBody → List ℕ → Type 0
Carries method query media body octets = Posts method media body octets ⊎ Gets method query octets

-- Why a request is refused: each fault exactly where it is the first that applies. Memory is lacking last, and only for the message of a
-- GET.
abbrev pub Refuses : List ℕ → List ℕ → List ℕ → List ℕ → DohBody → DohFault → Type 0
Refuses method path query media body faults.NotFound = path ≢ the_path
Refuses method path query media body faults.BadMethod = (path ≡ the_path) × (method ≢ get) × (method ≢ post)
Refuses method path query media body faults.BadMedia = (path ≡ the_path) × (method ≡ post) × (IsDnsMedia media → ⊥)
Refuses method path query media body faults.TooLong = (path ≡ the_path) × (method ≡ post) × IsDnsMedia media × (body ≡ TooLong)
Refuses method path query media body faults.BadRequest = (path ≡ the_path) × IsFit method media body × ((octets : List ℕ) → Carries method query media body octets → ⊥)
Refuses method path query media body faults.NoMemory = (path ≡ the_path) × ((octets : List ℕ) × Gets method query octets)

-- what a request is read as: its message, or the first fault that applies
abbrev pub Reads : List ℕ → List ℕ → List ℕ → List ℕ → DohBody → Result (Vec ℕ Global) DohFault → Type 0
Reads method path query media body (Ok message) = (path ≡ the_path) × Carries method query media body message.items
Reads method path query media body (Err fault) = Refuses method path query media body fault

-- the same, of a message as octets
abbrev pub ReadsAs : List ℕ → List ℕ → List ℕ → List ℕ → DohBody → Result (List ℕ) DohFault → Type 0
ReadsAs method path query media body (Ok message) = (path ≡ the_path) × Carries method query media body message
ReadsAs method path query media body (Err fault) = Refuses method path query media body fault

-- What the head of a request is read as, whatever its body is: the message of a GET, that the body of a POST is to be read, or the first
-- fault that applies.
abbrev pub ReadsHead : List ℕ → List ℕ → List ℕ → List ℕ → Result DohHead DohFault → Type 0
ReadsHead method path query media (Ok (heads.Message message)) = (path ≡ the_path) × Gets method query message
ReadsHead method path query media (Ok heads.Body) = (path ≡ the_path) × (method ≡ post) × IsDnsMedia media
ReadsHead method path query media (Err fault) = (body : DohBody) → Refuses method path query media body fault

-- what the body of a POST is read as whose head is in order, whatever its query is
abbrev pub ReadsBody : DohBody → Result (List ℕ) DohFault → Type 0
ReadsBody body read = (query media : List ℕ) → IsDnsMedia media → ReadsAs post the_path query media body read
