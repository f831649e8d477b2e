-- What an answer becomes on HTTP (RFC 8484 section 5.1).
use Rattle.std.specs.Prelude.{◌≡◌, ℕ, List, Option, None, Some, unwrap_or}
use Rattle.lb_wire.specs.Reply.{Surveys}
use Rattle.lb_wire.specs.declared.tally.Survey.{Survey}
use Rattle.lb_step.specs.declared.answer.Answer.{Answer}
use Rattle.lb_step.specs.declared.answer.Answer.TheVariants.{Dropped, Local, Deliver, Expired, NoMemory}
use Rattle.lb_step.specs.declared.answer.DropReason.{DropReason}
use Rattle.lb_step.specs.declared.answer.DropReason.TheVariants as drops
use Rattle.lb_doh_message.specs.declared.response.DohResponse.{DohResponse}

-- the answers that a query of this front has
abbrev pub IsReturned : Answer → Type 0
IsReturned (Dropped why) = Unit {0}
IsReturned (Local bytes why) = Unit {0}
IsReturned (Deliver origin bytes kept) = Unit {0}
IsReturned (Expired origin bytes) = Unit {0}
IsReturned (NoMemory bytes) = Unit {0}
IsReturned _ = ⊥

-- how long a message with this survey may be kept: the least TTL of its answer section, OPT left aside (RFC 8484 section 5.1)
abbrev pub max_age_of : Option Survey → ℕ
max_age_of None = 0
max_age_of (Some survey) = unwrap_or survey.least_answer 0

-- a response with these octets
pub record Carries (octets : List ℕ) (response : DohResponse) : Type 0 where
  pub status : response.status ≡ 200
  pub age : (survey : Option Survey) × Surveys octets survey × (response.max_age ≡ max_age_of survey)
  pub body : response.body ≡ Some octets

-- a response without a body
abbrev pub bare : ℕ → DohResponse
bare status = record { status = status; max_age = 0; body = None }

-- the status of a query that is dropped
abbrev pub status_of : DropReason → ℕ
status_of (drops.Rule rule) = 403
status_of _ = 400

-- what an answer becomes
abbrev pub Responds : Answer → DohResponse → Type 0
Responds (Dropped why) response = response ≡ bare (status_of why)
Responds (Local bytes why) response = Carries bytes response
Responds (Deliver origin bytes kept) response = Carries bytes response
Responds (Expired origin bytes) response = Carries bytes response
Responds (NoMemory bytes) response = Carries bytes response
Responds _ response = ⊥
