-- Stages of a request that follow one another.
use Rattle.std.proofs.Common.{◌≡◌, ◌==◌, ◌≤◌, ℕ, List, length, Option, None, Some, Result, Ok, Err, IfErr, IfOk, inl, inr, subst, arith}
use Rattle.std.proofs.lemmas.Bool.{cases_Bool, eqb-true}
use Rattle.futures.specs.Poll.{OnPending}
use Rattle.futures.specs.declared.task.Poll.{Poll}
use Rattle.futures.specs.declared.task.Poll.TheVariants.{Pending, Ready}
use Rattle.http_body.specs.SizeHint.{exact, exact_at, lower, upper}
use Rattle.http_body.specs.declared.size_hint.SizeHint.{SizeHint}
use Rattle.futures.specs.declared.channel.oneshot.Receiver.{Receiver}
use Rattle.http_body_util.specs.Collected.{collected_bytes}
use Rattle.http_body_util.specs.declared.collected.Collected.{Collected}
use Rattle.http_body_util.specs.declared.limited.LimitedError.{LimitedError}
use Rattle.lb_wire.specs.Octets.{max_message}
use Rattle.lb_doh_message.specs.declared.fault.DohFault.{DohFault}
use Rattle.lb_doh_server.specs.Answering.{Comes, FromAnswer, FromMessage, HasAtLeast, IsAskedFor, IsBehindBody, IsSaidUnder, IsUnanswered, Outcome, ReadsOctets}
use Rattle.lb_doh_message.specs.Request.{ReadsBody}
use Rattle.lb_doh_message.specs.declared.request.DohBody.TheVariants.{Whole}
use Rattle.lb_doh_server.specs.declared.answering.Asked.{Asked}
use Rattle.lb_doh_server.specs.declared.answering.Asked.TheVariants as asked
use Rattle.lb_doh_server.specs.declared.cut.Cut.{Cut}
use Rattle.lb_doh_server.specs.declared.cut.Cut.TheVariants as cuts
use Rattle.lb_doh_server.specs.declared.heads.Client.{Client}

-- where no answer comes, the message was there
behind : (cut : Cut) → IsUnanswered cut → IsBehindBody cut
behind (cuts.Entering fault) h = tt
behind (cuts.Response error) h = tt
behind cuts.NoMemory h = tt
behind cuts.Body h = absurd h
behind cuts.Unanswered h = tt

-- what a request ends with that waits for its answer, it ends with by its message
pub waits : (client : Client) (message : List ℕ) (number : ℕ) → IsSaidUnder client message number None → (outcome : Outcome)
    → FromAnswer outcome → FromMessage client message outcome
waits client message number said (Ok http) (response, brought, built) = (response, inr (number, said, brought), built)
waits client message number said (Err cut) h = behind cut h

-- the same, of a request that was not answered yet
pub waits_on : (client : Client) (message : List ℕ) (number : ℕ) (gives : Outcome → Type 0) (polled : Poll Outcome)
    → IsSaidUnder client message number None
    → OnPending polled ((x : Outcome) → gives x → FromAnswer x) → OnPending polled ((x : Outcome) → gives x → FromMessage client message x)
waits_on client message number gives (Ready x) said same = tt
waits_on client message number gives Pending said same = λ x given. waits client message number said x (same x given)

-- a body with an exact size has at least so many octets
least_of : (least : ℕ) (most : Option ℕ) → HasAtLeast (exact_at least most) least
least_of least None = tt
least_of least (Some most) = elim (cases_Bool (least == most)) [
  | inl is ↦ rw is (eqb-true least most is)
  | inr other ↦ rw other tt
]

pub has_least : (hint : SizeHint) (size : Option ℕ) (least : ℕ) → exact hint ≡ size → least ≡ lower hint → HasAtLeast size least
has_least hint size least is same = rw same (subst (λ s. HasAtLeast s (lower hint)) is (least_of (lower hint) (upper hint)))

-- what comes of a body that came, by what its octets are read as
pub comes : {E : Type 0} (body : Result Collected (LimitedError E)) (collected : Collected) (octets : List ℕ) (read : Result (Result (List ℕ) DohFault) Cut)
    → body ≡ Ok collected → octets ≡ collected_bytes collected → IfOk read (ReadsOctets octets) → IfErr read (λ cut. cut ≡ cuts.NoMemory) → Comes body read
comes body collected octets (Ok read) is same reads cut = rw is (subst (λ o. ReadsOctets o read) same reads)
comes body collected octets (Err cut) is same reads none = rw is none

-- the octets of a body that is short enough, by a copy of them
pub reads_short : (octets copy : List ℕ) (read : Result (List ℕ) DohFault) → length octets ≤ max_message → copy ≡ octets → ReadsBody (Whole copy) read
    → ReadsOctets octets read
reads_short octets copy read short same reads = (λ long. absurd (omega arith), λ _. subst (λ o. ReadsBody (Whole o) read) same reads)

module _ {R : Type 0} where
  -- what was said to a request that waits
  pub said_of : (client : Client) (message : List ℕ) (found : Asked R) (brought : Receiver (List ℕ)) (number : ℕ)
      → found ≡ asked.Waits brought number → IsAskedFor client message found → IsSaidUnder client message number None
  said_of client message found brought number is said = subst (IsAskedFor client message) is said
