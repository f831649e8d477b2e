-- What a request asks the desk, and what comes of the answer.
use Rattle.std.specs.Prelude.{◌≡◌, ℕ, List}
use Rattle.lb_wire.specs.declared.addr.Origin.{Origin}
use Rattle.lb_wire.specs.declared.transport.Kind.TheVariants.{Stream}
use Rattle.lb_step.specs.declared.answer.Answer.{Answer}
use Rattle.lb_step.specs.declared.answer.Answer.TheVariants.{Dropped, Local, Forward, Deliver, Expired, Quiet, Ignored, Edited, Refused, NoMemory}
use Rattle.lb_step.specs.declared.event.Event.{Event}
use Rattle.lb_step.specs.declared.event.Event.TheVariants.{Query}
use Rattle.lb_doh_message.specs.Response.{Responds, bare}
use Rattle.lb_doh_message.specs.declared.response.DohResponse.{DohResponse}
use Rattle.lb_loops_io.specs.Stamps.{Stamp}
use Rattle.lb_outbox.specs.declared.job.Job.TheVariants.{ToServer}
use Rattle.lb_doh.specs.declared.next.Next.{Next}
use Rattle.lb_doh.specs.declared.next.Next.TheVariants.{Respond, Send}

-- a request's message as an event: a query by a stream, at this moment, with this word (RFC 8484 section 4.1)
abbrev pub asked : Stamp → Origin → List ℕ → Event
asked stamp origin message = Query stamp.0 origin Stream stamp.1 message

-- a request that is answered at once has this response: that of the answer; 503 where no query has such an answer
abbrev pub Returns : Answer → DohResponse → Type 0
Returns (Forward server lane id bytes) response = ⊥
Returns Quiet response = response ≡ bare 503
Returns (Ignored why) response = response ≡ bare 503
Returns (Edited note) response = response ≡ bare 503
Returns (Refused fault) response = response ≡ bare 503
Returns answer response = Responds answer response

-- what comes of an answer: a message that goes to a server is sent there, and any other answer is the request's
abbrev pub Follows : Answer → Next → Type 0
Follows (Forward server lane id bytes) (Send job) = job ≡ ToServer server lane bytes
Follows (Forward server lane id bytes) (Respond response) = ⊥
Follows answer (Send job) = ⊥
Follows answer (Respond response) = Returns answer response
