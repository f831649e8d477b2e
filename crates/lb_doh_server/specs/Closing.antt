-- How a response says that its connection closes after it (RFC 9112 section 9.6).
use Rattle.std.specs.Prelude.{◌≡◌, ℕ, ◌==◌, List, Bool, true, false, not, codes, Option, None, Some, Result, Ok, Err}
use Rattle.http.specs.Response.{body_of, head_of}
use Rattle.http.specs.declared.request.Request.{Request}
use Rattle.http.specs.declared.response.Response.{Response}
use Rattle.http_body_util.specs.declared.full.Full.{Full}
use Rattle.http_header.specs.FieldValue.{plain_value}
use Rattle.http_header.specs.HeaderMap.{append}
use Rattle.lb_doh_message.specs.declared.fault.DohFault.{DohFault}
use Rattle.lb_doh_message.specs.declared.request.DohHead.{DohHead}
use Rattle.lb_doh_server.specs.Answering.{HasAtLeast, Outcome, StandsAt}
use Rattle.lb_doh_server.specs.Heads.{Begins, ReadsHead}
use Rattle.lb_doh_server.specs.Response.{IsUnbuilt}
use Rattle.lb_doh_server.specs.declared.answering.Stage.{Stage}
use Rattle.lb_doh_server.specs.declared.heads.First.{First}
use Rattle.lb_doh_server.specs.declared.heads.First.TheVariants as firsts

-- Whether a request leaves its body unread, of which so many octets are left, if that is known: the body is not at its end, and it is not the
-- body that is to be read first. Its connection closes after the response.
abbrev pub leaves_body : Option ℕ → First → Bool
leaves_body left firsts.Body = false
leaves_body None first = true
leaves_body (Some left) first = not (left == 0)

-- whether a response says that a body was too long: what is left of that body is not read, and so its
-- connection closes after the response (RFC 9110 section 15.5.14)
abbrev pub is_too_long : Outcome → Bool
is_too_long (Ok response) = (head_of response).status == 413
is_too_long (Err cut) = false

-- the response with one more header line, which says that the connection closes; the rest of its head and its body are the same
pub record SaysClose (response closing : Response (Full (List ℕ))) : Type 0 where
  pub head : head_of closing ≡ record (head_of response) { headers = append (head_of response).headers (codes "connection") (plain_value (codes "close")) }
  pub body : body_of closing ≡ body_of response

-- What a request ends with, by whether its connection closes, and by what its answering ended with: the same, but if the connection closes, a
-- response says so, or it was not built.
abbrev pub ClosesBy : Bool → Outcome → Outcome → Type 0
ClosesBy false inner outcome = outcome ≡ inner
ClosesBy true (Err cut) outcome = outcome ≡ Err cut
ClosesBy true (Ok response) (Ok closing) = SaysClose response closing
ClosesBy true (Ok response) (Err cut) = IsUnbuilt cut

module _ {X R : Type 0} where
  -- how the answering of a request begins, of whose body so many octets are left, if that is known: at the stage that its head and the least
  -- size of its body give; and its connection closes after the response if the body is left unread
  abbrev pub BeginsRequest : Request X → Option ℕ → Stage R → Bool → Type 0
  BeginsRequest request left stage closes =
      (least : ℕ) × HasAtLeast left least × (read : Result DohHead DohFault) × (first : First)
      × ReadsHead request read × Begins read least first × StandsAt first stage × (closes ≡ leaves_body left first)
