-- A response as hyper sends it.
use Rattle.std.specs.Prelude.{◌≡◌, ⊤, ℕ, ◌==◌, List, [], ◌∷◌, ◌++◌, length, map, codes, decimal, if◌then◌else◌, Option, None, Some}
use Rattle.http.specs.Response.{body_of, head_of}
use Rattle.http.specs.declared.response.Response.{Response}
use Rattle.http_body_util.specs.declared.full.Full.{Full}
use Rattle.http_header.specs.FieldValue.{plain_value}
use Rattle.http_header.specs.HeaderMap.{append_all}
use Rattle.lb_doh_message.specs.declared.response.DohResponse.{DohResponse}
use Rattle.lb_doh_server.specs.declared.cut.Cut.{Cut}
use Rattle.lb_doh_server.specs.declared.cut.Cut.TheVariants as cuts

-- The header lines: of a response with a message its media type and how many seconds it may be kept (RFC 8484 sections 5.1 and 6); of 405 the
-- methods that are served (RFC 9110 section 15.5.6); of others none. hyper writes the length, and what a connection needs.
abbrev pub lines_for : ℕ → ℕ → Option (List ℕ) → List (List ℕ × List ℕ)
lines_for status max_age (Some octets) =
    (codes "content-type", codes "application/dns-message") ∷ (codes "cache-control", codes "max-age=" ++ decimal max_age) ∷ []
lines_for status max_age None = if status == 405 then (codes "allow", codes "GET, POST") ∷ [] else []

-- the body, which hyper takes as none where it is empty
abbrev pub content : Option (List ℕ) → Option (List ℕ)
content None = None
content (Some octets) = if length octets == 0 then None else Some octets

-- a response as hyper sends it
pub record IsBuilt (response : DohResponse) (http : Response (Full (List ℕ))) : Type 0 where
  pub status : (head_of http).status ≡ response.status
  pub lines : (head_of http).headers ≡ append_all [] (map (λ line. (line.0, plain_value line.1)) (lines_for response.status response.max_age response.body))
  pub body : (body_of http).buf ≡ content response.body

-- a response was not built: for lack of memory, or as a header line or a status is not one of HTTP
abbrev pub IsUnbuilt : Cut → Type 0
IsUnbuilt cuts.NoMemory = ⊤
IsUnbuilt (cuts.Response error) = ⊤
IsUnbuilt cut = ⊥
