-- What the head of a request says, and what there is to do then.
use Rattle.std.specs.Prelude.{◌≡◌, ◌≤◌, ◌<◌, ℕ, List, [], codes, MatchOption, Result, Ok, Err, unwrap_or}
use Rattle.http.specs.Request.{head_of}
use Rattle.http.specs.declared.request.Request.{Request}
use Rattle.http_header.specs.FieldValue.{FieldValue, IsVisibleAscii}
use Rattle.http_header.specs.HeaderMap.{Entries, get}
use Rattle.http_uri.specs.Uri.{uri_path, uri_query}
use Rattle.std.specs.Net.Addr.{ipv4_octets, ipv6_octets}
use Rattle.std.specs.Net.Socket.{v4_ip, v6_ip}
use Rattle.std.specs.declared.net.socket_addr.SocketAddr.{SocketAddr}
use Rattle.std.specs.declared.net.socket_addr.SocketAddr.TheVariants as ends
use Rattle.lb_wire.specs.Octets.{max_message}
use Rattle.lb_wire.specs.declared.addr.Addr.{Addr}
use Rattle.lb_wire.specs.declared.addr.Addr.TheVariants.{V4, V6}
use Rattle.lb_doh_message.specs.Request as requests
use Rattle.lb_doh_message.specs.declared.fault.DohFault.{DohFault}
use Rattle.lb_doh_message.specs.declared.fault.DohFault.TheVariants as faults
use Rattle.lb_doh_message.specs.declared.request.DohHead.{DohHead}
use Rattle.lb_doh_message.specs.declared.request.DohHead.TheVariants as heads
use Rattle.lb_doh_server.specs.declared.heads.First.{First}
use Rattle.lb_doh_server.specs.declared.heads.First.TheVariants.{Body, Message, Refused}

-- the media type of a head: the first line of that name; the empty text where there is none, or it is not visible ASCII
abbrev pub IsMedia : Entries FieldValue → List ℕ → Type 0
IsMedia headers media =
    MatchOption (get headers (codes "content-type")) (media ≡ [])
    (λ value. (IsVisibleAscii value.bytes → media ≡ value.bytes) × ((IsVisibleAscii value.bytes → ⊥) → media ≡ []))

module _ {X : Type 0} where
  -- what the head of a request is read as: its method, its path and its query are those of its first line
  abbrev pub ReadsHead : Request X → Result DohHead DohFault → Type 0
  ReadsHead request read =
      (media : List ℕ) × IsMedia (head_of request).headers media
      × requests.ReadsHead (head_of request).method (uri_path (head_of request).uri) (unwrap_or (uri_query (head_of request).uri) []) media read

-- What there is to do, by what the head is read as, if the body has at least so many octets: a body that may be short enough is read, and
-- else the request is answered.
abbrev pub Begins : Result DohHead DohFault → ℕ → First → Type 0
Begins (Ok (heads.Message message)) least (Message octets) = octets ≡ message
Begins (Ok heads.Body) least Body = least ≤ max_message
Begins (Ok heads.Body) least (Refused fault) = (fault ≡ faults.TooLong) × (max_message < least)
Begins (Err fault) least (Refused other) = other ≡ fault
Begins read least first = ⊥

-- the address of an end
abbrev pub source_of : SocketAddr → Addr
source_of (ends.V4 address) = V4 (ipv4_octets (v4_ip address))
source_of (ends.V6 address) = V6 (ipv6_octets (v6_ip address))
