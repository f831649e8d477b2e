-- The probes of servers: what answers one, when one is over, and which servers are probed.
use Rattle.std.specs.Prelude.{◌≡◌, ◌⊎◌, ◌+◌, ◌-◌, ◌*◌, ◌/◌, ◌%◌, ◌^◌, ◌<◌, ◌≤◌, ℕ, Bool, true, false, List, [], ◌∷◌, ◌++◌, Option, Some, None, Result, filter, length, min, nat_lt, set, slice_get, ◌==◌, ◌&&◌}
use Rattle.std.specs.List.{list_any, position}
use Rattle.lb_health.specs.Probes.{judged}
use Rattle.lb_loops_io.specs.Endpoint.{is_endpoint}
use Rattle.lb_loops_io.specs.Roster.{Rostered, place_in}
use Rattle.lb_loops_io.specs.Stamps.{Stamp}
use Rattle.lb_loops_io.specs.declared.roster.Listed.{Listed}
use Rattle.lb_loops_io.specs.declared.roster.Place.{Place}
use Rattle.lb_loops_io.specs.declared.traffic.Datagram.{Datagram}
use Rattle.lb_loops_io.specs.declared.traffic.Socket.{Socket}
use Rattle.lb_loops_io.specs.declared.traffic.Socket.TheVariants.{Listener, Server}
use Rattle.lb_loops_probes.specs.declared.probes.Answered.{Answered}
use Rattle.lb_loops_probes.specs.declared.watched.Waits.{Waits}
use Rattle.lb_loops_probes.specs.declared.watched.Watched.{Watched}
use Rattle.lb_servers.specs.declared.server.Mode.TheVariants as modes
use Rattle.lb_wire.specs.declared.ids.ServerId.{ServerId}
use Rattle.lb_wire.specs.declared.reply.ReplyFault.{ReplyFault}
use Rattle.lb_wire.specs.declared.reply.ReplyView.{ReplyView}
use Rattle.lb_wire.specs.Reply.{ReadsReply}

-- the servers that are probed, and the version of the roster that they were taken from
pub record Probed : Type 0 where
  pub version : Option ℕ
  pub watched : List Watched

-- how long a probe waits for its answer, in milliseconds
abbrev pub second : ℕ
second = 1000

-- so many milliseconds later than a moment; the last one is 2^64-1
abbrev pub later : ℕ → ℕ → ℕ
later now wait = min (now + wait) (2 ^ 64 - 1)

-- how long a new server waits for its first probe: its number spreads servers over a second
abbrev pub spread : ServerId → ℕ
spread server = server.0 % 256 * second / 256

-- a probe may still be answered at this moment: it was sent, less than a second before
abbrev pub is_open : ℕ → Option Waits → Bool
is_open now None = false
is_open now (Some x) = x.is_sent && nat_lt now (x.sent + second)

-- a probe is over at this moment: it could not be sent, or it has waited for a second
abbrev pub IsOver : ℕ → Waits → Type 0
IsOver now x = (x.is_sent ≡ false) ⊎ (x.sent + second ≤ now)

-- the ID of the probe that is under way
abbrev pub word_of : Option Waits → ℕ
word_of None = 0
word_of (Some x) = x.word

-- a socket is the first one of this server, made for its end
abbrev pub is_by : Socket → Watched → Bool
is_by (Listener front) w = false
is_by (Server server upstream at) w = (upstream == 0) && ((server.0 == w.server.0) && is_endpoint w.at at)

-- a datagram came from the end of this server, while its probe may still be answered
abbrev pub may_answer : ℕ → Datagram → Watched → Bool
may_answer now d w = is_by d.socket w && (is_endpoint w.at d.peer && is_open now w.waits)

-- whether the octets of a datagram are a good answer to the probe that is under way
abbrev pub Judges : Datagram → Watched → Bool → Type 0
Judges d w verdict = (reading : Result ReplyView ReplyFault) × ReadsReply d.bytes reading × (verdict ≡ judged (word_of w.waits) w.must_resolve reading)

-- a datagram answers the probe of this server at this moment, or does not
abbrev pub Answers : ℕ → Datagram → Watched → Type 0
Answers now d w = (may_answer now d w ≡ true) × Judges d w true

abbrev pub Misses : ℕ → Datagram → Watched → Type 0
Misses now d w = (may_answer now d w ≡ false) ⊎ Judges d w false

-- this server
abbrev pub is_of : ServerId → Watched → Bool
is_of server w = w.server.0 == server.0

-- the place of the server whose socket this is
abbrev pub place_of : Socket → List Watched → Option ℕ
place_of (Listener front) p = None
place_of (Server server upstream at) p = position (is_of server) p

-- a datagram answers, at this moment, the probe of the server to whose socket it came: the place of
-- that server among those that are probed, the server, and its probe that is under way
abbrev pub AnswersProbe : ℕ → Datagram → List Watched → Answered → Type 0
AnswersProbe now d p a = (place_of d.socket p ≡ Some a.index) × (slice_get p a.index ≡ Some a.watched) × (a.watched.waits ≡ Some a.waits) × Answers now d a.watched

-- a datagram is of no server that is probed, or does not answer that one's probe
abbrev pub Unheard : ℕ → Datagram → List Watched → Type 0
Unheard now d p = (place_of d.socket p ≡ None) ⊎ ((i : ℕ) × (w : Watched) × (place_of d.socket p ≡ Some i) × (slice_get p i ≡ Some w) × Misses now d w)

-- the roster has this server at the end that is probed
abbrev pub stands_at : Watched → Option Place → Bool
stands_at w None = false
stands_at w (Some place) = is_endpoint place.at w.at

abbrev pub stands : List Listed → Watched → Bool
stands roster w = stands_at w (place_in w.server roster)

-- a server that is probed from now on: the roster has it so, its first probe is due within a second of this moment, and it is not among
-- those that are probed
abbrev pub IsFresh : ℕ → List Listed → List Watched → Watched → Type 0
IsFresh now roster p w =
    (place : Place) × (place_in w.server roster ≡ Some place) × (w ≡ record { server = w.server; at = place.at; must_resolve = place.must_resolve; next = later now (spread w.server); waits = None }) × (list_any (is_of w.server) p ≡ false)

abbrev pub AreFresh : ℕ → List Listed → List Watched → List Watched → Type 0
AreFresh now roster p [] = Unit {0}
AreFresh now roster p (w ∷ ws) = IsFresh now roster p w × AreFresh now roster (p ++ w ∷ []) ws

-- how many servers are probed at most
abbrev pub most_probed : ℕ
most_probed = 256

-- the first so many servers of a roster are probed; further ones where there is room
abbrev pub AreProbed : ℕ → List Listed → List Watched → Type 0
AreProbed n roster p = (most_probed ≤ length p) ⊎ ((i : ℕ) (l : Listed) → i < n → slice_get roster i ≡ Some l → list_any (is_of l.server) p ≡ true)

-- those that the roster has no more at their end go, and others come after, until all of the roster are there
abbrev pub Renews : ℕ → List Listed → List Watched → List Watched → Type 0
Renews now roster p q = ((fresh : List Watched) × (q ≡ filter (stands roster) p ++ fresh) × AreFresh now roster (filter (stands roster) p) fresh) × AreProbed (length roster) roster q

-- the servers that are probed become those of a roster, where it was changed
abbrev pub Follows : Rostered → ℕ → Probed → Probed → Type 0
Follows roster now p q = ((p.version ≡ Some roster.version) × (q ≡ p)) ⊎ ((q.version ≡ Some roster.version) × Renews now roster.listed p.watched q.watched)

-- a probe ends
abbrev pub ended : Probed → ℕ → Watched → Probed
ended p i w = record p { watched = set p.watched i (record w { waits = None }) }

-- a probe with this word was sent at this moment to this place, or could not be; the next one is due a second after the moment that stands first
abbrev pub begun : Probed → ℕ → Watched → Place → ℕ → Stamp → Bool → Probed
begun p i w place now stamp is_sent =
    record p { watched = set p.watched i (record w { at = place.at; must_resolve = place.must_resolve; next = later now second; waits = Some (record { word = stamp.1; sent = stamp.0; is_sent = is_sent }) }) }

-- at this moment the next probe of this server is due: none is under way, and the roster has it at this place, in mode auto
abbrev pub IsDue : List Listed → ℕ → Watched → Place → Type 0
IsDue roster now w place = (w.waits ≡ None) × (w.next ≤ now) × (place_in w.server roster ≡ Some place) × (place.mode ≡ modes.Auto)

-- no probe that is under way is over at this moment
abbrev pub IsTimely : ℕ → Watched → Type 0
IsTimely now w = (x : Waits) → w.waits ≡ Some x → is_open now (Some x) ≡ true

-- a server without a probe under way: its next one is due later than this moment, or a second later, as it was sent one; or the roster has
-- it not in mode auto
abbrev pub IsAsked : List Listed → ℕ → Watched → Type 0
IsAsked roster now w = w.waits ≡ None → (now < w.next) ⊎ ((w.next ≡ later now second) ⊎ ((place : Place) → place_in w.server roster ≡ Some place → place.mode ≡ modes.Auto → ⊥))

-- for so many milliseconds from this moment on the probe of this server that is under way is not over, and its next one is not due
abbrev pub IsQuietFor : List Listed → ℕ → ℕ → Watched → Type 0
IsQuietFor roster now wait w = (moment : ℕ) → now ≤ moment → moment < now + wait → IsTimely moment w × ((place : Place) → IsDue roster moment w place → ⊥)

-- this holds of each of the servers that are probed, of the first so many, of the one at a place
abbrev pub Each : (Watched → Type 0) → List Watched → Type 0
Each P p = (i : ℕ) (w : Watched) → slice_get p i ≡ Some w → P w

abbrev pub First : (Watched → Type 0) → ℕ → List Watched → Type 0
First P n p = (i : ℕ) (w : Watched) → i < n → slice_get p i ≡ Some w → P w

abbrev pub Here : (Watched → Type 0) → ℕ → List Watched → Type 0
Here P i p = (w : Watched) → slice_get p i ≡ Some w → P w
