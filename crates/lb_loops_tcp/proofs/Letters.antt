-- Letters, and what came of their sends.
use Rattle.std.proofs.Common.{◌≡◌, ℕ, ◌<◌, inl, inr, Bool, true, false, true≢false, IsTrue, List, [], ◌∷◌, ◌++◌, Option, Some, None, Result, Ok, Err, if◌then◌else◌, refl, sym, ap, ◌∙◌, subst, arith}
use Rattle.std.specs.Prelude.{IfErr, nat_lt, slice_get}
use Rattle.std.proofs.lemmas.Bool.Decides.{nat_tests}
use Rattle.std.proofs.lemmas.List.{append-nil}
use Rattle.lb_loops_connections.specs.Table.{IsTo, Table, at, at_place}
use Rattle.lb_loops_connections.specs.declared.connection.Connection.{Connection}
use Rattle.lb_loops_io.specs.Counts.{Rose}
use Rattle.lb_loops_io.specs.Lines.{is_by_device}
use Rattle.lb_loops_io.specs.Roster.{end_of}
use Rattle.lb_loops_io.specs.declared.endpoint.Endpoint.{Endpoint}
use Rattle.lb_loops_io.specs.declared.letter.End.TheVariants.{Client, Server}
use Rattle.lb_loops_io.specs.declared.report.Sending.TheVariants.{Done, Failed, Nothing}
use Rattle.lb_loops_io.specs.declared.report.Way.TheVariants as ways
use Rattle.lb_loops_io.specs.declared.report.Why.{Why}
use Rattle.lb_loops_io.specs.declared.report.Why.TheVariants as whys
use Rattle.lb_loops_io.specs.declared.roster.Listed.{Listed}
use Rattle.lb_loops_io.specs.declared.traffic.Peer.TheVariants as peers
use Rattle.lb_loops_tcp.proofs.Lifting.{server_before}
use Rattle.lb_loops_tcp.proofs.Opening.{goes_nothing}
use Rattle.lb_loops_tcp.proofs.Settling.{settles_nothing}
use Rattle.lb_loops_tcp.proofs.Steps.{lives_at}
use Rattle.lb_loops_tcp.proofs.Then.{closed_before, full_before, peer_before, servers_later}
use Rattle.lb_loops_tcp.specs.Goes.{Goes, IsOver, Lacks, Misses, Settles, just, none}
use Rattle.lb_loops_tcp.specs.Lines.{ComesClient, ComesPost, FitsConnection, FitsServer, IsClosed, IsMeant, IsServers, by_front, is_http}
use Rattle.lb_loops_tcp.specs.Links.{Net, link}
use Rattle.lb_loops_tcp.specs.Turn.{Sends}
use Rattle.lb_loops_tcp.specs.World.{World}
use Rattle.lb_wire.specs.declared.addr.Origin.{Origin}
use Rattle.lb_wire.specs.declared.ids.ServerId.{ServerId}
use Rattle.lb_wire.specs.declared.transport.Lane.{Lane}

-- A connection to a server.

given_by : (b : Bool) (o : Option Connection) (x : Connection) → (if b then o else None) ≡ Some x → b ≡ true
given_by true o x e = refl
given_by false o x e = cc

pub below_at : (n : ℕ) (t : Table) (x : Connection) → at n t ≡ Some x → nat_lt n t.next ≡ true
below_at n t x e = given_by (nat_lt n t.next) (at_place n t.slots) x e

one_is : (x y : Connection) → Some x ≡ Some y → x ≡ y
one_is x y e = cc

to_servers : (n : ℕ) (server : ServerId) (number : ℕ) (to : Endpoint) (a : Net) → IsTo n server number to a.table → IsServers n server number to a
to_servers n server number to a is = (below_at n a.table is.0 is.1, λ y e. ap (λ (x : Connection). x.peer) (one_is y is.0 (sym e ∙ is.1)) ∙ is.2)

pub servers_after : (n : ℕ) (server : ServerId) (number : ℕ) (to : Endpoint) (a b : Net) (bytes : List ℕ) → IsTo n server number to a.table → Goes a b none (just n bytes) → IsServers n server number to b
servers_after n server number to a b bytes is goes = servers_later n a b none (just n bytes) server number to goes (to_servers n server number to a is)

pub servers_end : (n : ℕ) (server : ServerId) (number : ℕ) (to : Endpoint) (a b : Net) → IsServers n server number to a → Goes a b none none → IsServers n server number to b
servers_end n server number to a b is goes = servers_later n a b none none server number to goes is

pub lacks_fits : (old new : Net) (server : ServerId) (to : Endpoint) (lane : Lane) (bytes : List ℕ) (why : Why) → Lacks old new why → FitsServer old new none server to lane bytes why
lacks_fits old new server to lane bytes whys.NoServer is = is
lacks_fits old new server to lane bytes whys.Gone is = inr (inl is)
lacks_fits old new server to lane bytes whys.Limit is = absurd is
lacks_fits old new server to lane bytes whys.Full is = is
lacks_fits old new server to lane bytes whys.Device is = is
lacks_fits old new server to lane bytes whys.NoMemory is = tt

lt_of : (n m : ℕ) → nat_lt n m ≡ true → n < m
lt_of n m e = grind (arith, nat_tests)

closed_at : (n : ℕ) (a b : Net) (x : Connection) → at n a.table ≡ Some x → IsOver n a b → IsClosed n a b
closed_at n a b x is (inl closed) = (lives_at (link n a) x is, closed)
closed_at n a b x is (inr le) = let lt = lt_of n a.table.next (below_at n a.table x is) in absurd (omega (arith, lt, le))

-- a connection that leads to a server's end is the one that is meant, before and after
meant_at : (old mid new : Net) (n : ℕ) (server : ServerId) (number : ℕ) (to : Endpoint) → Goes old mid none none → IsTo n server number to mid.table → Goes mid new none none
    → IsMeant n old new server number to
meant_at old mid new n server number to goes is later =
    peer_before n old mid new none none none none (peers.Server server number to) goes later (inl (is.0, is.1, is.2))

pub missed_fits : (old mid new : Net) (n : ℕ) (server : ServerId) (lane : Lane) (to : Endpoint) (bytes : List ℕ) (why : Why) → Goes old mid none none → IsTo n server lane.number to mid.table
    → Goes mid new none none → Misses mid new n bytes why → FitsServer old new none server to lane bytes why
missed_fits old mid new n server lane to bytes whys.NoServer goes is later misses = misses
missed_fits old mid new n server lane to bytes whys.Gone goes is later misses = inr (inr (n, (meant_at old mid new n server lane.number to goes is later, closed_before n old mid new none none goes (closed_at n mid new is.0 is.1 misses))))
missed_fits old mid new n server lane to bytes whys.Limit goes is later misses = (n, (meant_at old mid new n server lane.number to goes is later, full_before n old mid new none none [] bytes goes misses))
missed_fits old mid new n server lane to bytes whys.Full goes is later misses = misses
missed_fits old mid new n server lane to bytes whys.Device goes is later misses = absurd misses
missed_fits old mid new n server lane to bytes whys.NoMemory goes is later misses = tt

-- What came of a send.

no_device : (X : Type 0) → IsTrue false → X
no_device X t = absurd (true≢false (sym t))

by_http : (b : Bool) (X Y : Type 0) → b ≡ true → X → by_front b X Y
by_http true X Y e is = is
by_http false X Y e is = cc

by_stream : (b : Bool) (X Y : Type 0) → b ≡ false → Y → by_front b X Y
by_stream false X Y e is = is
by_stream true X Y e is = cc

nothing_handed : (old new : World) → new ≡ record old { net = new.net } → new.handed ≡ old.handed ++ []
nothing_handed old new e = ap (λ (w : World). w.handed) e ∙ sym (append-nil old.handed)

same_but : (old new : World) → new ≡ record old { net = new.net } → new ≡ record old { net = new.net; handed = new.handed }
same_but old new e = e ∙ ap (λ zs. record old { net = new.net; handed = zs }) (sym (ap (λ (w : World). w.handed) e))

same_all : (old new : World) → new ≡ old → new ≡ record old { net = new.net; handed = new.handed }
same_all old new e = subst (λ (w : World). w ≡ record old { net = w.net; handed = w.handed }) (sym e) refl

pub client_done : (roster : List Listed) (old new : World) (origin : Origin) (bytes : List ℕ) → is_http (slice_get old.fronts origin.front) ≡ false → Goes old.net new.net none (just origin.slot bytes) → Settles old.net new.net → new ≡ record old { net = new.net }
    → Sends roster old new (Some (Client origin, bytes)) (Done (ways.Connection origin.slot))
client_done roster old new origin bytes stream goes settles same = record {
  goes = goes;
  settles = settles;
  comes = by_stream (is_http (slice_get old.fronts origin.front)) (ComesPost (Done (ways.Connection origin.slot))) (ComesClient old.net new.net none origin.slot bytes (Done (ways.Connection origin.slot))) stream refl;
  handed = nothing_handed old new same;
  failed = no_device (Rose old.net.told.failures new.net.told.failures);
  same = same_but old new same;
}

missed_client : (old new : Net) (n : ℕ) (bytes : List ℕ) (why : Why) → Misses old new n bytes why → FitsConnection old new none n bytes why
missed_client old new n bytes whys.NoServer is = is
missed_client old new n bytes whys.Gone is = is
missed_client old new n bytes whys.Limit is = is
missed_client old new n bytes whys.Full is = is
missed_client old new n bytes whys.Device is = is
missed_client old new n bytes whys.NoMemory is = is

missed_device : (old new : Net) (n : ℕ) (bytes : List ℕ) (why : Why) (X : Type 0) → Misses old new n bytes why → IsTrue (is_by_device (Failed why)) → X
missed_device old new n bytes whys.NoServer X is t = absurd (true≢false (sym t))
missed_device old new n bytes whys.Gone X is t = absurd (true≢false (sym t))
missed_device old new n bytes whys.Limit X is t = absurd (true≢false (sym t))
missed_device old new n bytes whys.Full X is t = absurd (true≢false (sym t))
missed_device old new n bytes whys.Device X is t = absurd is
missed_device old new n bytes whys.NoMemory X is t = absurd (true≢false (sym t))

pub client_failed : (roster : List Listed) (old new : World) (origin : Origin) (bytes : List ℕ) (why : Why) → is_http (slice_get old.fronts origin.front) ≡ false → Goes old.net new.net none none → Settles old.net new.net → Misses old.net new.net origin.slot bytes why → new ≡ record old { net = new.net }
    → Sends roster old new (Some (Client origin, bytes)) (Failed why)
client_failed roster old new origin bytes why stream goes settles misses same = record {
  goes = goes;
  settles = settles;
  comes = by_stream (is_http (slice_get old.fronts origin.front)) (ComesPost (Failed why)) (ComesClient old.net new.net none origin.slot bytes (Failed why)) stream (missed_client old.net new.net origin.slot bytes why misses);
  handed = nothing_handed old new same;
  failed = missed_device old.net new.net origin.slot bytes why (Rose old.net.told.failures new.net.told.failures) misses;
  same = same_but old new same;
}

pub post_done : (roster : List Listed) (old new : World) (origin : Origin) (bytes : List ℕ) → is_http (slice_get old.fronts origin.front) ≡ true → new.handed ≡ old.handed ++ (origin, bytes) ∷ [] → new ≡ record old { handed = new.handed }
    → Sends roster old new (Some (Client origin, bytes)) (Done ways.Post)
post_done roster old new origin bytes http handed same = record {
  goes = goes_nothing old.net new.net (ap (λ (w : World). w.net) same);
  settles = settles_nothing old.net new.net (ap (λ (w : World). w.net) same);
  comes = by_http (is_http (slice_get old.fronts origin.front)) (ComesPost (Done ways.Post)) (ComesClient old.net new.net none origin.slot bytes (Done ways.Post)) http refl;
  handed = handed;
  failed = no_device (Rose old.net.told.failures new.net.told.failures);
  same = same ∙ ap (λ (z : Net). record old { net = z; handed = new.handed }) (sym (ap (λ (w : World). w.net) same));
}

pub post_gone : (roster : List Listed) (old new : World) (origin : Origin) (bytes : List ℕ) → is_http (slice_get old.fronts origin.front) ≡ true → new ≡ old → Sends roster old new (Some (Client origin, bytes)) (Failed whys.Gone)
post_gone roster old new origin bytes http same = record {
  goes = goes_nothing old.net new.net (ap (λ (w : World). w.net) same);
  settles = settles_nothing old.net new.net (ap (λ (w : World). w.net) same);
  comes = by_http (is_http (slice_get old.fronts origin.front)) (ComesPost (Failed whys.Gone)) (ComesClient old.net new.net none origin.slot bytes (Failed whys.Gone)) http tt;
  handed = ap (λ (w : World). w.handed) same ∙ sym (append-nil old.handed);
  failed = no_device (Rose old.net.told.failures new.net.told.failures);
  same = same_all old new same;
}

pub post_lacking : (roster : List Listed) (old new : World) (origin : Origin) (bytes : List ℕ) → is_http (slice_get old.fronts origin.front) ≡ true → new ≡ old → Sends roster old new (Some (Client origin, bytes)) (Failed whys.NoMemory)
post_lacking roster old new origin bytes http same = record {
  goes = goes_nothing old.net new.net (ap (λ (w : World). w.net) same);
  settles = settles_nothing old.net new.net (ap (λ (w : World). w.net) same);
  comes = by_http (is_http (slice_get old.fronts origin.front)) (ComesPost (Failed whys.NoMemory)) (ComesClient old.net new.net none origin.slot bytes (Failed whys.NoMemory)) http tt;
  handed = ap (λ (w : World). w.handed) same ∙ sym (append-nil old.handed);
  failed = no_device (Rose old.net.told.failures new.net.told.failures);
  same = same_all old new same;
}

pub server_none : (roster : List Listed) (old : World) (server : ServerId) (lane : Lane) (bytes : List ℕ) → end_of server roster ≡ None → Sends roster old old (Some (Server server lane, bytes)) (Failed whys.NoServer)
server_none roster old server lane bytes none_there = record {
  goes = goes_nothing old.net old.net refl;
  settles = settles_nothing old.net old.net refl;
  comes = rw none_there refl;
  handed = sym (append-nil old.handed);
  failed = no_device (Rose old.net.told.failures old.net.told.failures);
  same = refl;
}

pub server_done : (roster : List Listed) (old new : World) (server : ServerId) (lane : Lane) (to : Endpoint) (bytes : List ℕ) (n : ℕ) → end_of server roster ≡ Some to → Goes old.net new.net none (just n bytes) → Settles old.net new.net → IsServers n server lane.number to new.net
    → new ≡ record old { net = new.net } → Sends roster old new (Some (Server server lane, bytes)) (Done (ways.Connection n))
server_done roster old new server lane to bytes n there goes settles is same = record {
  goes = goes;
  settles = settles;
  comes = rw there (n, refl, is);
  handed = nothing_handed old new same;
  failed = no_device (Rose old.net.told.failures new.net.told.failures);
  same = same_but old new same;
}

fits_device : (old new : Net) (server : ServerId) (to : Endpoint) (lane : Lane) (bytes : List ℕ) (why : Why) → FitsServer old new none server to lane bytes why → IsTrue (is_by_device (Failed why)) → Rose old.told.failures new.told.failures
fits_device old new server to lane bytes whys.NoServer is t = absurd (true≢false (sym t))
fits_device old new server to lane bytes whys.Gone is t = absurd (true≢false (sym t))
fits_device old new server to lane bytes whys.Limit is t = absurd (true≢false (sym t))
fits_device old new server to lane bytes whys.Full is t = absurd (true≢false (sym t))
fits_device old new server to lane bytes whys.Device is t = is
fits_device old new server to lane bytes whys.NoMemory is t = absurd (true≢false (sym t))

pub server_failed : (roster : List Listed) (old new : World) (server : ServerId) (lane : Lane) (to : Endpoint) (bytes : List ℕ) (why : Why) → end_of server roster ≡ Some to → Goes old.net new.net none none → Settles old.net new.net → FitsServer old.net new.net none server to lane bytes why
    → new ≡ record old { net = new.net } → Sends roster old new (Some (Server server lane, bytes)) (Failed why)
server_failed roster old new server lane to bytes why there goes settles fits same = record {
  goes = goes;
  settles = settles;
  comes = rw there fits;
  handed = nothing_handed old new same;
  failed = fits_device old.net new.net server to lane bytes why fits;
  same = same_but old new same;
}

pub sends_nothing : (roster : List Listed) (old : World) → Sends roster old old None Nothing
sends_nothing roster old = record {
  goes = goes_nothing old.net old.net refl;
  settles = settles_nothing old.net old.net refl;
  comes = refl;
  handed = sym (append-nil old.handed);
  failed = no_device (Rose old.net.told.failures old.net.told.failures);
  same = refl;
}

pub missed_now : (old new : Net) (n : ℕ) (server : ServerId) (lane : Lane) (to : Endpoint) (bytes : List ℕ) (why : Why) → IsTo n server lane.number to old.table → Goes old new none none → Misses old new n bytes why
    → FitsServer old new none server to lane bytes why
missed_now old new n server lane to bytes why is goes misses = missed_fits old old new n server lane to bytes why (goes_nothing old old refl) is goes misses

pub fits_all : (r : Result ℕ Why) (a b c : Net) (m s : ℕ → List (List ℕ)) (server : ServerId) (to : Endpoint) (lane : Lane) (bytes : List ℕ) → Goes a b none none → Goes b c m s
    → IfErr r (λ why. FitsServer b c none server to lane bytes why) → IfErr r (λ why. FitsServer a c none server to lane bytes why)
fits_all (Ok n) a b c m s server to lane bytes goes later is = tt
fits_all (Err why) a b c m s server to lane bytes goes later is = server_before a b c none none m s none server to lane bytes why goes later is
