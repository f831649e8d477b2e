-- Steps one after the other, and what stays true of them.
use Rattle.std.proofs.Common.{◌≡◌, ℕ, false, inl, inr, List, [], ◌++◌, length, refl, sym, ap, ◌∙◌, arith, subst}
use Rattle.std.proofs.lemmas.List.{append-nil}
use Rattle.lb_loops_connections.specs.Table.{is_client}
use Rattle.lb_loops_connections.specs.declared.connection.Connection.{Connection}
use Rattle.lb_loops_io.specs.declared.endpoint.Endpoint.{Endpoint}
use Rattle.lb_loops_io.specs.declared.report.Why.{Why}
use Rattle.lb_loops_io.specs.declared.report.Why.TheVariants as whys
use Rattle.lb_loops_io.specs.declared.traffic.Peer.{Peer}
use Rattle.lb_loops_io.specs.declared.traffic.Peer.TheVariants as peers
use Rattle.lb_loops_tcp.proofs.Faring.{all_on, longer_by, new_later, over_earlier, peer_on, shut_back, shut_on}
use Rattle.lb_loops_tcp.specs.Goes.{Goes, IsFull, IsOver, Misses, NoClient, NoNumber, both, none}
use Rattle.lb_loops_tcp.specs.Lines.{IsClosed, IsServers}
use Rattle.lb_loops_tcp.specs.Links.{Fares, IsPeer, Link, Net, NewPeer, link}
use Rattle.lb_wire.specs.declared.ids.ServerId.{ServerId}

pub goes_as : (a b : Net) (m n s r : ℕ → List (List ℕ)) → ((c : ℕ) → m c ≡ n c) → ((c : ℕ) → s c ≡ r c) → Goes a b m s → Goes a b n r
goes_as a b m n s r em es g = record {
  fares = λ c. subst (λ (ms : List (List ℕ)). Fares (link c a) (link c b) ms (r c)) (em c) (subst (λ (ss : List (List ℕ)). Fares (link c a) (link c b) (m c) ss) (es c) (g.fares c));
  failures = g.failures;
  next = g.next;
  gone = g.gone;
  came = g.came;
  connected = g.connected;
  turned = g.turned;
  noted = g.noted;
  counted = g.counted;
}

pub goes_before : (a b c : Net) (m s : ℕ → List (List ℕ)) → Goes a b none none → Goes b c m s → Goes a c m s
goes_before a b c m s one two = all_on a b c none m none s one two

pub goes_after : (a b c : Net) (m s : ℕ → List (List ℕ)) → Goes a b m s → Goes b c none none → Goes a c m s
goes_after a b c m s one two = goes_as a c (both m none) m (both s none) s (λ k. append-nil (m k)) (λ k. append-nil (s k)) (all_on a b c m none s none one two)

pub goes_then : (a b c : Net) (m s : ℕ → List (List ℕ)) → Goes a b m none → Goes b c none s → Goes a c m s
goes_then a b c m s one two = goes_as a c (both m none) m s s (λ k. append-nil (m k)) (λ k. refl) (all_on a b c m none none s one two)

-- What ended stays ended.

pub over_later : (n : ℕ) (a b c : Net) (m s : ℕ → List (List ℕ)) → Goes b c m s → IsOver n a b → IsOver n a c
over_later n a b c m s two (inl is) = inl (shut_on (link n b) (link n c) (m n) (s n) (two.fares n) is)
over_later n a b c m s two (inr le) = inr le

pub over_before : (n : ℕ) (a b c : Net) (m s : ℕ → List (List ℕ)) → Goes a b m s → IsOver n b c → IsOver n a c
over_before n a b c m s one (inl is) = inl is
over_before n a b c m s one (inr le) = let next = one.next in inr (omega (arith, next, le))

pub full_later : (n : ℕ) (a b c : Net) (m s : ℕ → List (List ℕ)) (sends : List (List ℕ)) (message : List ℕ) → Goes b c m s → IsFull n a b sends message → IsFull n a c sends message
full_later n a b c m s sends message two full = (full.0, shut_on (link n b) (link n c) (m n) (s n) (two.fares n) full.1, full.2)

pub full_before : (n : ℕ) (a b c : Net) (m s : ℕ → List (List ℕ)) (sends : List (List ℕ)) (message : List ℕ) → Goes a b m s → IsFull n b c sends message → IsFull n a c (s n ++ sends) message
full_before n a b c m s sends message one full = (
  shut_back (link n a) (link n b) (m n) (s n) (one.fares n) full.0,
  full.1,
  over_earlier (link n a) (link n b) (s n) sends message (one.fares n).taken ((one.fares n).promised full.0) full.2,
)

pub closed_later : (n : ℕ) (a b c : Net) (m s : ℕ → List (List ℕ)) → Goes b c m s → IsClosed n a b → IsClosed n a c
closed_later n a b c m s two is = (is.0, shut_on (link n b) (link n c) (m n) (s n) (two.fares n) is.1)

pub closed_before : (n : ℕ) (a b c : Net) (m s : ℕ → List (List ℕ)) → Goes a b m s → IsClosed n b c → IsClosed n a c
closed_before n a b c m s one is = (shut_back (link n a) (link n b) (m n) (s n) (one.fares n) is.0, is.1)

pub number_later : (a b c : Net) (m s : ℕ → List (List ℕ)) → Goes b c m s → NoNumber a b → NoNumber a c
number_later a b c m s two (inl passed) = let next = two.next in inl (omega (arith, next, passed))
number_later a b c m s two (inr used) = let next = two.next in inr (omega (arith, next, used))

pub number_before : (a b c : Net) (m s : ℕ → List (List ℕ)) → Goes a b m s → NoNumber b c → NoNumber a c
number_before a b c m s one (inl passed) = let next = one.next in inl (omega (arith, next, passed))
number_before a b c m s one (inr used) = inr used

-- Who is there stays there.

pub peer_before : (n : ℕ) (a b c : Net) (m s r q : ℕ → List (List ℕ)) (peer : Peer) → Goes a b m s → Goes b c r q → IsPeer (link n b) (link n c) peer → IsPeer (link n a) (link n c) peer
peer_before n a b c m s r q peer one two is = peer_on (link n a) (link n b) (link n c) (m n) (r n) (s n) (q n) peer (one.fares n) (two.fares n) is

pub peer_later : (n : ℕ) (a b c : Net) (r q : ℕ → List (List ℕ)) (peer : Peer) → Goes b c r q → IsPeer (link n a) (link n b) peer → IsPeer (link n a) (link n c) peer
peer_later n a b c r q peer two (inl was) = inl was
peer_later n a b c r q peer two (inr new) = inr (new_later (link n a) (link n b) (link n c) peer (two.fares n).came (two.fares n).dialed new)

never_new : (a b : Link) (peer : Peer) → b.came ≡ a.came → b.dialed ≡ a.dialed → NewPeer a b peer → ⊥
never_new a b (peers.Client front from) came dialed new = let same : length b.came ≡ length a.came = ap (λ zs. length zs) came in let lt = longer_by a.came b.came new.0 (front, from) new.1 new.2 in omega (arith, same, lt)
never_new a b (peers.Server server number to) came dialed new = let same : length b.dialed ≡ length a.dialed = ap (λ zs. length zs) dialed in let lt = longer_by a.dialed b.dialed new.0 to new.1 new.2 in omega (arith, same, lt)

was_server : (n : ℕ) (b c : Net) (r q : ℕ → List (List ℕ)) (server : ServerId) (number : ℕ) (to : Endpoint) (y : Connection) → Goes b c r q → IsServers n server number to b → IsPeer (link n b) (link n c) y.peer → y.peer ≡ peers.Server server number to
was_server n b c r q server number to y two is (inl was) = sym was.2 ∙ is.1 was.0 was.1
was_server n b c r q server number to y two is (inr new) = absurd (never_new (link n b) (link n c) y.peer ((two.fares n).once is.0).0 ((two.fares n).once is.0).1 new)

pub servers_later : (n : ℕ) (b c : Net) (r q : ℕ → List (List ℕ)) (server : ServerId) (number : ℕ) (to : Endpoint) → Goes b c r q → IsServers n server number to b → IsServers n server number to c
servers_later n b c r q server number to two is = ((two.fares n).below is.0, λ y e. was_server n b c r q server number to y two is ((two.fares n).own y e).peer)

no_client_was : (n : ℕ) (b c : Net) (r q : ℕ → List (List ℕ)) (y : Connection) → Goes b c r q → NoClient n b → IsPeer (link n b) (link n c) y.peer → is_client y.peer ≡ false
no_client_was n b c r q y two is (inl was) = ap (λ (p : Peer). is_client p) (sym was.2) ∙ is.1 was.0 was.1
no_client_was n b c r q y two is (inr new) = absurd (never_new (link n b) (link n c) y.peer ((two.fares n).once is.0).0 ((two.fares n).once is.0).1 new)

-- No client is connected under a number that has none, once it was given.
pub no_client_later : (n : ℕ) (b c : Net) (r q : ℕ → List (List ℕ)) → Goes b c r q → NoClient n b → NoClient n c
no_client_later n b c r q two is = ((two.fares n).below is.0, λ y e. no_client_was n b c r q y two is ((two.fares n).own y e).peer)

-- Why a message was not put after, where nothing was sent before.
pub misses_before : (a b c : Net) (n : ℕ) (message : List ℕ) (why : Why) → Goes a b none none → Misses b c n message why → Misses a c n message why
misses_before a b c n message whys.NoServer one is = is
misses_before a b c n message whys.Gone one is = over_before n a b c none none one is
misses_before a b c n message whys.Limit one is = full_before n a b c none none [] message one is
misses_before a b c n message whys.Full one is = is
misses_before a b c n message whys.Device one is = is
misses_before a b c n message whys.NoMemory one is = is

-- The same, where nothing was sent after.
pub misses_later : (a b c : Net) (n : ℕ) (message : List ℕ) (why : Why) → Goes b c none none → Misses a b n message why → Misses a c n message why
misses_later a b c n message whys.NoServer two is = is
misses_later a b c n message whys.Gone two is = over_later n a b c none none two is
misses_later a b c n message whys.Limit two is = full_later n a b c none none [] message two is
misses_later a b c n message whys.Full two is = is
misses_later a b c n message whys.Device two is = is
misses_later a b c n message whys.NoMemory two is = no_client_later n b c none none two is
