-- What lines say of a time stays true of a longer one.
use Rattle.std.proofs.Common.{◌≡◌, ℕ, ◌⊎◌, inl, inr, Bool, true, false, List, [], ◌∷◌, ◌++◌, Option, Some, None, sym, ap, ◌∙◌, subst, append_assoc}
use Rattle.std.specs.Prelude.{slice_get}
use Rattle.std.proofs.lemmas.List.{append-nil}
use Rattle.lb_loops_io.specs.Letter.{Letter, job_letter, outcome_letter}
use Rattle.lb_loops_io.specs.Roster.{end_of}
use Rattle.lb_loops_io.specs.Ways.{letter_of, message_in, sending_of}
use Rattle.lb_loops_io.specs.declared.endpoint.Endpoint.{Endpoint}
use Rattle.lb_loops_io.specs.declared.letter.End.TheVariants.{Client, Server}
use Rattle.lb_loops_io.specs.declared.report.Line.{Line}
use Rattle.lb_loops_io.specs.declared.report.Line.TheVariants as lines
use Rattle.lb_loops_io.specs.declared.report.Sending.{Sending}
use Rattle.lb_loops_io.specs.declared.report.Sending.TheVariants.{Done, Failed, Nothing}
use Rattle.lb_loops_io.specs.declared.report.Why.{Why}
use Rattle.lb_loops_io.specs.declared.report.Why.TheVariants as whys
use Rattle.lb_loops_io.specs.declared.roster.Listed.{Listed}
use Rattle.lb_loops_io.specs.declared.traffic.Service.{Service}
use Rattle.lb_loops_io.specs.declared.traffic.Peer.TheVariants as peers
use Rattle.lb_loops_tcp.proofs.Faring.{rose_earlier, rose_later}
use Rattle.lb_loops_tcp.proofs.Then.{closed_before, closed_later, full_before, full_later, no_client_later, number_before, number_later, over_before, over_later, peer_before, peer_later, servers_later}
use Rattle.lb_loops_tcp.specs.Goes.{Goes, IsFull, NoNumber, both, none}
use Rattle.lb_loops_tcp.specs.Lines.{AreLines, Comes, ComesClient, ComesPost, ComesServer, ComesTo, FitsConnection, FitsServer, IsClosed, IsLine, IsMeant, by_front, is_http, sends_to}
use Rattle.lb_loops_tcp.specs.Links.{Net}
use Rattle.lb_wire.specs.declared.ids.ServerId.{ServerId}
use Rattle.lb_wire.specs.declared.transport.Lane.{Lane}

-- Later.

fits_later : (a b c : Net) (m s sends : ℕ → List (List ℕ)) (n : ℕ) (bytes : List ℕ) (why : Why) → Goes b c m s → FitsConnection a b sends n bytes why → FitsConnection a c sends n bytes why
fits_later a b c m s sends n bytes whys.NoServer two is = is
fits_later a b c m s sends n bytes whys.Gone two is = over_later n a b c m s two is
fits_later a b c m s sends n bytes whys.Limit two is = full_later n a b c m s (sends n) bytes two is
fits_later a b c m s sends n bytes whys.Full two is = is
fits_later a b c m s sends n bytes whys.Device two is = is
fits_later a b c m s sends n bytes whys.NoMemory two is = no_client_later n b c m s two is

gone_later : (a b c : Net) (m s : ℕ → List (List ℕ)) (server : ServerId) (number : ℕ) (to : Endpoint) (X : Type 0) → Goes b c m s
    → X ⊎ (NoNumber a b ⊎ ((n : ℕ) × (IsMeant n a b server number to × IsClosed n a b))) → X ⊎ (NoNumber a c ⊎ ((n : ℕ) × (IsMeant n a c server number to × IsClosed n a c)))
gone_later a b c m s server number to X two (inl is) = inl is
gone_later a b c m s server number to X two (inr (inl none)) = inr (inl (number_later a b c m s two none))
gone_later a b c m s server number to X two (inr (inr closed)) =
    inr (inr (closed.0, (peer_later closed.0 a b c m s (peers.Server server number to) two closed.1.0, closed_later closed.0 a b c m s two closed.1.1)))

server_later : (a b c : Net) (m s sends : ℕ → List (List ℕ)) (server : ServerId) (to : Endpoint) (lane : Lane) (bytes : List ℕ) (why : Why) → Goes b c m s
    → FitsServer a b sends server to lane bytes why → FitsServer a c sends server to lane bytes why
server_later a b c m s sends server to lane bytes whys.NoServer two is = is
server_later a b c m s sends server to lane bytes whys.Gone two is = gone_later a b c m s server lane.number to _ two is
server_later a b c m s sends server to lane bytes whys.Limit two is =
    (is.0, (peer_later is.0 a b c m s (peers.Server server lane.number to) two is.1.0, full_later is.0 a b c m s (sends is.0) bytes two is.1.1))
server_later a b c m s sends server to lane bytes whys.Full two is = is
server_later a b c m s sends server to lane bytes whys.Device two is = rose_later a.told.failures b.told.failures c.told.failures is two.failures
server_later a b c m s sends server to lane bytes whys.NoMemory two is = tt

client_comes_later : (a b c : Net) (m s sends : ℕ → List (List ℕ)) (n : ℕ) (bytes : List ℕ) (sending : Sending) → Goes b c m s → ComesClient a b sends n bytes sending → ComesClient a c sends n bytes sending
client_comes_later a b c m s sends n bytes Nothing two is = is
client_comes_later a b c m s sends n bytes (Done way) two is = is
client_comes_later a b c m s sends n bytes (Failed why) two is = fits_later a b c m s sends n bytes why two is

server_comes_later : (a b c : Net) (m s sends : ℕ → List (List ℕ)) (server : ServerId) (lane : Lane) (to : Option Endpoint) (bytes : List ℕ) (sending : Sending) → Goes b c m s
    → ComesServer a b sends server lane to bytes sending → ComesServer a c sends server lane to bytes sending
server_comes_later a b c m s sends server lane None bytes sending two is = is
server_comes_later a b c m s sends server lane (Some to) bytes Nothing two is = is
server_comes_later a b c m s sends server lane (Some to) bytes (Done way) two is = (is.0, is.1, servers_later is.0 b c m s server lane.number to two is.2)
server_comes_later a b c m s sends server lane (Some to) bytes (Failed why) two is = server_later a b c m s sends server to lane bytes why two is

either_later : (http : Bool) (X Y Z : Type 0) → (Y → Z) → by_front http X Y → by_front http X Z
either_later true X Y Z f is = is
either_later false X Y Z f is = f is

to_later : (listens : List Service) (roster : List Listed) (a b c : Net) (m s sends : ℕ → List (List ℕ)) (letter : Letter) (sending : Sending) → Goes b c m s → ComesTo listens roster a b sends letter sending → ComesTo listens roster a c sends letter sending
to_later listens roster a b c m s sends (Client origin, bytes) sending two is =
    either_later (is_http (slice_get listens origin.front)) (ComesPost sending) (ComesClient a b sends origin.slot bytes sending) (ComesClient a c sends origin.slot bytes sending) (client_comes_later a b c m s sends origin.slot bytes sending two) is
to_later listens roster a b c m s sends (Server server lane, bytes) sending two is = server_comes_later a b c m s sends server lane (end_of server roster) bytes sending two is

pub comes_later : (listens : List Service) (roster : List Listed) (a b c : Net) (m s sends : ℕ → List (List ℕ)) (letter : Option Letter) (sending : Sending) → Goes b c m s
    → Comes listens roster a b sends letter sending → Comes listens roster a c sends letter sending
comes_later listens roster a b c m s sends None sending two is = is
comes_later listens roster a b c m s sends (Some letter) sending two is = to_later listens roster a b c m s sends letter sending two is

-- Before.

fits_before : (a b c : Net) (m s sends : ℕ → List (List ℕ)) (n : ℕ) (bytes : List ℕ) (why : Why) → Goes a b m s → FitsConnection b c sends n bytes why → FitsConnection a c (both s sends) n bytes why
fits_before a b c m s sends n bytes whys.NoServer one is = is
fits_before a b c m s sends n bytes whys.Gone one is = over_before n a b c m s one is
fits_before a b c m s sends n bytes whys.Limit one is = full_before n a b c m s (sends n) bytes one is
fits_before a b c m s sends n bytes whys.Full one is = is
fits_before a b c m s sends n bytes whys.Device one is = is
fits_before a b c m s sends n bytes whys.NoMemory one is = is

gone_before : (a b c : Net) (m s r q : ℕ → List (List ℕ)) (server : ServerId) (number : ℕ) (to : Endpoint) (X : Type 0) → Goes a b m s → Goes b c r q
    → X ⊎ (NoNumber b c ⊎ ((n : ℕ) × (IsMeant n b c server number to × IsClosed n b c))) → X ⊎ (NoNumber a c ⊎ ((n : ℕ) × (IsMeant n a c server number to × IsClosed n a c)))
gone_before a b c m s r q server number to X one two (inl is) = inl is
gone_before a b c m s r q server number to X one two (inr (inl none)) = inr (inl (number_before a b c m s one none))
gone_before a b c m s r q server number to X one two (inr (inr closed)) =
    inr (inr (closed.0, (peer_before closed.0 a b c m s r q (peers.Server server number to) one two closed.1.0, closed_before closed.0 a b c m s one closed.1.1)))

pub server_before : (a b c : Net) (m s r q sends : ℕ → List (List ℕ)) (server : ServerId) (to : Endpoint) (lane : Lane) (bytes : List ℕ) (why : Why) → Goes a b m s → Goes b c r q
    → FitsServer b c sends server to lane bytes why → FitsServer a c (both s sends) server to lane bytes why
server_before a b c m s r q sends server to lane bytes whys.NoServer one two is = is
server_before a b c m s r q sends server to lane bytes whys.Gone one two is = gone_before a b c m s r q server lane.number to _ one two is
server_before a b c m s r q sends server to lane bytes whys.Limit one two is =
    (is.0, (peer_before is.0 a b c m s r q (peers.Server server lane.number to) one two is.1.0, full_before is.0 a b c m s (sends is.0) bytes one is.1.1))
server_before a b c m s r q sends server to lane bytes whys.Full one two is = is
server_before a b c m s r q sends server to lane bytes whys.Device one two is = rose_earlier a.told.failures b.told.failures c.told.failures one.failures is
server_before a b c m s r q sends server to lane bytes whys.NoMemory one two is = tt

client_comes_before : (a b c : Net) (m s sends : ℕ → List (List ℕ)) (n : ℕ) (bytes : List ℕ) (sending : Sending) → Goes a b m s → ComesClient b c sends n bytes sending → ComesClient a c (both s sends) n bytes sending
client_comes_before a b c m s sends n bytes Nothing one is = is
client_comes_before a b c m s sends n bytes (Done way) one is = is
client_comes_before a b c m s sends n bytes (Failed why) one is = fits_before a b c m s sends n bytes why one is

server_comes_before : (a b c : Net) (m s r q sends : ℕ → List (List ℕ)) (server : ServerId) (lane : Lane) (to : Option Endpoint) (bytes : List ℕ) (sending : Sending) → Goes a b m s → Goes b c r q
    → ComesServer b c sends server lane to bytes sending → ComesServer a c (both s sends) server lane to bytes sending
server_comes_before a b c m s r q sends server lane None bytes sending one two is = is
server_comes_before a b c m s r q sends server lane (Some to) bytes Nothing one two is = is
server_comes_before a b c m s r q sends server lane (Some to) bytes (Done way) one two is = is
server_comes_before a b c m s r q sends server lane (Some to) bytes (Failed why) one two is = server_before a b c m s r q sends server to lane bytes why one two is

to_before : (listens : List Service) (roster : List Listed) (a b c : Net) (m s r q sends : ℕ → List (List ℕ)) (letter : Letter) (sending : Sending) → Goes a b m s → Goes b c r q → ComesTo listens roster b c sends letter sending → ComesTo listens roster a c (both s sends) letter sending
to_before listens roster a b c m s r q sends (Client origin, bytes) sending one two is =
    either_later (is_http (slice_get listens origin.front)) (ComesPost sending) (ComesClient b c sends origin.slot bytes sending) (ComesClient a c (both s sends) origin.slot bytes sending) (client_comes_before a b c m s sends origin.slot bytes sending one) is
to_before listens roster a b c m s r q sends (Server server lane, bytes) sending one two is = server_comes_before a b c m s r q sends server lane (end_of server roster) bytes sending one two is

pub comes_before : (listens : List Service) (roster : List Listed) (a b c : Net) (m s r q sends : ℕ → List (List ℕ)) (letter : Option Letter) (sending : Sending) → Goes a b m s → Goes b c r q
    → Comes listens roster b c sends letter sending → Comes listens roster a c (both s sends) letter sending
comes_before listens roster a b c m s r q sends None sending one two is = is
comes_before listens roster a b c m s r q sends (Some letter) sending one two is = to_before listens roster a b c m s r q sends letter sending one two is

-- Spelled otherwise.

full_as : (n : ℕ) (a b : Net) (x y : List (List ℕ)) (bytes : List ℕ) → x ≡ y → IsFull n a b x bytes → IsFull n a b y bytes
full_as n a b x y bytes e is = subst (λ (zs : List (List ℕ)). IsFull n a b zs bytes) e is

fits_as : (a b : Net) (s r : ℕ → List (List ℕ)) (n : ℕ) (bytes : List ℕ) (why : Why) → ((c : ℕ) → s c ≡ r c) → FitsConnection a b s n bytes why → FitsConnection a b r n bytes why
fits_as a b s r n bytes whys.NoServer e is = is
fits_as a b s r n bytes whys.Gone e is = is
fits_as a b s r n bytes whys.Limit e is = full_as n a b (s n) (r n) bytes (e n) is
fits_as a b s r n bytes whys.Full e is = is
fits_as a b s r n bytes whys.Device e is = is
fits_as a b s r n bytes whys.NoMemory e is = is

server_as : (a b : Net) (s r : ℕ → List (List ℕ)) (server : ServerId) (to : Endpoint) (lane : Lane) (bytes : List ℕ) (why : Why) → ((c : ℕ) → s c ≡ r c) → FitsServer a b s server to lane bytes why → FitsServer a b r server to lane bytes why
server_as a b s r server to lane bytes whys.NoServer e is = is
server_as a b s r server to lane bytes whys.Gone e is = is
server_as a b s r server to lane bytes whys.Limit e is = (is.0, (is.1.0, full_as is.0 a b (s is.0) (r is.0) bytes (e is.0) is.1.1))
server_as a b s r server to lane bytes whys.Full e is = is
server_as a b s r server to lane bytes whys.Device e is = is
server_as a b s r server to lane bytes whys.NoMemory e is = is

client_comes_as : (a b : Net) (s r : ℕ → List (List ℕ)) (n : ℕ) (bytes : List ℕ) (sending : Sending) → ((c : ℕ) → s c ≡ r c) → ComesClient a b s n bytes sending → ComesClient a b r n bytes sending
client_comes_as a b s r n bytes Nothing e is = is
client_comes_as a b s r n bytes (Done way) e is = is
client_comes_as a b s r n bytes (Failed why) e is = fits_as a b s r n bytes why e is

server_comes_as : (a b : Net) (s r : ℕ → List (List ℕ)) (server : ServerId) (lane : Lane) (to : Option Endpoint) (bytes : List ℕ) (sending : Sending) → ((c : ℕ) → s c ≡ r c) → ComesServer a b s server lane to bytes sending → ComesServer a b r server lane to bytes sending
server_comes_as a b s r server lane None bytes sending e is = is
server_comes_as a b s r server lane (Some to) bytes Nothing e is = is
server_comes_as a b s r server lane (Some to) bytes (Done way) e is = is
server_comes_as a b s r server lane (Some to) bytes (Failed why) e is = server_as a b s r server to lane bytes why e is

pub comes_as : (listens : List Service) (roster : List Listed) (a b : Net) (s r : ℕ → List (List ℕ)) (letter : Option Letter) (sending : Sending) → ((c : ℕ) → s c ≡ r c) → Comes listens roster a b s letter sending → Comes listens roster a b r letter sending
comes_as listens roster a b s r None sending e is = is
comes_as listens roster a b s r (Some (Client origin, bytes)) sending e is =
    either_later (is_http (slice_get listens origin.front)) (ComesPost sending) (ComesClient a b s origin.slot bytes sending) (ComesClient a b r origin.slot bytes sending) (client_comes_as a b s r origin.slot bytes sending e) is
comes_as listens roster a b s r (Some (Server server lane, bytes)) sending e is = server_comes_as a b s r server lane (end_of server roster) bytes sending e is

-- Lines.

line_later : (listens : List Service) (roster : List Listed) (a b c : Net) (m s sends : ℕ → List (List ℕ)) (line : Line) → Goes b c m s → IsLine listens roster a b sends line → IsLine listens roster a c sends line
line_later listens roster a b c m s sends (lines.Event source event outcome sending) two is = (
  (is.0.0, is.0.1, record { peer = is.0.2.peer; is = peer_later is.0.0 a b c m s is.0.2.peer two is.0.2.is; now = is.0.2.now; word = is.0.2.word; bytes = is.0.2.bytes; made = is.0.2.made }),
  is.1,
  comes_later listens roster a b c m s sends (outcome_letter event outcome) sending two is.2,
)
line_later listens roster a b c m s sends (lines.Job job sending) two is = comes_later listens roster a b c m s sends (Some (job_letter job)) sending two is
line_later listens roster a b c m s sends (lines.Probe server word sending) two is = is

line_before : (listens : List Service) (roster : List Listed) (a b c : Net) (m s r q sends : ℕ → List (List ℕ)) (line : Line) → Goes a b m s → Goes b c r q → IsLine listens roster b c sends line → IsLine listens roster a c (both s sends) line
line_before listens roster a b c m s r q sends (lines.Event source event outcome sending) one two is = (
  (is.0.0, is.0.1, record { peer = is.0.2.peer; is = peer_before is.0.0 a b c m s r q is.0.2.peer one two is.0.2.is; now = is.0.2.now; word = is.0.2.word; bytes = is.0.2.bytes; made = is.0.2.made }),
  is.1,
  comes_before listens roster a b c m s r q sends (outcome_letter event outcome) sending one two is.2,
)
line_before listens roster a b c m s r q sends (lines.Job job sending) one two is = comes_before listens roster a b c m s r q sends (Some (job_letter job)) sending one two is
line_before listens roster a b c m s r q sends (lines.Probe server word sending) one two is = is

line_as : (listens : List Service) (roster : List Listed) (a b : Net) (s r : ℕ → List (List ℕ)) (line : Line) → ((c : ℕ) → s c ≡ r c) → IsLine listens roster a b s line → IsLine listens roster a b r line
line_as listens roster a b s r (lines.Event source event outcome sending) e is = (is.0, is.1, comes_as listens roster a b s r (outcome_letter event outcome) sending e is.2)
line_as listens roster a b s r (lines.Job job sending) e is = comes_as listens roster a b s r (Some (job_letter job)) sending e is
line_as listens roster a b s r (lines.Probe server word sending) e is = is

are_later : (listens : List Service) (roster : List Listed) (a b c : Net) (m s sends : ℕ → List (List ℕ)) (ls : List Line) → Goes b c m s → AreLines listens roster a b sends ls → AreLines listens roster a c sends ls
are_later listens roster a b c m s sends [] two is = tt
are_later listens roster a b c m s sends (l ∷ ls) two is = (line_later listens roster a b c m s sends l two is.0, are_later listens roster a b c m s (both sends (sends_to (l ∷ []))) ls two is.1)

are_as : (listens : List Service) (roster : List Listed) (a b : Net) (s r : ℕ → List (List ℕ)) (ls : List Line) → ((c : ℕ) → s c ≡ r c) → AreLines listens roster a b s ls → AreLines listens roster a b r ls
are_as listens roster a b s r [] e is = tt
are_as listens roster a b s r (l ∷ ls) e is = (
  line_as listens roster a b s r l e is.0,
  are_as listens roster a b (both s (sends_to (l ∷ []))) (both r (sends_to (l ∷ []))) ls (λ c. ap (λ zs. zs ++ sends_to (l ∷ []) c) (e c)) is.1,
)

are_before : (listens : List Service) (roster : List Listed) (a b c : Net) (m s r q sends : ℕ → List (List ℕ)) (ls : List Line) → Goes a b m s → Goes b c r q → AreLines listens roster b c sends ls → AreLines listens roster a c (both s sends) ls
are_before listens roster a b c m s r q sends [] one two is = tt
are_before listens roster a b c m s r q sends (l ∷ ls) one two is = (
  line_before listens roster a b c m s r q sends l one two is.0,
  are_as listens roster a c (both s (both sends (sends_to (l ∷ [])))) (both (both s sends) (sends_to (l ∷ []))) ls (λ k. sym (append_assoc (s k) (sends k) (sends_to (l ∷ []) k)))
      (are_before listens roster a b c m s r q (both sends (sends_to (l ∷ []))) ls one two is.1),
)

sends_of_one : (l : Line) (ls : List Line) (c : ℕ) → sends_to (l ∷ []) c ++ sends_to ls c ≡ sends_to (l ∷ ls) c
sends_of_one l ls c = ap (λ zs. zs ++ sends_to ls c) (append-nil (message_in c (letter_of l) (sending_of l)))

are_joined : (listens : List Service) (roster : List Listed) (a c : Net) (sends : ℕ → List (List ℕ)) (ls xs : List Line) → AreLines listens roster a c sends ls → AreLines listens roster a c (both sends (sends_to ls)) xs → AreLines listens roster a c sends (ls ++ xs)
are_joined listens roster a c sends [] xs one two = are_as listens roster a c (both sends (sends_to [])) sends xs (λ k. append-nil (sends k)) two
are_joined listens roster a c sends (l ∷ ls) xs one two = (
  one.0,
  are_joined listens roster a c (both sends (sends_to (l ∷ []))) ls xs one.1
      (are_as listens roster a c (both sends (sends_to (l ∷ ls))) (both (both sends (sends_to (l ∷ []))) (sends_to ls)) xs
      (λ k. ap (λ zs. sends k ++ zs) (sym (sends_of_one l ls k)) ∙ sym (append_assoc (sends k) (sends_to (l ∷ []) k) (sends_to ls k))) two),
)

pub are_on : (listens : List Service) (roster : List Listed) (a b c : Net) (m r : ℕ → List (List ℕ)) (ls xs : List Line) → Goes a b m (sends_to ls) → Goes b c r (sends_to xs)
    → AreLines listens roster a b none ls → AreLines listens roster b c none xs → AreLines listens roster a c none (ls ++ xs)
are_on listens roster a b c m r ls xs one two first second = are_joined listens roster a c none ls xs
    (are_later listens roster a b c r (sends_to xs) none ls two first)
    (are_as listens roster a c (both (sends_to ls) none) (sends_to ls) xs (λ k. append-nil (sends_to ls k)) (are_before listens roster a b c m (sends_to ls) r (sends_to xs) none xs one two second))
