-- How a connection fares in two steps, it fares in all.
use Rattle.std.proofs.Common.{◌≡◌, ℕ, ◌+◌, ◌<◌, ◌≤◌, ⊎_elim, inl, inr, Bool, true, false, true≢false, List, [], ◌∷◌, ◌++◌, length, Option, Some, None, refl, sym, ap, ◌∙◌, subst, arith, append_assoc}
use Rattle.std.specs.Prelude.{◌&&◌}
use Rattle.std.specs.List.{Contains}
use Rattle.std.proofs.lemmas.Grind.{flat_map-append}
use Rattle.std.proofs.lemmas.List.{append-nil, length-append}
use Rattle.std.proofs.lemmas.List.Elements.{Contains-append_left, Contains-append_right}
use Rattle.lb_loops_connections.specs.Table.{clients, is_client, is_none}
use Rattle.lb_loops_connections.specs.declared.connection.Connection.{Connection}
use Rattle.lb_loops_frames.specs.Frames.{AreMessages, framed, frames}
use Rattle.lb_loops_io.specs.Counts.{Fails, Rose}
use Rattle.lb_loops_io.specs.Moves.{Client}
use Rattle.lb_loops_io.specs.declared.endpoint.Endpoint.{Endpoint}
use Rattle.lb_loops_io.specs.declared.report.DeviceFault.{DeviceFault}
use Rattle.lb_loops_io.specs.declared.report.DeviceFault.TheVariants as devices
use Rattle.lb_loops_io.specs.declared.traffic.Peer.{Peer}
use Rattle.lb_loops_io.specs.declared.traffic.Peer.TheVariants as peers
use Rattle.lb_loops_tcp.specs.Goes.{GoesOn, Notes, TurnsAway}
use Rattle.lb_loops_tcp.specs.Links.{Fares, HasBeen, HasEnded, Heard, IsPeer, Leaves, Link, Net, NewPeer, Over, Own, Promised, Still, WasServer, held, link, shut, unwritten}

-- Lists and counts.

grown : {A : Type 0} (x y z p q : List A) → y ≡ x ++ p → z ≡ y ++ q → z ≡ x ++ (p ++ q)
grown x y z p q e f = f ∙ ap (λ zs. zs ++ q) e ∙ append_assoc x p q

nil_on : {A : Type 0} (x y : List A) → x ≡ [] → y ≡ [] → x ++ y ≡ []
nil_on x y e f = ap (λ zs. zs ++ y) e ∙ f

frames_on : (ms ns : List (List ℕ)) → frames (ms ++ ns) ≡ frames ms ++ frames ns
frames_on ms ns = flat_map-append framed ms ns

are_on : (ms ns : List (List ℕ)) → AreMessages ms → AreMessages ns → AreMessages (ms ++ ns)
are_on [] ns all more = more
are_on (m ∷ ms) ns all more = (all.0, are_on ms ns all.1 more)

pub rose_later : (a b c : ℕ) → Rose a b → b ≤ c → Rose a c
rose_later a b c (inl lt) le = inl (omega arith)
rose_later a b c (inr most) le = inr (omega arith)

pub rose_earlier : (a b c : ℕ) → a ≤ b → Rose b c → Rose a c
rose_earlier a b c le (inl lt) = inl (omega arith)
rose_earlier a b c le (inr most) = inr most

pub longer : {A : Type 0} (x y p : List A) → y ≡ x ++ p → length x ≤ length y
longer x y p e = let all : length y ≡ length x + length p = ap (λ zs. length zs) e ∙ length-append x p in omega arith

pub longer_by : {A : Type 0} (x y p : List A) (z : A) → y ≡ x ++ p → Contains p z → length x < length y
longer_by x y p z e has = let all : length y ≡ length x + length p = ap (λ zs. length zs) e ∙ length-append x p in let some = has.1 in omega arith

-- What is shut.

and_true : (b c : Bool) → (b && c) ≡ true → (b ≡ true) × (c ≡ true)
and_true true true e = (refl, refl)
and_true true false e = absurd (true≢false (sym e))
and_true false c e = absurd (true≢false (sym e))

none_is : (o : Option Connection) → is_none o ≡ true → o ≡ None
none_is None e = refl
none_is (Some x) e = absurd (true≢false (sym e))

shut_is : (a : Link) → a.below ≡ true → a.here ≡ None → shut a ≡ true
shut_is a below here = ap (λ (b : Bool). b && is_none a.here) below ∙ ap is_none here

false_back : (b c : Bool) → (b ≡ true → c ≡ true) → c ≡ false → b ≡ false
false_back true c on e = absurd (true≢false (sym (on refl) ∙ e))
false_back false c on e = refl

pub shut_on : (a b : Link) (m s : List (List ℕ)) → Fares a b m s → shut a ≡ true → shut b ≡ true
shut_on a b m s one is = let parts = and_true a.below (is_none a.here) is in shut_is b (one.below parts.0) (one.stays is).here

pub shut_back : (a b : Link) (m s : List (List ℕ)) → Fares a b m s → shut b ≡ false → shut a ≡ false
shut_back a b m s one is = false_back (shut a) (shut b) (shut_on a b m s one) is

still_on : (a b c : Link) (m n s r : List (List ℕ)) → Still a b m s → Still b c n r → Still a c (m ++ n) (s ++ r)
still_on a b c m n s r one two = record {
  given = two.given ∙ one.given;
  taken = two.taken ∙ one.taken;
  failed = two.failed ∙ one.failed;
  lacked = two.lacked ∙ one.lacked;
  refused = two.refused ∙ one.refused;
  here = two.here;
  no_messages = nil_on m n one.no_messages two.no_messages;
  no_sends = nil_on s r one.no_sends two.no_sends;
}

-- What was heard and what was promised.

heard_on : (a b c : Link) (rest : List ℕ) (m n : List (List ℕ)) → Heard a b (held b.here) m → Heard b c rest n → Heard a c rest (m ++ n)
heard_on a b c rest m n one two = record {
  gave = one.gave ++ two.gave;
  given = grown a.given b.given c.given one.gave two.gave one.given two.given;
  are = are_on m n one.are two.are;
  told = sym (append_assoc (held a.here) one.gave two.gave) ∙ ap (λ zs. zs ++ two.gave) one.told ∙ append_assoc (frames m) (held b.here) two.gave ∙ ap (λ zs. frames m ++ zs) two.told
      ∙ sym (append_assoc (frames m) (frames n) rest) ∙ ap (λ zs. zs ++ rest) (sym (frames_on m n));
}

promised_on : (a b c : Link) (rest : List ℕ) (s r : List (List ℕ)) → Promised a b (unwritten b.here) s → Promised b c rest r → Promised a c rest (s ++ r)
promised_on a b c rest s r one two = two ∙ ap (λ zs. zs ++ frames r) one ∙ append_assoc (a.taken ++ unwritten a.here) (frames s) (frames r) ∙ ap (λ zs. (a.taken ++ unwritten a.here) ++ zs) (sym (frames_on s r))

-- Who is there.

pub new_later : (a b c : Link) (peer : Peer) → ((more : List Client) × (c.came ≡ b.came ++ more)) → ((more : List Endpoint) × (c.dialed ≡ b.dialed ++ more)) → NewPeer a b peer → NewPeer a c peer
new_later a b c (peers.Client front from) came dialed new = (new.0 ++ came.0, grown a.came b.came c.came new.0 came.0 new.1 came.1, Contains-append_left new.0 came.0 (front, from) new.2)
new_later a b c (peers.Server server number to) came dialed new = (new.0 ++ dialed.0, grown a.dialed b.dialed c.dialed new.0 dialed.0 new.1 dialed.1, Contains-append_left new.0 dialed.0 to new.2)

new_earlier : (a b c : Link) (peer : Peer) → ((more : List Client) × (b.came ≡ a.came ++ more)) → ((more : List Endpoint) × (b.dialed ≡ a.dialed ++ more)) → NewPeer b c peer → NewPeer a c peer
new_earlier a b c (peers.Client front from) came dialed new = (came.0 ++ new.0, grown a.came b.came c.came came.0 new.0 came.1 new.1, Contains-append_right came.0 new.0 (front, from) new.2)
new_earlier a b c (peers.Server server number to) came dialed new = (dialed.0 ++ new.0, grown a.dialed b.dialed c.dialed dialed.0 new.0 dialed.1 new.1, Contains-append_right dialed.0 new.0 to new.2)

ended_later : (a b c : Link) → b.ended ≤ c.ended → HasEnded a b → HasEnded a c
ended_later a b c le (inl was) = inl was
ended_later a b c le (inr lt) = inr (omega arith)

ended_on : (a b c : Link) → a.ended ≤ b.ended → b.ended ≤ c.ended → ((x : Connection) → b.here ≡ Some x → Own a b x) → HasEnded b c → HasEnded a c
ended_on a b c ab bc own (inl was) = ended_later a b c bc ((own was.0 was.1).ended was.2)
ended_on a b c ab bc own (inr lt) = inr (omega arith)

pub peer_on : (a b c : Link) (m n s r : List (List ℕ)) (peer : Peer) → Fares a b m s → Fares b c n r → IsPeer b c peer → IsPeer a c peer
peer_on a b c m n s r peer one two (inl was) =
    ⊎_elim (λ (earlier : (y : Connection) × (a.here ≡ Some y) × (y.peer ≡ was.0.peer)). inl (earlier.0, earlier.1, earlier.2 ∙ was.2))
    (λ (new : NewPeer a b was.0.peer). inr (new_later a b c peer two.came two.dialed (subst (NewPeer a b) was.2 new))) (one.own was.0 was.1).peer
peer_on a b c m n s r peer one two (inr new) = inr (new_earlier a b c peer one.came one.dialed new)

-- Why one was closed.

over_later : (a : Link) (s r : List (List ℕ)) (message : List ℕ) → Over a s message → Over a (s ++ r) message
over_later a s r message over =
    let all : length (frames (s ++ r)) ≡ length (frames s) + length (frames r) = ap (λ zs. length zs) (frames_on s r) ∙ length-append (frames s) (frames r) in omega arith

pub over_earlier : (a b : Link) (s r : List (List ℕ)) (message : List ℕ) → ((more : List ℕ) × (b.taken ≡ a.taken ++ more)) → Promised a b (unwritten b.here) s → Over b r message → Over a (s ++ r) message
over_earlier a b s r message taken promised over =
    let all : length (frames (s ++ r)) ≡ length (frames s) + length (frames r) = ap (λ zs. length zs) (frames_on s r) ∙ length-append (frames s) (frames r) in
    let more : length b.taken ≡ length a.taken + length taken.0 = ap (λ zs. length zs) taken.1 ∙ length-append a.taken taken.0 in
    let left : length (b.taken ++ unwritten b.here) ≡ length b.taken + length (unwritten b.here) = length-append b.taken (unwritten b.here) in
    let first : length (a.taken ++ unwritten a.here) ≡ length a.taken + length (unwritten a.here) = length-append a.taken (unwritten a.here) in
    let right : length (b.taken ++ unwritten b.here) ≡ length (a.taken ++ unwritten a.here) + length (frames s) = ap (λ zs. length zs) promised ∙ length-append (a.taken ++ unwritten a.here) (frames s) in
    omega arith

server_later : (a b c : Link) → ((more : List Endpoint) × (c.dialed ≡ b.dialed ++ more)) → WasServer a b → WasServer a c
server_later a b c dialed (inl was) = inl was
server_later a b c dialed (inr lt) = let le = longer b.dialed c.dialed dialed.0 dialed.1 in inr (omega arith)

new_server : (a b : Link) (peer : Peer) → is_client peer ≡ false → NewPeer a b peer → length a.dialed < length b.dialed
new_server a b (peers.Client front from) is new = absurd (true≢false is)
new_server a b (peers.Server server number to) is new = longer_by a.dialed b.dialed new.0 to new.1 new.2

server_earlier : (a b c : Link) → ((more : List Endpoint) × (b.dialed ≡ a.dialed ++ more)) → ((more : List Endpoint) × (c.dialed ≡ b.dialed ++ more)) → ((x : Connection) → b.here ≡ Some x → Own a b x) → WasServer b c → WasServer a c
server_earlier a b c ab bc own (inl was) =
    ⊎_elim (λ (earlier : (y : Connection) × (a.here ≡ Some y) × (y.peer ≡ was.0.peer)). inl (earlier.0, earlier.1, ap is_client earlier.2 ∙ was.2))
    (λ (new : NewPeer a b was.0.peer). let lt = new_server a b was.0.peer was.2 new in let le = longer b.dialed c.dialed bc.0 bc.1 in inr (omega arith)) (own was.0 was.1).peer
server_earlier a b c ab bc own (inr lt) = let le = longer a.dialed b.dialed ab.0 ab.1 in inr (omega arith)

heard_later : (a b c : Link) (rest : List ℕ) (m n : List (List ℕ)) → c.given ≡ b.given → n ≡ [] → Heard a b rest m → Heard a c rest (m ++ n)
heard_later a b c rest m n given nothing one = record {
  gave = one.gave;
  given = given ∙ one.given;
  are = are_on m n one.are (subst AreMessages (sym nothing) tt);
  told = one.told ∙ ap (λ zs. zs ++ rest) (sym (frames_on m n ∙ ap (λ ns. frames m ++ frames ns) nothing ∙ append-nil (frames m)));
}

promised_later : (a b c : Link) (rest : List ℕ) (s r : List (List ℕ)) → c.taken ≡ b.taken → r ≡ [] → Promised a b rest s → Promised a c rest (s ++ r)
promised_later a b c rest s r taken nothing one = ap (λ zs. zs ++ rest) taken ∙ one ∙ ap (λ zs. (a.taken ++ unwritten a.here) ++ zs) (sym (frames_on s r ∙ ap (λ ns. frames s ++ frames ns) nothing ∙ append-nil (frames s)))

leaves_later : (a b c : Link) (m n s r : List (List ℕ)) → Fares b c n r → Still b c n r
    → Leaves a b m s → Leaves a c (m ++ n) (s ++ r)
leaves_later a b c m n s r two still (inl lt) = let le = two.failed in inl (omega arith)
leaves_later a b c m n s r two still (inr (inl lt)) = let le = two.refused in inr (inl (omega arith))
leaves_later a b c m n s r two still (inr (inr (inl lt))) = let le = two.gone in inr (inr (inl (omega arith)))
leaves_later a b c m n s r two still (inr (inr (inr (inl server)))) =
    let le = two.ended in let lt = server.0 in inr (inr (inr (inl (omega arith, server_later a b c two.dialed server.1))))
leaves_later a b c m n s r two still (inr (inr (inr (inr (inl done))))) = inr (inr (inr (inr (inl (record {
  ended = ended_later a b c two.ended done.ended;
  rest = done.rest;
  none = done.none;
  heard = heard_later a b c done.rest m n still.given still.no_messages done.heard;
  promised = promised_later a b c [] s r still.taken still.no_sends done.promised;
})))))
leaves_later a b c m n s r two still (inr (inr (inr (inr (inr over))))) = inr (inr (inr (inr (inr (over.0, over_later a s r over.0 over.1)))))

leaves_earlier : (a b c : Link) (m n s r : List (List ℕ)) → Fares a b m s → Fares b c n r → shut b ≡ false
    → Leaves b c n r → Leaves a c (m ++ n) (s ++ r)
leaves_earlier a b c m n s r one two lives (inl lt) = let le = one.failed in inl (omega arith)
leaves_earlier a b c m n s r one two lives (inr (inl lt)) = let le = one.refused in inr (inl (omega arith))
leaves_earlier a b c m n s r one two lives (inr (inr (inl lt))) = let le = one.gone in inr (inr (inl (omega arith)))
leaves_earlier a b c m n s r one two lives (inr (inr (inr (inl server)))) =
    let le = one.ended in let lt = server.0 in inr (inr (inr (inl (omega arith, server_earlier a b c one.dialed two.dialed one.own server.1))))
leaves_earlier a b c m n s r one two lives (inr (inr (inr (inr (inl done))))) = inr (inr (inr (inr (inl (record {
  ended = ended_on a b c one.ended two.ended one.own done.ended;
  rest = done.rest;
  none = done.none;
  heard = heard_on a b c done.rest m n (one.heard lives) done.heard;
  promised = promised_on a b c [] s r (one.promised lives) done.promised;
})))))
leaves_earlier a b c m n s r one two lives (inr (inr (inr (inr (inr over))))) =
    inr (inr (inr (inr (inr (over.0, over_earlier a b s r over.0 one.taken (one.promised lives) over.1)))))

-- it was there before it was shut
been_first : (a b c : Link) (n r : List (List ℕ)) → Fares b c n r → b.below ≡ true → HasBeen a c → HasBeen a b
been_first a b c n r two below (inl was) = inl was
been_first a b c n r two below (inr (inl came)) = let same : length c.came ≡ length b.came = ap (λ zs. length zs) (two.once below).0 in inr (inl (omega arith))
been_first a b c n r two below (inr (inr dialed)) = let same : length c.dialed ≡ length b.dialed = ap (λ zs. length zs) (two.once below).1 in inr (inr (omega arith))

-- or came to be after it
opened_then : (a b c : Link) (m s : List (List ℕ)) → Fares a b m s → b.below ≡ false → HasBeen a c → HasBeen b c
opened_then a b c m s one below (inl was) = absurd (true≢false (sym (one.below was) ∙ below))
opened_then a b c m s one below (inr (inl came)) = let same : length b.came ≡ length a.came = ap (λ zs. length zs) (one.unopened below).0 in inr (inl (omega arith))
opened_then a b c m s one below (inr (inr dialed)) = let same : length b.dialed ≡ length a.dialed = ap (λ zs. length zs) (one.unopened below).1 in inr (inr (omega arith))

been_then : (a b c : Link) (m s : List (List ℕ)) → Fares a b m s → (below : Bool) → b.below ≡ below → HasBeen a c → HasBeen b c
been_then a b c m s one true is been = inl is
been_then a b c m s one false is been = opened_then a b c m s one is been

left_on : (a b c : Link) (m n s r : List (List ℕ))
    → Fares a b m s → Fares b c n r → (is : Bool) → shut b ≡ is → shut a ≡ false → HasBeen a c → shut c ≡ true → Leaves a c (m ++ n) (s ++ r)
left_on a b c m n s r one two true is lives been closed =
    let below = (and_true b.below (is_none b.here) is).0 in
    leaves_later a b c m n s r two (two.stays is) (one.left lives (been_first a b c n r two below been) is)
left_on a b c m n s r one two false is lives been closed =
    leaves_earlier a b c m n s r one two is (two.left is (been_then a b c m s one b.below refl been) closed)

-- In all.
pub fares_on : (a b c : Link) (m n s r : List (List ℕ))
    → Fares a b m s → Fares b c n r → Fares a c (m ++ n) (s ++ r)
fares_on a b c m n s r one two =
    let ended_one = one.ended in let ended_two = two.ended in let gone_one = one.gone in let gone_two = two.gone in
    let failed_one = one.failed in let failed_two = two.failed in let lacked_one = one.lacked in let lacked_two = two.lacked in
    let refused_one = one.refused in let refused_two = two.refused in
    let back : c.below ≡ false → b.below ≡ false = false_back b.below c.below two.below in
    let mid : shut c ≡ false → shut b ≡ false = shut_back b c n r two in
    record {
      taken = (one.taken.0 ++ two.taken.0, grown a.taken b.taken c.taken one.taken.0 two.taken.0 one.taken.1 two.taken.1);
      came = (one.came.0 ++ two.came.0, grown a.came b.came c.came one.came.0 two.came.0 one.came.1 two.came.1);
      dialed = (one.dialed.0 ++ two.dialed.0, grown a.dialed b.dialed c.dialed one.dialed.0 two.dialed.0 one.dialed.1 two.dialed.1);
      ended = omega arith;
      gone = omega arith;
      failed = omega (arith, failed_one, failed_two);
      lacked = omega (arith, lacked_one, lacked_two);
      refused = omega (arith, refused_one, refused_two);
      sound = λ e. ((two.sound e).0 ∙ (one.sound (mid e)).0, (two.sound e).1 ∙ (one.sound (mid e)).1);
      below = λ e. two.below (one.below e);
      once = λ e. ((two.once (one.below e)).0 ∙ (one.once e).0, (two.once (one.below e)).1 ∙ (one.once e).1);
      unopened = λ e. ((two.unopened e).0 ∙ (one.unopened (back e)).0, (two.unopened e).1 ∙ (one.unopened (back e)).1);
      stays = λ e. still_on a b c m n s r (one.stays e) (two.stays (shut_on a b m s one e));
      heard = λ e. heard_on a b c (held c.here) m n (one.heard (mid e)) (two.heard e);
      promised = λ e. promised_on a b c (unwritten c.here) s r (one.promised (mid e)) (two.promised e);
      own = λ x e. record {
        peer = peer_on a b c m n s r x.peer one two (two.own x e).peer;
        ended = λ is. ended_on a b c one.ended two.ended one.own ((two.own x e).ended is);
      };
      left = λ lives been closed. left_on a b c m n s r one two (shut b) refl lives been closed;
    }

none_some : (fault : DeviceFault) → None ≡ Some fault → true ≡ false
none_some fault e = cc

two_faults : Some devices.Outside ≡ Some devices.Sockets → ⊥
two_faults e = cc

turned_on : (a b c : Net) → length a.told.came ≤ length b.told.came → length b.told.came ≤ length c.told.came → a.table.next ≤ b.table.next → b.table.next ≤ c.table.next
    → clients b.table + length a.told.came ≤ clients a.table + length b.told.came → TurnsAway a b → TurnsAway b c → TurnsAway a c
turned_on a b c ab bc next more few (inl same) (inl then) = inl (then ∙ same)
turned_on a b c ab bc next more few (inr (inl full)) two = inr (inl (omega arith))
turned_on a b c ab bc next more few (inr (inr (inl passed))) two = inr (inr (inl (omega arith)))
turned_on a b c ab bc next more few (inr (inr (inr used))) two = inr (inr (inr (omega arith)))
turned_on a b c ab bc next more few (inl same) (inr (inl full)) = inr (inl (omega arith))
turned_on a b c ab bc next more few (inl same) (inr (inr (inl passed))) = inr (inr (inl (omega arith)))
turned_on a b c ab bc next more few (inl same) (inr (inr (inr used))) = inr (inr (inr used))

notes_on : (f g h : Option DeviceFault) (a b c : ℕ) → a ≤ b → b ≤ c → Notes f g a b → Notes g h b c → Notes f h a c
notes_on (Some fault) None h a b c ab bc one two = absurd (true≢false (none_some fault one))
notes_on (Some fault) (Some other) h a b c ab bc one two = two ∙ one
notes_on None None None a b c ab bc one two = two ∙ one
notes_on None None (Some devices.Sockets) a b c ab bc one two = subst (λ n. Fails n c) one two
notes_on None None (Some devices.Outside) a b c ab bc one two = two
notes_on None (Some devices.Sockets) None a b c ab bc one two = absurd (true≢false (none_some devices.Sockets two))
notes_on None (Some devices.Sockets) (Some devices.Sockets) a b c ab bc one two = (omega arith, rose_later a b c one.1 bc)
notes_on None (Some devices.Sockets) (Some devices.Outside) a b c ab bc one two = absurd (two_faults two)
notes_on None (Some devices.Outside) h a b c ab bc one two = absurd one

pub all_on : GoesOn
all_on a b c m n s r one two =
    let failures_one = one.failures in let failures_two = two.failures in
    let next_one = one.next in let next_two = two.next in let gone_one = one.gone in let gone_two = two.gone in let came_one = one.came in let came_two = two.came in
    let few_one = one.connected in let few_two = two.connected in
    let counted_one = one.counted in let counted_two = two.counted in
    record {
      fares = λ k. fares_on (link k a) (link k b) (link k c) (m k) (n k) (s k) (r k) (one.fares k) (two.fares k);
      failures = omega arith;
      next = omega arith;
      gone = omega arith;
      came = omega arith;
      connected = omega arith;
      counted = omega (arith, counted_one, counted_two);
      noted = notes_on a.device b.device c.device a.told.failures b.told.failures c.told.failures failures_one failures_two one.noted two.noted;
      turned = turned_on a b c came_one came_two next_one next_two few_one one.turned two.turned;
    }
