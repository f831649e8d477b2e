-- Numbers are passed over, clients are turned away, and connections are opened.
use Rattle.std.proofs.Common.{◌≡◌, ◌≢◌, ℕ, ◌+◌, ◌≤◌, ◌^◌, ◌⊎◌, ⊎_elim, inl, inr, Bool, true, false, true≢false, List, [], ◌∷◌, ◌++◌, length, Option, Some, None, Err, if◌then◌else◌, ◌==◌, refl, sym, ap, ◌∙◌, arith, rules, subst}
use Rattle.std.specs.Prelude.{nat_lt, ◌&&◌}
use Rattle.std.specs.List.{Contains, count_by}
use Rattle.std.proofs.lemmas.Bool.{cases_eq}
use Rattle.std.proofs.lemmas.Bool.Decides.{nat_tests}
use Rattle.std.proofs.lemmas.List.{append-nil, length-append}
use Rattle.lb_loops_connections.specs.Table.{Narrows, Table, at, at_place, client_count, clients, is_client, is_none}
use Rattle.lb_loops_connections.specs.declared.connection.Connection.{Connection}
use Rattle.lb_loops_io.specs.Counts.{Fails, Rose}
use Rattle.lb_loops_io.specs.Moves.{Client, Dialed, Faulty, Traffic, TurnedAway, octets_of, read_once}
use Rattle.lb_loops_io.specs.declared.endpoint.Endpoint.{Endpoint}
use Rattle.lb_loops_io.specs.declared.report.DeviceFault.{DeviceFault}
use Rattle.lb_loops_io.specs.declared.report.Why.{Why}
use Rattle.lb_loops_io.specs.declared.report.Why.TheVariants as whys
use Rattle.lb_loops_io.specs.declared.traffic.Accepted.{Accepted}
use Rattle.lb_loops_io.specs.declared.traffic.Accepted.TheVariants as accepted
use Rattle.lb_loops_io.specs.declared.traffic.Peer.{Peer}
use Rattle.lb_loops_io.specs.declared.traffic.Peer.TheVariants as peers
use Rattle.lb_loops_tcp.proofs.Apart.{Apart, apart_dialed, number_here, number_other}
use Rattle.lb_loops_tcp.proofs.Faring.{all_on}
use Rattle.lb_loops_tcp.proofs.Going.{faulty_noted, same_noted, told_of}
use Rattle.lb_loops_tcp.proofs.Pieces.{Counted, counted_client, counted_none, counted_turned}
use Rattle.lb_loops_tcp.proofs.Steps.{and_false, fares_same, goes_step}
use Rattle.lb_loops_tcp.specs.Goes.{Goes, Lacks, Notes, TurnsAway, TurnsOneAway, none, noted, noted_by}
use Rattle.lb_loops_tcp.specs.Links.{Fares, HasBeen, Link, Net, NewPeer, Same, held, link, of_number, shut, unwritten}
use Rattle.lb_wire.specs.declared.ids.ServerId.{ServerId}

lt_other : (k n : ℕ) → k ≢ n → nat_lt k (n + 1) ≡ nat_lt k n
lt_other k n apart = search rules

lt_more : (n : ℕ) → nat_lt n (n + 1) ≡ true
lt_more n = search rules

lt_self : (n : ℕ) → nat_lt n n ≡ false
lt_self n = search rules

-- a connection that is not touched, whose number may be passed over
pub record Quiet (a b : Link) : Type 0 where
  pub given : b.given ≡ a.given
  pub taken : b.taken ≡ a.taken
  pub came : b.came ≡ a.came
  pub dialed : b.dialed ≡ a.dialed
  pub ended : b.ended ≡ a.ended
  pub gone : b.gone ≡ a.gone
  pub failed : b.failed ≡ a.failed
  pub lacked : b.lacked ≡ a.lacked
  pub refused : b.refused ≡ a.refused
  pub below : a.below ≡ true → b.below ≡ true
  pub here : b.here ≡ a.here

lower : (a : Link) → a.below ≡ false → shut a ≡ false
lower a e = ap (λ (b : Bool). b && is_none a.here) e

never_been : (a b : Link) → a.below ≡ false → b.came ≡ a.came → b.dialed ≡ a.dialed → HasBeen a b → ⊥
never_been a b below came dialed (inl was) = absurd (true≢false (sym was ∙ below))
never_been a b below came dialed (inr (inl lt)) = let same : length b.came ≡ length a.came = ap (λ zs. length zs) came in omega (arith, same, lt)
never_been a b below came dialed (inr (inr lt)) = let same : length b.dialed ≡ length a.dialed = ap (λ zs. length zs) dialed in omega (arith, same, lt)

fares_passed : (a b : Link) → Quiet a b → a.below ≡ false → b.below ≡ true → Fares a b [] []
fares_passed a b q before below =
    let ended = q.ended in let gone = q.gone in let failed = q.failed in let lacked = q.lacked in let refused = q.refused in
    record {
      taken = ([], q.taken ∙ sym (append-nil a.taken));
      came = ([], q.came ∙ sym (append-nil a.came));
      dialed = ([], q.dialed ∙ sym (append-nil a.dialed));
      ended = omega (arith, ended);
      gone = omega (arith, gone);
      failed = omega (arith, failed);
      lacked = omega (arith, lacked);
      refused = omega (arith, refused);
      sound = λ e. (q.failed, q.lacked);
      below = λ e. below;
      once = λ e. (q.came, q.dialed);
      unopened = λ e. (q.came, q.dialed);
      stays = λ e. absurd (true≢false (sym e ∙ lower a before));
      heard = λ e. record { gave = []; given = q.given ∙ sym (append-nil a.given); are = tt; told = append-nil (held a.here) ∙ sym (ap held q.here) };
      promised = λ e. ap (λ zs. zs ++ unwritten b.here) q.taken ∙ ap (λ (o : Option Connection). a.taken ++ unwritten o) q.here ∙ sym (append-nil (a.taken ++ unwritten a.here));
      own = λ x e. record { peer = inl (x, sym q.here ∙ e, refl); ended = λ is. inl (x, sym q.here ∙ e, is) };
      left = λ lives been closed. absurd (never_been a b before q.came q.dialed been);
    }

quiet_same : (a b : Link) → Quiet a b → b.below ≡ a.below → Same a b
quiet_same a b q below = record { given = q.given; taken = q.taken; came = q.came; dialed = q.dialed; ended = q.ended; gone = q.gone; failed = q.failed; lacked = q.lacked; refused = q.refused; below = below; here = q.here }

fares_by : (a b : Link) → Quiet a b → (x y : Bool) → a.below ≡ x → b.below ≡ y → Fares a b [] []
fares_by a b q true y was is = fares_same a b (quiet_same a b q (q.below was ∙ sym was))
fares_by a b q false false was is = fares_same a b (quiet_same a b q (is ∙ sym was))
fares_by a b q false true was is = fares_passed a b q was is

fares_quiet : (a b : Link) → Quiet a b → Fares a b [] []
fares_quiet a b q = fares_by a b q a.below b.below refl refl

below_on : (c m n : ℕ) → m ≤ n → nat_lt c m ≡ true → nat_lt c n ≡ true
below_on c m n le is = grind (arith, nat_tests)

goes_quiet : (old new : Net) → ((c : ℕ) → Quiet (link c old) (link c new)) → old.told.failures ≤ new.told.failures → old.table.next ≤ new.table.next
    → new.told.gone ≡ old.told.gone → new.told.came ≡ old.told.came → clients new.table ≡ clients old.table → TurnsAway old new → Notes old.device new.device old.told.failures new.told.failures → Counted old.told new.told → Goes old new none none
goes_quiet old new quiet failures next gone came few turned noted counted =
    let gone_len : length new.told.gone ≡ length old.told.gone = ap (λ zs. length zs) gone in
    let came_len : length new.told.came ≡ length old.told.came = ap (λ zs. length zs) came in
    record {
      fares = λ c. fares_quiet (link c old) (link c new) (quiet c);
      failures = failures;
      next = next;
      gone = omega (arith, gone_len);
      came = omega (arith, came_len);
      connected = omega (arith, came_len, few);
      turned = turned;
      noted = noted;
      counted = counted;
    }

-- numbers are passed over, and a client may have been asked for
goes_narrow_by : (r : ℕ) (old new : Net) → Narrows old.table new.table → new.told ≡ record old.told { reads = r } → old.told.reads ≤ r → new.device ≡ old.device → Goes old new none none
goes_narrow_by r old new narrow told more device =
    let reads : new.told.reads ≡ r = ap (λ (t : Traffic). t.reads) told in
    let failures = ap (λ (t : Traffic). t.failures) told in
    let refusals : new.table.refusals ≡ old.table.refusals = ap (λ (t : Table). t.refusals) narrow.same in
    goes_quiet old new (λ c. record {
      given = ap (λ (t : Traffic). octets_of c t.given) told;
      taken = ap (λ (t : Traffic). octets_of c t.taken) told;
      came = ap (λ (t : Traffic). of_number c t.came) told;
      dialed = ap (λ (t : Traffic). of_number c t.dialed) told;
      ended = ap (λ (t : Traffic). count_by (λ (k : ℕ). k == c) t.ended) told;
      gone = ap (λ (t : Traffic). count_by (λ (k : ℕ). k == c) t.gone) told;
      failed = ap (λ (t : Traffic). count_by (λ (k : ℕ). k == c) t.failed) told;
      lacked = ap (λ (t : Traffic). count_by (λ (k : ℕ). k == c) t.lacked) told;
      refused = ap (told_of c) refusals;
      below = below_on c old.table.next new.table.next narrow.next;
      here = narrow.all c;
    }) (omega (arith, failures)) narrow.next (ap (λ (t : Traffic). t.gone) told) (ap (λ (t : Traffic). t.came) told) (ap clients narrow.same) (inl (ap (λ (t : Traffic). t.turned) told))
    (same_noted old.device new.device old.told.failures new.told.failures device failures) (counted_none old.told new.told (ap (λ (t : Traffic). t.given) told) (ap (λ (t : Traffic). t.came) told) (ap (λ (t : Traffic). t.ended) told) (ap (λ (t : Traffic). t.turned) told) (omega (arith, reads, more)))

pub goes_narrow : (old new : Net) → Narrows old.table new.table → new.told ≡ old.told → new.device ≡ old.device → Goes old new none none
goes_narrow old new narrow told device = goes_narrow_by old.told.reads old new narrow told (omega arith) device

pub goes_narrow_read : (old new : Net) → Narrows old.table new.table → new.told ≡ read_once old.told → new.device ≡ old.device → Goes old new none none
goes_narrow_read old new narrow told device = goes_narrow_by (old.told.reads + 1) old new narrow told (omega arith) device

noted_from : (f g h : Option DeviceFault) (a b c : ℕ) → g ≡ f → b ≡ a → Notes g h b c → Notes f h a c
noted_from f g h a b c e is notes = subst (λ (z : Option DeviceFault). Notes z h a c) e (subst (λ (k : ℕ). Notes g h k c) is notes)

-- what turning away tells
record Turned (old new : Traffic) : Type 0 where
  pub given : new.given ≡ old.given
  pub taken : new.taken ≡ old.taken
  pub came : new.came ≡ old.came
  pub dialed : new.dialed ≡ old.dialed
  pub ended : new.ended ≡ old.ended
  pub gone : new.gone ≡ old.gone
  pub failed : new.failed ≡ old.failed
  pub lacked : new.lacked ≡ old.lacked
  pub failures : old.failures ≤ new.failures
  pub counted : Counted old new

turned_by : (result : Accepted) (old new : Traffic) → TurnedAway result old new → Turned old new
turned_by (accepted.Client front peer) old new e = record {
  given = ap (λ (t : Traffic). t.given) e;
  taken = ap (λ (t : Traffic). t.taken) e;
  came = ap (λ (t : Traffic). t.came) e;
  dialed = ap (λ (t : Traffic). t.dialed) e;
  ended = ap (λ (t : Traffic). t.ended) e;
  gone = ap (λ (t : Traffic). t.gone) e;
  failed = ap (λ (t : Traffic). t.failed) e;
  lacked = ap (λ (t : Traffic). t.lacked) e;
  failures = let same = ap (λ (t : Traffic). t.failures) e in omega (arith, same);
  counted = counted_turned old new (ap (λ (t : Traffic). t.given) e) (ap (λ (t : Traffic). t.came) e) (ap (λ (t : Traffic). t.ended) e) (ap (λ (t : Traffic). t.turned) e) (ap (λ (t : Traffic). t.reads) e);
}
turned_by accepted.Nothing old new e = record {
  given = ap (λ (t : Traffic). t.given) e;
  taken = ap (λ (t : Traffic). t.taken) e;
  came = ap (λ (t : Traffic). t.came) e;
  dialed = ap (λ (t : Traffic). t.dialed) e;
  ended = ap (λ (t : Traffic). t.ended) e;
  gone = ap (λ (t : Traffic). t.gone) e;
  failed = ap (λ (t : Traffic). t.failed) e;
  lacked = ap (λ (t : Traffic). t.lacked) e;
  failures = let same = ap (λ (t : Traffic). t.failures) e in omega (arith, same);
  counted = let read = ap (λ (t : Traffic). t.reads) e in counted_none old new (ap (λ (t : Traffic). t.given) e) (ap (λ (t : Traffic). t.came) e) (ap (λ (t : Traffic). t.ended) e) (ap (λ (t : Traffic). t.turned) e) (omega (arith, read));
}
turned_by accepted.Failed old new faulty = let e = faulty.2 in let le = faulty.1.0 in record {
  given = ap (λ (t : Traffic). t.given) e;
  taken = ap (λ (t : Traffic). t.taken) e;
  came = ap (λ (t : Traffic). t.came) e;
  dialed = ap (λ (t : Traffic). t.dialed) e;
  ended = ap (λ (t : Traffic). t.ended) e;
  gone = ap (λ (t : Traffic). t.gone) e;
  failed = ap (λ (t : Traffic). t.failed) e;
  lacked = ap (λ (t : Traffic). t.lacked) e;
  failures = let same = ap (λ (t : Traffic). t.failures) e in omega (arith, same, le);
  counted = let read = ap (λ (t : Traffic). t.reads) e in counted_none old new (ap (λ (t : Traffic). t.given) e) (ap (λ (t : Traffic). t.came) e) (ap (λ (t : Traffic). t.ended) e) (ap (λ (t : Traffic). t.turned) e) (omega (arith, read));
}

-- a client is turned away, after numbers that were passed over
pub goes_turned : (old mid new : Net) → Narrows old.table mid.table → mid.told ≡ old.told → mid.device ≡ old.device → TurnsOneAway mid new → TurnsAway old new → Goes old new none none
goes_turned old mid new narrow told device turns away =
    let all : Turned mid.told new.told = turned_by turns.told.0 mid.told new.told turns.told.1 in
    let failures : mid.told.failures ≡ old.told.failures = ap (λ (t : Traffic). t.failures) told in
    let more = all.failures in
    let refusals : new.table.refusals ≡ old.table.refusals = ap (λ (t : Table). t.refusals) turns.table ∙ ap (λ (t : Table). t.refusals) narrow.same in
    let next : new.table.next ≡ mid.table.next = ap (λ (t : Table). t.next) turns.table in
    let le = narrow.next in
    let further : old.table.next ≤ new.table.next = omega (arith, next, le) in
    goes_quiet old new (λ c. record {
      given = ap (octets_of c) all.given ∙ ap (λ (t : Traffic). octets_of c t.given) told;
      taken = ap (octets_of c) all.taken ∙ ap (λ (t : Traffic). octets_of c t.taken) told;
      came = ap (λ zs. of_number c zs) all.came ∙ ap (λ (t : Traffic). of_number c t.came) told;
      dialed = ap (λ zs. of_number c zs) all.dialed ∙ ap (λ (t : Traffic). of_number c t.dialed) told;
      ended = ap (count_by (λ (k : ℕ). k == c)) all.ended ∙ ap (λ (t : Traffic). count_by (λ (k : ℕ). k == c) t.ended) told;
      gone = ap (count_by (λ (k : ℕ). k == c)) all.gone ∙ ap (λ (t : Traffic). count_by (λ (k : ℕ). k == c) t.gone) told;
      failed = ap (told_of c) all.failed ∙ ap (λ (t : Traffic). told_of c t.failed) told;
      lacked = ap (told_of c) all.lacked ∙ ap (λ (t : Traffic). told_of c t.lacked) told;
      refused = ap (told_of c) refusals;
      below = below_on c old.table.next new.table.next further;
      here = ap (at c) turns.table ∙ narrow.all c;
    }) (omega (arith, failures, more)) further (all.gone ∙ ap (λ (t : Traffic). t.gone) told) (all.came ∙ ap (λ (t : Traffic). t.came) told)
    (ap clients turns.table ∙ ap clients narrow.same) away (noted_from old.device mid.device new.device old.told.failures mid.told.failures new.told.failures device failures turns.noted) (subst (λ (t : Traffic). Counted t new.told) told all.counted)

-- A connection is opened.

one_is : (x y : Connection) → Some x ≡ Some y → x ≡ y
one_is x y e = cc

contains_one : {A : Type 0} (x : A) → Contains (x ∷ []) x
contains_one {A} x = search rules

fares_opened : (a b : Link) (x : Connection) (came : List Client) (dialed : List Endpoint) → a.below ≡ false → a.here ≡ None → b.below ≡ true → b.here ≡ Some x → b.given ≡ a.given → b.taken ≡ a.taken
    → b.came ≡ a.came ++ came → b.dialed ≡ a.dialed ++ dialed → b.ended ≡ a.ended → b.gone ≡ a.gone → b.failed ≡ a.failed → b.lacked ≡ a.lacked → b.refused ≡ a.refused → x.incoming ≡ [] → x.outgoing ≡ [] → x.is_ended ≡ false → NewPeer a b x.peer → Fares a b [] []
fares_opened a b x came dialed before none_here below here given taken more_came more_dialed ended gone failed lacked refused incoming outgoing asks peer = record {
  taken = ([], taken ∙ sym (append-nil a.taken));
  came = (came, more_came);
  dialed = (dialed, more_dialed);
  ended = omega (arith, ended);
  gone = omega (arith, gone);
  failed = omega (arith, failed);
  lacked = omega (arith, lacked);
  refused = omega (arith, refused);
  sound = λ e. (failed, lacked);
  below = λ e. below;
  once = λ e. absurd (true≢false (sym e ∙ before));
  unopened = λ e. absurd (true≢false (sym below ∙ e));
  stays = λ e. absurd (true≢false (sym e ∙ lower a before));
  heard = λ e. record { gave = []; given = given ∙ sym (append-nil a.given); are = tt; told = ap (λ (o : Option Connection). held o ++ []) none_here ∙ sym (ap held here ∙ incoming) };
  promised = λ e. ap (λ zs. zs ++ unwritten b.here) taken ∙ ap (λ zs. a.taken ++ zs) (ap unwritten here ∙ outgoing) ∙ ap (λ (o : Option Connection). a.taken ++ unwritten o) (sym none_here) ∙ sym (append-nil (a.taken ++ unwritten a.here));
  own = λ z e. let same : x ≡ z = one_is x z (sym here ∙ e) in record {
    peer = inr (subst (λ (w : Connection). NewPeer a b w.peer) same peer);
    ended = λ is. absurd (true≢false (sym is ∙ sym (ap (λ (w : Connection). w.is_ended) same) ∙ asks));
  };
  left = λ lives been closed. absurd (true≢false (sym closed ∙ ap (λ (o : Option Connection). b.below && is_none o) here ∙ and_false b.below));
}

-- what holds of the table where a connection is added
pub record Adds (n : ℕ) (a b : Table) (x : Connection) : Type 0 where
  pub number : n ≡ a.next
  pub here : at n b ≡ Some x
  pub others : (c : ℕ) → c ≢ n → at c b ≡ at c a
  pub clients : clients b ≡ clients a + client_count x
  pub next : b.next ≡ a.next + 1
  pub refusals : b.refusals ≡ a.refusals

pub adds : (n : ℕ) (a b : Table) (x : Connection) → n ≡ a.next → x.number ≡ n → at x.number b ≡ Some x → ((c : ℕ) → c ≢ x.number → at c b ≡ at c a) → clients b ≡ clients a + client_count x → b.next ≡ a.next + 1 → b.refusals ≡ a.refusals
    → Adds n a b x
adds n a b x number num here others few next refusals = record {
  number = number;
  here = ap (λ (k : ℕ). at k b) (sym num) ∙ here;
  others = λ c apart. others c (λ e. apart (e ∙ num));
  clients = few;
  next = next;
  refusals = refusals;
}

not_before : (n : ℕ) (a : Table) → n ≡ a.next → nat_lt n a.next ≡ false
not_before n a e = ap (λ (k : ℕ). nat_lt n k) (sym e) ∙ lt_self n

not_here : (n : ℕ) (a : Table) → n ≡ a.next → at n a ≡ None
not_here n a e = ap (λ (b : Bool). if b then at_place n a.slots else None) (not_before n a e)

is_below : (n : ℕ) (a b : Table) → n ≡ a.next → b.next ≡ a.next + 1 → nat_lt n b.next ≡ true
is_below n a b e next = ap (λ (k : ℕ). nat_lt n k) (next ∙ ap (λ (k : ℕ). k + 1) (sym e)) ∙ lt_more n

same_below : (c n : ℕ) (a b : Table) → c ≢ n → n ≡ a.next → b.next ≡ a.next + 1 → nat_lt c b.next ≡ nat_lt c a.next
same_below c n a b apart e next = ap (λ (k : ℕ). nat_lt c k) (next ∙ ap (λ (k : ℕ). k + 1) (sym e)) ∙ lt_other c n apart ∙ ap (λ (k : ℕ). nat_lt c k) e

-- a client is taken in
pub goes_admitted : (n : ℕ) (old new : Net) (x : Connection) (front : ℕ) (from : Endpoint) → Adds n old.table new.table x → x.peer ≡ peers.Client front from → x.incoming ≡ [] → x.outgoing ≡ [] → x.is_ended ≡ false
    → new.told ≡ record old.told { came = old.told.came ++ (n, (front, from)) ∷ []; reads = old.told.reads + 1 } → new.device ≡ old.device → Goes old new none none
goes_admitted n old new x front from table peer incoming outgoing asks told device =
    let next = table.next in let refusals = table.refusals in let few = table.clients in
    let one : client_count x ≡ 1 = ap (λ (p : Peer). if is_client p then 1 else 0) peer in
    let failures : new.told.failures ≡ old.told.failures = ap (λ (t : Traffic). t.failures) told in
    let gone_len : length new.told.gone ≡ length old.told.gone = ap (λ (t : Traffic). length t.gone) told in
    let came_len : length new.told.came ≡ length old.told.came + 1 = ap (λ (t : Traffic). length t.came) told ∙ length-append old.told.came ((n, (front, from)) ∷ []) in
    let came_here : of_number n new.told.came ≡ of_number n old.told.came ++ (front, from) ∷ [] = ap (λ (t : Traffic). of_number n t.came) told ∙ number_here n old.told.came (front, from) in
    let here : Fares (link n old) (link n new) [] [] = fares_opened (link n old) (link n new) x ((front, from) ∷ []) []
    (not_before n old.table table.number) (not_here n old.table table.number) (is_below n old.table new.table table.number next) table.here
    (ap (λ (t : Traffic). octets_of n t.given) told) (ap (λ (t : Traffic). octets_of n t.taken) told) came_here (ap (λ (t : Traffic). of_number n t.dialed) told ∙ sym (append-nil (of_number n old.told.dialed)))
    (ap (λ (t : Traffic). count_by (λ (k : ℕ). k == n) t.ended) told) (ap (λ (t : Traffic). count_by (λ (k : ℕ). k == n) t.gone) told)
    (ap (λ (t : Traffic). told_of n t.failed) told) (ap (λ (t : Traffic). told_of n t.lacked) told) (ap (told_of n) refusals) incoming outgoing asks
    (subst (NewPeer (link n old) (link n new)) (sym peer) ((front, from) ∷ [], came_here, contains_one (front, from))) in
    record {
      fares = λ c. ⊎_elim
          (λ (e : c ≡ n). subst (λ (k : ℕ). Fares (link k old) (link k new) [] []) (sym e) here)
          (λ (apart : c ≢ n). fares_same (link c old) (link c new) (record {
            given = ap (λ (t : Traffic). octets_of c t.given) told;
            taken = ap (λ (t : Traffic). octets_of c t.taken) told;
            came = ap (λ (t : Traffic). of_number c t.came) told ∙ number_other c n old.told.came (front, from) apart;
            dialed = ap (λ (t : Traffic). of_number c t.dialed) told;
            ended = ap (λ (t : Traffic). count_by (λ (k : ℕ). k == c) t.ended) told;
            gone = ap (λ (t : Traffic). count_by (λ (k : ℕ). k == c) t.gone) told;
            failed = ap (λ (t : Traffic). count_by (λ (k : ℕ). k == c) t.failed) told;
            lacked = ap (λ (t : Traffic). count_by (λ (k : ℕ). k == c) t.lacked) told;
            refused = ap (told_of c) refusals;
            below = same_below c n old.table new.table apart table.number next;
            here = table.others c apart;
          }))
          (cases_eq c n);
      failures = omega (arith, failures);
      next = omega (arith, next);
      gone = omega (arith, gone_len);
      came = omega (arith, came_len);
      connected = omega (arith, came_len, few, one);
      turned = inl (ap (λ (t : Traffic). t.turned) told);
      noted = same_noted old.device new.device old.told.failures new.told.failures device failures;
      counted = counted_client old.told new.told (n, (front, from)) (ap (λ (t : Traffic). t.given) told) (ap (λ (t : Traffic). t.came) told) (ap (λ (t : Traffic). t.ended) told) (ap (λ (t : Traffic). t.turned) told) (ap (λ (t : Traffic). t.reads) told);
    }

-- a server is dialled
pub goes_dialed : (n : ℕ) (old new : Net) (x : Connection) (to : Endpoint) → Adds n old.table new.table x → is_client x.peer ≡ false → NewPeer (link n old) (link n new) x.peer → x.incoming ≡ [] → x.outgoing ≡ [] → x.is_ended ≡ false
    → new.told ≡ record old.told { dialed = old.told.dialed ++ (n, to) ∷ [] } → new.device ≡ old.device → Goes old new none none
goes_dialed n old new x to table server peer incoming outgoing asks told device =
    let next = table.next in let refusals = table.refusals in let few = table.clients in
    let none_more : client_count x ≡ 0 = ap (λ (b : Bool). if b then 1 else 0) server in
    let failures : new.told.failures ≡ old.told.failures = ap (λ (t : Traffic). t.failures) told in
    let apart_all : Apart n old.told new.told = apart_dialed n old.told new.told to told in
    let dialed_here : of_number n new.told.dialed ≡ of_number n old.told.dialed ++ to ∷ [] = ap (λ (t : Traffic). of_number n t.dialed) told ∙ number_here n old.told.dialed to in
    goes_step n old new none none (λ c apart. record {
      given = apart_all.given c apart;
      taken = apart_all.taken c apart;
      came = ap (λ zs. of_number c zs) apart_all.came;
      dialed = apart_all.dialed c apart;
      ended = apart_all.ended c apart;
      gone = apart_all.gone c apart;
      failed = apart_all.failed c apart;
      lacked = apart_all.lacked c apart;
      refused = ap (told_of c) refusals;
      below = same_below c n old.table new.table apart table.number next;
      here = table.others c apart;
    }) (λ c apart. (refl, refl))
    (fares_opened (link n old) (link n new) x [] (to ∷ [])
    (not_before n old.table table.number) (not_here n old.table table.number) (is_below n old.table new.table table.number next) table.here
    (ap (λ (t : Traffic). octets_of n t.given) told) (ap (λ (t : Traffic). octets_of n t.taken) told) (ap (λ (t : Traffic). of_number n t.came) told ∙ sym (append-nil (of_number n old.told.came))) dialed_here
    (ap (λ (t : Traffic). count_by (λ (k : ℕ). k == n) t.ended) told) (ap (λ (t : Traffic). count_by (λ (k : ℕ). k == n) t.gone) told)
    (ap (λ (t : Traffic). told_of n t.failed) told) (ap (λ (t : Traffic). told_of n t.lacked) told) (ap (told_of n) refusals) incoming outgoing asks peer)
    (record {
      failures = apart_all.failures;
      next = omega (arith, next);
      gone = apart_all.all_gone;
      came = apart_all.came;
      turned = apart_all.turned;
      clients = omega (arith, few, none_more);
      noted = same_noted old.device new.device old.told.failures new.told.failures device failures;
      counted = apart_all.counted;
    })

-- the peer that was dialled
pub new_peer : (n : ℕ) (old new : Net) (server : ServerId) (lane : ℕ) (to : Endpoint) → new.told ≡ record old.told { dialed = old.told.dialed ++ (n, to) ∷ [] } → NewPeer (link n old) (link n new) (peers.Server server lane to)
new_peer n old new server lane to told = (to ∷ [], ap (λ (t : Traffic). of_number n t.dialed) told ∙ number_here n old.told.dialed to, contains_one to)

-- nothing but a device's failure was told, and reads
pub goes_faulty_by : (k r : ℕ) (old new : Net) → new.table ≡ old.table → new.told ≡ record old.told { failures = k; reads = r } → Fails old.told.failures k → old.told.reads ≤ r → new.device ≡ noted old.device → Goes old new none none
goes_faulty_by k r old new table told faulty more device =
    let le = faulty.0 in
    let reads : new.told.reads ≡ r = ap (λ (t : Traffic). t.reads) told in
    let failures : new.told.failures ≡ k = ap (λ (t : Traffic). t.failures) told in
    let next : new.table.next ≡ old.table.next = ap (λ (t : Table). t.next) table in
    let further : old.table.next ≤ new.table.next = omega (arith, next) in
    goes_quiet old new (λ c. record {
      given = ap (λ (t : Traffic). octets_of c t.given) told;
      taken = ap (λ (t : Traffic). octets_of c t.taken) told;
      came = ap (λ (t : Traffic). of_number c t.came) told;
      dialed = ap (λ (t : Traffic). of_number c t.dialed) told;
      ended = ap (λ (t : Traffic). count_by (λ (k : ℕ). k == c) t.ended) told;
      gone = ap (λ (t : Traffic). count_by (λ (k : ℕ). k == c) t.gone) told;
      failed = ap (λ (t : Traffic). count_by (λ (k : ℕ). k == c) t.failed) told;
      lacked = ap (λ (t : Traffic). count_by (λ (k : ℕ). k == c) t.lacked) told;
      refused = ap (λ (t : Table). told_of c t.refusals) table;
      below = below_on c old.table.next new.table.next further;
      here = ap (at c) table;
    }) (omega (arith, failures, le)) further (ap (λ (t : Traffic). t.gone) told) (ap (λ (t : Traffic). t.came) told) (ap clients table) (inl (ap (λ (t : Traffic). t.turned) told))
    (faulty_noted old.device new.device old.told.failures new.told.failures device (subst (λ (i : ℕ). Fails old.told.failures i) (sym failures) faulty))
    (counted_none old.told new.told (ap (λ (t : Traffic). t.given) told) (ap (λ (t : Traffic). t.came) told) (ap (λ (t : Traffic). t.ended) told) (ap (λ (t : Traffic). t.turned) told) (omega (arith, reads, more)))

pub goes_faulty : (old new : Net) → new.table ≡ old.table → Faulty old.told new.told → new.device ≡ noted old.device → Goes old new none none
goes_faulty old new table faulty device = goes_faulty_by faulty.0 old.told.reads old new table faulty.2 faulty.1 (omega arith) device

-- In the order of the calls: numbers are passed over first.

pub goes_turned_full : (old new : Net) → TurnsOneAway old new → 1024 ≤ clients old.table → Goes old new none none
goes_turned_full old new turns full =
    let came : length new.told.came ≡ length old.told.came = ap (λ zs. length zs) (turned_by turns.told.0 old.told new.told turns.told.1).came in
    goes_turned old old new (record { next = omega arith; same = refl; all = λ c. refl }) refl refl turns (inr (inl (omega (arith, came, full))))

pub goes_turned_none : (old mid new : Net) → Narrows old.table mid.table → (old.table.next + 4096 ≤ mid.table.next) ⊎ (2 ^ 64 ≤ mid.table.next) → mid.told ≡ old.told → mid.device ≡ old.device → TurnsOneAway mid new → Goes old new none none
goes_turned_none old mid new narrow number told device turns = goes_turned old mid new narrow told device turns (inr (inr (subst (λ (t : Table). (old.table.next + 4096 ≤ t.next) ⊎ (2 ^ 64 ≤ t.next)) (sym turns.table) number)))

pub goes_narrow_faulty : (old mid new : Net) → Narrows old.table mid.table → mid.told ≡ old.told → mid.device ≡ old.device → new.table ≡ mid.table → Faulty mid.told new.told → new.device ≡ noted mid.device → Goes old new none none
goes_narrow_faulty old mid new narrow told device table faulty fault = all_on old mid new none none none none (goes_narrow old mid narrow told device) (goes_faulty mid new table faulty fault)

pub goes_narrow_failed : (old mid new : Net) → Narrows old.table mid.table → mid.told ≡ old.told → mid.device ≡ old.device → new.table ≡ mid.table → Faulty (read_once mid.told) new.told → new.device ≡ noted mid.device → Goes old new none none
goes_narrow_failed old mid new narrow told device table faulty fault =
    all_on old mid new none none none none (goes_narrow old mid narrow told device) (goes_faulty_by faulty.0 (mid.told.reads + 1) mid new table faulty.2 faulty.1 (omega arith) fault)

pub goes_came : (n : ℕ) (old mid new : Net) (x : Connection) (front : ℕ) (from : Endpoint) → Narrows old.table mid.table → mid.told ≡ old.told → mid.device ≡ old.device → Adds n mid.table new.table x
    → x.peer ≡ peers.Client front from → x.incoming ≡ [] → x.outgoing ≡ [] → x.is_ended ≡ false → new.told ≡ record mid.told { came = mid.told.came ++ (n, (front, from)) ∷ []; reads = mid.told.reads + 1 } → new.device ≡ mid.device → Goes old new none none
goes_came n old mid new x front from narrow told device table peer incoming outgoing asks came same =
    all_on old mid new none none none none (goes_narrow old mid narrow told device) (goes_admitted n mid new x front from table peer incoming outgoing asks came same)

pub goes_begun : (n : ℕ) (old mid new : Net) (x : Connection) (server : ServerId) (lane : ℕ) (to : Endpoint) → Narrows old.table mid.table → mid.told ≡ old.told → mid.device ≡ old.device → Adds n mid.table new.table x
    → x.peer ≡ peers.Server server lane to → x.incoming ≡ [] → x.outgoing ≡ [] → x.is_ended ≡ false → new.told ≡ record mid.told { dialed = mid.told.dialed ++ (n, to) ∷ [] } → new.device ≡ mid.device → Goes old new none none
goes_begun n old mid new x server lane to narrow told device table peer incoming outgoing asks dialed same =
    all_on old mid new none none none none (goes_narrow old mid narrow told device)
    (goes_dialed n mid new x to table (ap is_client peer) (subst (NewPeer (link n mid) (link n new)) (sym peer) (new_peer n mid new server lane to dialed)) incoming outgoing asks dialed same)

-- nothing happened
pub goes_nothing : (old new : Net) → new ≡ old → Goes old new none none
goes_nothing old new e = subst (λ (z : Net). Goes old z none none) (sym e) (goes_narrow old old (record { next = omega arith; same = refl; all = λ c. refl }) refl refl)

-- a dialling that was refused
pub goes_undialed : (n : ℕ) (old mid new : Net) (told : Traffic) (to : Endpoint) (why : Why) → Narrows old.table mid.table → mid.told ≡ old.told → mid.device ≡ old.device → new.table ≡ mid.table → Dialed (Err why) n to mid.told told → new.told ≡ told
    → new.device ≡ noted_by why mid.device → Goes old new none none
goes_undialed n old mid new told to whys.NoServer narrow same device table dialed is fault = absurd dialed
goes_undialed n old mid new told to whys.Gone narrow same device table dialed is fault = absurd dialed
goes_undialed n old mid new told to whys.Limit narrow same device table dialed is fault = absurd dialed
goes_undialed n old mid new told to whys.Full narrow same device table dialed is fault = absurd dialed
goes_undialed n old mid new told to whys.Device narrow same device table dialed is fault = goes_narrow_faulty old mid new narrow same device table (subst (λ (t : Traffic). Faulty mid.told t) (sym is) dialed) fault
goes_undialed n old mid new told to whys.NoMemory narrow same device table dialed is fault = goes_narrow old new (subst (λ (t : Table). Narrows old.table t) (sym table) narrow) (is ∙ dialed ∙ same) (fault ∙ device)

pub undialed_lacks : (n : ℕ) (old new : Net) (told : Traffic) (to : Endpoint) (why : Why) → Dialed (Err why) n to old.told told → new.told ≡ told → Lacks old new why
undialed_lacks n old new told to whys.NoServer dialed is = dialed
undialed_lacks n old new told to whys.Gone dialed is = absurd dialed
undialed_lacks n old new told to whys.Limit dialed is = dialed
undialed_lacks n old new told to whys.Full dialed is = dialed
undialed_lacks n old new told to whys.Device dialed is = subst (λ (t : Traffic). Rose old.told.failures t.failures) (sym is) (subst (λ (k : ℕ). Rose old.told.failures k) (sym (ap (λ (t : Traffic). t.failures) dialed.2)) dialed.1.1)
undialed_lacks n old new told to whys.NoMemory dialed is = tt
