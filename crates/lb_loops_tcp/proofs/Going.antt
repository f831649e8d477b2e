-- Steps of one connection.
use Rattle.std.proofs.Common.{◌≡◌, ◌≢◌, ℕ, ◌+◌, ◌<◌, ◌≤◌, inl, inr, Bool, true, false, List, [], ◌∷◌, ◌++◌, length, Option, Some, None, Err, if◌then◌else◌, ◌==◌, refl, sym, ap, ◌∙◌, arith, subst}
use Rattle.std.specs.Prelude.{IfSome, nat_lt, take, drop, ◌&&◌}
use Rattle.std.specs.List.{count_by}
use Rattle.std.proofs.lemmas.Bool.Decides.{nat_tests}
use Rattle.std.proofs.lemmas.List.{append-nil, take-append-drop}
use Rattle.lb_loops_connections.specs.Table.{Swaps, Table, at, client_count, clients, is_client, is_none}
use Rattle.lb_loops_connections.specs.Taking.{Takes}
use Rattle.lb_loops_connections.specs.Writing.{Puts, max_waiting}
use Rattle.lb_loops_connections.specs.declared.connection.Connection.{Connection}
use Rattle.lb_loops_frames.specs.Frames.{AreMessages, NoneWhole, framed, frames}
use Rattle.lb_loops_io.specs.Counts.{Fails}
use Rattle.lb_loops_io.specs.Moves.{FaultyAt, Took, Traffic, octets_of, read_once}
use Rattle.lb_loops_io.specs.declared.report.DeviceFault.{DeviceFault}
use Rattle.lb_loops_io.specs.declared.report.DeviceFault.TheVariants as devices
use Rattle.lb_loops_io.specs.declared.report.Why.{Why}
use Rattle.lb_loops_io.specs.declared.report.Why.TheVariants as whys
use Rattle.lb_loops_tcp.proofs.Apart.{Apart, apart_ended, apart_failed, apart_given, apart_gone, apart_lacked, apart_looked, apart_none, apart_taken, count_here, count_other, is_other, is_same, octets_here}
use Rattle.lb_loops_tcp.proofs.Steps.{fares_ended, fares_moved, fares_same, goes_step, lives_at}
use Rattle.lb_loops_tcp.specs.Goes.{Goes, IsFull, IsOver, Notes, just, none, noted, noted_by}
use Rattle.lb_loops_tcp.specs.Links.{Ends, Moves, Net, Same, held, link, of_number, unwritten}

count_as : (x y : Connection) → y.peer ≡ x.peer → client_count y ≡ client_count x
count_as x y e = ap (λ p. if is_client p then 1 else 0) e

-- how often a number was told
abbrev pub told_of : ℕ → List ℕ → ℕ
told_of c ns = count_by (λ (k : ℕ). k == c) ns

-- the connection of a number was x and is closed, and no other changed
pub record Drops (n : ℕ) (a b : Table) (x : Connection) : Type 0 where
  pub was : at n a ≡ Some x
  pub is : at n b ≡ None
  pub given : n < b.next
  pub others : (c : ℕ) → c ≢ n → at c b ≡ at c a
  pub next : b.next ≡ a.next
  pub refused : told_of n a.refusals ≤ told_of n b.refusals
  pub apart : (c : ℕ) → c ≢ n → told_of c b.refusals ≡ told_of c a.refusals
  pub clients : clients b ≤ clients a

pub swaps : (n : ℕ) (a mid b : Table) (x y : Connection)
    → at n a ≡ Some x → x.number ≡ n → ((c : ℕ) → c ≢ n → at c mid ≡ at c a) → clients mid + client_count x ≡ clients a → mid.next ≡ a.next → mid.refusals ≡ a.refusals
    → at y.number b ≡ Some y → ((c : ℕ) → c ≢ y.number → at c b ≡ at c mid) → clients b ≡ clients mid + client_count y → b.next ≡ mid.next → b.refusals ≡ mid.refusals
    → y.number ≡ x.number → y.peer ≡ x.peer → Swaps n a b x y
swaps n a mid b x y was num others few next refusals is rest many next' refusals' same peer =
    let here : y.number ≡ n = same ∙ num in
    let counts = count_as x y peer in
    record {
      was = was;
      is = ap (λ (k : ℕ). at k b) (sym here) ∙ is;
      others = λ c apart. rest c (λ e. apart (e ∙ here)) ∙ others c apart;
      next = next' ∙ next;
      refusals = refusals' ∙ refusals;
      clients = omega (arith, few, many, counts);
    }

-- the same, where the table was looked at in between
pub swaps_by : (n : ℕ) (a mid between b : Table) (x y : Connection) → between ≡ mid
    → at n a ≡ Some x → x.number ≡ n → ((c : ℕ) → c ≢ n → at c mid ≡ at c a) → clients mid + client_count x ≡ clients a → mid.next ≡ a.next → mid.refusals ≡ a.refusals
    → at y.number b ≡ Some y → ((c : ℕ) → c ≢ y.number → at c b ≡ at c between) → clients b ≡ clients between + client_count y → b.next ≡ between.next → b.refusals ≡ between.refusals
    → y.number ≡ x.number → y.peer ≡ x.peer → Swaps n a b x y
swaps_by n a mid between b x y e was num others few next refusals is rest many next' refusals' same peer = swaps n a between b x y was num
    (λ c apart. ap (at c) e ∙ others c apart) (ap (λ (t : Table). clients t + client_count x) e ∙ few) (ap (λ (t : Table). t.next) e ∙ next) (ap (λ (t : Table). t.refusals) e ∙ refusals)
    is rest many next' refusals' same peer

pub drops : (n : ℕ) (a b : Table) (x : Connection) → at n a ≡ Some x → n < b.next → at n b ≡ None → ((c : ℕ) → c ≢ n → at c b ≡ at c a) → clients b + client_count x ≡ clients a → b.next ≡ a.next → b.refusals ≡ a.refusals → Drops n a b x
drops n a b x was lt none_here others few next refusals = record {
  was = was;
  is = none_here;
  given = lt;
  others = others;
  next = next;
  refused = let same : told_of n b.refusals ≡ told_of n a.refusals = ap (told_of n) refusals in omega (arith, same);
  apart = λ c apart. ap (told_of c) refusals;
  clients = omega (arith, few);
}

-- the same, where it is known what was taken out
pub drops_taken : (n : ℕ) (a b : Table) (taken : Option Connection) (x : Connection) → at n a ≡ Some x → at n a ≡ taken → IfSome taken (λ y. (y.number ≡ n) × (n < b.next)) → at n b ≡ None → ((c : ℕ) → c ≢ n → at c b ≡ at c a)
    → IfSome taken (λ y. clients b + client_count y ≡ clients a) → b.next ≡ a.next → b.refusals ≡ a.refusals → Drops n a b x
drops_taken n a b taken x was is given none_here others few next refusals =
    let one : taken ≡ Some x = sym is ∙ was in
    drops n a b x was (subst (λ (o : Option Connection). IfSome o (λ y. (y.number ≡ n) × (n < b.next))) one given).1 none_here others (subst (λ (o : Option Connection). IfSome o (λ y. clients b + client_count y ≡ clients a)) one few) next refusals

-- the same, where it was changed before
pub drops_swapped : (n : ℕ) (a mid b : Table) (x y : Connection) → Swaps n a mid x y → Drops n mid b y → Drops n a b x
drops_swapped n a mid b x y swap drop =
    let more = drop.refused in let same = swap.clients in let few = drop.clients in
    let equal : told_of n mid.refusals ≡ told_of n a.refusals = ap (told_of n) swap.refusals in
    record {
      was = swap.was;
      is = drop.is;
      given = drop.given;
      others = λ c apart. drop.others c apart ∙ swap.others c apart;
      next = drop.next ∙ swap.next;
      refused = omega (arith, more, equal);
      apart = λ c apart. drop.apart c apart ∙ ap (told_of c) swap.refusals;
      clients = omega (arith, same, few);
    }

pub refused_more : (n : ℕ) (a b : Table) → b ≡ record a { refusals = a.refusals ++ n ∷ [] } → told_of n b.refusals ≡ told_of n a.refusals + 1
refused_more n a b e = ap (λ (t : Table). told_of n t.refusals) e ∙ count_here n a.refusals

pub drops_for_memory : (n : ℕ) (a mid b : Table) (x : Connection) → Drops n a mid x → b ≡ record mid { refusals = mid.refusals ++ n ∷ [] } → Drops n a b x
drops_for_memory n a mid b x d e =
    let next : b.next ≡ mid.next = ap (λ (t : Table). t.next) e in
    let given = d.given in let refused = d.refused in let few = d.clients in
    let same : clients b ≡ clients mid = ap clients e in
    let more : told_of n b.refusals ≡ told_of n mid.refusals + 1 = refused_more n mid b e in
    record {
      was = d.was;
      is = ap (at n) e ∙ d.is;
      given = omega (arith, given, next);
      others = λ c apart. ap (at c) e ∙ d.others c apart;
      next = next ∙ d.next;
      refused = omega (arith, refused, more);
      apart = λ c apart. ap (λ (t : Table). told_of c t.refusals) e ∙ count_other c n mid.refusals apart ∙ d.apart c apart;
      clients = omega (arith, few, same);
    }

-- memory was refused for it once more
pub rose_for_memory : (n : ℕ) (a mid b : Table) (x : Connection) → Drops n a mid x → b ≡ record mid { refusals = mid.refusals ++ n ∷ [] } → told_of n a.refusals < told_of n b.refusals
rose_for_memory n a mid b x d e = let refused = d.refused in let more = refused_more n mid b e in omega (arith, refused, more)

pub given_of : (t : Table) (n : ℕ) → n < t.next → nat_lt n t.next ≡ true
given_of t n lt = grind (arith, nat_tests)

same_of : (n c : ℕ) (old new : Net) → Apart n old.told new.told → c ≢ n → at c new.table ≡ at c old.table → new.table.next ≡ old.table.next → told_of c new.table.refusals ≡ told_of c old.table.refusals → Same (link c old) (link c new)
same_of n c old new told apart here next refused = record {
  given = told.given c apart;
  taken = told.taken c apart;
  came = ap (λ zs. of_number c zs) told.came;
  dialed = told.dialed c apart;
  ended = told.ended c apart;
  gone = told.gone c apart;
  failed = told.failed c apart;
  lacked = told.lacked c apart;
  refused = refused;
  below = ap (λ (k : ℕ). nat_lt c k) next;
  here = here;
}

-- nothing at other numbers
abbrev Only : ℕ → (ℕ → List (List ℕ)) → Type 0
Only n m = (c : ℕ) → c ≢ n → m c ≡ []

only_none : (n : ℕ) → Only n none
only_none n c apart = refl

only_just : (n : ℕ) (message : List ℕ) → Only n (just n message)
only_just n message c apart = ap (λ (b : Bool). if b then message ∷ [] else []) (is_other n c apart)

just_here : (n : ℕ) (message : List ℕ) → just n message n ≡ message ∷ []
just_here n message = ap (λ (b : Bool). if b then message ∷ [] else []) (is_same n)

-- What is noted.

pub same_noted : (f g : Option DeviceFault) (a b : ℕ) → g ≡ f → b ≡ a → Notes f g a b
same_noted None None a b e is = is
same_noted None (Some d) a b e is = cc
same_noted (Some d) g a b e is = e

pub faulty_noted : (f g : Option DeviceFault) (a b : ℕ) → g ≡ noted f → Fails a b → Notes f g a b
faulty_noted None (Some devices.Sockets) a b e is = is
faulty_noted None (Some devices.Outside) a b e is = cc
faulty_noted None None a b e is = cc
faulty_noted (Some d) g a b e is = e

not_lt : (n m : ℕ) → nat_lt n m ≡ false → m ≤ n
not_lt n m e = grind (arith, nat_tests)

quiet_goes : (a : Net) → Goes a a none none
quiet_goes a = goes_step 0 a a none none (λ c apart. record { given = refl; taken = refl; came = refl; dialed = refl; ended = refl; gone = refl; failed = refl; lacked = refl; refused = refl; below = refl; here = refl }) (λ c apart. (refl, refl))
    (fares_same (link 0 a) (link 0 a) (record { given = refl; taken = refl; came = refl; dialed = refl; ended = refl; gone = refl; failed = refl; lacked = refl; refused = refl; below = refl; here = refl }))
    (record { failures = omega arith; next = omega arith; gone = omega arith; came = refl; turned = refl; clients = omega arith; noted = same_noted a.device a.device a.told.failures a.told.failures refl refl; counted = omega arith })

goes_nothing_at : (old new : Net) → new ≡ old → Goes old new none none
goes_nothing_at old new e = subst (λ (z : Net). Goes old z none none) (sym e) (quiet_goes old)

-- one that stays open
goes_swap : (n : ℕ) (old new : Net) (x y : Connection) (m s : ℕ → List (List ℕ)) → Swaps n old.table new.table x y → Apart n old.told new.told → Notes old.device new.device old.told.failures new.told.failures
    → Only n m → Only n s → Moves (link n old) (link n new) x y (m n) (s n) → Goes old new m s
goes_swap n old new x y m s table told noted only_m only_s moves =
    let next = table.next in let few = table.clients in
    goes_step n old new m s (λ c apart. same_of n c old new told apart (table.others c apart) next (ap (told_of c) table.refusals)) (λ c apart. (only_m c apart, only_s c apart))
    (fares_moved (link n old) (link n new) x y (m n) (s n) moves)
    (record { failures = told.failures; next = omega arith; gone = told.all_gone; came = told.came; turned = told.turned; clients = omega arith; noted = noted; counted = told.counted })

-- one that is closed
goes_drop : (n : ℕ) (old new : Net) (x : Connection) (m s : ℕ → List (List ℕ)) → Drops n old.table new.table x → Apart n old.told new.told → Notes old.device new.device old.told.failures new.told.failures
    → Only n m → Only n s → Ends (link n old) (link n new) (m n) (s n) → Goes old new m s
goes_drop n old new x m s table told noted only_m only_s ends =
    let next = table.next in
    goes_step n old new m s (λ c apart. same_of n c old new told apart (table.others c apart) next (table.apart c apart)) (λ c apart. (only_m c apart, only_s c apart))
    (fares_ended (link n old) (link n new) (m n) (s n) ends)
    (record { failures = told.failures; next = omega arith; gone = told.all_gone; came = told.came; turned = told.turned; clients = table.clients; noted = noted; counted = told.counted })

-- What is at the number of a swap.

same_refused : (n : ℕ) (a b : Table) → b.refusals ≡ a.refusals → told_of n a.refusals ≤ told_of n b.refusals
same_refused n a b e = let same : told_of n b.refusals ≡ told_of n a.refusals = ap (told_of n) e in omega (arith, same)

same_told : (n : ℕ) (ms ns : List ℕ) → ns ≡ ms → told_of n ms ≤ told_of n ns
same_told n ms ns e = let same : told_of n ns ≡ told_of n ms = ap (told_of n) e in omega (arith, same)

below_same : (n : ℕ) (a b : Table) → b.next ≡ a.next → nat_lt n b.next ≡ nat_lt n a.next
below_same n a b e = ap (λ (k : ℕ). nat_lt n k) e

one_frame : (message : List ℕ) → frames (message ∷ []) ≡ framed message
one_frame message = append-nil (framed message)

take_drop : (k : ℕ) (xs : List ℕ) → take k xs ++ drop k xs ≡ xs
take_drop k xs = take-append-drop k xs

-- a connection of which nothing but what the loop notes of it changes, and of which a read may have
-- given nothing
pub goes_looked : (n r : ℕ) (old new : Net) (x y : Connection) → Swaps n old.table new.table x y → new.told ≡ record old.told { reads = r } → old.told.reads ≤ r → new.device ≡ old.device
    → y.peer ≡ x.peer → y.incoming ≡ x.incoming → y.outgoing ≡ x.outgoing → y.is_ended ≡ x.is_ended → Goes old new none none
goes_looked n r old new x y table told le device peer incoming outgoing ended =
    let gone_same : count_by (λ (k : ℕ). k == n) new.told.ended ≡ count_by (λ (k : ℕ). k == n) old.told.ended = ap (λ (t : Traffic). count_by (λ (k : ℕ). k == n) t.ended) told in
    goes_swap n old new x y none none table (apart_looked n r old.told new.told told le) (same_noted old.device new.device old.told.failures new.told.failures device (ap (λ (t : Traffic). t.failures) told)) (only_none n) (only_none n) (record {
      was = table.was;
      is = table.is;
      below = below_same n old.table new.table table.next;
      came = ap (λ (t : Traffic). of_number n t.came) told;
      dialed = ap (λ (t : Traffic). of_number n t.dialed) told;
      gone = ap (λ (t : Traffic). count_by (λ (k : ℕ). k == n) t.gone) told;
      failed = ap (λ (t : Traffic). told_of n t.failed) told;
      lacked = ap (λ (t : Traffic). told_of n t.lacked) told;
      refused = same_refused n old.table new.table table.refusals;
      ended = omega (arith, gone_same);
      peer = peer;
      asked = λ is. inl (sym ended ∙ is);
      gave = [];
      given = ap (λ (t : Traffic). octets_of n t.given) told ∙ sym (append-nil (octets_of n old.told.given));
      are = tt;
      told = append-nil x.incoming ∙ sym incoming;
      took = [];
      taken = ap (λ (t : Traffic). octets_of n t.taken) told ∙ sym (append-nil (octets_of n old.told.taken));
      put = outgoing ∙ sym (append-nil x.outgoing);
    })

pub goes_kept : (n : ℕ) (old new : Net) (x y : Connection) → Swaps n old.table new.table x y → new.told ≡ old.told → new.device ≡ old.device
    → y.peer ≡ x.peer → y.incoming ≡ x.incoming → y.outgoing ≡ x.outgoing → y.is_ended ≡ x.is_ended → Goes old new none none
goes_kept n old new x y table told device peer incoming outgoing ended = goes_looked n old.told.reads old new x y table told (omega arith) device peer incoming outgoing ended

-- memory was refused for one that stays open
pub goes_counted : (n : ℕ) (old new : Net) (x : Connection) → at n old.table ≡ Some x → new.table ≡ record old.table { refusals = old.table.refusals ++ n ∷ [] } → new.told ≡ old.told → new.device ≡ old.device → Goes old new none none
goes_counted n old new x was table told device =
    let failures : new.told.failures ≡ old.told.failures = ap (λ (t : Traffic). t.failures) told in
    let next : new.table.next ≡ old.table.next = ap (λ (t : Table). t.next) table in
    let few : clients new.table ≡ clients old.table = ap clients table in
    let more = refused_more n old.table new.table table in
    let ends : told_of n new.told.ended ≡ told_of n old.told.ended = ap (λ (t : Traffic). told_of n t.ended) told in
    let apart_all = apart_none n old.told new.told told in
    goes_step n old new none none
    (λ c apart. same_of n c old new apart_all apart (ap (at c) table) next (ap (λ (t : Table). told_of c t.refusals) table ∙ count_other c n old.table.refusals apart)) (λ c apart. (refl, refl))
    (fares_moved (link n old) (link n new) x x [] [] (record {
      was = was;
      is = ap (at n) table ∙ was;
      below = below_same n old.table new.table next;
      came = ap (λ (t : Traffic). of_number n t.came) told;
      dialed = ap (λ (t : Traffic). of_number n t.dialed) told;
      gone = ap (λ (t : Traffic). told_of n t.gone) told;
      failed = ap (λ (t : Traffic). told_of n t.failed) told;
      lacked = ap (λ (t : Traffic). told_of n t.lacked) told;
      refused = omega (arith, more);
      ended = omega (arith, ends);
      peer = refl;
      asked = λ is. inl is;
      gave = [];
      given = ap (λ (t : Traffic). octets_of n t.given) told ∙ sym (append-nil (octets_of n old.told.given));
      are = tt;
      told = append-nil x.incoming;
      took = [];
      taken = ap (λ (t : Traffic). octets_of n t.taken) told ∙ sym (append-nil (octets_of n old.told.taken));
      put = sym (append-nil x.outgoing);
    }))
    (record { failures = omega (arith, failures); next = omega (arith, next); gone = apart_all.all_gone; came = apart_all.came; turned = apart_all.turned; clients = omega (arith, few); noted = same_noted old.device new.device old.told.failures new.told.failures device failures; counted = apart_all.counted })

-- octets came of it
pub goes_heard : (n : ℕ) (old new : Net) (x y : Connection) (o : List ℕ) → Swaps n old.table new.table x y → new.told ≡ record old.told { given = old.told.given ++ (n, o) ∷ []; reads = old.told.reads + 1 } → new.device ≡ old.device
    → y.peer ≡ x.peer → y.incoming ≡ x.incoming ++ o → y.outgoing ≡ x.outgoing → y.is_ended ≡ x.is_ended → Goes old new none none
goes_heard n old new x y o table told device peer incoming outgoing ended =
    let gone_same : count_by (λ (k : ℕ). k == n) new.told.ended ≡ count_by (λ (k : ℕ). k == n) old.told.ended = ap (λ (t : Traffic). count_by (λ (k : ℕ). k == n) t.ended) told in
    goes_swap n old new x y none none table (apart_given n old.told new.told o told) (same_noted old.device new.device old.told.failures new.told.failures device (ap (λ (t : Traffic). t.failures) told)) (only_none n) (only_none n) (record {
      was = table.was;
      is = table.is;
      below = below_same n old.table new.table table.next;
      came = ap (λ (t : Traffic). of_number n t.came) told;
      dialed = ap (λ (t : Traffic). of_number n t.dialed) told;
      gone = ap (λ (t : Traffic). count_by (λ (k : ℕ). k == n) t.gone) told;
      failed = ap (λ (t : Traffic). told_of n t.failed) told;
      lacked = ap (λ (t : Traffic). told_of n t.lacked) told;
      refused = same_refused n old.table new.table table.refusals;
      ended = omega (arith, gone_same);
      peer = peer;
      asked = λ is. inl (sym ended ∙ is);
      gave = o;
      given = ap (λ (t : Traffic). octets_of n t.given) told ∙ octets_here n old.told.given o;
      are = tt;
      told = sym incoming;
      took = [];
      taken = ap (λ (t : Traffic). octets_of n t.taken) told ∙ sym (append-nil (octets_of n old.told.taken));
      put = outgoing ∙ sym (append-nil x.outgoing);
    })

-- its peer closed its side
pub goes_asked : (n : ℕ) (old new : Net) (x y : Connection) → Swaps n old.table new.table x y → new.told ≡ record old.told { ended = old.told.ended ++ n ∷ []; reads = old.told.reads + 1 } → new.device ≡ old.device
    → y.peer ≡ x.peer → y.incoming ≡ x.incoming → y.outgoing ≡ x.outgoing → Goes old new none none
goes_asked n old new x y table told device peer incoming outgoing =
    let more : count_by (λ (k : ℕ). k == n) new.told.ended ≡ count_by (λ (k : ℕ). k == n) old.told.ended + 1 = ap (λ (t : Traffic). count_by (λ (k : ℕ). k == n) t.ended) told ∙ count_here n old.told.ended in
    goes_swap n old new x y none none table (apart_ended n old.told new.told told) (same_noted old.device new.device old.told.failures new.told.failures device (ap (λ (t : Traffic). t.failures) told)) (only_none n) (only_none n) (record {
      was = table.was;
      is = table.is;
      below = below_same n old.table new.table table.next;
      came = ap (λ (t : Traffic). of_number n t.came) told;
      dialed = ap (λ (t : Traffic). of_number n t.dialed) told;
      gone = ap (λ (t : Traffic). count_by (λ (k : ℕ). k == n) t.gone) told;
      failed = ap (λ (t : Traffic). told_of n t.failed) told;
      lacked = ap (λ (t : Traffic). told_of n t.lacked) told;
      refused = same_refused n old.table new.table table.refusals;
      ended = omega (arith, more);
      peer = peer;
      asked = λ is. inr (omega (arith, more));
      gave = [];
      given = ap (λ (t : Traffic). octets_of n t.given) told ∙ sym (append-nil (octets_of n old.told.given));
      are = tt;
      told = append-nil x.incoming ∙ sym incoming;
      took = [];
      taken = ap (λ (t : Traffic). octets_of n t.taken) told ∙ sym (append-nil (octets_of n old.told.taken));
      put = outgoing ∙ sym (append-nil x.outgoing);
    })

-- its socket took octets from the front of what waited
pub goes_written : (n k : ℕ) (old new : Net) (x y : Connection) → Swaps n old.table new.table x y → new.told ≡ record old.told { taken = old.told.taken ++ (n, take k x.outgoing) ∷ [] } → new.device ≡ old.device
    → y.peer ≡ x.peer → y.incoming ≡ x.incoming → y.outgoing ≡ drop k x.outgoing → y.is_ended ≡ x.is_ended → Goes old new none none
goes_written n k old new x y table told device peer incoming outgoing ended =
    let gone_same : count_by (λ (k : ℕ). k == n) new.told.ended ≡ count_by (λ (k : ℕ). k == n) old.told.ended = ap (λ (t : Traffic). count_by (λ (k : ℕ). k == n) t.ended) told in
    goes_swap n old new x y none none table (apart_taken n old.told new.told (take k x.outgoing) told) (same_noted old.device new.device old.told.failures new.told.failures device (ap (λ (t : Traffic). t.failures) told)) (only_none n) (only_none n) (record {
      was = table.was;
      is = table.is;
      below = below_same n old.table new.table table.next;
      came = ap (λ (t : Traffic). of_number n t.came) told;
      dialed = ap (λ (t : Traffic). of_number n t.dialed) told;
      gone = ap (λ (t : Traffic). count_by (λ (k : ℕ). k == n) t.gone) told;
      failed = ap (λ (t : Traffic). told_of n t.failed) told;
      lacked = ap (λ (t : Traffic). told_of n t.lacked) told;
      refused = same_refused n old.table new.table table.refusals;
      ended = omega (arith, gone_same);
      peer = peer;
      asked = λ is. inl (sym ended ∙ is);
      gave = [];
      given = ap (λ (t : Traffic). octets_of n t.given) told ∙ sym (append-nil (octets_of n old.told.given));
      are = tt;
      told = append-nil x.incoming ∙ sym incoming;
      took = take k x.outgoing;
      taken = ap (λ (t : Traffic). octets_of n t.taken) told ∙ octets_here n old.told.taken (take k x.outgoing);
      put = ap (λ zs. take k x.outgoing ++ zs) outgoing ∙ take_drop k x.outgoing ∙ sym (append-nil x.outgoing);
    })

-- a message was put after what it is to write
goes_promised : (n : ℕ) (old new : Net) (x y : Connection) (message : List ℕ) → Swaps n old.table new.table x y → new.told ≡ old.told → new.device ≡ old.device
    → y.peer ≡ x.peer → y.incoming ≡ x.incoming → y.outgoing ≡ x.outgoing ++ framed message → y.is_ended ≡ x.is_ended → Goes old new none (just n message)
goes_promised n old new x y message table told device peer incoming outgoing ended =
    let gone_same : count_by (λ (k : ℕ). k == n) new.told.ended ≡ count_by (λ (k : ℕ). k == n) old.told.ended = ap (λ (t : Traffic). count_by (λ (k : ℕ). k == n) t.ended) told in
    goes_swap n old new x y none (just n message) table (apart_none n old.told new.told told) (same_noted old.device new.device old.told.failures new.told.failures device (ap (λ (t : Traffic). t.failures) told)) (only_none n) (only_just n message) (record {
      was = table.was;
      is = table.is;
      below = below_same n old.table new.table table.next;
      came = ap (λ (t : Traffic). of_number n t.came) told;
      dialed = ap (λ (t : Traffic). of_number n t.dialed) told;
      gone = ap (λ (t : Traffic). count_by (λ (k : ℕ). k == n) t.gone) told;
      failed = ap (λ (t : Traffic). told_of n t.failed) told;
      lacked = ap (λ (t : Traffic). told_of n t.lacked) told;
      refused = same_refused n old.table new.table table.refusals;
      ended = omega (arith, gone_same);
      peer = peer;
      asked = λ is. inl (sym ended ∙ is);
      gave = [];
      given = ap (λ (t : Traffic). octets_of n t.given) told ∙ sym (append-nil (octets_of n old.told.given));
      are = tt;
      told = append-nil x.incoming ∙ sym incoming;
      took = [];
      taken = ap (λ (t : Traffic). octets_of n t.taken) told ∙ sym (append-nil (octets_of n old.told.taken));
      put = outgoing ∙ ap (λ zs. x.outgoing ++ zs) (sym (one_frame message)) ∙ ap (λ ms. x.outgoing ++ frames ms) (sym (just_here n message));
    })

pub goes_put : (n : ℕ) (old new : Net) (message : List ℕ) → Puts n message old.table new.table → new.told ≡ old.told → new.device ≡ old.device → Goes old new none (just n message)
goes_put n old new message put told device = goes_promised n old new put.x put.y message put.swaps told device (ap (λ (z : Connection). z.peer) put.same) (ap (λ (z : Connection). z.incoming) put.same)
    (ap (λ (z : Connection). z.outgoing) put.same) (ap (λ (z : Connection). z.is_ended) put.same)

-- a message was taken of what came
goes_taken : (n : ℕ) (old new : Net) (x y : Connection) (message : List ℕ) → Swaps n old.table new.table x y → new.told ≡ old.told → new.device ≡ old.device
    → y.peer ≡ x.peer → length message < 65536 → x.incoming ≡ framed message ++ y.incoming → y.outgoing ≡ x.outgoing → y.is_ended ≡ x.is_ended → Goes old new (just n message) none
goes_taken n old new x y message table told device peer fits incoming outgoing ended =
    let gone_same : count_by (λ (k : ℕ). k == n) new.told.ended ≡ count_by (λ (k : ℕ). k == n) old.told.ended = ap (λ (t : Traffic). count_by (λ (k : ℕ). k == n) t.ended) told in
    goes_swap n old new x y (just n message) none table (apart_none n old.told new.told told) (same_noted old.device new.device old.told.failures new.told.failures device (ap (λ (t : Traffic). t.failures) told)) (only_just n message) (only_none n) (record {
      was = table.was;
      is = table.is;
      below = below_same n old.table new.table table.next;
      came = ap (λ (t : Traffic). of_number n t.came) told;
      dialed = ap (λ (t : Traffic). of_number n t.dialed) told;
      gone = ap (λ (t : Traffic). count_by (λ (k : ℕ). k == n) t.gone) told;
      failed = ap (λ (t : Traffic). told_of n t.failed) told;
      lacked = ap (λ (t : Traffic). told_of n t.lacked) told;
      refused = same_refused n old.table new.table table.refusals;
      ended = omega (arith, gone_same);
      peer = peer;
      asked = λ is. inl (sym ended ∙ is);
      gave = [];
      given = ap (λ (t : Traffic). octets_of n t.given) told ∙ sym (append-nil (octets_of n old.told.given));
      are = subst AreMessages (sym (just_here n message)) (fits, tt);
      told = append-nil x.incoming ∙ incoming ∙ ap (λ zs. zs ++ y.incoming) (sym (one_frame message)) ∙ ap (λ ms. frames ms ++ y.incoming) (sym (just_here n message));
      took = [];
      taken = ap (λ (t : Traffic). octets_of n t.taken) told ∙ sym (append-nil (octets_of n old.told.taken));
      put = outgoing ∙ sym (append-nil x.outgoing);
    })

pub goes_took : (n : ℕ) (old new : Net) (message : List ℕ) → Takes n message old.table new.table → new.told ≡ old.told → new.device ≡ old.device → Goes old new (just n message) none
goes_took n old new message taken told device = goes_taken n old new taken.x taken.y message taken.swaps told device (ap (λ (z : Connection). z.peer) taken.same) taken.fits taken.front
    (ap (λ (z : Connection). z.outgoing) taken.same) (ap (λ (z : Connection). z.is_ended) taken.same)

-- Why one is closed.

below_of : (n : ℕ) (t : Table) → n < t.next → nat_lt n t.next ≡ true
below_of n t lt = given_of t n lt

-- a device failed
pub goes_failed_by : (n k r : ℕ) (old new : Net) (x : Connection) → Drops n old.table new.table x → new.told ≡ record old.told { failures = k; reads = r; failed = old.told.failed ++ n ∷ [] } → Fails old.told.failures k → old.told.reads ≤ r → new.device ≡ noted old.device → Goes old new none none
goes_failed_by n k r old new x table told faulty more device =
    let le = faulty.0 in
    let fails : Fails old.told.failures new.told.failures = subst (λ (i : ℕ). Fails old.told.failures i) (sym (ap (λ (t : Traffic). t.failures) told)) faulty in
    let ends : count_by (λ (k : ℕ). k == n) new.told.ended ≡ count_by (λ (k : ℕ). k == n) old.told.ended = ap (λ (t : Traffic). count_by (λ (k : ℕ). k == n) t.ended) told in
    let gone : count_by (λ (k : ℕ). k == n) new.told.gone ≡ count_by (λ (k : ℕ). k == n) old.told.gone = ap (λ (t : Traffic). count_by (λ (k : ℕ). k == n) t.gone) told in
    let at_it : told_of n new.told.failed ≡ told_of n old.told.failed + 1 = ap (λ (t : Traffic). told_of n t.failed) told ∙ count_here n old.told.failed in
    goes_drop n old new x none none table (apart_failed n k r old.told new.told told le more) (faulty_noted old.device new.device old.told.failures new.told.failures device fails) (only_none n) (only_none n) (record {
      here = table.is;
      before = lives_at (link n old) x table.was;
      below = below_of n new.table table.given;
      came = ap (λ (t : Traffic). of_number n t.came) told;
      dialed = ap (λ (t : Traffic). of_number n t.dialed) told;
      gone = omega (arith, gone);
      failed = omega (arith, at_it);
      lacked = same_told n old.told.lacked new.told.lacked (ap (λ (t : Traffic). t.lacked) told);
      refused = table.refused;
      ended = omega (arith, ends);
      took = [];
      taken = ap (λ (t : Traffic). octets_of n t.taken) told ∙ sym (append-nil (octets_of n old.told.taken));
      cause = inl (omega (arith, at_it));
    })

-- at a write
pub goes_failed : (n : ℕ) (old new : Net) (x : Connection) → Drops n old.table new.table x → FaultyAt n old.told new.told → new.device ≡ noted old.device → Goes old new none none
goes_failed n old new x table faulty device = goes_failed_by n faulty.0 old.told.reads old new x table faulty.2 faulty.1 (omega arith) device

-- at a read
pub goes_failed_read : (n : ℕ) (old new : Net) (x : Connection) → Drops n old.table new.table x → FaultyAt n (read_once old.told) new.told → new.device ≡ noted old.device → Goes old new none none
goes_failed_read n old new x table faulty device = goes_failed_by n faulty.0 (old.told.reads + 1) old new x table faulty.2 faulty.1 (omega arith) device

-- room for a piece was refused before it was read
pub goes_lacking : (n : ℕ) (old new : Net) (x : Connection) → Drops n old.table new.table x → told_of n old.table.refusals < told_of n new.table.refusals → new.told ≡ record old.told { lacked = old.told.lacked ++ n ∷ []; reads = old.told.reads + 1 } → new.device ≡ old.device → Goes old new none none
goes_lacking n old new x table rose told device =
    let ends : count_by (λ (k : ℕ). k == n) new.told.ended ≡ count_by (λ (k : ℕ). k == n) old.told.ended = ap (λ (t : Traffic). count_by (λ (k : ℕ). k == n) t.ended) told in
    let gone : count_by (λ (k : ℕ). k == n) new.told.gone ≡ count_by (λ (k : ℕ). k == n) old.told.gone = ap (λ (t : Traffic). count_by (λ (k : ℕ). k == n) t.gone) told in
    goes_drop n old new x none none table (apart_lacked n old.told new.told told) (same_noted old.device new.device old.told.failures new.told.failures device (ap (λ (t : Traffic). t.failures) told)) (only_none n) (only_none n) (record {
      here = table.is;
      before = lives_at (link n old) x table.was;
      below = below_of n new.table table.given;
      came = ap (λ (t : Traffic). of_number n t.came) told;
      dialed = ap (λ (t : Traffic). of_number n t.dialed) told;
      gone = omega (arith, gone);
      failed = same_told n old.told.failed new.told.failed (ap (λ (t : Traffic). t.failed) told);
      lacked = let more : told_of n new.told.lacked ≡ told_of n old.told.lacked + 1 = ap (λ (t : Traffic). told_of n t.lacked) told ∙ count_here n old.told.lacked in omega (arith, more);
      refused = table.refused;
      ended = omega (arith, ends);
      took = [];
      taken = ap (λ (t : Traffic). octets_of n t.taken) told ∙ sym (append-nil (octets_of n old.told.taken));
      cause = inr (inl rose);
    })

-- memory was refused for it
pub goes_for_memory : (n : ℕ) (old new : Net) (x : Connection) → Drops n old.table new.table x → told_of n old.table.refusals < told_of n new.table.refusals → new.told ≡ old.told → new.device ≡ old.device → Goes old new none none
goes_for_memory n old new x table rose told device =
    let ends : count_by (λ (k : ℕ). k == n) new.told.ended ≡ count_by (λ (k : ℕ). k == n) old.told.ended = ap (λ (t : Traffic). count_by (λ (k : ℕ). k == n) t.ended) told in
    let gone : count_by (λ (k : ℕ). k == n) new.told.gone ≡ count_by (λ (k : ℕ). k == n) old.told.gone = ap (λ (t : Traffic). count_by (λ (k : ℕ). k == n) t.gone) told in
    goes_drop n old new x none none table (apart_none n old.told new.told told) (same_noted old.device new.device old.told.failures new.told.failures device (ap (λ (t : Traffic). t.failures) told)) (only_none n) (only_none n) (record {
      here = table.is;
      before = lives_at (link n old) x table.was;
      below = below_of n new.table table.given;
      came = ap (λ (t : Traffic). of_number n t.came) told;
      dialed = ap (λ (t : Traffic). of_number n t.dialed) told;
      gone = omega (arith, gone);
      failed = same_told n old.told.failed new.told.failed (ap (λ (t : Traffic). t.failed) told);
      lacked = same_told n old.told.lacked new.told.lacked (ap (λ (t : Traffic). t.lacked) told);
      refused = table.refused;
      ended = omega (arith, ends);
      took = [];
      taken = ap (λ (t : Traffic). octets_of n t.taken) told ∙ sym (append-nil (octets_of n old.told.taken));
      cause = inr (inl rose);
    })

pub goes_for_memory_read : (n : ℕ) (old new : Net) (x : Connection) (o : List ℕ) → Drops n old.table new.table x → told_of n old.table.refusals < told_of n new.table.refusals → new.told ≡ record old.told { given = old.told.given ++ (n, o) ∷ []; reads = old.told.reads + 1 } → new.device ≡ old.device → Goes old new none none
goes_for_memory_read n old new x o table rose told device =
    let ends : count_by (λ (k : ℕ). k == n) new.told.ended ≡ count_by (λ (k : ℕ). k == n) old.told.ended = ap (λ (t : Traffic). count_by (λ (k : ℕ). k == n) t.ended) told in
    let gone : count_by (λ (k : ℕ). k == n) new.told.gone ≡ count_by (λ (k : ℕ). k == n) old.told.gone = ap (λ (t : Traffic). count_by (λ (k : ℕ). k == n) t.gone) told in
    goes_drop n old new x none none table (apart_given n old.told new.told o told) (same_noted old.device new.device old.told.failures new.told.failures device (ap (λ (t : Traffic). t.failures) told)) (only_none n) (only_none n) (record {
      here = table.is;
      before = lives_at (link n old) x table.was;
      below = below_of n new.table table.given;
      came = ap (λ (t : Traffic). of_number n t.came) told;
      dialed = ap (λ (t : Traffic). of_number n t.dialed) told;
      gone = omega (arith, gone);
      failed = same_told n old.told.failed new.told.failed (ap (λ (t : Traffic). t.failed) told);
      lacked = same_told n old.told.lacked new.told.lacked (ap (λ (t : Traffic). t.lacked) told);
      refused = table.refused;
      ended = omega (arith, ends);
      took = [];
      taken = ap (λ (t : Traffic). octets_of n t.taken) told ∙ sym (append-nil (octets_of n old.told.taken));
      cause = inr (inl rose);
    })

-- memory was lacking for its place in the queue, after a message that was taken of it
pub goes_for_memory_taken : (n : ℕ) (old new : Net) (x : Connection) (message : List ℕ) → Drops n old.table new.table x → told_of n old.table.refusals < told_of n new.table.refusals → new.told ≡ old.told → new.device ≡ old.device → Goes old new (just n message) none
goes_for_memory_taken n old new x message table rose told device =
    let ends : count_by (λ (k : ℕ). k == n) new.told.ended ≡ count_by (λ (k : ℕ). k == n) old.told.ended = ap (λ (t : Traffic). count_by (λ (k : ℕ). k == n) t.ended) told in
    let gone : count_by (λ (k : ℕ). k == n) new.told.gone ≡ count_by (λ (k : ℕ). k == n) old.told.gone = ap (λ (t : Traffic). count_by (λ (k : ℕ). k == n) t.gone) told in
    goes_drop n old new x (just n message) none table (apart_none n old.told new.told told) (same_noted old.device new.device old.told.failures new.told.failures device (ap (λ (t : Traffic). t.failures) told)) (only_just n message) (only_none n) (record {
      here = table.is;
      before = lives_at (link n old) x table.was;
      below = below_of n new.table table.given;
      came = ap (λ (t : Traffic). of_number n t.came) told;
      dialed = ap (λ (t : Traffic). of_number n t.dialed) told;
      gone = omega (arith, gone);
      failed = same_told n old.told.failed new.told.failed (ap (λ (t : Traffic). t.failed) told);
      lacked = same_told n old.told.lacked new.told.lacked (ap (λ (t : Traffic). t.lacked) told);
      refused = table.refused;
      ended = omega (arith, ends);
      took = [];
      taken = ap (λ (t : Traffic). octets_of n t.taken) told ∙ sym (append-nil (octets_of n old.told.taken));
      cause = inr (inl rose);
    })

-- its server closed its side
pub goes_left : (n : ℕ) (old new : Net) (x : Connection) → Drops n old.table new.table x → is_client x.peer ≡ false → new.told ≡ record old.told { ended = old.told.ended ++ n ∷ []; reads = old.told.reads + 1 } → new.device ≡ old.device → Goes old new none none
goes_left n old new x table server told device =
    let ends : count_by (λ (k : ℕ). k == n) new.told.ended ≡ count_by (λ (k : ℕ). k == n) old.told.ended + 1 = ap (λ (t : Traffic). count_by (λ (k : ℕ). k == n) t.ended) told ∙ count_here n old.told.ended in
    let gone : count_by (λ (k : ℕ). k == n) new.told.gone ≡ count_by (λ (k : ℕ). k == n) old.told.gone = ap (λ (t : Traffic). count_by (λ (k : ℕ). k == n) t.gone) told in
    goes_drop n old new x none none table (apart_ended n old.told new.told told) (same_noted old.device new.device old.told.failures new.told.failures device (ap (λ (t : Traffic). t.failures) told)) (only_none n) (only_none n) (record {
      here = table.is;
      before = lives_at (link n old) x table.was;
      below = below_of n new.table table.given;
      came = ap (λ (t : Traffic). of_number n t.came) told;
      dialed = ap (λ (t : Traffic). of_number n t.dialed) told;
      gone = omega (arith, gone);
      failed = same_told n old.told.failed new.told.failed (ap (λ (t : Traffic). t.failed) told);
      lacked = same_told n old.told.lacked new.told.lacked (ap (λ (t : Traffic). t.lacked) told);
      refused = table.refused;
      ended = omega (arith, ends);
      took = [];
      taken = ap (λ (t : Traffic). octets_of n t.taken) told ∙ sym (append-nil (octets_of n old.told.taken));
      cause = inr (inr (inr (inl (omega (arith, ends), inl (x, table.was, server)))));
    })

-- its peer takes no more
pub goes_gone : (n : ℕ) (old new : Net) (x : Connection) → Drops n old.table new.table x → new.told ≡ record old.told { gone = old.told.gone ++ n ∷ [] } → new.device ≡ old.device → Goes old new none none
goes_gone n old new x table told device =
    let ends : count_by (λ (k : ℕ). k == n) new.told.ended ≡ count_by (λ (k : ℕ). k == n) old.told.ended = ap (λ (t : Traffic). count_by (λ (k : ℕ). k == n) t.ended) told in
    let gone : count_by (λ (k : ℕ). k == n) new.told.gone ≡ count_by (λ (k : ℕ). k == n) old.told.gone + 1 = ap (λ (t : Traffic). count_by (λ (k : ℕ). k == n) t.gone) told ∙ count_here n old.told.gone in
    goes_drop n old new x none none table (apart_gone n old.told new.told told) (same_noted old.device new.device old.told.failures new.told.failures device (ap (λ (t : Traffic). t.failures) told)) (only_none n) (only_none n) (record {
      here = table.is;
      before = lives_at (link n old) x table.was;
      below = below_of n new.table table.given;
      came = ap (λ (t : Traffic). of_number n t.came) told;
      dialed = ap (λ (t : Traffic). of_number n t.dialed) told;
      gone = omega (arith, gone);
      failed = same_told n old.told.failed new.told.failed (ap (λ (t : Traffic). t.failed) told);
      lacked = same_told n old.told.lacked new.told.lacked (ap (λ (t : Traffic). t.lacked) told);
      refused = table.refused;
      ended = omega (arith, ends);
      took = [];
      taken = ap (λ (t : Traffic). octets_of n t.taken) told ∙ sym (append-nil (octets_of n old.told.taken));
      cause = inr (inr (inl (omega (arith, gone))));
    })

-- it has all that it waits for
pub goes_finished : (n : ℕ) (old new : Net) (x : Connection) → Drops n old.table new.table x → x.is_ended ≡ true → x.outgoing ≡ [] → NoneWhole x.incoming → new.told ≡ old.told → new.device ≡ old.device → Goes old new none none
goes_finished n old new x table asked written whole told device =
    let ends : count_by (λ (k : ℕ). k == n) new.told.ended ≡ count_by (λ (k : ℕ). k == n) old.told.ended = ap (λ (t : Traffic). count_by (λ (k : ℕ). k == n) t.ended) told in
    let gone : count_by (λ (k : ℕ). k == n) new.told.gone ≡ count_by (λ (k : ℕ). k == n) old.told.gone = ap (λ (t : Traffic). count_by (λ (k : ℕ). k == n) t.gone) told in
    goes_drop n old new x none none table (apart_none n old.told new.told told) (same_noted old.device new.device old.told.failures new.told.failures device (ap (λ (t : Traffic). t.failures) told)) (only_none n) (only_none n) (record {
      here = table.is;
      before = lives_at (link n old) x table.was;
      below = below_of n new.table table.given;
      came = ap (λ (t : Traffic). of_number n t.came) told;
      dialed = ap (λ (t : Traffic). of_number n t.dialed) told;
      gone = omega (arith, gone);
      failed = same_told n old.told.failed new.told.failed (ap (λ (t : Traffic). t.failed) told);
      lacked = same_told n old.told.lacked new.told.lacked (ap (λ (t : Traffic). t.lacked) told);
      refused = table.refused;
      ended = omega (arith, ends);
      took = [];
      taken = ap (λ (t : Traffic). octets_of n t.taken) told ∙ sym (append-nil (octets_of n old.told.taken));
      cause = inr (inr (inr (inr (inl (record {
        ended = inl (x, table.was, asked);
        rest = x.incoming;
        none = whole;
        heard = record {
          gave = [];
          given = ap (λ (t : Traffic). octets_of n t.given) told ∙ sym (append-nil (octets_of n old.told.given));
          are = tt;
          told = ap (λ (o : Option Connection). held o ++ []) table.was ∙ append-nil x.incoming;
        };
        promised = ap (λ (t : Traffic). octets_of n t.taken ++ []) told
            ∙ sym (append-nil (octets_of n old.told.taken ++ []))
            ∙ ap (λ (zs : List ℕ). (octets_of n old.told.taken ++ zs) ++ []) (sym (ap unwritten table.was ∙ written));
      })))));
    })

-- more would wait to be written to it than may
pub goes_over : (n : ℕ) (old new : Net) (x : Connection) (message : List ℕ) → Drops n old.table new.table x → max_waiting < length x.outgoing + length (framed message) → new.told ≡ old.told → new.device ≡ old.device → Goes old new none none
goes_over n old new x message table over told device =
    let ends : count_by (λ (k : ℕ). k == n) new.told.ended ≡ count_by (λ (k : ℕ). k == n) old.told.ended = ap (λ (t : Traffic). count_by (λ (k : ℕ). k == n) t.ended) told in
    let gone : count_by (λ (k : ℕ). k == n) new.told.gone ≡ count_by (λ (k : ℕ). k == n) old.told.gone = ap (λ (t : Traffic). count_by (λ (k : ℕ). k == n) t.gone) told in
    let left : length (unwritten (at n old.table)) ≡ length x.outgoing = ap (λ (o : Option Connection). length (unwritten o)) table.was in
    goes_drop n old new x none none table (apart_none n old.told new.told told) (same_noted old.device new.device old.told.failures new.told.failures device (ap (λ (t : Traffic). t.failures) told)) (only_none n) (only_none n) (record {
      here = table.is;
      before = lives_at (link n old) x table.was;
      below = below_of n new.table table.given;
      came = ap (λ (t : Traffic). of_number n t.came) told;
      dialed = ap (λ (t : Traffic). of_number n t.dialed) told;
      gone = omega (arith, gone);
      failed = same_told n old.told.failed new.told.failed (ap (λ (t : Traffic). t.failed) told);
      lacked = same_told n old.told.lacked new.told.lacked (ap (λ (t : Traffic). t.lacked) told);
      refused = table.refused;
      ended = omega (arith, ends);
      took = [];
      taken = ap (λ (t : Traffic). octets_of n t.taken) told ∙ sym (append-nil (octets_of n old.told.taken));
      cause = inr (inr (inr (inr (inr (message, omega (arith, left, over))))));
    })

-- Nothing happened.

-- where all parts are as they were
pub goes_still : (old new : Net) → new.told ≡ old.told → new.table ≡ old.table → new.device ≡ old.device → Goes old new none none
goes_still old new told table device = goes_nothing_at old new (ap (λ (t : Traffic). record new { told = t }) told ∙ ap (λ (t : Table). record old { table = t; device = new.device }) table ∙ ap (λ (d : Option DeviceFault). record old { device = d }) device)

-- Why a message is not put after.

over_by : (n : ℕ) (old new : Net) (b : Bool) → nat_lt n old.table.next ≡ b → at n old.table ≡ None → new.table ≡ old.table → IsOver n old new
over_by n old new true below none_here same = inl (ap (λ (t : Table). nat_lt n t.next && is_none (at n t)) same ∙ ap (λ (b : Bool). b && is_none (at n old.table)) below ∙ ap is_none none_here)
over_by n old new false below none_here same = inr (not_lt n old.table.next below)

pub over_at : (n : ℕ) (old new : Net) → at n old.table ≡ None → new.table ≡ old.table → IsOver n old new
over_at n old new none_here same = over_by n old new (nat_lt n old.table.next) refl none_here same

pub full_at : (n : ℕ) (old new : Net) (x : Connection) (message : List ℕ) → Drops n old.table new.table x → max_waiting < length x.outgoing + length (framed message) → IsFull n old new [] message
full_at n old new x message table over =
    let left : length (unwritten (at n old.table)) ≡ length x.outgoing = ap (λ (o : Option Connection). length (unwritten o)) table.was in (
      lives_at (link n old) x table.was,
      ap (λ (b : Bool). b && is_none (at n new.table)) (below_of n new.table table.given) ∙ ap is_none table.is,
      omega (arith, left, over),
    )

-- What a call of the sockets told.

-- a write that was refused closes its connection
pub goes_refused : (n : ℕ) (old new : Net) (x : Connection) (told : Traffic) (octets : List ℕ) (why : Why) → Drops n old.table new.table x → Took (Err why) n octets old.told told → new.told ≡ told → new.device ≡ noted_by why old.device → Goes old new none none
goes_refused n old new x told octets whys.NoServer table took same device = absurd took
goes_refused n old new x told octets whys.Gone table took same device = goes_gone n old new x table (same ∙ took) device
goes_refused n old new x told octets whys.Limit table took same device = absurd took
goes_refused n old new x told octets whys.Full table took same device = absurd took
goes_refused n old new x told octets whys.Device table took same device = goes_failed n old new x table (subst (λ (t : Traffic). FaultyAt n old.told t) (sym same) took) device
goes_refused n old new x told octets whys.NoMemory table took same device = absurd took
