-- A connection taken out of its place or put in changes no other.
use Rattle.std.proofs.Common.{◌≡◌, ◌≢◌, ℕ, ⊎_elim, ◌+◌, ◌<◌, ◌≤◌, ◌%◌, ◌^◌, Bool, true, false, true≢false, subst, List, [], ◌++◌, length, zero, suc, set, get_or, replicate, if◌then◌else◌, cond, ◌==◌, Option, Some, None, refl, sym, ap, ◌∙◌, arith, rules}
use Rattle.std.proofs.lemmas.List.{length-append, get_or-set_same, get_or-set_other}
use Rattle.std.proofs.lemmas.List.Elements.{All-set, All-weaker}
use Rattle.std.proofs.lemmas.List.Sums.{sum_by-set}
use Rattle.std.specs.Prelude.{IfSome, nat_lt}
use Rattle.std.specs.List.{All}
use Rattle.std.proofs.lemmas.Bool.Decides.{nat_tests}
use Rattle.std.proofs.lemmas.Bool.{cases_eq}
use Rattle.lb_loops_connections.specs.Table.{IsFirst, IsGiven, IsNew, Narrows, Swaps, Table, at, at_place, client_count, clients_in, holds_client, if_number, is_client, is_none, owed_with, owed_without}
use Rattle.lb_loops_connections.specs.Taking.{Takes}
use Rattle.lb_loops_connections.specs.Writing.{max_waiting}
use Rattle.lb_loops_connections.specs.Writing.{Puts}
use Rattle.lb_loops_connections.specs.declared.connection.Connection.{Connection}
use Rattle.lb_loops_frames.specs.Frames.{framed}
use Rattle.lb_loops_io.specs.declared.traffic.Peer.{Peer}

pub is_same : (c : ℕ) → (c == c) ≡ true
is_same c = search rules

pub is_other : (a c : ℕ) → c ≢ a → (a == c) ≡ false
is_other a c not_same = search rules

-- a place after a write there, or elsewhere
at_set : (c n : ℕ) (slots : List (Option Connection)) (x : Option Connection) → n % 4096 < length slots → c % 4096 ≡ n % 4096 → at_place c (set slots (n % 4096) x) ≡ if_number c x
at_set c n slots x fits e = ap (λ (i : ℕ). if_number c (get_or (set slots (n % 4096) x) i None)) e ∙ ap (if_number c) (get_or-set_same slots (n % 4096) x None fits)

at_elsewhere : (c n : ℕ) (slots : List (Option Connection)) (x : Option Connection) → (c % 4096) ≢ (n % 4096) → at_place c (set slots (n % 4096) x) ≡ at_place c slots
at_elsewhere c n slots x apart = ap (if_number c) (get_or-set_other slots (n % 4096) (c % 4096) x None apart)

-- a write at the place of a number changes no other connection, where neither what stood there nor what stands there is another
set_others : (c n : ℕ) (slots : List (Option Connection)) (x : Option Connection) → n % 4096 < length slots → if_number c (get_or slots (n % 4096) None) ≡ None → if_number c x ≡ None → at_place c (set slots (n % 4096) x) ≡ at_place c slots
set_others c n slots x fits was is = ⊎_elim
    (λ (e : c % 4096 ≡ n % 4096). at_set c n slots x fits e ∙ is ∙ sym was ∙ ap (λ (i : ℕ). if_number c (get_or slots i None)) (sym e))
    (λ (apart : (c % 4096) ≢ (n % 4096)). at_elsewhere c n slots x apart) (cases_eq (c % 4096) (n % 4096))

not_here : (c : ℕ) (y : Connection) → c ≢ y.number → if_number c (Some y) ≡ None
not_here c y apart = rw (is_other y.number c apart) refl

is_here : (y : Connection) → if_number y.number (Some y) ≡ Some y
is_here y = rw (is_same y.number) refl

seen : (c next : ℕ) (a b : Option Connection) → a ≡ b → (if nat_lt c next then a else None) ≡ (if nat_lt c next then b else None)
seen c next a b e = ap (λ (z : Option Connection). if nat_lt c next then z else None) e

pub taken_others : (c n next : ℕ) (slots : List (Option Connection)) (y : Connection) → n % 4096 < length slots → get_or slots (n % 4096) None ≡ Some y → y.number ≡ n → c ≢ n → (if nat_lt c next then at_place c (set slots (n % 4096) None) else None) ≡ (if nat_lt c next then at_place c slots else None)
taken_others c n next slots y fits was e apart = seen c next _ _ (set_others c n slots None fits (ap (if_number c) was ∙ not_here c y (λ p. apart (p ∙ e))) refl)

pub put_others : (c n next : ℕ) (slots : List (Option Connection)) (y : Connection) → n % 4096 < length slots → get_or slots (n % 4096) None ≡ None → y.number ≡ n → c ≢ n → (if nat_lt c next then at_place c (set slots (n % 4096) (Some y)) else None) ≡ (if nat_lt c next then at_place c slots else None)
put_others c n next slots y fits was e apart = seen c next _ _ (set_others c n slots (Some y) fits (ap (if_number c) was) (not_here c y (λ p. apart (p ∙ e))))

pub put_here : (n : ℕ) (slots : List (Option Connection)) (y : Connection) → n % 4096 < length slots → y.number ≡ n → at_place n (set slots (n % 4096) (Some y)) ≡ Some y
put_here n slots y fits e = at_set n n slots (Some y) fits refl ∙ ap (λ (c : ℕ). if_number c (Some y)) (sym e) ∙ is_here y

pub lt_other : (k n : ℕ) → k ≢ n → nat_lt k (n + 1) ≡ nat_lt k n
lt_other k n apart = search rules

pub lt_more : (n : ℕ) → nat_lt n (n + 1) ≡ true
lt_more n = search rules

pub lt_self : (n : ℕ) → nat_lt n n ≡ false
lt_self n = search rules

abbrev no_connection : Option Connection
no_connection = None

either_none : (b : Bool) → (if b then no_connection else no_connection) ≡ no_connection
either_none true = refl
either_none false = refl

pub added_others : (c n : ℕ) (slots : List (Option Connection)) (y : Connection) → n % 4096 < length slots → get_or slots (n % 4096) None ≡ None → y.number ≡ n → c ≢ n → (if nat_lt c (n + 1) then at_place c (set slots (n % 4096) (Some y)) else None) ≡ (if nat_lt c n then at_place c slots else None)
added_others c n slots y fits was e apart = ap (λ (b : Bool). if b then at_place c (set slots (n % 4096) (Some y)) else None) (lt_other c n apart) ∙ put_others c n n slots y fits was e apart

pub added_here : (n : ℕ) (slots : List (Option Connection)) (y : Connection) → n % 4096 < length slots → y.number ≡ n → (if nat_lt n (n + 1) then at_place n (set slots (n % 4096) (Some y)) else None) ≡ Some y
added_here n slots y fits e = ap (λ (b : Bool). if b then at_place n (set slots (n % 4096) (Some y)) else None) (lt_more n) ∙ put_here n slots y fits e

pub taken_is : (n : ℕ) (r : Option Connection) → is_none (if_number n r) ≡ false → (if_number n r ≡ r) × IfSome r (λ y. y.number ≡ n)
taken_is n None h = elim (true≢false h) [ ]
taken_is n (Some y) h = ⊎_elim
    (λ (e : n ≡ y.number). (ap (λ (k : ℕ). if_number k (Some y)) e ∙ is_here y, sym e))
    (λ (apart : n ≢ y.number). elim (true≢false (sym (ap is_none (not_here n y apart)) ∙ h)) [ ]) (cases_eq n y.number)

-- clients are counted
counts : (slots : List (Option Connection)) (i : ℕ) (x : Option Connection) → i < length slots → clients_in (set slots i x) + cond (holds_client (get_or slots i None)) 1 0 ≡ clients_in slots + cond (holds_client x) 1 0
counts slots i x lt = sum_by-set (λ (o : Option Connection). cond (holds_client o) 1 0) slots i x None lt

count_is : (y : Connection) → cond (holds_client (Some y)) 1 0 ≡ client_count y
count_is y = refl

pub counted_out : (slots : List (Option Connection)) (i : ℕ) (y : Connection) → i < length slots → get_or slots i None ≡ Some y → clients_in (set slots i None) + client_count y ≡ clients_in slots
counted_out slots i y lt was = let all = counts slots i None lt in let one : cond (holds_client (get_or slots i None)) 1 0 ≡ client_count y = ap (λ (o : Option Connection). cond (holds_client o) 1 0) was in omega (arith, all, one)

pub counted_in : (slots : List (Option Connection)) (i : ℕ) (y : Connection) → i < length slots → get_or slots i None ≡ None → clients_in (set slots i (Some y)) ≡ clients_in slots + client_count y
counted_in slots i y lt was = let all = counts slots i (Some y) lt in let zero_clients : ℕ = 0 in let one : cond (holds_client (get_or slots i None)) 1 0 ≡ zero_clients = ap (λ (o : Option Connection). cond (holds_client o) 1 0) was in omega (arith, all, one, count_is y)

pub count_as : (x y : Connection) → y.peer ≡ x.peer → client_count y ≡ client_count x
count_as x y e = ap (λ p. if is_client p then 1 else 0) e

counted_same : (slots : List (Option Connection)) (i : ℕ) (x y : Connection) → i < length slots → get_or slots i None ≡ Some x → y.peer ≡ x.peer → clients_in (set slots i (Some y)) ≡ clients_in slots
counted_same slots i x y lt was peer =
    let all = counts slots i (Some y) lt in
    let before : cond (holds_client (get_or slots i None)) 1 0 ≡ client_count x = ap (λ (o : Option Connection). cond (holds_client o) 1 0) was in
    let same = count_as x y peer in
    omega (arith, all, before, count_is y, same)

is_below : (n : ℕ) (t : Table) → n < t.next → nat_lt n t.next ≡ true
is_below n t lt = grind (arith, nat_tests)

-- a connection that is changed where it stands
swaps_at : (n : ℕ) (t : Table) (x y : Connection) → n % 4096 < length t.slots → n < t.next → get_or t.slots (n % 4096) None ≡ Some x → x.number ≡ n → y.number ≡ n → y.peer ≡ x.peer → Swaps n t (record t { slots = set t.slots (n % 4096) (Some y) }) x y
swaps_at n t x y fits lt was num num' peer = record {
  was = ap (λ (b : Bool). if b then at_place n t.slots else None) (is_below n t lt) ∙ ap (if_number n) was ∙ ap (λ (c : ℕ). if_number c (Some x)) (sym num) ∙ is_here x;
  is = ap (λ (b : Bool). if b then at_place n (set t.slots (n % 4096) (Some y)) else None) (is_below n t lt) ∙ put_here n t.slots y fits num';
  others = λ c apart. seen c t.next _ _ (set_others c n t.slots (Some y) fits (ap (if_number c) was ∙ not_here c x (λ p. apart (p ∙ num))) (not_here c y (λ p. apart (p ∙ num'))));
  next = refl;
  refusals = refl;
  clients = counted_same t.slots (n % 4096) x y fits was peer;
}

pub puts_at : (n i : ℕ) (message : List ℕ) (t : Table) (x m y : Connection) → i ≡ n % 4096 → i < length t.slots → n < t.next → get_or t.slots i None ≡ Some x → x.number ≡ n
    → m.outgoing ≡ x.outgoing ++ framed message → m.owed ≡ owed_with x → m ≡ record x { outgoing = m.outgoing; owed = m.owed }
    → y ≡ record m { is_touched = y.is_touched }
    → length x.outgoing + length (framed message) ≤ max_waiting → Puts n message t (record t { slots = set t.slots i (Some y) })
puts_at n i message t x m y place fits lt was num put owes rest touched few =
    let same : y ≡ record x { outgoing = x.outgoing ++ framed message; owed = owed_with x; is_touched = y.is_touched } =
    touched ∙ ap (λ (z : Connection). record z { is_touched = y.is_touched }) rest
    ∙ ap (λ (zs : List ℕ). record x { outgoing = zs; owed = m.owed; is_touched = y.is_touched }) put
    ∙ ap (λ (k : ℕ). record x { outgoing = x.outgoing ++ framed message; owed = k; is_touched = y.is_touched }) owes in
    let all : length y.outgoing ≡ length x.outgoing + length (framed message) = ap (λ (z : Connection). length z.outgoing) same ∙ length-append x.outgoing (framed message) in
    subst (λ (k : ℕ). Puts n message t (record t { slots = set t.slots k (Some y) })) (sym place) (record {
      x = x;
      y = y;
      swaps = swaps_at n t x y (subst (λ (k : ℕ). k < length t.slots) place fits) lt (subst (λ (k : ℕ). get_or t.slots k None ≡ Some x) place was) num (ap (λ (z : Connection). z.number) same ∙ num) (ap (λ (z : Connection). z.peer) same);
      same = same;
      within = omega (arith, all, few);
    })

one_at : (n : ℕ) (t : Table) (x y : Connection) → at n t ≡ Some x → at n t ≡ Some y → y ≡ x
one_at n t x y here there = let both : Some y ≡ Some x = sym there ∙ here in cc

pub takes_at : (n i : ℕ) (t : Table) (x m y : Connection) (peer : Peer) (message : List ℕ) → i ≡ n % 4096 → i < length t.slots → n < t.next → get_or t.slots i None ≡ Some x → x.number ≡ n
    → ((message rest : List ℕ) → length message < 2 ^ 16 → x.incoming ≡ framed message ++ rest → m.incoming ≡ rest) → m.owed ≡ owed_without x
    → m ≡ record x { incoming = m.incoming; owed = m.owed; is_queued = false } → y ≡ record m { is_queued = y.is_queued }
    → IsFirst n peer message t → Takes n message t (record t { slots = set t.slots i (Some y) })
takes_at n i t x m y peer message place fits lt was num left owes rest queued first =
    let incoming : y.incoming ≡ m.incoming = ap (λ (z : Connection). z.incoming) queued in
    let same : y ≡ record x { incoming = y.incoming; owed = owed_without x; is_queued = y.is_queued } =
    queued ∙ ap (λ (z : Connection). record z { is_queued = y.is_queued }) rest
    ∙ ap (λ (zs : List ℕ). record x { incoming = zs; owed = m.owed; is_queued = y.is_queued }) (sym incoming)
    ∙ ap (λ (k : ℕ). record x { incoming = y.incoming; owed = k; is_queued = y.is_queued }) owes in
    let swap : Swaps n t (record t { slots = set t.slots (n % 4096) (Some y) }) x y = swaps_at n t x y (subst (λ (k : ℕ). k < length t.slots) place fits) lt (subst (λ (k : ℕ). get_or t.slots k None ≡ Some x) place was) num
    (ap (λ (z : Connection). z.number) same ∙ num) (ap (λ (z : Connection). z.peer) same) in
    let front : x.incoming ≡ framed message ++ first.1 = ap (λ (z : Connection). z.incoming) (sym (one_at n t x first.0 swap.was first.2)) ∙ first.5 in
    subst (λ (k : ℕ). Takes n message t (record t { slots = set t.slots k (Some y) })) (sym place) (record {
      x = x;
      y = y;
      swaps = swap;
      fits = first.4;
      front = front ∙ ap (λ (zs : List ℕ). framed message ++ zs) (sym (incoming ∙ left message first.1 first.4 front));
      same = same;
    })

-- numbers were given
pub given_out : (last i : ℕ) (slots : List (Option Connection)) → All (IsGiven last) slots → All (IsGiven last) (set slots i None)
given_out last i slots all = All-set (IsGiven last) slots i None refl all

within : (last : ℕ) (y : Connection) → y.number ≤ last → IsGiven last (Some y)
within last y le = grind (arith, nat_tests)

pub given_in : (last i : ℕ) (slots : List (Option Connection)) (y : Connection) → y.number ≤ last → All (IsGiven last) slots → All (IsGiven last) (set slots i (Some y))
given_in last i slots y le all = All-set (IsGiven last) slots i (Some y) (within last y le) all

given_more : (last : ℕ) (o : Option Connection) → IsGiven last o → IsGiven (last + 1) o
given_more last None is = refl
given_more last (Some y) is = grind (arith, nat_tests)

pub given_on : (last : ℕ) (slots : List (Option Connection)) → All (IsGiven last) slots → All (IsGiven (last + 1)) slots
given_on last slots all = All-weaker (IsGiven last) (IsGiven (last + 1)) (given_more last) slots all

pub given_later : (last i : ℕ) (slots : List (Option Connection)) (y : Connection) → y.number ≡ last + 1 → All (IsGiven last) slots → All (IsGiven (last + 1)) (set slots i (Some y))
given_later last i slots y is all = All-set (IsGiven (last + 1)) slots i (Some y) (within (last + 1) y (omega arith)) (given_on last slots all)

-- a table without connections
none_in : (n i : ℕ) → get_or (replicate n no_connection) i no_connection ≡ no_connection
none_in zero i = refl
none_in (suc n) zero = refl
none_in (suc n) (suc i) = none_in n i

pub new_is : (t : Table) (n : ℕ) → t.next ≡ 1 → t.slots ≡ replicate n None → t.refusals ≡ [] → IsNew t
new_is t n next slots refusals = record {
  next = next;
  none = λ c. ap (λ (xs : List (Option Connection)). if nat_lt c t.next then at_place c xs else None) slots ∙ ap (λ (o : Option Connection). if nat_lt c t.next then if_number c o else None) (none_in n (c % 4096)) ∙ either_none (nat_lt c t.next);
  refusals = refusals;
}

-- numbers that are passed over
pub narrows_none : (t : Table) → Narrows t t
narrows_none t = record { next = omega arith; same = refl; all = λ c. refl }

passed_at : (c n : ℕ) (slots : List (Option Connection)) (y : Connection) → get_or slots (n % 4096) None ≡ Some y → y.number < n → (if nat_lt c (n + 1) then at_place c slots else None) ≡ (if nat_lt c n then at_place c slots else None)
passed_at c n slots y was lt = ⊎_elim
    (λ (e : c ≡ n). subst (λ (k : ℕ). (if nat_lt k (n + 1) then at_place k slots else None) ≡ (if nat_lt k n then at_place k slots else None)) (sym e)
    (ap (λ (b : Bool). if b then at_place n slots else None) (lt_more n) ∙ ap (if_number n) was ∙ not_here n y (λ is. absurd (omega arith)) ∙ sym (ap (λ (b : Bool). if b then at_place n slots else None) (lt_self n))))
    (λ (apart : c ≢ n). ap (λ (b : Bool). if b then at_place c slots else None) (lt_other c n apart)) (cases_eq c n)

pub passed_over : (old mid new : Table) (y : Connection) → Narrows old mid → new ≡ record mid { next = mid.next + 1 } → get_or mid.slots (mid.next % 4096) None ≡ Some y → y.number < mid.next → Narrows old new
passed_over old mid new y a is was lt =
    let le = a.next in
    let next : new.next ≡ mid.next + 1 = ap (λ (t : Table). t.next) is in record {
      next = omega arith;
      same = is ∙ ap (λ (t : Table). record t { next = mid.next + 1 }) a.same ∙ ap (λ (n : ℕ). record old { next = n }) (sym next);
      all = λ c. ap (at c) is ∙ passed_at c mid.next mid.slots y was lt ∙ a.all c;
    }
