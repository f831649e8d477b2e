-- A message that is not put after what a connection is to write, and the connection that is closed for that.
use Rattle.std.proofs.Common.{◌≡◌, ◌≢◌, ℕ, ◌+◌, ◌<◌, true, false, true≢false, List, [], ◌∷◌, ◌++◌, Option, Some, None, sym, ap, ◌∙◌, arith, subst}
use Rattle.std.specs.Prelude.{IfSome, nat_lt}
use Rattle.lb_loops_connections.specs.Table.{Table, at, client_count, clients}
use Rattle.lb_loops_connections.specs.Writing.{MayNotPut}
use Rattle.lb_loops_connections.specs.declared.connection.Connection.{Connection}
use Rattle.lb_loops_io.specs.declared.report.Why.{Why}
use Rattle.lb_loops_io.specs.declared.report.Why.TheVariants as whys
use Rattle.lb_loops_tcp.proofs.Apart.{count_other}
use Rattle.lb_loops_tcp.proofs.Going.{Drops, drops_taken, full_at, given_of, goes_counted, goes_over, goes_still, goes_for_memory, over_at, refused_more, told_of}
use Rattle.lb_loops_tcp.proofs.Letters.{below_at}
use Rattle.lb_loops_tcp.specs.Goes.{Goes, Misses, NoClient, is_given_up, none}
use Rattle.lb_loops_tcp.specs.Links.{Net}

-- It is not put, and nothing else is done.

pub goes_unput : (n : ℕ) (old new : Net) (message : List ℕ) (why : Why) → MayNotPut n message old.table new.table why → new.told ≡ old.told → new.device ≡ old.device → Goes old new none none
goes_unput n old new message whys.Gone is told device = goes_still old new told is.1 device
goes_unput n old new message whys.Limit is told device = goes_still old new told is.3 device
goes_unput n old new message whys.NoMemory is told device = goes_counted n old new is.0 is.1 is.2 told device
goes_unput n old new message whys.NoServer is told device = absurd is
goes_unput n old new message whys.Full is told device = absurd is
goes_unput n old new message whys.Device is told device = absurd is

-- no connection changed
pub unput_others : (n : ℕ) (old new : Table) (message : List ℕ) (why : Why) → MayNotPut n message old new why → (c : ℕ) → at c new ≡ at c old
unput_others n old new message whys.Gone is c = ap (at c) is.1
unput_others n old new message whys.Limit is c = ap (at c) is.3
unput_others n old new message whys.NoMemory is c = ap (at c) is.2
unput_others n old new message whys.NoServer is c = absurd is
unput_others n old new message whys.Full is c = absurd is
unput_others n old new message whys.Device is c = absurd is

stays_servers : (n : ℕ) (old new : Net) (x : Connection) → at n old.table ≡ Some x → new.table ≡ record old.table { refusals = old.table.refusals ++ n ∷ [] } → is_given_up whys.NoMemory (at n new.table) ≡ false → NoClient n new
stays_servers n old new x was table kept = (
  ap (λ (t : Table). nat_lt n t.next) table ∙ below_at n old.table x was,
  λ y e. sym (ap (λ (o : Option Connection). is_given_up whys.NoMemory o) e) ∙ kept,
)

pub misses_unput : (n : ℕ) (old new : Net) (message : List ℕ) (why : Why) → MayNotPut n message old.table new.table why → is_given_up why (at n new.table) ≡ false → Misses old new n message why
misses_unput n old new message whys.Gone is kept = over_at n old new is.0 is.1
misses_unput n old new message whys.Limit is kept = absurd (true≢false kept)
misses_unput n old new message whys.NoMemory is kept = stays_servers n old new is.0 is.1 is.2 kept
misses_unput n old new message whys.NoServer is kept = absurd is
misses_unput n old new message whys.Full is kept = absurd is
misses_unput n old new message whys.Device is kept = absurd is

-- Its connection is closed.

-- a connection for which memory was refused is closed
drops_counted : (n : ℕ) (a mid b : Table) (x : Connection) → mid ≡ record a { refusals = a.refusals ++ n ∷ [] } → Drops n mid b x → Drops n a b x
drops_counted n a mid b x e d =
    let refused = d.refused in let few = d.clients in
    let same : clients mid ≡ clients a = ap clients e in
    let more = refused_more n a mid e in
    record {
      was = sym (ap (at n) e) ∙ d.was;
      is = d.is;
      given = d.given;
      others = λ c apart. d.others c apart ∙ ap (at c) e;
      next = d.next ∙ ap (λ (t : Table). t.next) e;
      refused = omega (arith, refused, more);
      apart = λ c apart. d.apart c apart ∙ ap (λ (t : Table). told_of c t.refusals) e ∙ count_other c n a.refusals apart;
      clients = omega (arith, few, same);
    }

-- a table out of which the connection of a number was taken
pub record Takes (n : ℕ) (t u : Table) (taken : Option Connection) : Type 0 where
  pub here : at n t ≡ taken
  pub number : IfSome taken (λ y. (y.number ≡ n) × (n < u.next))
  pub gone : at n u ≡ None
  pub others : (c : ℕ) → c ≢ n → at c u ≡ at c t
  pub clients : IfSome taken (λ y. clients u + client_count y ≡ clients t)
  pub next : u.next ≡ t.next
  pub refusals : u.refusals ≡ t.refusals

drops_so : (n : ℕ) (mid b : Table) (taken : Option Connection) (x : Connection) → at n mid ≡ Some x → Takes n mid b taken → Drops n mid b x
drops_so n mid b taken x is takes = drops_taken n mid b taken x is takes.here takes.number takes.gone takes.others takes.clients takes.next takes.refusals

none_some : (y : Connection) → None ≡ Some y → ⊥
none_some y e = cc e

goes_limit : (n : ℕ) (old new : Net) (mid : Table) (message : List ℕ) (taken : Option Connection) → MayNotPut n message old.table mid whys.Limit → Takes n mid new.table taken → new.told ≡ old.told → new.device ≡ old.device
    → Goes old new none none × Misses old new n message whys.Limit
goes_limit n old new mid message taken is takes told device =
    let drop : Drops n old.table new.table is.0 = subst (λ (t : Table). Drops n t new.table is.0) is.3 (drops_so n mid new.table taken is.0 (ap (at n) is.3 ∙ is.1) takes) in
    (goes_over n old new is.0 message drop is.2 told device, full_at n old new is.0 message drop is.2)

goes_memory : (n : ℕ) (old new : Net) (mid : Table) (message : List ℕ) (taken : Option Connection) → MayNotPut n message old.table mid whys.NoMemory → Takes n mid new.table taken → new.told ≡ old.told → new.device ≡ old.device
    → Goes old new none none × NoClient n new
goes_memory n old new mid message taken is takes told device =
    let after : Drops n mid new.table is.0 = drops_so n mid new.table taken is.0 (ap (at n) is.2 ∙ is.1) takes in
    let drop : Drops n old.table new.table is.0 = drops_counted n old.table mid new.table is.0 is.2 after in
    let more = refused_more n old.table mid is.2 in let later = after.refused in (
      goes_for_memory n old new is.0 drop (omega (arith, more, later)) told device,
      (given_of new.table n drop.given, λ y e. absurd (none_some y (sym drop.is ∙ e))),
    )

pub goes_given_up : (n : ℕ) (old new : Net) (mid : Table) (message : List ℕ) (taken : Option Connection) (why : Why) → MayNotPut n message old.table mid why → is_given_up why (at n mid) ≡ true → Takes n mid new.table taken → new.told ≡ old.told → new.device ≡ old.device
    → Goes old new none none × Misses old new n message why
goes_given_up n old new mid message taken whys.Gone is given takes told device = absurd (true≢false (sym given))
goes_given_up n old new mid message taken whys.Limit is given takes told device = goes_limit n old new mid message taken is takes told device
goes_given_up n old new mid message taken whys.NoMemory is given takes told device = goes_memory n old new mid message taken is takes told device
goes_given_up n old new mid message taken whys.NoServer is given takes told device = absurd is
goes_given_up n old new mid message taken whys.Full is given takes told device = absurd is
goes_given_up n old new mid message taken whys.Device is given takes told device = absurd is
