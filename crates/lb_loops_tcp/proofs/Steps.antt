-- One connection goes a step, and no other is touched.
use Rattle.std.proofs.Common.{◌≡◌, ◌≢◌, ℕ, ◌<◌, ◌⊎◌, ⊎_elim, inl, inr, Bool, true, false, true≢false, List, [], ◌++◌, length, Option, Some, None, refl, sym, ap, ◌∙◌, subst, arith, append_assoc}
use Rattle.std.specs.Prelude.{◌&&◌}
use Rattle.std.proofs.lemmas.Bool.{cases_eq}
use Rattle.std.proofs.lemmas.List.{append-nil}
use Rattle.lb_loops_connections.specs.Table.{is_none}
use Rattle.lb_loops_connections.specs.declared.connection.Connection.{Connection}
use Rattle.lb_loops_frames.specs.Frames.{frames}
use Rattle.lb_loops_tcp.specs.Goes.{OneGoes}
use Rattle.lb_loops_tcp.specs.Links.{EndedFares, Fares, HasEnded, Link, MovedFares, Same, held, link, shut, unwritten}

pub and_false : (b : Bool) → (b && false) ≡ false
and_false true = refl
and_false false = refl

none_of : (o : Option Connection) (b : Bool) → (b && is_none o) ≡ true → o ≡ None
none_of None b e = refl
none_of (Some x) true e = absurd (true≢false (sym e))
none_of (Some x) false e = absurd (true≢false (sym e))

pub lives_at : (a : Link) (x : Connection) → a.here ≡ Some x → shut a ≡ false
lives_at a x is = ap (λ (o : Option Connection). a.below && is_none o) is ∙ and_false a.below

-- a connection that is not touched
fares_none : (a : Link) → Fares a a [] []
fares_none a = record {
  taken = ([], sym (append-nil a.taken));
  came = ([], sym (append-nil a.came));
  dialed = ([], sym (append-nil a.dialed));
  ended = omega arith;
  gone = omega arith;
  failed = omega arith;
  lacked = omega arith;
  refused = omega arith;
  sound = λ e. (refl, refl);
  below = λ e. e;
  once = λ e. (refl, refl);
  unopened = λ e. (refl, refl);
  stays = λ e. record { given = refl; taken = refl; failed = refl; lacked = refl; refused = refl; here = none_of a.here a.below e; no_messages = refl; no_sends = refl };
  heard = λ e. record { gave = []; given = sym (append-nil a.given); are = tt; told = append-nil (held a.here) };
  promised = λ e. sym (append-nil (a.taken ++ unwritten a.here));
  own = λ x e. record { peer = inl (x, e, refl); ended = λ is. inl (x, e, is) };
  left = λ lives been closed. absurd (true≢false (sym closed ∙ lives));
}

ended_by : (a b : Link) (x : Connection) → a.here ≡ Some x → (x.is_ended ≡ true) ⊎ (a.ended < b.ended) → HasEnded a b
ended_by a b x was (inl is) = inl (x, was, is)
ended_by a b x was (inr lt) = inr lt

one_is : (x y : Connection) → Some x ≡ Some y → x ≡ y
one_is x y e = cc

pub fares_moved : MovedFares
fares_moved a b x y m s it = record {
  taken = (it.took, it.taken);
  came = ([], it.came ∙ sym (append-nil a.came));
  dialed = ([], it.dialed ∙ sym (append-nil a.dialed));
  ended = it.ended;
  gone = let same = it.gone in omega arith;
  failed = let same = it.failed in omega (arith, same);
  lacked = let same = it.lacked in omega (arith, same);
  refused = it.refused;
  sound = λ e. (it.failed, it.lacked);
  below = λ e. it.below ∙ e;
  once = λ e. (it.came, it.dialed);
  unopened = λ e. (it.came, it.dialed);
  stays = λ e. absurd (true≢false (sym e ∙ lives_at a x it.was));
  heard = λ e. record { gave = it.gave; given = it.given; are = it.are; told = ap (λ (o : Option Connection). held o ++ it.gave) it.was ∙ it.told ∙ ap (λ (o : Option Connection). frames m ++ held o) (sym it.is) };
  promised = λ e. ap (λ (o : Option Connection). b.taken ++ unwritten o) it.is ∙ ap (λ zs. zs ++ y.outgoing) it.taken ∙ append_assoc a.taken it.took y.outgoing ∙ ap (λ zs. a.taken ++ zs) it.put
      ∙ sym (append_assoc a.taken x.outgoing (frames s)) ∙ ap (λ (o : Option Connection). (a.taken ++ unwritten o) ++ frames s) (sym it.was);
  own = λ z e. let same : y ≡ z = one_is y z (sym it.is ∙ e) in record {
    peer = inl (x, it.was, sym it.peer ∙ ap (λ (w : Connection). w.peer) same);
    ended = λ is. ended_by a b x it.was (it.asked (ap (λ (w : Connection). w.is_ended) same ∙ is));
  };
  left = λ lives been closed. absurd (true≢false (sym closed ∙ lives_at b y it.is));
}

some_none : {X : Type 0} (x : X) → Some x ≡ None → true ≡ false
some_none x e = cc

pub fares_ended : EndedFares
fares_ended a b m s it =
    let closed : shut b ≡ true = ap (λ (c : Bool). c && is_none b.here) it.below ∙ ap is_none it.here in
    record {
      taken = (it.took, it.taken);
      came = ([], it.came ∙ sym (append-nil a.came));
      dialed = ([], it.dialed ∙ sym (append-nil a.dialed));
      ended = it.ended;
      gone = it.gone;
      failed = it.failed;
      lacked = it.lacked;
      refused = it.refused;
      sound = λ e. absurd (true≢false (sym closed ∙ e));
      below = λ e. it.below;
      once = λ e. (it.came, it.dialed);
      unopened = λ e. absurd (true≢false (sym it.below ∙ e));
      stays = λ e. absurd (true≢false (sym e ∙ it.before));
      heard = λ e. absurd (true≢false (sym closed ∙ e));
      promised = λ e. absurd (true≢false (sym closed ∙ e));
      own = λ z e. absurd (true≢false (some_none z (sym e ∙ it.here)));
      left = λ lives been shut_b. it.cause;
    }

all_same : (a b : Link) → Same a b → b ≡ a
all_same a b s =
    ap (λ (z : _). record b { given = z }) s.given
    ∙ ap (λ (z : _). record b { given = a.given; taken = z }) s.taken
    ∙ ap (λ (z : _). record b { given = a.given; taken = a.taken; came = z }) s.came
    ∙ ap (λ (z : _). record b { given = a.given; taken = a.taken; came = a.came; dialed = z }) s.dialed
    ∙ ap (λ (z : _). record b { given = a.given; taken = a.taken; came = a.came; dialed = a.dialed; ended = z }) s.ended
    ∙ ap (λ (z : _). record b { given = a.given; taken = a.taken; came = a.came; dialed = a.dialed; ended = a.ended; gone = z }) s.gone
    ∙ ap (λ (z : _). record b { given = a.given; taken = a.taken; came = a.came; dialed = a.dialed; ended = a.ended; gone = a.gone; failed = z }) s.failed
    ∙ ap (λ (z : _). record b { given = a.given; taken = a.taken; came = a.came; dialed = a.dialed; ended = a.ended; gone = a.gone; failed = a.failed; lacked = z }) s.lacked
    ∙ ap (λ (z : _). record b { given = a.given; taken = a.taken; came = a.came; dialed = a.dialed; ended = a.ended; gone = a.gone; failed = a.failed; lacked = a.lacked; refused = z }) s.refused
    ∙ ap (λ (z : _). record b { given = a.given; taken = a.taken; came = a.came; dialed = a.dialed; ended = a.ended; gone = a.gone; failed = a.failed; lacked = a.lacked; refused = a.refused; below = z }) s.below
    ∙ ap (λ (z : _). record b { given = a.given; taken = a.taken; came = a.came; dialed = a.dialed; ended = a.ended; gone = a.gone; failed = a.failed; lacked = a.lacked; refused = a.refused; below = a.below; here = z }) s.here

pub fares_same : (a b : Link) → Same a b → Fares a b [] []
fares_same a b s = subst (λ (z : Link). Fares a z [] []) (sym (all_same a b s)) (fares_none a)

pub goes_step : OneGoes
goes_step n old new m s others nothing here beside =
    let failures = beside.failures in let next = beside.next in let gone = beside.gone in
    let came : length new.told.came ≡ length old.told.came = ap (λ zs. length zs) beside.came in
    let few = beside.clients in
    record {
      fares = λ c. ⊎_elim
          (λ (e : c ≡ n). subst (λ (k : ℕ). Fares (link k old) (link k new) (m k) (s k)) (sym e) here)
          (λ (apart : c ≢ n). subst (λ (ms : List (List ℕ)). Fares (link c old) (link c new) ms (s c)) (sym (nothing c apart).0)
          (subst (λ (ss : List (List ℕ)). Fares (link c old) (link c new) [] ss) (sym (nothing c apart).1) (fares_same (link c old) (link c new) (others c apart))))
          (cases_eq c n);
      failures = failures;
      next = next;
      gone = gone;
      came = omega arith;
      connected = omega arith;
      turned = inl beside.turned;
      noted = beside.noted;
      counted = beside.counted;
    }
