-- A connection that was looked at is not open at its end.
use Rattle.std.proofs.Common.{◌≡◌, ◌≢◌, ℕ, ◌⊎◌, ⊎_elim, inr, false, true, true≢false, List, [], ◌∷◌, ◌++◌, Option, Some, None, sym, ap, ◌∙◌, subst}
use Rattle.std.specs.Prelude.{Bool, IsTrue}
use Rattle.std.proofs.lemmas.Bool.{cases_eq}
use Rattle.lb_loops_connections.specs.Table.{IsDone, IsNew, IsOverdue, IsToSee, Narrows, Swaps, at}
use Rattle.lb_loops_connections.specs.Writing.{Puts}
use Rattle.lb_loops_connections.specs.declared.connection.Connection.{Connection}
use Rattle.lb_loops_frames.specs.Frames.{NoneWhole, framed}
use Rattle.lb_loops_tcp.proofs.Opening.{Adds}
use Rattle.lb_loops_tcp.specs.Goes.{IsUndone, SameBut, Settles}
use Rattle.lb_loops_tcp.specs.Links.{Net}
use Rattle.lb_loops_tcp.specs.Turn.{Sweeps}

-- nothing is to be done for it
pub undone_settled : (n : ℕ) (old new : Net) → new ≡ old → (IsToSee (at n old.table) → ⊥) → IsUndone n new
undone_settled n old new same settled = λ x is done. settled (subst (λ (o : Option Connection). IsToSee o) (sym (ap (λ (z : Net). at n z.table) (sym same) ∙ is)) (inr done))

none_some : (x : Connection) → None ≡ Some x → ⊥
none_some x e = cc e

-- it is not open
pub undone_none : (n : ℕ) (new : Net) → at n new.table ≡ None → IsUndone n new
undone_none n new none_here = λ x is done. none_some x (sym none_here ∙ is)

one_is : (x y : Connection) → Some x ≡ Some y → x ≡ y
one_is x y e = cc

-- it was not at its end, and nothing of it changed that tells this
pub undone_put : (n : ℕ) (new : Net) (x y : Connection) (finished : Bool) → at n new.table ≡ Some y → (IsDone x → IsTrue finished) → finished ≡ false
    → y.incoming ≡ x.incoming → y.outgoing ≡ x.outgoing → y.is_ended ≡ x.is_ended → y.owed ≡ x.owed → IsUndone n new
undone_put n new x y finished here found not_yet incoming outgoing ended owed = λ z is done.
    let same : y ≡ z = one_is y z (sym here ∙ is) in
    let at_end : IsDone y = subst (λ (w : Connection). IsDone w) (sym same) done in
    absurd (true≢false (sym (subst (λ (b : Bool). IsTrue b) not_yet (found (record {
      ended = sym ended ∙ at_end.ended;
      owed = sym owed ∙ at_end.owed;
      written = sym outgoing ∙ at_end.written;
      none = subst (λ zs. NoneWhole zs) incoming at_end.none;
    })))))

-- Connections that are not at their end stay so.

undone_as : (c : ℕ) (old new : Net) → at c new.table ≡ at c old.table → IsUndone c old → IsUndone c new
undone_as c old new same undone = λ x is done. undone x (sym same ∙ is) done

pub settles_table : (old new : Net) → new.table ≡ old.table → Settles old new
settles_table old new same = λ c undone. undone_as c old new (ap (at c) same) undone

pub settles_nothing : (old new : Net) → new ≡ old → Settles old new
settles_nothing old new same = settles_table old new (ap (λ (z : Net). z.table) same)

pub settles_on : (a b c : Net) → Settles a b → Settles b c → Settles a c
settles_on a b c one two = λ k undone. two k (one k undone)

-- of one connection it is known that it is not at its end, and no other changed
pub settles_but : (n : ℕ) (old new : Net) → SameBut n old new → IsUndone n new → Settles old new
settles_but n old new others here = λ c undone. ⊎_elim (λ (e : c ≡ n). subst (λ (k : ℕ). IsUndone k new) (sym e) here) (λ (apart : c ≢ n). undone_as c old new (others c apart) undone) (cases_eq c n)

pub but_on : (n : ℕ) (a b c : Net) → SameBut n a b → SameBut n b c → SameBut n a c
but_on n a b c one two = λ k apart. two k apart ∙ one k apart

pub but_nothing : (n : ℕ) (old new : Net) → new ≡ old → SameBut n old new
but_nothing n old new same = λ k apart. ap (λ (z : Net). at k z.table) same

-- one changed, and then others, and then it is known that it is not at its end
pub settles_around : (n : ℕ) (a b c d : Net) → SameBut n a b → Settles b c → SameBut n c d → IsUndone n d → Settles a d
settles_around n a b c d one two three here = λ k undone. ⊎_elim
    (λ (e : k ≡ n). subst (λ (i : ℕ). IsUndone i d) (sym e) here)
    (λ (apart : k ≢ n). undone_as k c d (three k apart) (two k (undone_as k a b (one k apart) undone)))
    (cases_eq k n)

-- one changed in nothing that tells its end
pub settles_swap : (n : ℕ) (old new : Net) (x y : Connection) → Swaps n old.table new.table x y → (IsDone y → IsDone x) → Settles old new
settles_swap n old new x y swap back = λ c undone. ⊎_elim
    (λ (e : c ≡ n). λ z is done. undone x (ap (λ (k : ℕ). at k old.table) e ∙ swap.was) (back (subst (λ (w : Connection). IsDone w) (sym (one_is y z (sym swap.is ∙ ap (λ (k : ℕ). at k new.table) (sym e) ∙ is))) done)))
    (λ (apart : c ≢ n). undone_as c old new (swap.others c apart) undone)
    (cases_eq c n)

-- what tells its end is the same
pub done_back : (x y : Connection) → y.is_ended ≡ x.is_ended → y.owed ≡ x.owed → y.outgoing ≡ x.outgoing → y.incoming ≡ x.incoming → IsDone y → IsDone x
done_back x y ended owed outgoing incoming done = record {
  ended = sym ended ∙ done.ended;
  owed = sym owed ∙ done.owed;
  written = sym outgoing ∙ done.written;
  none = subst (λ zs. NoneWhole zs) incoming done.none;
}

-- numbers were passed over
pub settles_narrow : (old new : Net) → Narrows old.table new.table → Settles old new
settles_narrow old new narrow = λ c undone. undone_as c old new (narrow.all c) undone

-- one was opened, whose peer has not closed its side
undone_new : (n : ℕ) (new : Net) (x : Connection) → at n new.table ≡ Some x → x.is_ended ≡ false → IsUndone n new
undone_new n new x here asks = λ y is done. absurd (true≢false (sym done.ended ∙ ap (λ (z : Connection). z.is_ended) (sym (one_is x y (sym here ∙ is))) ∙ asks))

pub settles_added : (n : ℕ) (old mid new : Net) (x : Connection) → Narrows old.table mid.table → Adds n mid.table new.table x → x.is_ended ≡ false → Settles old new
settles_added n old mid new x narrow added asks = settles_on old mid new (settles_narrow old mid narrow) (settles_but n mid new added.others (undone_new n new x added.here asks))

-- A message waits to be written to it.

some_wait : (xs message : List ℕ) → xs ++ framed message ≡ [] → ⊥
some_wait [] message none = cc
some_wait (x ∷ xs) message none = cc

pub undone_waits : (n : ℕ) (message : List ℕ) (old new : Net) → Puts n message old.table new.table → IsUndone n new
undone_waits n message old new put = λ z is done.
    let same : put.y ≡ z = one_is put.y z (sym put.swaps.is ∙ is) in
    some_wait put.x.outgoing message (sym (ap (λ (w : Connection). w.outgoing) put.same) ∙ ap (λ (w : Connection). w.outgoing) same ∙ done.written)

-- Connections whose time was over were closed.
pub settles_swept : (now : ℕ) (old new : Net) → Sweeps now old new → Settles old new
settles_swept now old new sweeps = λ c undone. ⊎_elim
    (λ (same : at c new.table ≡ at c old.table). undone_as c old new same undone)
    (λ (closed : (at c new.table ≡ None) × ((x : Connection) × (at c old.table ≡ Some x) × IsOverdue now x)). undone_none c new closed.0)
    (sweeps.each c)

-- none is open
pub undone_new_table : (net : Net) → IsNew net.table → (c : ℕ) → IsUndone c net
undone_new_table net new c = undone_none c net (new.none c)
