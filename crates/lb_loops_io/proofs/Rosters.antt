-- Servers taken out of a list, and put after it.
use Rattle.std.proofs.Common.{◌≡◌, ◌≢◌, ℕ, suc, ◌+◌, ◌≤◌, ◌<◌, Bool, true, false, true≢false, List, [], ◌∷◌, ◌++◌, Option, Some, None, find, filter, option_map, not, if◌then◌else◌, ◌==◌, length, refl, sym, ap, ◌∙◌, arith, eq-eqb, rules}
use Rattle.std.proofs.lemmas.Bool.{eqb-true}
use Rattle.lb_wire.specs.declared.ids.ServerId.{ServerId}
use Rattle.lb_loops_io.specs.Roster.{AreApart, others, place_in}
use Rattle.lb_loops_io.specs.declared.roster.Listed.{Listed}
use Rattle.lb_loops_io.specs.declared.roster.Place.{Place}

abbrev has_some : Option Place → Bool
has_some (Some x) = true
has_some None = false

some_none : {X : Type 0} (x : Place) → Some x ≡ None → X
some_none x e = absurd (true≢false (ap has_some e))

-- of the server that was taken out, there is none
out_same_at : (server s : ServerId) (x : Listed) (l : List Listed) (b : Bool) → (x.server.0 == server.0) ≡ b → server.0 ≡ s.0 → place_in s (others server l) ≡ None → place_in s (others server (x ∷ l)) ≡ None
out_same_at server s x l true is e more = rw is more
out_same_at server s x l false is e more = let other : (x.server.0 == s.0) ≡ false = ap (λ (n : ℕ). x.server.0 == n) (sym e) ∙ is in rw is (rw other more)

pub out_same : (server s : ServerId) (l : List Listed) → server.0 ≡ s.0 → place_in s (others server l) ≡ None
out_same server s [] e = refl
out_same server s (x ∷ l) e = out_same_at server s x l (x.server.0 == server.0) refl e (out_same server s l e)

-- another one is where it was
kept_at : (server s : ServerId) (x : Listed) (l : List Listed) (c : Bool) → (x.server.0 == s.0) ≡ c → place_in s (others server l) ≡ place_in s l → place_in s (x ∷ others server l) ≡ place_in s (x ∷ l)
kept_at server s x l true is more = rw is refl
kept_at server s x l false is more = rw is more

out_other_at : (server s : ServerId) (x : Listed) (l : List Listed) (b : Bool) → (x.server.0 == server.0) ≡ b → (server.0 == s.0) ≡ false → place_in s (others server l) ≡ place_in s l → place_in s (others server (x ∷ l)) ≡ place_in s (x ∷ l)
out_other_at server s x l true is e more = let other : (x.server.0 == s.0) ≡ false = ap (λ (n : ℕ). n == s.0) (eqb-true x.server.0 server.0 is) ∙ e in rw is (rw other more)
out_other_at server s x l false is e more = rw is (kept_at server s x l (x.server.0 == s.0) refl more)

pub out_other : (server s : ServerId) (l : List Listed) → (server.0 == s.0) ≡ false → place_in s (others server l) ≡ place_in s l
out_other server s [] e = refl
out_other server s (x ∷ l) e = out_other_at server s x l (x.server.0 == server.0) refl e (out_other server s l e)

pub removed_at : (server s : ServerId) (l : List Listed) (b : Bool) → (server.0 == s.0) ≡ b → place_in s (others server l) ≡ (if b then None else place_in s l)
removed_at server s l true e = out_same server s l (eqb-true server.0 s.0 e)
removed_at server s l false e = out_other server s l e

-- what is not in a list is not its head, and not in its tail
head_apart_at : (s : ServerId) (x : Listed) (l : List Listed) (b : Bool) → (x.server.0 == s.0) ≡ b → place_in s (x ∷ l) ≡ None → ((x.server.0 == s.0) ≡ false) × (place_in s l ≡ None)
head_apart_at s x l true is none = some_none x.place (rw is at none)
head_apart_at s x l false is none = (is, rw is at none)

head_apart : (s : ServerId) (x : Listed) (l : List Listed) → place_in s (x ∷ l) ≡ None → ((x.server.0 == s.0) ≡ false) × (place_in s l ≡ None)
head_apart s x l none = head_apart_at s x l (x.server.0 == s.0) refl none

apart_back_at : (a c : ℕ) (b : Bool) → (c == a) ≡ b → (a == c) ≡ false → (c == a) ≡ false
apart_back_at a c true is other = absurd (true≢false (sym (eq-eqb a c (sym (eqb-true c a is))) ∙ other))
apart_back_at a c false is other = is

apart_back : (a c : ℕ) → (a == c) ≡ false → (c == a) ≡ false
apart_back a c other = apart_back_at a c (c == a) refl other

-- a server put after a list in which it is not
alone_at : (s : ServerId) (y : Listed) (b : Bool) → (y.server.0 == s.0) ≡ b → place_in s (y ∷ []) ≡ (if b then Some y.place else None)
alone_at s y true e = rw e refl
alone_at s y false e = rw e refl

behind_at : (s : ServerId) (x y : Listed) (l : List Listed) (b c : Bool) → (y.server.0 == s.0) ≡ b → (x.server.0 == s.0) ≡ c → (x.server.0 == y.server.0) ≡ false
    → place_in s (l ++ y ∷ []) ≡ (if b then Some y.place else place_in s l) → place_in s (x ∷ (l ++ y ∷ [])) ≡ (if b then Some y.place else place_in s (x ∷ l))
behind_at s x y l true true by is other more = absurd (true≢false (sym (eq-eqb x.server.0 y.server.0 (eqb-true x.server.0 s.0 is ∙ sym (eqb-true y.server.0 s.0 by))) ∙ other))
behind_at s x y l false true by is other more = rw is refl
behind_at s x y l true false by is other more = rw is more
behind_at s x y l false false by is other more = rw is more

pub put_at : (s : ServerId) (y : Listed) (l : List Listed) (b : Bool) → (y.server.0 == s.0) ≡ b → place_in y.server l ≡ None → place_in s (l ++ y ∷ []) ≡ (if b then Some y.place else place_in s l)
put_at s y [] b e none = alone_at s y b e
put_at s y (x ∷ l) b e none = let apart = head_apart y.server x l none in behind_at s x y l b (x.server.0 == s.0) e refl apart.0 (put_at s y l b e apart.1)

either_at : (server s : ServerId) (place : Place) (l : List Listed) (b : Bool) → (server.0 == s.0) ≡ b → (if b then Some place else place_in s (others server l)) ≡ (if b then Some place else place_in s l)
either_at server s place l true e = refl
either_at server s place l false e = out_other server s l e

pub put_behind : (server s : ServerId) (place : Place) (l : List Listed) → place_in s (others server l ++ record { server = server; place = place } ∷ []) ≡ (if server.0 == s.0 then Some place else place_in s l)
put_behind server s place l = put_at s (record { server = server; place = place }) (others server l) (server.0 == s.0) refl (out_same server server l refl) ∙ either_at server s place l (server.0 == s.0) refl

-- each server still stands once
none_out_at : (server s : ServerId) (l : List Listed) (b : Bool) → (server.0 == s.0) ≡ b → place_in s l ≡ None → place_in s (others server l) ≡ None
none_out_at server s l true e none = out_same server s l (eqb-true server.0 s.0 e)
none_out_at server s l false e none = out_other server s l e ∙ none

apart_out_at : (server : ServerId) (x : Listed) (l : List Listed) (b : Bool) → (x.server.0 == server.0) ≡ b → place_in x.server l ≡ None → AreApart (others server l) → AreApart (others server (x ∷ l))
apart_out_at server x l true is none more = rw is more
apart_out_at server x l false is none more = rw is (none_out_at server x.server l (server.0 == x.server.0) refl none, more)

pub apart_out : (server : ServerId) (l : List Listed) → AreApart l → AreApart (others server l)
apart_out server [] all = tt
apart_out server (x ∷ l) all = apart_out_at server x l (x.server.0 == server.0) refl all.0 (apart_out server l all.1)

pub apart_behind : (y : Listed) (l : List Listed) → place_in y.server l ≡ None → AreApart l → AreApart (l ++ y ∷ [])
apart_behind y [] none all = (refl, tt)
apart_behind y (x ∷ l) none all =
    let apart = head_apart y.server x l none in
    (put_at x.server y l false (apart_back x.server.0 y.server.0 apart.0) apart.1 ∙ all.0, apart_behind y l apart.1 all.1)

-- a list from which nothing was taken is as it was
length_out_at : (server : ServerId) (x : Listed) (l : List Listed) (b : Bool) → (x.server.0 == server.0) ≡ b → length (others server l) ≤ length l → length (others server (x ∷ l)) ≤ suc (length l)
length_out_at server x l true is le = rw is (omega arith)
length_out_at server x l false is le = rw is (omega arith)

pub length_out : (server : ServerId) (l : List Listed) → length (others server l) ≤ length l
length_out server [] = omega arith
length_out server (x ∷ l) = length_out_at server x l (x.server.0 == server.0) refl (length_out server l)

whole_at : (server : ServerId) (x : Listed) (l : List Listed) (b : Bool) → (x.server.0 == server.0) ≡ b → length (others server l) ≤ length l
    → (length (others server l) ≡ length l → others server l ≡ l) → length (others server (x ∷ l)) ≡ suc (length l) → others server (x ∷ l) ≡ x ∷ l
whole_at server x l true is le more same = let short : length (others server l) ≡ suc (length l) = rw is at same in absurd (omega arith)
whole_at server x l false is le more same = let tail : suc (length (others server l)) ≡ suc (length l) = rw is at same in rw is (ap (λ zs. x ∷ zs) (more (omega arith)))

pub whole : (server : ServerId) (l : List Listed) → length (others server l) ≡ length l → others server l ≡ l
whole server [] same = refl
whole server (x ∷ l) same = whole_at server x l (x.server.0 == server.0) refl (length_out server l) (whole server l) same
