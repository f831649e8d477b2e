-- Servers that are probed, place by place.
use Rattle.std.proofs.Common.{◌≡◌, ℕ, zero, suc, ◌+◌, ◌<◌, ◌≤◌, ◌⊎◌, inl, inr, Some, None, List, [], ◌∷◌, length, set, refl, sym, ap, ◌∙◌, subst, arith}
use Rattle.std.specs.Prelude.{slice_get}
use Rattle.std.proofs.lemmas.List.{length-set}
use Rattle.lb_loops_clock.specs.Turn.{BeginsAt, EndsAt, Others, ProbesAt}
use Rattle.lb_loops_io.specs.declared.roster.Listed.{Listed}
use Rattle.lb_loops_probes.specs.Probes.{Each, First, Here, IsAsked, IsTimely, later, second}
use Rattle.lb_loops_probes.specs.declared.watched.Waits.{Waits}
use Rattle.lb_loops_probes.specs.declared.watched.Watched.{Watched}

get_set_other : (p : List Watched) (i j : ℕ) (w : Watched) → (j ≡ i → ⊥) → slice_get (set p i w) j ≡ slice_get p j
get_set_other [] i j w apart = refl
get_set_other (x ∷ xs) zero zero w apart = absurd (apart refl)
get_set_other (x ∷ xs) zero (suc j) w apart = refl
get_set_other (x ∷ xs) (suc i) zero w apart = refl
get_set_other (x ∷ xs) (suc i) (suc j) w apart = get_set_other xs i j w (λ e. apart (ap suc e))

get_set_same : (p : List Watched) (i : ℕ) (w x : Watched) → slice_get p i ≡ Some x → slice_get (set p i w) i ≡ Some w
get_set_same [] i w x here = absurd (cc here)
get_set_same (y ∷ ys) zero w x here = refl
get_set_same (y ∷ ys) (suc i) w x here = get_set_same ys i w x here

some_is : (w x : Watched) → Some w ≡ Some x → w ≡ x
some_is w x e = cc e

-- the server at a place is written
others_set : (p : List Watched) (i : ℕ) (w : Watched) → Others i p (set p i w)
others_set p i w = (length-set p i w, λ j apart. get_set_other p i j w apart)

pub others_none : (p : List Watched) (i : ℕ) → Others i p p
others_none p i = (refl, λ j apart. refl)

others_on : (i : ℕ) (p q r : List Watched) → Others i p q → Others i q r → Others i p r
others_on i p q r one two = (two.0 ∙ one.0, λ j apart. two.1 j apart ∙ one.1 j apart)

-- its probe has ended
pub ends_at : (now i : ℕ) (p q : List Watched) (w x : Watched) (before after : ℕ) → slice_get p i ≡ Some w → q ≡ set p i x → x.waits ≡ None → x.next ≡ w.next → before ≤ after → EndsAt now i p q before after
ends_at now i p q w x before after here is none next more =
    let now_here : slice_get q i ≡ Some x = ap (λ (ws : List Watched). slice_get ws i) is ∙ get_set_same p i x w here in (
      subst (λ (ws : List Watched). Others i p ws) (sym is) (others_set p i x),
      more,
      inr (λ v at y waits. absurd (none_some y (sym none ∙ ap (λ (u : Watched). u.waits) (some_is x v (sym now_here ∙ at)) ∙ waits))),
      λ v at. (x, now_here, next ∙ ap (λ (u : Watched). u.next) (some_is w v (sym here ∙ at))),
    ) where
      none_some : (y : Waits) → None ≡ Some y → ⊥
      none_some y e = cc e

-- it stays as it is
pub stays_at : (now i : ℕ) (p : List Watched) (n : ℕ) → (64 ≤ n) ⊎ Here (IsTimely now) i p → EndsAt now i p p n n
stays_at now i p n timely = (others_none p i, omega arith, timely, λ w at. (w, at, refl))

-- it was sent a probe
pub begins_at : (now i : ℕ) (p q : List Watched) (w x : Watched) → slice_get p i ≡ Some w → q ≡ set p i x → x.next ≡ later now second → BeginsAt now i p q
begins_at now i p q w x here is next = (subst (λ (ws : List Watched). Others i p ws) (sym is) (others_set p i x), (x, ap (λ (ws : List Watched). slice_get ws i) is ∙ get_set_same p i x w here, next))

-- it was sent one, and that ends if it could not be sent
pub probes_at : (roster : List Listed) (now i : ℕ) (p q r : List Watched) (before mid after sent more : ℕ) → BeginsAt now i p q → EndsAt now i q r mid after → mid ≡ before → sent ≤ more → ProbesAt roster now i p r before after sent more
probes_at roster now i p q r before mid after sent more begins ends same le =
    let rises = ends.1 in
    let begun = begins.1 in
    let ended = ends.3 begun.0 begun.1 in (
      others_on i p q r begins.0 ends.0,
      omega (arith, rises, same),
      le,
      timely ends.2,
      inr (λ v at none. inr (inl (ap (λ (u : Watched). u.next) (some_is v ended.0 (sym at ∙ ended.1)) ∙ ended.2 ∙ begun.2))),
    ) where
      timely : (64 ≤ after) ⊎ Here (IsTimely now) i r → (64 ≤ after) ⊎ (Here (IsTimely now) i p → Here (IsTimely now) i r)
      timely (inl full) = inl full
      timely (inr here) = inr (λ _. here)

-- the same of the server at this place
pub probes_here : (roster : List Listed) (now i j : ℕ) (p q : List Watched) (before after sent more : ℕ) → j ≡ i → ProbesAt roster now j p q before after sent more → ProbesAt roster now i p q before after sent more
probes_here roster now i j p q before after sent more same probes = subst (λ (k : ℕ). ProbesAt roster now k p q before after sent more) same probes

-- none was sent to it
pub passes_at : (roster : List Listed) (now i : ℕ) (p : List Watched) (n m : ℕ) → (64 ≤ m) ⊎ Here (IsAsked roster now) i p → ProbesAt roster now i p p n n m m
passes_at roster now i p n m asked = (others_none p i, omega arith, omega arith, inr (λ here. here), asked)

-- The servers one after the other.

step_or : (i j : ℕ) → i < j + 1 → (i < j) ⊎ (i ≡ j)
step_or i zero lt = inr (omega arith)
step_or zero (suc j) lt = inl (omega arith)
step_or (suc i) (suc j) lt = again (step_or i j (omega arith)) where
  again : (i < j) ⊎ (i ≡ j) → (suc i < suc j) ⊎ (suc i ≡ suc j)
  again (inl less) = inl (omega arith)
  again (inr same) = inr (ap suc same)

less_apart : (i j : ℕ) → i < j → i ≡ j → ⊥
less_apart i j lt e = omega arith

first_on : (P : Watched → Type 0) (n : ℕ) (p q : List Watched) → First P n p → Others n p q → Here P n q → First P (n + 1) q
first_on P n p q first others here i w lt at = by (step_or i n lt) where
  by : (i < n) ⊎ (i ≡ n) → P w
  by (inl less) = first i w less (sym (others.1 i (less_apart i n less)) ∙ at)
  by (inr same) = here w (subst (λ k. slice_get q k ≡ Some w) same at)

pub first_none : (P : Watched → Type 0) (p : List Watched) → First P 0 p
first_none P p i w lt at = absurd (nothing lt) where
  nothing : i < 0 → ⊥
  nothing less = omega arith

within : (p : List Watched) (i : ℕ) (w : Watched) → slice_get p i ≡ Some w → i < length p
within [] i w at = absurd (cc at)
within (x ∷ xs) zero w at = omega arith
within (x ∷ xs) (suc i) w at = let lt = within xs i w at in omega arith

-- all of them
first_all : (P : Watched → Type 0) (n : ℕ) (p : List Watched) → length p ≤ n → First P n p → Each P p
first_all P n p le first i w at = first i w (let lt = within p i w at in omega arith) at

-- the probes that are over end
pub ends_first : (now i : ℕ) (p q : List Watched) (n m : ℕ) → (64 ≤ n) ⊎ First (IsTimely now) i p → EndsAt now i p q n m → (64 ≤ m) ⊎ First (IsTimely now) (i + 1) q
ends_first now i p q n m before ends = by before ends.2 where
  rises : n ≤ m
  rises = ends.1

  by : (64 ≤ n) ⊎ First (IsTimely now) i p → (64 ≤ m) ⊎ Here (IsTimely now) i q → (64 ≤ m) ⊎ First (IsTimely now) (i + 1) q
  by (inl full) here = inl (omega arith)
  by (inr first) (inl full) = inl full
  by (inr first) (inr here) = inr (first_on (IsTimely now) i p q first ends.0 here)

-- the servers that are due are sent probes
pub asks_first : (roster : List Listed) (now i : ℕ) (p q : List Watched) (before after sent more : ℕ) → (64 ≤ sent) ⊎ First (IsAsked roster now) i p → ProbesAt roster now i p q before after sent more → (64 ≤ more) ⊎ First (IsAsked roster now) (i + 1) q
asks_first roster now i p q before after sent more done probes = by done probes.4 where
  rises : sent ≤ more
  rises = probes.2

  by : (64 ≤ sent) ⊎ First (IsAsked roster now) i p → (64 ≤ more) ⊎ Here (IsAsked roster now) i q → (64 ≤ more) ⊎ First (IsAsked roster now) (i + 1) q
  by (inl full) here = inl (omega arith)
  by (inr first) (inl full) = inl full
  by (inr first) (inr here) = inr (first_on (IsAsked roster now) i p q first probes.0 here)

each_on : (P : Watched → Type 0) (n : ℕ) (p q : List Watched) → Each P p → Others n p q → Here P n q → Each P q
each_on P n p q each others here i w at = by (apart_or i n) where
  apart_or : (i n : ℕ) → (i ≡ n) ⊎ (i ≡ n → ⊥)
  apart_or zero zero = inl refl
  apart_or zero (suc n) = inr (λ e. omega arith)
  apart_or (suc i) zero = inr (λ e. omega arith)
  apart_or (suc i) (suc n) = again (apart_or i n) where
    again : (i ≡ n) ⊎ (i ≡ n → ⊥) → (suc i ≡ suc n) ⊎ (suc i ≡ suc n → ⊥)
    again (inl same) = inl (ap suc same)
    again (inr apart) = inr (λ e. apart (omega arith))

  by : (i ≡ n) ⊎ (i ≡ n → ⊥) → P w
  by (inl same) = here w (subst (λ k. slice_get q k ≡ Some w) same at)
  by (inr apart) = each i w (sym (others.1 i apart) ∙ at)

-- none is over at the moment at which the turn began, as before
pub timely_on : (roster : List Listed) (now i : ℕ) (o p q : List Watched) (start before after sent more : ℕ) → ((64 ≤ start) ⊎ Each (IsTimely now) o → (64 ≤ before) ⊎ Each (IsTimely now) p) → ProbesAt roster now i p q before after sent more
    → (64 ≤ start) ⊎ Each (IsTimely now) o → (64 ≤ after) ⊎ Each (IsTimely now) q
timely_on roster now i o p q start before after sent more earlier probes first = by (earlier first) probes.3 where
  rises : before ≤ after
  rises = probes.1

  by : (64 ≤ before) ⊎ Each (IsTimely now) p → (64 ≤ after) ⊎ (Here (IsTimely now) i p → Here (IsTimely now) i q) → (64 ≤ after) ⊎ Each (IsTimely now) q
  by (inl full) here = inl (omega arith)
  by (inr each) (inl full) = inl full
  by (inr each) (inr here) = inr (each_on (IsTimely now) i p q each probes.0 (here (λ w at. each i w at)))

-- nothing of it changes
pub each_same : (P : Watched → Type 0) (n m : ℕ) (p q : List Watched) → n ≤ m → q ≡ p → (64 ≤ n) ⊎ Each P p → (64 ≤ m) ⊎ Each P q
each_same P n m p q le same (inl full) = inl (omega arith)
each_same P n m p q le same (inr each) = inr (subst (λ ws. Each P ws) (sym same) each)

-- all were gone through
pub or_all : (P : Watched → Type 0) (i : ℕ) (p : List Watched) (m : ℕ) → length p ≤ i → (64 ≤ m) ⊎ First P i p → (64 ≤ m) ⊎ Each P p
or_all P i p m le (inl full) = inl full
or_all P i p m le (inr first) = inr (first_all P i p le first)
