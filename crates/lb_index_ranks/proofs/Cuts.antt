-- Pairs that are cut in two by a pair.
use Rattle.std.proofs.Common.{◌≡◌, true, false, Bool, ℕ, ◌<◌, ◌≤◌, List, [], ◌∷◌, ◌++◌, slice_get, Contains, Option, None, Some, option_map, inl, inr, refl, sym, ap, subst, ◌∙◌, arith}
use Rattle.std.specs.List.{AllByRecursion}
use Rattle.std.specs.Ordering.{nat_cmp, ordering_then, is_lt}
use Rattle.std.specs.Cmp.Lexicographic.{slice_cmp}
use Rattle.std.specs.declared.cmp.Ordering.{Ordering}
use Rattle.std.specs.declared.cmp.Ordering.TheVariants.{Less, Equal, Greater}
use Rattle.std.proofs.lemmas.Cmp.{nat_list_cmp_total, tied_itself, ranked}
use Rattle.std.proofs.lemmas.List.Elements.{Contains-append_cases, Contains-append_left, Contains-append_right}
use Rattle.std.proofs.lemmas.Map.Lookups.{exact_bytes}
use Rattle.lb_index_ranks.specs.declared.filed.Filed.{Filed}
use Rattle.lb_index_ranks.specs.Filed.{filed_at, filed_cmp, is_before, AreInOrder, HasBesides, HasBut, IsCut, IsFiledAt, IsNoneWithin}
use Rattle.lb_index_ranks.specs.Least.{IsLeastFrom}
use Rattle.lb_index_ranks.proofs.Order.{Apart, after_is, cons_cases, cons_here, cons_there, differ, each_has, each_weaker, less_is, none_there, not_own, upper, order_append, order_apart, order_back, order_cons, order_front, order_head, order_tail, filed_total}

-- what does not stand before is in the back
pub in_back : (at : Filed) (front back : List Filed) (f : Filed) → IsCut at front back → Contains (front ++ back) f → is_before at f ≡ false → Contains back f
in_back at front back f cut has is =
    elim (Contains-append_cases front back f has) [
      | inl there ↦ (let before : is_before at f ≡ true = each_has (λ (g : Filed). is_before at g ≡ true) front f cut.before there in absurd (cc (before, is)))
      | inr there ↦ there
    ]

first_by : (at f : Filed) (back : List Filed) → AreInOrder back → AllByRecursion (λ (g : Filed). is_before at g ≡ false) back → (slice_get back 0 ≡ Some at → ⊥) → AllByRecursion (λ (g : Filed). filed_cmp at g ≡ Less) back
first_by at f [] order after other = tt
first_by at f (b ∷ back) order after other =
    let here : filed_cmp at b ≡ Less = after_is b at after.0 (λ same. other (ap Some same)) in
    (here, each_weaker (λ (g : Filed). filed_cmp b g ≡ Less) (λ (g : Filed). filed_cmp at g ≡ Less) back (λ g less. filed_total.trans at b g here less) (order_head b back order))

-- where the back does not begin with the pair, all of it stands after the pair
pub all_after : (at : Filed) (front back : List Filed) → AreInOrder (front ++ back) → IsCut at front back → (slice_get back 0 ≡ Some at → ⊥) → AllByRecursion (λ (g : Filed). filed_cmp at g ≡ Less) back
all_after at front back order cut other = first_by at at back (order_back front back order) cut.after other

apart_cons : (at : Filed) (front back : List Filed) → AllByRecursion (λ (g : Filed). is_before at g ≡ true) front → Apart front back → Apart front (at ∷ back)
apart_cons at [] back before apart = tt
apart_cons at (f ∷ front) back before apart = ((less_is (filed_cmp f at) before.0, apart.0), apart_cons at front back before.1 apart.1)

-- the pair goes between front and back
pub put_order : (at : Filed) (front back : List Filed) → AreInOrder (front ++ back) → IsCut at front back → (slice_get back 0 ≡ Some at → ⊥) → AreInOrder (front ++ at ∷ back)
put_order at front back order cut other =
    order_append front (at ∷ back) (order_front front back order) (order_cons at back (all_after at front back order cut other) (order_back front back order))
    (apart_cons at front back cut.before (order_apart front back order))

-- a pair with which the back does not begin is not there
pub absent : (at : Filed) (front back : List Filed) → AreInOrder (front ++ back) → IsCut at front back → (slice_get back 0 ≡ Some at → ⊥) → Contains (front ++ back) at → ⊥
absent at front back order cut other has =
    let there : Contains back at = in_back at front back at cut has (not_own at) in
    differ at at (each_has (λ (g : Filed). filed_cmp at g ≡ Less) back at (all_after at front back order cut other) there) refl

first_has : (at : Filed) (back : List Filed) → slice_get back 0 ≡ Some at → Contains back at
first_has at [] is = absurd (cc)
first_has at (b ∷ back) is = let same : b ≡ at = cc is in subst (λ (x : Filed). Contains (b ∷ back) x) same (cons_here b back)

-- a pair with which the back begins is there
pub present : (at : Filed) (front back : List Filed) → slice_get back 0 ≡ Some at → Contains (front ++ back) at
present at front back is = Contains-append_right front back at (first_has at back is)

-- and a pair that is not there begins no back
pub not_first : (at : Filed) (front back : List Filed) → (Contains (front ++ back) at → ⊥) → slice_get back 0 ≡ Some at → ⊥
not_first at front back none is = none (present at front back is)

pub put_has : (at : Filed) (front back : List Filed) → HasBesides (front ++ back) at (front ++ at ∷ back)
put_has at front back = λ f. (
  λ has.
      elim (Contains-append_cases front (at ∷ back) f has) [
        | inl there ↦ inr (Contains-append_left front back f there)
        | inr there ↦ elim (cons_cases at back f there) [ inl same ↦ inl (sym same) | inr later ↦ inr (Contains-append_right front back f later) ]
      ],
  λ has.
      elim has [
        | inl same ↦ subst (λ (g : Filed). Contains (front ++ at ∷ back) g) (sym same) (Contains-append_right front (at ∷ back) at (cons_here at back))
        | inr was ↦ elim (Contains-append_cases front back f was) [
          | inl there ↦ Contains-append_left front (at ∷ back) f there
          | inr there ↦ Contains-append_right front (at ∷ back) f (cons_there at back f there)
        ]
      ],
)

-- a pair that is there may be filed again
pub put_again : (items : List Filed) (at : Filed) → Contains items at → HasBesides items at items
put_again items at here = λ f. (
  λ has. inr has,
  λ has. elim has [ inl same ↦ subst (λ (g : Filed). Contains items g) (sym same) here | inr there ↦ there ],
)

apart_tail : (x : Filed) (front back : List Filed) → Apart front (x ∷ back) → Apart front back
apart_tail x [] back apart = tt
apart_tail x (f ∷ front) back apart = (apart.0.1, apart_tail x front back apart.1)

pub take_order : (x : Filed) (front back : List Filed) → AreInOrder (front ++ x ∷ back) → AreInOrder (front ++ back)
take_order x front back order =
    order_append front back (order_front front (x ∷ back) order) (order_tail x back (order_back front (x ∷ back) order)) (apart_tail x front back (order_apart front (x ∷ back) order))

gone : (x : Filed) (front back : List Filed) → AreInOrder (front ++ x ∷ back) → Contains (front ++ back) x → ⊥
gone x front back order has =
    elim (Contains-append_cases front back x has) [
      | inl there ↦ differ x x (each_has (λ (f : Filed). AllByRecursion (λ (g : Filed). filed_cmp f g ≡ Less) (x ∷ back)) front x (order_apart front (x ∷ back) order) there).0 refl
      | inr there ↦ differ x x (each_has (λ (g : Filed). filed_cmp x g ≡ Less) back x (order_head x back (order_back front (x ∷ back) order)) there) refl
    ]

pub take_has : (x : Filed) (front back : List Filed) → AreInOrder (front ++ x ∷ back) → HasBut (front ++ x ∷ back) x (front ++ back)
take_has x front back order = λ f. (
  λ has. (
    λ same. gone x front back order (subst (λ (g : Filed). Contains (front ++ back) g) same has),
    elim (Contains-append_cases front back f has) [
      | inl there ↦ Contains-append_left front (x ∷ back) f there
      | inr there ↦ Contains-append_right front (x ∷ back) f (cons_there x back f there)
    ],
  ),
  λ both.
      elim (Contains-append_cases front (x ∷ back) f both.1) [
        | inl there ↦ Contains-append_left front back f there
        | inr there ↦ elim (cons_cases x back f there) [ inl same ↦ absurd (both.0 (sym same)) | inr later ↦ Contains-append_right front back f later ]
      ],
)

pub take_none : (items : List Filed) (x : Filed) → (Contains items x → ⊥) → HasBut items x items
take_none items x none = λ f. (λ has. (λ same. none (subst (λ (g : Filed). Contains items g) same has), has), λ both. both.1)

-- the least rank under a key
own_key : (key : List ℕ) (r s : ℕ) → filed_cmp (filed_at key r) (filed_at key s) ≡ nat_cmp r s
own_key key r s = ap (λ (o : Ordering). ordering_then o (nat_cmp r s)) (tied_itself nat_list_cmp_total key)

not_less_by : (r s : ℕ) (o : Ordering) → o ≡ nat_cmp r s → is_lt o ≡ false → s ≤ r
not_less_by r s Less e is = absurd (cc)
not_less_by r s Equal e is = let same : r ≡ s = ranked r s Equal e in omega (arith, same)
not_less_by r s Greater e is = let more : s < r = ranked r s Greater e in omega (arith, more)

is_not_less : (r s : ℕ) (o : Ordering) → o ≡ nat_cmp r s → s ≤ r → is_lt o ≡ false
is_not_less r s Less e le = let less : r < s = ranked r s Less e in absurd (omega (arith, less, le))
is_not_less r s Equal e le = refl
is_not_less r s Greater e le = refl

from_is : (key : List ℕ) (r from : ℕ) → from ≤ r → is_before (filed_at key from) (filed_at key r) ≡ false
from_is key r from le = ap is_lt (own_key key r from) ∙ is_not_less r from (nat_cmp r from) refl le

less_rank : (r s : ℕ) → nat_cmp r s ≡ Less → r < s
less_rank r s is = ranked r s Less (sym is)

-- a pair between two of one key has that key
between_by : (a key : List ℕ) (s from r : ℕ) (o : Ordering) → o ≡ slice_cmp nat_cmp a key → is_lt (ordering_then o (nat_cmp s from)) ≡ false → ordering_then o (nat_cmp s r) ≡ Less → (a ≡ key) × (s < r)
between_by a key s from r Less e low high = absurd (cc)
between_by a key s from r Equal e low high = (exact_bytes a key (sym e), less_rank s r high)
between_by a key s from r Greater e low high = absurd (cc)

between : (f : Filed) (key : List ℕ) (from r : ℕ) → is_before (filed_at key from) f ≡ false → filed_cmp f (filed_at key r) ≡ Less → (f.key ≡ key) × (f.rank < r)
between f key from r low high = between_by f.key key f.rank from r (slice_cmp nat_cmp f.key key) refl low high

-- a rank from there on is that of the first pair of the back, or greater
reached : (key : List ℕ) (from : ℕ) (front back : List Filed) (f : Filed) (r : ℕ) → AreInOrder (front ++ f ∷ back) → IsCut (filed_at key from) front (f ∷ back) → from ≤ r → IsFiledAt (front ++ f ∷ back) key r → (f.key ≡ key) × (f.rank ≤ r)
reached key from front back f r order cut le has =
    let there : Contains (f ∷ back) (filed_at key r) = in_back (filed_at key from) front (f ∷ back) (filed_at key r) cut has (from_is key r from le) in
    elim (cons_cases f back (filed_at key r) there) [
      | inl same ↦ (let rank : f.rank ≡ r = ap (λ (g : Filed). g.rank) same in (ap (λ (g : Filed). g.key) same, omega (arith, rank)))
      | inr later ↦
          let less : filed_cmp f (filed_at key r) ≡ Less = each_has (λ (g : Filed). filed_cmp f g ≡ Less) back (filed_at key r) (order_head f back (order_back front (f ∷ back) order)) later in
          let both = between f key from r cut.after.0 less in
          let rank : f.rank < r = both.1 in
          (both.0, omega (arith, rank))
    ]

pub next_none : (key : List ℕ) (from : ℕ) (front back : List Filed) → IsCut (filed_at key from) front back → slice_get back 0 ≡ None → IsLeastFrom (IsFiledAt (front ++ back) key) from None
next_none key from front [] cut is = λ r le has. none_there (filed_at key r) (in_back (filed_at key from) front [] (filed_at key r) cut has (from_is key r from le))
next_none key from front (b ∷ back) cut is = absurd (cc)

next_other_by : (key : List ℕ) (from : ℕ) (front back : List Filed) (f b : Filed) → b ≡ f → AreInOrder (front ++ b ∷ back) → IsCut (filed_at key from) front (b ∷ back) → (f.key ≡ key → ⊥) → IsLeastFrom (IsFiledAt (front ++ b ∷ back) key) from None
next_other_by key from front back f b same order cut other = λ r le has. other (ap (λ (g : Filed). g.key) (sym same) ∙ (reached key from front back b r order cut le has).0)

pub next_other : (key : List ℕ) (from : ℕ) (front back : List Filed) (f : Filed) → AreInOrder (front ++ back) → IsCut (filed_at key from) front back → slice_get back 0 ≡ Some f → (f.key ≡ key → ⊥) → IsLeastFrom (IsFiledAt (front ++ back) key) from None
next_other key from front [] f order cut is other = absurd (cc)
next_other key from front (b ∷ back) f order cut is other = let same : b ≡ f = cc is in next_other_by key from front back f b same order cut other

low_rank : (f : Filed) (key : List ℕ) (from : ℕ) → f.key ≡ key → is_before (filed_at key from) f ≡ false → from ≤ f.rank
low_rank f key from same low =
    not_less_by f.rank from (nat_cmp f.rank from) refl
    (ap is_lt (sym (own_key key f.rank from)) ∙ ap (λ (k : List ℕ). is_lt (filed_cmp (filed_at k f.rank) (filed_at key from))) (sym same) ∙ low)

next_here_by : (key : List ℕ) (from : ℕ) (front back : List Filed) (b : Filed) → AreInOrder (front ++ b ∷ back) → IsCut (filed_at key from) front (b ∷ back) → b.key ≡ key → IsLeastFrom (IsFiledAt (front ++ b ∷ back) key) from (Some b.rank)
next_here_by key from front back b order cut same = (
  low_rank b key from same cut.after.0,
  subst (λ (k : List ℕ). Contains (front ++ b ∷ back) (filed_at k b.rank)) same (Contains-append_right front (b ∷ back) b (cons_here b back)),
  λ r le has. (reached key from front back b r order cut le has).1,
)

pub next_here : (key : List ℕ) (from : ℕ) (front back : List Filed) (f : Filed) → AreInOrder (front ++ back) → IsCut (filed_at key from) front back → slice_get back 0 ≡ Some f → f.key ≡ key → IsLeastFrom (IsFiledAt (front ++ back) key) from (Some f.rank)
next_here key from front [] f order cut is same = absurd (cc)
next_here key from front (b ∷ back) f order cut is same =
    let own : b ≡ f = cc is in
    subst (λ (r : ℕ). IsLeastFrom (IsFiledAt (front ++ b ∷ back) key) from (Some r)) (ap (λ (g : Filed). g.rank) own)
    (next_here_by key from front back b order cut (ap (λ (g : Filed). g.key) own ∙ same))

-- where the back does not begin with a key below the other, no key is within
pub none_within : (low high : List ℕ) (front back : List Filed) → AreInOrder (front ++ back) → IsCut (filed_at low 0) front back → (option_map (is_before (filed_at high 0)) (slice_get back 0) ≡ Some true → ⊥) → IsNoneWithin low high (front ++ back)
none_within low high front [] order cut other = λ f has from below. none_there f (in_back (filed_at low 0) front [] f cut has from)
none_within low high front (b ∷ back) order cut other = λ f has from below.
    elim (cons_cases b back f (in_back (filed_at low 0) front (b ∷ back) f cut has from)) [
      | inl same ↦ other (ap Some (ap (is_before (filed_at high 0)) same ∙ below))
      | inr later ↦
          let less : filed_cmp b f ≡ Less = each_has (λ (g : Filed). filed_cmp b g ≡ Less) back f (order_head b back (order_back front (b ∷ back) order)) later in
          other (ap Some (upper (filed_at high 0) b f less below))
    ]

pub no_head : (q : Filed → Bool) (r : Option Filed) → r ≡ None → option_map q r ≡ Some true → ⊥
no_head q None is holds = absurd (cc holds)
no_head q (Some f) is holds = absurd (cc is)

pub other_head : (q : Filed → Bool) (r : Option Filed) (f : Filed) → r ≡ Some f → q f ≡ false → option_map q r ≡ Some true → ⊥
other_head q None f is fails holds = absurd (cc is)
other_head q (Some g) f is fails holds =
    let same : g ≡ f = cc is in
    let has : q g ≡ true = cc holds in
    let has_not : q g ≡ false = ap q same ∙ fails in
    absurd (cc (has, has_not))
