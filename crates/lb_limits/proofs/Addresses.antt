-- The order of addresses.
use Rattle.std.proofs.Common.{◌≡◌, true, false, refl, sym, ◌∙◌, ap}
use Rattle.std.specs.Ordering.{is_lt, is_eq, ordering_reverse}
use Rattle.std.specs.declared.cmp.Ordering.{Ordering}
use Rattle.std.specs.declared.cmp.Ordering.TheVariants.{Less, Equal, Greater}
use Rattle.std.specs.Cmp.{IsTotalOrder}
use Rattle.std.specs.Cmp.Lexicographic.{nat_list_cmp_total, texts_ties}
use Rattle.lb_wire.specs.declared.addr.Addr.{Addr}
use Rattle.lb_wire.specs.declared.addr.Addr.TheVariants.{V4, V6}
use Rattle.lb_limits.specs.Order.{same_addr, cmp_addr}

addr_antisymm : (a b : Addr) → cmp_addr a b ≡ ordering_reverse (cmp_addr b a)
addr_antisymm (V4 a) (V4 b) = nat_list_cmp_total.antisymm a b
addr_antisymm (V4 a) (V6 b) = refl
addr_antisymm (V6 a) (V4 b) = refl
addr_antisymm (V6 a) (V6 b) = nat_list_cmp_total.antisymm a b

addr_trans : (a b c : Addr) → cmp_addr a b ≡ Less → cmp_addr b c ≡ Less → cmp_addr a c ≡ Less
addr_trans (V4 a) (V4 b) (V4 c) p q = nat_list_cmp_total.trans a b c p q
addr_trans (V4 a) (V4 b) (V6 c) p q = refl
addr_trans (V4 a) (V6 b) (V4 c) p q = absurd (cc)
addr_trans (V4 a) (V6 b) (V6 c) p q = refl
addr_trans (V6 a) (V4 b) (V4 c) p q = absurd (cc)
addr_trans (V6 a) (V4 b) (V6 c) p q = absurd (cc)
addr_trans (V6 a) (V6 b) (V4 c) p q = absurd (cc)
addr_trans (V6 a) (V6 b) (V6 c) p q = nat_list_cmp_total.trans a b c p q

addr_congr : (a b c : Addr) → cmp_addr a b ≡ Equal → cmp_addr a c ≡ cmp_addr b c
addr_congr (V4 a) (V4 b) (V4 c) p = nat_list_cmp_total.congr a b c p
addr_congr (V4 a) (V4 b) (V6 c) p = refl
addr_congr (V4 a) (V6 b) c p = absurd (cc)
addr_congr (V6 a) (V4 b) c p = absurd (cc)
addr_congr (V6 a) (V6 b) (V4 c) p = refl
addr_congr (V6 a) (V6 b) (V6 c) p = nat_list_cmp_total.congr a b c p

pub addr_total : IsTotalOrder cmp_addr
addr_total = record { antisymm = addr_antisymm; trans = addr_trans; congr = addr_congr }

-- addresses that the order does not tell apart are the same
pub addr_ties : (a b : Addr) → same_addr a b ≡ is_eq (cmp_addr a b)
addr_ties (V4 a) (V4 b) = texts_ties a b
addr_ties (V4 a) (V6 b) = refl
addr_ties (V6 a) (V4 b) = refl
addr_ties (V6 a) (V6 b) = texts_ties a b

less_is : (o : Ordering) → is_lt o ≡ true → o ≡ Less
less_is Less is = refl
less_is Equal is = absurd (cc)
less_is Greater is = absurd (cc)

equal_is : (o : Ordering) → is_eq o ≡ true → o ≡ Equal
equal_is Less is = absurd (cc)
equal_is Equal is = refl
equal_is Greater is = absurd (cc)

less_not_equal : (o : Ordering) → is_lt o ≡ true → is_eq o ≡ false
less_not_equal Less is = refl
less_not_equal Equal is = absurd (cc)
less_not_equal Greater is = absurd (cc)

less_not_back : (o : Ordering) → is_lt o ≡ true → is_eq (ordering_reverse o) ≡ false
less_not_back Less is = refl
less_not_back Equal is = absurd (cc)
less_not_back Greater is = absurd (cc)

third : (o : Ordering) → is_lt o ≡ false → is_eq (ordering_reverse o) ≡ false → is_lt (ordering_reverse o) ≡ true
third Less fails differs = absurd (cc)
third Equal fails differs = absurd (cc)
third Greater fails differs = refl

-- an address before another one is not the same
pub less_differs : (a b : Addr) → is_lt (cmp_addr a b) ≡ true → same_addr a b ≡ false
less_differs a b less = addr_ties a b ∙ less_not_equal (cmp_addr a b) less

pub less_differs_back : (a b : Addr) → is_lt (cmp_addr a b) ≡ true → same_addr b a ≡ false
less_differs_back a b less = addr_ties b a ∙ ap is_eq (addr_antisymm b a) ∙ less_not_back (cmp_addr a b) less

-- one that is neither before another one nor the same is after it
pub behind : (a b : Addr) → is_lt (cmp_addr a b) ≡ false → same_addr b a ≡ false → is_lt (cmp_addr b a) ≡ true
behind a b fails differs =
    let test : is_eq (ordering_reverse (cmp_addr a b)) ≡ false = ap is_eq (sym (addr_antisymm b a)) ∙ sym (addr_ties b a) ∙ differs in
    ap is_lt (addr_antisymm b a) ∙ third (cmp_addr a b) fails test

pub less_trans : (a b c : Addr) → is_lt (cmp_addr a b) ≡ true → is_lt (cmp_addr b c) ≡ true → is_lt (cmp_addr a c) ≡ true
less_trans a b c p q = ap is_lt (addr_trans a b c (less_is (cmp_addr a b) p) (less_is (cmp_addr b c) q))

pub less_exact : (a b : Addr) → is_lt (cmp_addr a b) ≡ true → cmp_addr a b ≡ Less
less_exact a b less = less_is (cmp_addr a b) less

pub more_exact : (a b : Addr) → is_lt (cmp_addr a b) ≡ true → cmp_addr b a ≡ Greater
more_exact a b less = addr_antisymm b a ∙ ap ordering_reverse (less_exact a b less)

pub equal_exact : (a b : Addr) → same_addr a b ≡ true → cmp_addr a b ≡ Equal
equal_exact a b same = equal_is (cmp_addr a b) (sym (addr_ties a b) ∙ same)
