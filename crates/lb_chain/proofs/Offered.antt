-- What the indexes find is what may hold.
use Rattle.std.proofs.Common.{Option, ◌≡◌, ◌⊎◌, ◌↔◌, IsTrue, nat_lt, ◌||◌, Bool, true, false, ℕ, ◌<◌, ◌≤◌, List, [], ◌∷◌, ◌++◌, length, get_or, Some, None, inl, inr, refl, sym, ap, subst, ◌∙◌, arith}
use Rattle.std.proofs.lemmas.Bool.{cases_Bool}
use Rattle.std.proofs.lemmas.Bool.Decides.{nat_tests}
use Rattle.lb_name.specs.Name.{lower_name, IsUnder}
use Rattle.lb_index_ranks.specs.Least.{IsLeastFrom, lesser_of}
use Rattle.lb_masks.specs.Mask.{Covers, Prefix}
use Rattle.lb_suffix.specs.Index.{Pair as NamePair, pair_of as name_pair}
use Rattle.lb_masks.specs.Index.{Pair as MaskPair, pair_of as mask_pair}
use Rattle.lb_wire.specs.declared.addr.Addr.{Addr}
use Rattle.lb_wire.specs.declared.query.QueryView.{QueryView}
use Rattle.lb_terms.specs.Sets.{covers, in_group, in_suffixes, is_under}
use Rattle.lb_terms.specs.Selector.{Selector, All, Suffix, Masks, Qtype, And, Or, Not, MaxQps, Selectors, end, more}
use Rattle.lb_chain.specs.FirstAsked.{AreFiled, at_loose, at_masks, at_names, first_may_hold, first_member_sets, IsOneOf, loose_ranks, may_hold, mask_pairs, name_pairs}
use Rattle.lb_chain.specs.Offers.{may_hold_at}
use Rattle.lb_chain.specs.Ahead.{IsOffered}
use Rattle.lb_chain.proofs.PairsOf.{pair_at, place_of}
use Rattle.lb_chain.proofs.Edited.{loose_rank, masks_rank, names_rank}

below_is : (a b : ℕ) → nat_lt a b ≡ true → a < b
below_is a b is = grind (arith, nat_tests)

not_below_is : (a b : ℕ) → nat_lt a b ≡ false → b ≤ a
not_below_is a b is = grind (arith, nat_tests)

-- the least of two sets is the lesser of their least
pub least_both : (P Q : ℕ → Type 0) (from : ℕ) (a b : Option ℕ) → IsLeastFrom P from a → IsLeastFrom Q from b → IsLeastFrom (λ r. P r ⊎ Q r) from (lesser_of a b)
least_both P Q from None None p q = λ r le has. elim has [ inl in_p ↦ p r le in_p | inr in_q ↦ q r le in_q ]
least_both P Q from None (Some b) p q = (q.0, inr q.1, λ r le has. elim has [ inl in_p ↦ absurd (p r le in_p) | inr in_q ↦ q.2 r le in_q ])
least_both P Q from (Some a) None p q = (p.0, inl p.1, λ r le has. elim has [ inl in_p ↦ p.2 r le in_p | inr in_q ↦ absurd (q r le in_q) ])
least_both P Q from (Some a) (Some b) p q =
    elim (cases_Bool (nat_lt b a)) [
      | inl is ↦
          let less : b < a = below_is b a is in
          rw is (q.0, inr q.1, λ r le has. elim has [ inl in_p ↦ (let over : a ≤ r = p.2 r le in_p in omega arith) | inr in_q ↦ q.2 r le in_q ])
      | inr is ↦
          let more : a ≤ b = not_below_is b a is in
          rw is (p.0, inl p.1, λ r le has. elim has [ inl in_p ↦ p.2 r le in_p | inr in_q ↦ (let over : b ≤ r = q.2 r le in_q in omega arith) ])
    ]

-- what the tests of names and of masks decide
abbrev pub NamesDecide : Type 0
NamesDecide = (name suffix : List (List ℕ)) → IsTrue (is_under name suffix) ↔ IsUnder name suffix

abbrev pub MasksDecide : Type 0
MasksDecide = (prefix : Prefix) (addr : Addr) → IsTrue (covers addr prefix) ↔ Covers prefix addr

-- a name in lower case stands over the name
abbrev IsOver : List (List ℕ) → List (List ℕ) → Type 0
IsOver lower name = (front : List (List ℕ)) × (lower_name name ≡ front ++ lower)

any_name : (by_name : NamesDecide) (view : QueryView) (rank : ℕ) (p : NamePair) (names : List (List (List ℕ))) → IsOneOf (at_names names rank) p → IsOver p.name view.name → in_suffixes names view.name ≡ true
any_name by_name view rank p [] one over = absurd one
any_name by_name view rank p (name ∷ names) one over =
    elim one [
      | inl is ↦ rw ((by_name view.name name).1 (subst (λ (q : NamePair). IsOver q.name view.name) is over)) refl
      | inr later ↦ elim (cases_Bool (is_under view.name name)) [ inl holds ↦ rw holds refl | inr fails ↦ rw fails (any_name by_name view rank p names later over) ]
    ]

any_mask : (by_mask : MasksDecide) (addr : Addr) (rank : ℕ) (p : MaskPair) (masks : List Prefix) → IsOneOf (at_masks masks rank) p → Covers p.mask addr → in_group masks addr ≡ true
any_mask by_mask addr rank p [] one over = absurd one
any_mask by_mask addr rank p (mask ∷ masks) one over =
    elim one [
      | inl is ↦ rw ((by_mask mask addr).1 (subst (λ (q : MaskPair). Covers q.mask addr) is over)) refl
      | inr later ↦ elim (cases_Bool (covers addr mask)) [ inl holds ↦ rw holds refl | inr fails ↦ rw fails (any_mask by_mask addr rank p masks later over) ]
    ]

-- a name or a mask that is found may hold
mutual
  name_holds : (by_name : NamesDecide) (term : Selector) (view : QueryView) (addr : Addr) (rank : ℕ) (p : NamePair) → IsOneOf (name_pairs term rank) p → IsOver p.name view.name → may_hold term view addr ≡ true
  name_holds by_name All view addr rank p one over = refl
  name_holds by_name (Suffix names) view addr rank p one over = any_name by_name view rank p names one over
  name_holds by_name (Masks group) view addr rank p one over = absurd one
  name_holds by_name (Qtype qtype) view addr rank p one over = refl
  name_holds by_name (And members) view addr rank p one over = first_name_holds by_name members view addr rank p one over
  name_holds by_name (Or members) view addr rank p one over = refl
  name_holds by_name (Not member) view addr rank p one over = refl
  name_holds by_name (MaxQps qps v4 v6) view addr rank p one over = refl

  first_name_holds : (by_name : NamesDecide) (members : Selectors) (view : QueryView) (addr : Addr) (rank : ℕ) (p : NamePair) → IsOneOf (at_names (first_member_sets members).names rank) p → IsOver p.name view.name → first_may_hold members view addr ≡ true
  first_name_holds by_name end view addr rank p one over = refl
  first_name_holds by_name (more member members) view addr rank p one over = name_holds by_name member view addr rank p one over

mutual
  mask_holds : (by_mask : MasksDecide) (term : Selector) (view : QueryView) (addr : Addr) (rank : ℕ) (p : MaskPair) → IsOneOf (mask_pairs term rank) p → Covers p.mask addr → may_hold term view addr ≡ true
  mask_holds by_mask All view addr rank p one over = refl
  mask_holds by_mask (Suffix names) view addr rank p one over = absurd one
  mask_holds by_mask (Masks group) view addr rank p one over = any_mask by_mask addr rank p group one over
  mask_holds by_mask (Qtype qtype) view addr rank p one over = refl
  mask_holds by_mask (And members) view addr rank p one over = first_mask_holds by_mask members view addr rank p one over
  mask_holds by_mask (Or members) view addr rank p one over = refl
  mask_holds by_mask (Not member) view addr rank p one over = refl
  mask_holds by_mask (MaxQps qps v4 v6) view addr rank p one over = refl

  first_mask_holds : (by_mask : MasksDecide) (members : Selectors) (view : QueryView) (addr : Addr) (rank : ℕ) (p : MaskPair) → IsOneOf (at_masks (first_member_sets members).masks rank) p → Covers p.mask addr → first_may_hold members view addr ≡ true
  first_mask_holds by_mask end view addr rank p one over = refl
  first_mask_holds by_mask (more member members) view addr rank p one over = mask_holds by_mask member view addr rank p one over

-- and so may one that asks for no set first
mutual
  loose_holds : (term : Selector) (view : QueryView) (addr : Addr) (rank x : ℕ) → IsOneOf (loose_ranks term rank) x → may_hold term view addr ≡ true
  loose_holds All view addr rank x one = refl
  loose_holds (Suffix names) view addr rank x one = absurd one
  loose_holds (Masks group) view addr rank x one = absurd one
  loose_holds (Qtype qtype) view addr rank x one = refl
  loose_holds (And members) view addr rank x one = first_loose_holds members view addr rank x one
  loose_holds (Or members) view addr rank x one = refl
  loose_holds (Not member) view addr rank x one = refl
  loose_holds (MaxQps qps v4 v6) view addr rank x one = refl

  first_loose_holds : (members : Selectors) (view : QueryView) (addr : Addr) (rank x : ℕ) → IsOneOf (at_loose (first_member_sets members).is_loose rank) x → first_may_hold members view addr ≡ true
  first_loose_holds end view addr rank x one = refl
  first_loose_holds (more member members) view addr rank x one = loose_holds member view addr rank x one

-- one of the pairs is over the name or covers the address, or the rank is loose
abbrev IsFound : List NamePair → List MaskPair → List ℕ → ℕ → QueryView → Addr → Type 0
IsFound names masks loose rank view addr =
    IsOneOf loose rank ⊎ (((name : List (List ℕ)) × IsOneOf names (name_pair name rank) × IsUnder view.name name) ⊎ ((mask : Prefix) × IsOneOf masks (mask_pair mask rank) × Covers mask addr))

name_found : (by_name : NamesDecide) (view : QueryView) (rank : ℕ) (names : List (List (List ℕ))) → in_suffixes names view.name ≡ true → (name : List (List ℕ)) × IsOneOf (at_names names rank) (name_pair name rank) × IsUnder view.name name
name_found by_name view rank [] is = absurd (cc)
name_found by_name view rank (name ∷ names) is =
    elim (cases_Bool (is_under view.name name)) [
      | inl holds ↦ (name, inl refl, (by_name view.name name).0 holds)
      | inr fails ↦
          let found = name_found by_name view rank names (ap (λ (b : Bool). b || in_suffixes names view.name) (sym fails) ∙ is) in (found.0, inr found.1, found.2)
    ]

mask_found : (by_mask : MasksDecide) (addr : Addr) (rank : ℕ) (masks : List Prefix) → in_group masks addr ≡ true → (mask : Prefix) × IsOneOf (at_masks masks rank) (mask_pair mask rank) × Covers mask addr
mask_found by_mask addr rank [] is = absurd (cc)
mask_found by_mask addr rank (mask ∷ masks) is =
    elim (cases_Bool (covers addr mask)) [
      | inl holds ↦ (mask, inl refl, (by_mask mask addr).0 holds)
      | inr fails ↦ let found = mask_found by_mask addr rank masks (ap (λ (b : Bool). b || in_group masks addr) (sym fails) ∙ is) in (found.0, inr found.1, found.2)
    ]

mutual
  found_where : (by_name : NamesDecide) (by_mask : MasksDecide) (term : Selector) (view : QueryView) (addr : Addr) (rank : ℕ) → may_hold term view addr ≡ true → IsFound (name_pairs term rank) (mask_pairs term rank) (loose_ranks term rank) rank view addr
  found_where by_name by_mask All view addr rank is = inl (inl refl)
  found_where by_name by_mask (Suffix names) view addr rank is = inr (inl (name_found by_name view rank names is))
  found_where by_name by_mask (Masks group) view addr rank is = inr (inr (mask_found by_mask addr rank group is))
  found_where by_name by_mask (Qtype qtype) view addr rank is = inl (inl refl)
  found_where by_name by_mask (And members) view addr rank is = first_found by_name by_mask members view addr rank is
  found_where by_name by_mask (Or members) view addr rank is = inl (inl refl)
  found_where by_name by_mask (Not member) view addr rank is = inl (inl refl)
  found_where by_name by_mask (MaxQps qps v4 v6) view addr rank is = inl (inl refl)

  first_found : (by_name : NamesDecide) (by_mask : MasksDecide) (members : Selectors) (view : QueryView) (addr : Addr) (rank : ℕ) → first_may_hold members view addr ≡ true →
      IsFound (at_names (first_member_sets members).names rank) (at_masks (first_member_sets members).masks rank) (at_loose (first_member_sets members).is_loose rank) rank view addr
  first_found by_name by_mask end view addr rank is = inl (inl refl)
  first_found by_name by_mask (more member members) view addr rank is = found_where by_name by_mask member view addr rank is

-- what is found is the rank of a selector that may hold
abbrev pub HoldsAt : List Selector → List ℕ → QueryView → Addr → ℕ → Type 0
HoldsAt terms ranks view addr rank = (k : ℕ) × (k < length terms) × (get_or ranks k 0 ≡ rank) × (may_hold_at terms view addr k ≡ true)

pub holds_found : (by_name : NamesDecide) (by_mask : MasksDecide) (names : List NamePair) (masks : List MaskPair) (loose : List ℕ) (terms : List Selector) (ranks : List ℕ) (view : QueryView) (addr : Addr) (rank : ℕ) → AreFiled names masks loose ranks terms → IsOffered names masks loose view addr rank → HoldsAt terms ranks view addr rank
holds_found by_name by_mask names masks loose terms ranks view addr rank filed found =
    elim found [
      | inl among ↦
          let at = place_of loose_ranks terms ranks rank ((filed.by_loose rank).0 among) in
          (at.0, at.1, sym (loose_rank (get_or terms at.0 All) (get_or ranks at.0 0) rank at.3), loose_holds (get_or terms at.0 All) view addr (get_or ranks at.0 0) rank at.3)
      | inr for ↦ elim for [
        | inl over ↦
            let p : NamePair = name_pair over.0 rank in
            let at = place_of name_pairs terms ranks p ((filed.by_names p).0 over.1) in
            (at.0, at.1, sym (names_rank (get_or terms at.0 All) (get_or ranks at.0 0) p at.3), name_holds by_name (get_or terms at.0 All) view addr (get_or ranks at.0 0) p at.3 over.2)
        | inr under ↦
            let p : MaskPair = mask_pair under.0 rank in
            let at = place_of mask_pairs terms ranks p ((filed.by_masks p).0 under.1) in
            (at.0, at.1, sym (masks_rank (get_or terms at.0 All) (get_or ranks at.0 0) p at.3), mask_holds by_mask (get_or terms at.0 All) view addr (get_or ranks at.0 0) p at.3 under.2)
      ]
    ]

-- and each such rank is found
pub found_holds : (by_name : NamesDecide) (by_mask : MasksDecide) (names : List NamePair) (masks : List MaskPair) (loose : List ℕ) (terms : List Selector) (ranks : List ℕ) (view : QueryView) (addr : Addr) (k : ℕ) → AreFiled names masks loose ranks terms → k < length terms → may_hold_at terms view addr k ≡ true → IsOffered names masks loose view addr (get_or ranks k 0)
found_holds by_name by_mask names masks loose terms ranks view addr k filed lt is =
    let in_ranks : k < length ranks = omega (arith, filed.each) in
    elim (found_where by_name by_mask (get_or terms k All) view addr (get_or ranks k 0) is) [
      | inl among ↦ inl ((filed.by_loose (get_or ranks k 0)).1 (pair_at loose_ranks terms ranks (get_or ranks k 0) k lt in_ranks among))
      | inr for ↦ elim for [
        | inl over ↦ inr (inl (over.0, (filed.by_names (name_pair over.0 (get_or ranks k 0))).1 (pair_at name_pairs terms ranks (name_pair over.0 (get_or ranks k 0)) k lt in_ranks over.1), over.2))
        | inr under ↦ inr (inr (under.0, (filed.by_masks (mask_pair under.0 (get_or ranks k 0))).1 (pair_at mask_pairs terms ranks (mask_pair under.0 (get_or ranks k 0)) k lt in_ranks under.1), under.2))
      ]
    ]
