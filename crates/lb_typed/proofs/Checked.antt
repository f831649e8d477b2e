-- A term within the limits can be typed if its names can.
use Rattle.std.proofs.Common.{◌≡◌, ℕ, ◌≤◌, ◌<◌, true, false, ◌&&◌, List, length, arith}
use Rattle.std.specs.Prelude.{nat_le, nat_lt}
use Rattle.std.proofs.lemmas.Bool.{and_parts}
use Rattle.std.proofs.lemmas.Grind.{common_steps}
use Rattle.lb_terms.specs.Selector.{Selector, Selectors, end, more}
use Rattle.lb_terms.specs.Selector as sel
use Rattle.lb_terms.specs.Check.{IsChecked, has_member, has_members, has_rates, has_small_sets, have_members, have_rates, have_small_sets, is_rate}
use Rattle.lb_typed.specs.Typed.{AreTyped, HasTypedNames, HaveTypedNames, IsSome, IsTyped}

within : (a b : ℕ) → nat_le a b ≡ true → a ≤ b
within a b is = grind (arith, common_steps, is)

some_of : (n : ℕ) → nat_lt 0 n ≡ true → 0 < n
some_of n is = grind (arith, common_steps, is)

has_some : (members : Selectors) → has_member members ≡ true → IsSome members
has_some end is = grind (arith, common_steps, is)
has_some (more member members) is = tt

mutual
  typed : (term : Selector) → has_small_sets term ≡ true → has_members term ≡ true → has_rates term ≡ true → HasTypedNames term → IsTyped 1024 term
  typed sel.All sets members rates names = tt
  typed (sel.Suffix list) sets members rates names = (some_of (length list) members, within (length list) 1024 sets, names)
  typed (sel.Masks list) sets members rates names = (some_of (length list) members, within (length list) 1024 sets)
  typed (sel.Qtype qtype) sets members rates names = tt
  typed (sel.And list) sets members rates names =
      let parts = and_parts (has_member list) (have_members list) members in
      (has_some list parts.0, all_typed list sets parts.1 rates names)
  typed (sel.Or list) sets members rates names =
      let parts = and_parts (has_member list) (have_members list) members in
      (has_some list parts.0, all_typed list sets parts.1 rates names)
  typed (sel.Not member) sets members rates names = typed member sets members rates names
  typed (sel.MaxQps qps v4 v6) sets members rates names =
      let last = and_parts (nat_le 1 qps && nat_le qps 1000 && nat_le v4 32) (nat_le v6 128) rates in
      let third = and_parts (nat_le 1 qps && nat_le qps 1000) (nat_le v4 32) last.0 in
      let first = and_parts (nat_le 1 qps) (nat_le qps 1000) third.0 in
      (within 1 qps first.0, within qps 1000 first.1, within v4 32 third.1, within v6 128 last.1)

  all_typed : (terms : Selectors) → have_small_sets terms ≡ true → have_members terms ≡ true → have_rates terms ≡ true → HaveTypedNames terms → AreTyped 1024 terms
  all_typed end sets members rates names = tt
  all_typed (more member others) sets members rates names =
      let a = and_parts (has_small_sets member) (have_small_sets others) sets in
      let b = and_parts (has_members member) (have_members others) members in
      let c = and_parts (has_rates member) (have_rates others) rates in
      (typed member a.0 b.0 c.0 names.0, all_typed others a.1 b.1 c.1 names.1)

pub checked_is_typed : (term : Selector) → IsChecked term → HasTypedNames term → IsTyped 1024 term
checked_is_typed term is names = typed term is.sets is.members is.rates names
