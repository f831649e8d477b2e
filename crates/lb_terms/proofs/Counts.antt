-- How many limiters a selector has.
use Rattle.std.proofs.Common.{◌≡◌, ℕ, zero, suc, ◌≤◌, [], ◌∷◌, length, length-append, refl, arith}
use Rattle.std.specs.List.{All as Each}
use Rattle.std.proofs.lemmas.List.Elements.{All-append}
use Rattle.lb_limits.specs.Window.{Limits, limits_of}
use Rattle.lb_terms.specs.Selector.{Selector, All, Suffix, Masks, Qtype, And, Or, Not, MaxQps, Selectors, end, more}
use Rattle.lb_terms.specs.Check.{nodes_of, nodes_in}
use Rattle.lb_terms.specs.Truth.{limiters_of, limiters_in}
use Rattle.lb_terms.specs.Limiters.{new_limiters, limiters_each}

-- no more than it has nodes
mutual
  pub limiters_within : (term : Selector) → limiters_of term ≤ nodes_of term
  limiters_within All = omega arith
  limiters_within (Suffix names) = omega arith
  limiters_within (Masks group) = omega arith
  limiters_within (Qtype qtype) = omega arith
  limiters_within (And members) = omega (arith, all_within members)
  limiters_within (Or members) = omega (arith, all_within members)
  limiters_within (Not member) = omega (arith, limiters_within member)
  limiters_within (MaxQps qps v4 v6) = omega arith

  pub all_within : (members : Selectors) → limiters_in members ≤ nodes_in members
  all_within end = omega arith
  all_within (more member members) = omega (arith, limiters_within member, all_within members)

-- as many as are made for it
mutual
  pub length-new_limiters : (term : Selector) → length (new_limiters term) ≡ limiters_of term
  length-new_limiters All = refl
  length-new_limiters (Suffix names) = refl
  length-new_limiters (Masks group) = refl
  length-new_limiters (Qtype qtype) = refl
  length-new_limiters (And members) = length-limiters_each members
  length-new_limiters (Or members) = length-limiters_each members
  length-new_limiters (Not member) = length-new_limiters member
  length-new_limiters (MaxQps qps v4 v6) = refl

  pub length-limiters_each : (members : Selectors) → length (limiters_each members) ≡ limiters_in members
  length-limiters_each end = refl
  length-limiters_each (more member members) = omega (arith, length-append (new_limiters member) (limiters_each members), length-new_limiters member, length-limiters_each members)

-- the moment of a limiter that has counted nothing
abbrev pub IsNew : Limits → Type 0
IsNew limiter = limiter.moment ≡ 0

IsNew-alone : (qps v4 v6 : ℕ) → Each IsNew (limits_of qps v4 v6 ∷ [])
IsNew-alone qps v4 v6 zero d below = refl
IsNew-alone qps v4 v6 (suc k) d below = absurd (omega arith)

IsNew-none : Each IsNew []
IsNew-none k d below = absurd (omega arith)

mutual
  pub all_new : (term : Selector) → Each IsNew (new_limiters term)
  all_new All = IsNew-none
  all_new (Suffix names) = IsNew-none
  all_new (Masks group) = IsNew-none
  all_new (Qtype qtype) = IsNew-none
  all_new (And members) = each_new members
  all_new (Or members) = each_new members
  all_new (Not member) = all_new member
  all_new (MaxQps qps v4 v6) = IsNew-alone qps v4 v6

  pub each_new : (members : Selectors) → Each IsNew (limiters_each members)
  each_new end = IsNew-none
  each_new (more member members) = All-append IsNew (new_limiters member) (limiters_each members) (all_new member) (each_new members)
