-- Whether a selector holds of a query, and which of its limiters count the query.
use Rattle.std.specs.Prelude.{ℕ, ◌+◌, Bool, true, false, get_or, not, ◌==◌, List, [], ◌∷◌, ◌++◌, map, if◌then◌else◌}
use Rattle.lb_wire.specs.declared.addr.Addr.{Addr}
use Rattle.lb_wire.specs.declared.query.QueryView.{QueryView}
use Rattle.lb_limits.specs.Window.{Limits, matches}
use Rattle.lb_terms.specs.Sets.{in_suffixes, in_group}
use Rattle.lb_terms.specs.Selector.{Selector, All, Suffix, Masks, Qtype, And, Or, Not, MaxQps, Selectors, end, more}
use Rattle.lb_terms.specs.declared.tested.Tested.{Tested}
use Rattle.lb_terms.specs.declared.truth.Subject.{Subject}

-- what a selector is asked of: a query, the address that it came from, and of each limiter whether it matches
pub record Asked : Type 0 where
  pub view : QueryView
  pub addr : Addr
  pub matched : List Bool

abbrev pub asked_of : QueryView → Addr → List Limits → ℕ → Asked
asked_of view addr limits now = record { view = view; addr = addr; matched = map (λ l. matches l addr now) limits }

-- what is asked of a selector that is tested on this
abbrev pub asked_on : Subject → Asked
asked_on on = asked_of on.view.now on.addr.now on.limits.now on.moment

-- whether a limiter matches
abbrev pub matched_at : Asked → ℕ → Bool
matched_at asked at = get_or asked.matched at false

-- how many limiters a selector has
abbrev mutual
  pub limiters_of : Selector → ℕ
  limiters_of All = 0
  limiters_of (Suffix names) = 0
  limiters_of (Masks group) = 0
  limiters_of (Qtype qtype) = 0
  limiters_of (And members) = limiters_in members
  limiters_of (Or members) = limiters_in members
  limiters_of (Not member) = limiters_of member
  limiters_of (MaxQps qps v4 v6) = 1

  pub limiters_in : Selectors → ℕ
  limiters_in end = 0
  limiters_in (more member members) = limiters_of member + limiters_in members

-- whether a selector holds, where its first limiter is the one with this number
abbrev mutual
  pub truth_at : Selector → Asked → ℕ → Bool
  truth_at All asked at = true
  truth_at (Suffix names) asked at = in_suffixes names asked.view.name
  truth_at (Masks group) asked at = in_group group asked.addr
  truth_at (Qtype qtype) asked at = qtype.0 == asked.view.qtype.0
  truth_at (And members) asked at = truth_all members asked at
  truth_at (Or members) asked at = truth_any members asked at
  truth_at (Not member) asked at = not (truth_at member asked at)
  truth_at (MaxQps qps v4 v6) asked at = matched_at asked at

  -- And: true where all members are
  pub truth_all : Selectors → Asked → ℕ → Bool
  truth_all end asked at = true
  truth_all (more member members) asked at = if truth_at member asked at then truth_all members asked (at + limiters_of member) else false

  -- Or: true where one member is
  pub truth_any : Selectors → Asked → ℕ → Bool
  truth_any end asked at = false
  truth_any (more member members) asked at = if truth_at member asked at then true else truth_any members asked (at + limiters_of member)

-- the numbers of the limiters that were tested and did not match: each of these counts the query
abbrev mutual
  pub passes_at : Selector → Asked → ℕ → List ℕ
  passes_at All asked at = []
  passes_at (Suffix names) asked at = []
  passes_at (Masks group) asked at = []
  passes_at (Qtype qtype) asked at = []
  passes_at (And members) asked at = passes_all members asked at
  passes_at (Or members) asked at = passes_any members asked at
  passes_at (Not member) asked at = passes_at member asked at
  passes_at (MaxQps qps v4 v6) asked at = if matched_at asked at then [] else at ∷ []

  -- And: the first member that is not true is the last one tested
  pub passes_all : Selectors → Asked → ℕ → List ℕ
  passes_all end asked at = []
  passes_all (more member members) asked at = if truth_at member asked at then passes_at member asked at ++ passes_all members asked (at + limiters_of member) else passes_at member asked at

  -- Or: the first member that is true is the last one tested
  pub passes_any : Selectors → Asked → ℕ → List ℕ
  passes_any end asked at = []
  passes_any (more member members) asked at = if truth_at member asked at then passes_at member asked at else passes_at member asked at ++ passes_any members asked (at + limiters_of member)

-- the test of a selector of a query
abbrev pub tested_of : Selector → Asked → Tested
tested_of term asked = record { truth = truth_at term asked 0; passes = passes_at term asked 0 }
