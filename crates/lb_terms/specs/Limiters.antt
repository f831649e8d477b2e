-- The limiters of a selector: one for each rate, from the left.
use Rattle.std.specs.Prelude.{List, [], ◌∷◌, ◌++◌}
use Rattle.lb_limits.specs.Window.{Limits, limits_of}
use Rattle.lb_terms.specs.Selector.{Selector, All, Suffix, Masks, Qtype, And, Or, Not, MaxQps, Selectors, end, more}

-- each rate gives a limiter that has counted nothing
abbrev mutual
  pub new_limiters : Selector → List Limits
  new_limiters All = []
  new_limiters (Suffix names) = []
  new_limiters (Masks group) = []
  new_limiters (Qtype qtype) = []
  new_limiters (And members) = limiters_each members
  new_limiters (Or members) = limiters_each members
  new_limiters (Not member) = new_limiters member
  new_limiters (MaxQps qps v4 v6) = limits_of qps v4 v6 ∷ []

  pub limiters_each : Selectors → List Limits
  limiters_each end = []
  limiters_each (more member members) = new_limiters member ++ limiters_each members
