-- How large a selector is, and what is wrong with it.
use Rattle.std.specs.Prelude.{◌≡◌, ℕ, ◌+◌, Bool, true, false, not, ◌&&◌, ◌||◌, nat_le, nat_lt, length, max, Result, Ok, Err, if◌then◌else◌}
use Rattle.lb_terms.specs.Selector.{Selector, All, Suffix, Masks, Qtype, And, Or, Not, MaxQps, Selectors, end, more}
use Rattle.lb_terms.specs.declared.fault.TermFault.{TermFault}
use Rattle.lb_terms.specs.declared.fault.TermFault.TheVariants as faults

abbrev pub max_depth : ℕ
max_depth = 16

abbrev pub max_nodes : ℕ
max_nodes = 64

-- the most names or masks of a set
abbrev pub max_set : ℕ
max_set = 1024

-- the depth of a selector: a leaf has depth 1
abbrev mutual
  pub depth_of : Selector → ℕ
  depth_of All = 1
  depth_of (Suffix names) = 1
  depth_of (Masks group) = 1
  depth_of (Qtype qtype) = 1
  depth_of (And members) = 1 + depth_in members
  depth_of (Or members) = 1 + depth_in members
  depth_of (Not member) = 1 + depth_of member
  depth_of (MaxQps qps v4 v6) = 1

  -- the depth of the deepest member, 0 where there is none
  pub depth_in : Selectors → ℕ
  depth_in end = 0
  depth_in (more member members) = max (depth_of member) (depth_in members)

-- the nodes of a selector: itself and those of its members
abbrev mutual
  pub nodes_of : Selector → ℕ
  nodes_of All = 1
  nodes_of (Suffix names) = 1
  nodes_of (Masks group) = 1
  nodes_of (Qtype qtype) = 1
  nodes_of (And members) = 1 + nodes_in members
  nodes_of (Or members) = 1 + nodes_in members
  nodes_of (Not member) = 1 + nodes_of member
  nodes_of (MaxQps qps v4 v6) = 1

  pub nodes_in : Selectors → ℕ
  nodes_in end = 0
  nodes_in (more member members) = nodes_of member + nodes_in members

-- whether no set of the selector has too many names or masks
abbrev mutual
  pub has_small_sets : Selector → Bool
  has_small_sets All = true
  has_small_sets (Suffix names) = nat_le (length names) max_set
  has_small_sets (Masks group) = nat_le (length group) max_set
  has_small_sets (Qtype qtype) = true
  has_small_sets (And members) = have_small_sets members
  has_small_sets (Or members) = have_small_sets members
  has_small_sets (Not member) = has_small_sets member
  has_small_sets (MaxQps qps v4 v6) = true

  pub have_small_sets : Selectors → Bool
  have_small_sets end = true
  have_small_sets (more member members) = has_small_sets member && have_small_sets members

-- whether there is a member
abbrev pub has_member : Selectors → Bool
has_member end = false
has_member (more member members) = true

-- whether each And, Or and set of the selector has a member
abbrev mutual
  pub has_members : Selector → Bool
  has_members All = true
  has_members (Suffix names) = nat_lt 0 (length names)
  has_members (Masks group) = nat_lt 0 (length group)
  has_members (Qtype qtype) = true
  has_members (And members) = has_member members && have_members members
  has_members (Or members) = has_member members && have_members members
  has_members (Not member) = has_members member
  has_members (MaxQps qps v4 v6) = true

  pub have_members : Selectors → Bool
  have_members end = true
  have_members (more member members) = has_members member && have_members members

-- a rate of 1 to 1,000, and lengths that IPv4 and IPv6 addresses have
abbrev pub is_rate : ℕ → ℕ → ℕ → Bool
is_rate qps v4 v6 = nat_le 1 qps && nat_le qps 1000 && nat_le v4 32 && nat_le v6 128

-- whether each rate of the selector is one
abbrev mutual
  pub has_rates : Selector → Bool
  has_rates All = true
  has_rates (Suffix names) = true
  has_rates (Masks group) = true
  has_rates (Qtype qtype) = true
  has_rates (And members) = have_rates members
  has_rates (Or members) = have_rates members
  has_rates (Not member) = has_rates member
  has_rates (MaxQps qps v4 v6) = is_rate qps v4 v6

  pub have_rates : Selectors → Bool
  have_rates end = true
  have_rates (more member members) = has_rates member && have_rates members

-- the selector within all limits, or the first of its faults in their order
abbrev pub checked_of : Selector → Result Selector TermFault
checked_of term =
    if nat_lt max_depth (depth_of term) then Err faults.TooDeep
    else (if nat_lt max_nodes (nodes_of term) || not (has_small_sets term) then Err faults.TooLarge
    else (if not (has_members term) then Err faults.Empty
    else (if not (has_rates term) then Err faults.BadRate
    else Ok term)))

-- a selector within all limits
pub record IsChecked (term : Selector) : Type 0 where
  pub depth : nat_le (depth_of term) max_depth ≡ true
  pub nodes : nat_le (nodes_of term) max_nodes ≡ true
  pub sets : has_small_sets term ≡ true
  pub members : has_members term ≡ true
  pub rates : has_rates term ≡ true
