-- Which rules may hold of a query, by what they ask first.
use Rattle.std.specs.Prelude.{◌≡◌, ℕ, ◌<◌, ◌≤◌, Bool, true, false, List, get_or, length, map, Option, None, Some}
use Rattle.lb_wire.specs.declared.addr.Addr.{Addr}
use Rattle.lb_wire.specs.declared.query.QueryView.{QueryView}
use Rattle.lb_terms.specs.Selector.{Selector, All}
use Rattle.lb_chain.specs.declared.numbered.Numbered.{Numbered}
use Rattle.lb_chain.specs.declared.offers.Offers.{Offers}
use Rattle.lb_chain.specs.FirstAsked.{AreFiled, may_hold}

-- the selectors of rules, in their order
abbrev pub terms_of : List Numbered → List Selector
terms_of = map (λ n. n.rule.term)

-- whether the selector at a place may hold
abbrev pub may_hold_at : List Selector → QueryView → Addr → ℕ → Bool
may_hold_at terms view addr k = may_hold (get_or terms k All) view addr

-- the first place from this one on whose selector may hold; none where no selector from there on may
abbrev pub IsNextOffered : List Selector → QueryView → Addr → ℕ → Option ℕ → Type 0
IsNextOffered terms view addr at (Some k) = (at ≤ k) × (k < length terms) × (may_hold_at terms view addr k ≡ true) × ((j : ℕ) → at ≤ j → j < k → may_hold_at terms view addr j ≡ false)
IsNextOffered terms view addr at None = (j : ℕ) → at ≤ j → j < length terms → may_hold_at terms view addr j ≡ false

-- these are offers of the rules with these selectors
abbrev pub AreOffers : Offers → List Selector → Type 0
AreOffers offers terms = AreFiled offers.names offers.masks offers.loose offers.ranks.items terms
