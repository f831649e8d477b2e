-- How far a walk has come over the rules, by ranks.
use Rattle.std.specs.Prelude.{◌≡◌, ◌⊎◌, ◌↔◌, ℕ, ◌<◌, ◌==◌, Bool, true, false, List, [], ◌∷◌, Contains, Option, None, Some, slice_index, if◌then◌else◌}
use Rattle.lb_index_ranks.specs.Least.{IsLeastFrom}
use Rattle.lb_suffix.specs.Index.{Pair as NamePair}
use Rattle.lb_masks.specs.Index.{Pair as MaskPair}
use Rattle.lb_wire.specs.declared.addr.Addr.{Addr}
use Rattle.lb_wire.specs.declared.query.QueryView.{QueryView}
use Rattle.lb_terms.specs.Selector.{Selector}
use Rattle.lb_chain.specs.declared.offers.Ahead.{Ahead}
use Rattle.lb_chain.specs.declared.offers.Offers.{Offers}
use Rattle.lb_chain.specs.FirstAsked.{AreRising}
use Rattle.lb_chain.specs.Filing.{IsFiledFor}
use Rattle.lb_chain.specs.Offers.{AreOffers}

-- the rank comes after those before the place
abbrev pub IsBehind : List ℕ → ℕ → ℕ → Type 0
IsBehind ranks at rank = (k : ℕ) → k < at → slice_index ranks k < rank

-- the least of the ranks after a place of which this holds, and none where there is none
abbrev pub IsLeastBehind : (ℕ → Type 0) → List ℕ → ℕ → Option ℕ → Type 0
IsLeastBehind P ranks at found = IsLeastFrom (λ r. P r × IsBehind ranks at r) 0 found

-- the loose ranks after a place
pub record AreLeft (loose ranks : List ℕ) (at : ℕ) (left : List ℕ) : Type 0 where
  pub rising : AreRising left
  pub each : (r : ℕ) → Contains left r ↔ (Contains loose r × IsBehind ranks at r)

-- what is left of a walk: the loose ranks from its place on and, where it was looked for, the next rank that an index finds
pub record IsAheadOf (names : List NamePair) (masks : List MaskPair) (loose ranks : List ℕ) (view : QueryView) (addr : Addr) (ahead : Ahead) : Type 0 where
  pub left : AreLeft loose ranks ahead.at ahead.loose.now
  pub found : ahead.looked ≡ true → IsLeastBehind (IsFiledFor names masks view addr) ranks ahead.at ahead.indexed

abbrev pub IsAhead : Offers → QueryView → Addr → Ahead → Type 0
IsAhead offers view addr ahead = IsAheadOf offers.names offers.masks offers.loose offers.ranks.items view addr ahead

-- the rank is loose, or an index finds it for the query
abbrev pub IsOffered : List NamePair → List MaskPair → List ℕ → QueryView → Addr → ℕ → Type 0
IsOffered names masks loose view addr rank = Contains loose rank ⊎ IsFiledFor names masks view addr rank

-- what an index finds next in a walk of some rules: the least rank from its place on of a rule whose
-- first set has the name or the address of the query
abbrev pub IsNextIndexed : Offers → QueryView → Addr → Ahead → Option ℕ → Type 0
IsNextIndexed offers view addr ahead found = (terms : List Selector) → AreOffers offers terms → IsAhead offers view addr ahead → IsLeastBehind (IsFiledFor offers.names offers.masks view addr) offers.ranks.items ahead.at found

-- what comes next in a walk of some rules: the least rank from its place on of a rule that asks for
-- no set first, or whose first set has the name or the address of the query
abbrev pub IsNextRank : Offers → QueryView → Addr → Ahead → Option ℕ → Type 0
IsNextRank offers view addr ahead found = (terms : List Selector) → AreOffers offers terms → IsAhead offers view addr ahead → IsLeastBehind (IsOffered offers.names offers.masks offers.loose view addr) offers.ranks.items ahead.at found

-- ranks without their first, where this is it
abbrev pub without_first : ℕ → List ℕ → List ℕ
without_first rank [] = []
without_first rank (r ∷ ranks) = if r == rank then ranks else r ∷ ranks

-- whether this rank was found
abbrev pub is_rank : ℕ → Option ℕ → Bool
is_rank rank None = false
is_rank rank (Some r) = r == rank
