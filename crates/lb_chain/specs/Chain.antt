-- What a chain keeps true of its fields, and so of its list.
use Rattle.std.specs.Prelude.{◌≡◌, ℕ, ◌<◌, ◌≤◌, ◌==◌, List, length}
use Rattle.std.specs.List.{All, count_by}
use Rattle.lb_limits.specs.Window.{ArePasses}
use Rattle.lb_terms.specs.Truth.{limiters_of}
use Rattle.lb_chain.specs.declared.numbered.Numbered.{Numbered}
use Rattle.lb_chain.specs.Edits.{Rules, limiters_in, max_limiters, max_rules}
use Rattle.lb_chain.specs.Listed.{HasOwnLimiters}
use Rattle.lb_chain.specs.Seen.{seen_rules}

-- the passes of each of a rule's limiters are by source, IPv4 first and then by octets, and then by moment; each counts at the
-- limiter's moment; and no source has more of them than the rate
abbrev pub HasPasses : Numbered → Type 0
HasPasses n = All ArePasses n.limits

-- a rule of a chain: it has a number from 1 on and a limiter for each rate of its term, with that rate, and none of them
-- is ahead of the chain; their passes are as above
pub record IsChainRule (moment : ℕ) (n : Numbered) : Type 0 where
  pub number : 1 ≤ n.id.0
  pub own : HasOwnLimiters n
  pub limiters : length n.limits ≡ limiters_of n.rule.term
  pub moments : All (λ l. l.moment ≤ moment) n.limits
  pub passes : HasPasses n

-- how many rules have a number
abbrev pub with_id : ℕ → List Numbered → ℕ
with_id id rules = count_by (λ n. n.id.0 == id) rules

-- a chain: each rule is as above, no number is there twice, and none is over the last one given
pub record IsChain (last moment limiters : ℕ) (rules : List Numbered) : Type 0 where
  pub each : All (IsChainRule moment) rules
  pub count : limiters_in rules ≡ limiters
  pub few : limiters ≤ 16
  pub once : (id : ℕ) → with_id id rules ≤ 1
  pub given : (id : ℕ) → last < id → with_id id rules ≡ 0
  pub short : length rules ≤ 4096

-- what the list of a chain keeps true: each rule has a number from 1 on and below the next, no number is there twice, and
-- there are at most 4,096 rules with at most 16 limiters, whose passes are as above
pub record AreRules (chain : Rules) : Type 0 where
  pub given : All (λ n. (1 ≤ n.id.0) × (n.id.0 < chain.next)) chain.rules
  pub once : (id : ℕ) → with_id id chain.rules ≤ 1
  pub few : length chain.rules ≤ max_rules
  pub limiters : limiters_in chain.rules ≤ max_limiters
  pub passes : All HasPasses chain.rules

-- so it is of the rules as they are seen at a moment
abbrev pub SeenAreRules : Type 0
SeenAreRules = (moment : ℕ) (chain : Rules) → AreRules chain → AreRules (record chain { moment = moment; rules = seen_rules moment chain.rules })
