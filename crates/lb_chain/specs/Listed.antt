-- Rules as they are listed, and what the list tells.
use Rattle.std.specs.Prelude.{◌≡◌, ℕ, ◌+◌, Bool, List, [], ◌∷◌, ◌++◌, map}
use Rattle.std.specs.List.{All}
use Rattle.lb_limits.specs.Moments.{is_recent}
use Rattle.lb_limits.specs.Window.{Limits, limits_of}
use Rattle.lb_terms.specs.Limiters.{new_limiters}
use Rattle.lb_chain.specs.declared.numbered.Numbered.{Numbered}
use Rattle.lb_chain.specs.declared.listed.Listed.{Listed}
use Rattle.lb_chain.specs.declared.listed.RulePass.{RulePass}
use Rattle.lb_chain.specs.Seen.{seen_rules}

-- the passes of limiters, each with the number of its limiter
abbrev pub counted_from : ℕ → List Limits → List RulePass
counted_from at [] = []
counted_from at (l ∷ limits) = map (λ pass. record { limiter = at; pass = pass }) l.passes ++ counted_from (at + 1) limits

-- a rule as it is listed
abbrev pub listed_of : Numbered → Listed
listed_of n = record { id = n.id; rule = n.rule; passes = counted_from 0 n.limits }

-- whether a listed pass counts at a moment
abbrev pub counts_at : ℕ → RulePass → Bool
counts_at now p = is_recent now p.pass.moment

-- a limiter without what it counted: its rate alone
abbrev pub as_new : Limits → Limits
as_new l = limits_of l.qps l.v4 l.v6

-- the limiters of a rule are those of its term, but for what they counted
abbrev pub HasOwnLimiters : Numbered → Type 0
HasOwnLimiters n = map as_new n.limits ≡ new_limiters n.rule.term

-- what is listed of rules that have their own limiters determines what is seen of them, at every moment
abbrev pub ListedAlikeSeenAlike : Type 0
ListedAlikeSeenAlike = (a b : List Numbered) → All HasOwnLimiters a → All HasOwnLimiters b → map listed_of a ≡ map listed_of b → (now : ℕ) → seen_rules now a ≡ seen_rules now b

-- rules that have their own limiters have them as they are seen at a moment
abbrev pub SeenHaveOwnLimiters : Type 0
SeenHaveOwnLimiters = (moment : ℕ) (rules : List Numbered) → All HasOwnLimiters rules → All HasOwnLimiters (seen_rules moment rules)
