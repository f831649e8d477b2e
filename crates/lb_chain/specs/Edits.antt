-- The list of rules, and the edits of it.
use Rattle.std.specs.Prelude.{ℕ, ◌+◌, ◌^◌, Bool, true, false, ◌==◌, nat_le, nat_lt, List, [], ◌∷◌, length, Option, None, Some, Result, Ok, Err, slice_get, if◌then◌else◌}
use Rattle.std.specs.List.{insert, remove, position}
use Rattle.lb_wire.specs.declared.ids.RuleId.{RuleId}
use Rattle.lb_terms.specs.Truth.{limiters_of}
use Rattle.lb_terms.specs.Limiters.{new_limiters}
use Rattle.lb_chain.specs.declared.fault.ChainFault.{ChainFault}
use Rattle.lb_chain.specs.declared.fault.ChainFault.TheVariants as faults
use Rattle.lb_chain.specs.declared.rule.Rule.{Rule}
use Rattle.lb_chain.specs.declared.numbered.Numbered.{Numbered}

-- a chain: the next rule number (2^64 once all are given), the latest moment of a reservation or a pass, and the rules
-- in their order, each with its limiters
pub record Rules : Type 0 where
  pub next : ℕ
  pub moment : ℕ
  pub rules : List Numbered

abbrev pub no_rules : Rules
no_rules = record { next = 1; moment = 0; rules = [] }

abbrev pub max_rules : ℕ
max_rules = 4096

-- the most limiters of a chain
abbrev pub max_limiters : ℕ
max_limiters = 16

-- how many limiters the rules have
abbrev pub limiters_in : List Numbered → ℕ
limiters_in [] = 0
limiters_in (n ∷ rules) = length n.limits + limiters_in rules

-- the place of the rule with a number
abbrev pub place_of : RuleId → List Numbered → Option ℕ
place_of id rules = position (λ n. n.id.0 == id.0) rules

-- a rule with its number; its limiters have counted nothing
abbrev pub numbered_of : ℕ → Rule → Numbered
numbered_of id rule = record { id = record { 0 = id }; rule = rule; limits = new_limiters rule.term }

-- a rule added at a place: the refusals in their order, and else the chain with it and its number
abbrev pub added : Bool → Rules → ℕ → Rule → Rules × Result RuleId ChainFault
added lacking chain place rule =
    if nat_lt (length chain.rules) place then (chain, Err faults.BadPlace)
    else (if nat_le max_rules (length chain.rules) then (chain, Err faults.TooManyRules)
    else (if nat_lt max_limiters (limiters_in chain.rules + limiters_of rule.term) then (chain, Err faults.TooManyLimiters)
    else (if chain.next == 2 ^ 64 then (chain, Err faults.NoMoreIds)
    else (if lacking then (chain, Err faults.NoMemory)
    else (record chain { next = chain.next + 1; rules = insert chain.rules place (numbered_of chain.next rule) }, Ok (record { 0 = chain.next }))))))

-- the chain without the rule at a place
abbrev pub removed_at : Rules → Option ℕ → Rules × Result (Unit {0}) ChainFault
removed_at chain None = (chain, Err faults.NoSuchRule)
removed_at chain (Some at) = (record chain { rules = remove chain.rules at }, Ok tt)

-- a rule removed: NoSuchRule where the chain has none of that number
abbrev pub removed : Rules → RuleId → Rules × Result (Unit {0}) ChainFault
removed chain id = removed_at chain (place_of id chain.rules)

-- the rules with the one at a place taken out and put at another, which counts in the list without it
abbrev pub put_again : List Numbered → ℕ → ℕ → Option Numbered → List Numbered
put_again rules at place None = rules
put_again rules at place (Some n) = insert (remove rules at) place n

-- the chain with the rule at a place moved
abbrev pub moved_at : Bool → Rules → ℕ → Option ℕ → Rules × Result (Unit {0}) ChainFault
moved_at lacking chain place None = (chain, Err faults.NoSuchRule)
moved_at lacking chain place (Some at) =
    if nat_le (length chain.rules) place then (chain, Err faults.BadPlace)
    else (if lacking then (chain, Err faults.NoMemory)
    else (record chain { rules = put_again chain.rules at place (slice_get chain.rules at) }, Ok tt))

-- a rule moved: the refusals in their order, and else the chain with it at its place among the other rules; it keeps its
-- number and its limiters
abbrev pub moved : Bool → Rules → RuleId → ℕ → Rules × Result (Unit {0}) ChainFault
moved lacking chain id place = moved_at lacking chain place (place_of id chain.rules)

-- whether an edit was refused for lack of memory
abbrev pub lacks : {A : Type 0} → Result A ChainFault → Bool
lacks (Err faults.NoMemory) = true
lacks _ = false
