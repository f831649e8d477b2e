-- The passes of a walk: room taken for them, and then counted.
use Rattle.std.specs.Prelude.{◌≡◌, ℕ, ◌+◌, Bool, true, false, ◌==◌, ◌&&◌, List, [], ◌∷◌, map, Contains, if◌then◌else◌}
use Rattle.std.specs.List.{list_any}
use Rattle.lb_wire.specs.declared.addr.Addr.{Addr}
use Rattle.lb_wire.specs.declared.ids.RuleId.{RuleId}
use Rattle.lb_limits.specs.Window.{Limits, source_of, matches, reserved_at, passed_at}
use Rattle.lb_chain.specs.declared.walked.Passed.{Passed}
use Rattle.lb_chain.specs.declared.numbered.Numbered.{Numbered}
use Rattle.lb_chain.specs.Edits.{Rules}

-- whether the passes have one of a limiter of a rule
abbrev pub has_pass : List Passed → RuleId → ℕ → Bool
has_pass passes rule at = list_any (λ p. p.rule.0 == rule.0 && p.limiter == at) passes

-- the limiters of a rule, counted from a number, with those changed that have a pass
abbrev pub changed_limits : (Limits → Limits) → List Passed → RuleId → ℕ → List Limits → List Limits
changed_limits change passes rule at [] = []
changed_limits change passes rule at (l ∷ limits) = (if has_pass passes rule at then change l else l) ∷ changed_limits change passes rule (at + 1) limits

-- a rule, with those of its limiters changed that have a pass
abbrev pub changed_rule : (Limits → Limits) → List Passed → Numbered → Numbered
changed_rule change passes n = record n { limits = changed_limits change passes n.id 0 n.limits }

-- the rules, with those limiters changed that have a pass
abbrev pub changed_rules : (Limits → Limits) → List Passed → List Numbered → List Numbered
changed_rules change passes rules = map (changed_rule change passes) rules

-- room taken for each of the passes
abbrev pub reserved_rules : List Passed → Addr → ℕ → Rules → Rules
reserved_rules passes addr now chain = record chain { moment = now; rules = changed_rules (λ l. reserved_at l addr now) passes chain.rules }

-- the rules with each of the passes counted
abbrev pub counted : List Passed → Addr → ℕ → List Numbered → List Numbered
counted passes addr now rules = changed_rules (λ l. passed_at l addr now) passes rules

abbrev pub passed_rules : List Passed → Addr → ℕ → Rules → Rules
passed_rules passes addr now chain = record chain { moment = now; rules = counted passes addr now chain.rules }

-- a limiter that may count a query of the address: room is taken, and it does not match
pub record IsReady (addr : Addr) (now : ℕ) (l : Limits) : Type 0 where
  pub reserved : Contains l.reserved (source_of l addr)
  pub within : matches l addr now ≡ false

-- each limiter of a rule, counted from a number, that has a pass may count the query
abbrev pub LimitersReady : List Passed → Addr → ℕ → RuleId → ℕ → List Limits → Type 0
LimitersReady passes addr now rule at [] = Unit {0}
LimitersReady passes addr now rule at (l ∷ limits) = (has_pass passes rule at ≡ true → IsReady addr now l) × LimitersReady passes addr now rule (at + 1) limits

-- each limiter of the rules that has a pass may count the query
abbrev pub RulesReady : List Passed → Addr → ℕ → List Numbered → Type 0
RulesReady passes addr now [] = Unit {0}
RulesReady passes addr now (n ∷ rules) = LimitersReady passes addr now n.id 0 n.limits × RulesReady passes addr now rules

-- limiters of a rule, counted from a number, of which some that have a pass are as their own reservation left them
abbrev pub SomeReserved : List Passed → Addr → ℕ → RuleId → ℕ → List Limits → List Limits → Type 0
SomeReserved passes addr now rule at [] [] = Unit {0}
SomeReserved passes addr now rule at (l ∷ old) (m ∷ new) =
    (taken : Bool) × (taken ≡ true → has_pass passes rule at ≡ true) × (m ≡ (if taken then reserved_at l addr now else l)) × SomeReserved passes addr now rule (at + 1) old new
SomeReserved passes addr now rule at [] (m ∷ new) = ⊥
SomeReserved passes addr now rule at (l ∷ old) [] = ⊥

-- rules of which some limiters are as their own reservation left them
abbrev pub PartlyReserved : List Passed → Addr → ℕ → List Numbered → List Numbered → Type 0
PartlyReserved passes addr now [] [] = Unit {0}
PartlyReserved passes addr now (a ∷ old) (b ∷ new) =
    (b.id ≡ a.id) × (b.rule ≡ a.rule) × SomeReserved passes addr now a.id 0 a.limits b.limits × PartlyReserved passes addr now old new
PartlyReserved passes addr now [] (b ∷ new) = ⊥
PartlyReserved passes addr now (a ∷ old) [] = ⊥
