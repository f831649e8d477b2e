-- The walk: the rules of the list are tested in order, up to the first that holds and whose action ends the walk.
use Rattle.std.specs.Prelude.{◌≡◌, ℕ, ◌+◌, Bool, true, false, ◌==◌, ◌&&◌, ◌||◌, List, [], ◌∷◌, ◌++◌, map, Option, None, Some, if◌then◌else◌}
use Rattle.std.specs.List.{All, count_by, flat_map, list_any}
use Rattle.lb_wire.specs.declared.addr.Addr.{Addr}
use Rattle.lb_wire.specs.declared.ids.PoolId.{PoolId}
use Rattle.lb_wire.specs.declared.transport.Kind.{Kind}
use Rattle.lb_wire.specs.declared.transport.Kind.TheVariants as kinds
use Rattle.lb_wire.specs.declared.query.QueryView.{QueryView}
use Rattle.lb_wire.specs.Answer.{fits_type}
use Rattle.lb_limits.specs.Window.{Limits}
use Rattle.lb_terms.specs.Selector.{Selector}
use Rattle.lb_terms.specs.Truth.{asked_of, truth_at, passes_at}
use Rattle.lb_chain.specs.FirstAsked.{may_hold}
use Rattle.lb_chain.specs.declared.action.Action.{Action}
use Rattle.lb_chain.specs.declared.action.Action.TheVariants as actions
use Rattle.lb_chain.specs.declared.walked.Verdict.{Verdict}
use Rattle.lb_chain.specs.declared.walked.Verdict.TheVariants as verdicts
use Rattle.lb_chain.specs.declared.walked.Passed.{Passed}
use Rattle.lb_chain.specs.declared.walked.Walked.{Walked}
use Rattle.lb_chain.specs.declared.numbered.Numbered.{Numbered}

-- whether one of the addresses answers the question: its class is IN, and the address fits the type
abbrev pub answers : QueryView → List Addr → Bool
answers view addrs = view.qclass.0 == 1 && list_any (fits_type view.qtype.0) addrs

-- the verdict of an action that ends the walk for a query of this transport
abbrev pub ending_of : Action PoolId → QueryView → Kind → Option Verdict
ending_of actions.Allow view kind = Some verdicts.Allow
ending_of actions.Drop view kind = Some verdicts.Drop
ending_of (actions.Rcode rcode) view kind = Some (verdicts.Rcode rcode)
ending_of (actions.Pool pool) view kind = Some (verdicts.Pool pool)
ending_of actions.Tc view kinds.Datagram = Some verdicts.Tc
ending_of actions.Tc view kinds.Stream = None
ending_of (actions.Spoof addrs) view kind = if answers view addrs then Some (verdicts.Spoof addrs) else None
ending_of actions.None view kind = None
ending_of actions.NoRecurse view kind = None
ending_of actions.SkipCache view kind = None

abbrev pub is_no_recurse : Action PoolId → Bool
is_no_recurse actions.NoRecurse = true
is_no_recurse _ = false

abbrev pub is_skip_cache : Action PoolId → Bool
is_skip_cache actions.SkipCache = true
is_skip_cache _ = false

-- whether a rule holds of a query
abbrev pub truth_of : Numbered → QueryView → Addr → ℕ → Bool
truth_of n view addr now = truth_at n.rule.term (asked_of view addr n.limits now) 0

-- the limiters of a rule that count a query which is tested by it
abbrev pub passes_of : Numbered → QueryView → Addr → ℕ → List Passed
passes_of n view addr now = map (λ at. record { rule = n.id; limiter = at }) (passes_at n.rule.term (asked_of view addr n.limits now) 0)

-- a set that holds, holds whatever was counted, and counts nothing
abbrev pub IsHeld : Selector → QueryView → Addr → Type 0
IsHeld term view addr = (limits : List Limits) (now : ℕ) → (truth_at term (asked_of view addr limits now) 0 ≡ true) × (passes_at term (asked_of view addr limits now) 0 ≡ [])

-- a rule that may hold by what it asks first is tested, and no other
abbrev pub tests_of : Numbered → QueryView → Addr → ℕ
tests_of n view addr = if may_hold n.rule.term view addr then 1 else 0

-- what an earlier rule adds to what the later ones give
abbrev pub with_before : Bool → Bool → List Passed → ℕ → Walked → Walked
with_before no_recurse skip_cache passes tests after = record after { no_recurse = no_recurse || after.no_recurse; skip_cache = skip_cache || after.skip_cache; passes = passes ++ after.passes; tests = tests + after.tests }

-- a rule that holds: it ends the walk, or sets a flag, or does nothing
abbrev pub ended_by : Numbered → Option Verdict → List Passed → ℕ → Walked → Walked
ended_by n (Some verdict) passes tests after = record { rule = Some n.id; verdict = verdict; no_recurse = false; skip_cache = false; passes = passes; tests = tests }
ended_by n None passes tests after = with_before (is_no_recurse n.rule.action) (is_skip_cache n.rule.action) passes tests after

-- a rule of the list, which holds or not
abbrev pub tested_by : Numbered → Bool → Option Verdict → List Passed → ℕ → Walked → Walked
tested_by n true ending passes tests after = ended_by n ending passes tests after
tested_by n false ending passes tests after = with_before false false passes tests after

-- no rule ends the walk: Allow, which means the default pool
abbrev pub no_rule : Walked
no_rule = record { rule = None; verdict = verdicts.Allow; no_recurse = false; skip_cache = false; passes = []; tests = 0 }

-- the walk: the verdict of the first rule that holds and ends it, the flags of the earlier rules that hold, the passes of each
-- rule up to it, in order, and how many of them may hold by what they ask first
abbrev pub walk_of : List Numbered → QueryView → Addr → Kind → ℕ → Walked
walk_of [] view addr kind now = no_rule
walk_of (n ∷ rules) view addr kind now = tested_by n (truth_of n view addr now) (ending_of n.rule.action view kind) (passes_of n view addr now) (tests_of n view addr) (walk_of rules view addr kind now)

-- the verdict with which a rule ends the walk, where it holds and its action does
abbrev pub ending_by : Numbered → QueryView → Addr → Kind → ℕ → Option Verdict
ending_by n view addr kind now = if truth_of n view addr now then ending_of n.rule.action view kind else None

-- whether one of the rules holds and has an action such as this
abbrev pub one_says : (Action PoolId → Bool) → List Numbered → QueryView → Addr → ℕ → Bool
one_says such rules view addr now = list_any (λ n. truth_of n view addr now && such n.rule.action) rules

-- the passes of several rules, in order
abbrev pub passes_in : List Numbered → QueryView → Addr → ℕ → List Passed
passes_in rules view addr now = flat_map (λ n. passes_of n view addr now) rules

-- how many of several rules may hold by what they ask first
abbrev pub tests_in : List Numbered → QueryView → Addr → ℕ
tests_in rules view addr = count_by (λ n. may_hold n.rule.term view addr) rules

-- the first rule of the list that holds and ends the walk decides: the verdict is its own, the flags are those of the
-- rules before it that hold, the passes are those of the rules up to it and with it, in order, and the tests are its own and one for
-- each rule before it that may hold
abbrev pub FirstToEndDecides : Type 0
FirstToEndDecides = (before after : List Numbered) (n : Numbered) (verdict : Verdict) (view : QueryView) (addr : Addr) (kind : Kind) (now : ℕ) →
    All (λ m. ending_by m view addr kind now ≡ None) before → ending_by n view addr kind now ≡ Some verdict →
    walk_of (before ++ n ∷ after) view addr kind now ≡ record {
      rule = Some n.id;
      verdict = verdict;
      no_recurse = one_says is_no_recurse before view addr now;
      skip_cache = one_says is_skip_cache before view addr now;
      passes = passes_in (before ++ n ∷ []) view addr now;
      tests = tests_in before view addr + 1;
    }

-- where no rule holds and ends the walk, the query is allowed, with the flags of all rules that hold, the passes of all,
-- and a test for each that may hold
abbrev pub AllowedWhereNoneEnds : Type 0
AllowedWhereNoneEnds = (rules : List Numbered) (view : QueryView) (addr : Addr) (kind : Kind) (now : ℕ) →
    All (λ m. ending_by m view addr kind now ≡ None) rules →
    walk_of rules view addr kind now ≡ record {
      rule = None;
      verdict = verdicts.Allow;
      no_recurse = one_says is_no_recurse rules view addr now;
      skip_cache = one_says is_skip_cache rules view addr now;
      passes = passes_in rules view addr now;
      tests = tests_in rules view addr;
    }

-- a walk that no rule ended has the verdict Allow
abbrev pub NoRuleAllows : Type 0
NoRuleAllows = (rules : List Numbered) (view : QueryView) (addr : Addr) (kind : Kind) (now : ℕ) →
    (walk_of rules view addr kind now).rule ≡ None → (walk_of rules view addr kind now).verdict ≡ verdicts.Allow
