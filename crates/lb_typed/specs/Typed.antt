-- Terms and commands that can be typed: names are of letters, digits, `-`, `_` and `*`.
use Rattle.std.specs.Prelude.{if◌then◌else◌, ◌≡◌, ◌==◌, ◌&&◌, ◌≤◌, ◌<◌, ℕ, true, List, ◌∷◌, ◌++◌, length}
use Rattle.std.specs.Fmt.{decimal}
use Rattle.std.specs.List.{AllByRecursion}
use Rattle.lb_name.specs.Text.{has_name_bytes}
use Rattle.lb_terms.specs.declared.term.Term.{Term}
use Rattle.lb_terms.specs.declared.term.Term.TheVariants.{And, Or}
use Rattle.lb_terms.specs.Selector.{Selector, Selectors, end, more, selector_of, selectors_of}
use Rattle.lb_terms.specs.Selector as sel
use Rattle.lb_cache.specs.Skips.{each_once}
use Rattle.lb_cache.specs.declared.cached.Covered.{Covered}
use Rattle.lb_cache.specs.declared.cached.Covered.TheVariants as covereds
use Rattle.lb_step.specs.declared.command.Command.{Command}
use Rattle.lb_step.specs.declared.command.Command.TheVariants.{CacheAttach, Expunge, RuleAdd, ServerAdd}
use Rattle.lb_chain.specs.declared.action.Action.{Action}
use Rattle.lb_chain.specs.declared.action.Action.TheVariants as actions
use Rattle.lb_servers.specs.declared.pool.PoolName.{PoolName}
use Rattle.lb_step.specs.declared.event.Event.{Event}
use Rattle.lb_step.specs.declared.event.Event.TheVariants.{Edit, Query, Reply}
use Rattle.lb_command.specs.Events.{told_origin}
use Rattle.lb_typed.specs.Words.{IsTypedCode}

-- a name that can be typed
abbrev pub IsTypedName : List (List ℕ) → Type 0
IsTypedName name = has_name_bytes name ≡ true

-- a term whose sets have some members, at most so many, and whose rates are in range
abbrev mutual
  pub IsTyped : ℕ → Selector → Type 0
  IsTyped most sel.All = Unit {0}
  IsTyped most (sel.Suffix names) = (0 < length names) × (length names ≤ most) × AllByRecursion IsTypedName names
  IsTyped most (sel.Masks masks) = (0 < length masks) × (length masks ≤ most)
  IsTyped most (sel.Qtype qtype) = Unit {0}
  IsTyped most (sel.And members) = IsSome members × AreTyped most members
  IsTyped most (sel.Or members) = IsSome members × AreTyped most members
  IsTyped most (sel.Not member) = IsTyped most member
  IsTyped most (sel.MaxQps qps v4 v6) = (1 ≤ qps) × (qps ≤ 1000) × (v4 ≤ 32) × (v6 ≤ 128)

  pub AreTyped : ℕ → Selectors → Type 0
  AreTyped most end = Unit {0}
  AreTyped most (more member members) = IsTyped most member × AreTyped most members

  -- one member or more
  pub IsSome : Selectors → Type 0
  IsSome end = ⊥
  IsSome (more member members) = Unit {0}

-- a rate, with its lengths if others than those that hold anyway
abbrev pub rate_text : ℕ → ℕ → ℕ → List ℕ
rate_text qps v4 v6 = if v4 == 32 && v6 == 64 then decimal qps else decimal qps ++ 44 ∷ (decimal v4 ++ 44 ∷ decimal v6)

-- the selector of a term that holds if all of these do, or one of these
abbrev pub AndIs : Term → Type 0
AndIs term = (members : _) → term ≡ And members → selector_of term ≡ sel.And (selectors_of members.items)

abbrev pub OrIs : Term → Type 0
OrIs term = (members : _) → term ≡ Or members → selector_of term ≡ sel.Or (selectors_of members.items)

-- the names of a term can be typed
abbrev mutual
  pub HasTypedNames : Selector → Type 0
  HasTypedNames sel.All = Unit {0}
  HasTypedNames (sel.Suffix names) = AllByRecursion IsTypedName names
  HasTypedNames (sel.Masks masks) = Unit {0}
  HasTypedNames (sel.Qtype qtype) = Unit {0}
  HasTypedNames (sel.And members) = HaveTypedNames members
  HasTypedNames (sel.Or members) = HaveTypedNames members
  HasTypedNames (sel.Not member) = HasTypedNames member
  HasTypedNames (sel.MaxQps qps v4 v6) = Unit {0}

  pub HaveTypedNames : Selectors → Type 0
  HaveTypedNames end = Unit {0}
  HaveTypedNames (more member members) = HasTypedNames member × HaveTypedNames members

-- the response code of an action can be typed
abbrev pub IsTypedAction : Action PoolName → Type 0
IsTypedAction (actions.Rcode rcode) = IsTypedCode rcode
IsTypedAction _ = Unit {0}

-- the name that an expunge covers can be typed
abbrev pub IsTypedCovered : Covered → Type 0
IsTypedCovered (covereds.Name name qtype) = IsTypedName name
IsTypedCovered (covereds.Suffix name) = IsTypedName name
IsTypedCovered covereds.All = Unit {0}

-- the limits of a cache are in range
pub record AreLimits (max shards max_ttl : ℕ) : Type 0 where
  pub some : 1 ≤ max
  pub few : max ≤ 1000000
  pub shard : 1 ≤ shards
  pub shards_few : shards ≤ 64
  pub second : 1 ≤ max_ttl
  pub week : max_ttl ≤ 604800

-- the names of a command can be typed, and its response code; a cache lists no code twice, and a
-- server is in at most eight pools
abbrev pub CanBeTyped : Command → Type 0
CanBeTyped (RuleAdd at rule) = HasTypedNames rule.term × IsTypedAction rule.action
CanBeTyped (ServerAdd spec check) = length spec.pools ≤ 8
CanBeTyped (CacheAttach pool max shards max_ttl listed) = each_once listed ≡ listed
CanBeTyped (Expunge pool what) = IsTypedCovered what
CanBeTyped _ = Unit {0}

-- the same of an event, whose lane is one of the eight
abbrev pub EventCanBeTyped : Event → Type 0
EventCanBeTyped (Reply now server lane bytes) = lane.number < 8
EventCanBeTyped (Edit now command) = CanBeTyped command
EventCanBeTyped _ = Unit {0}

-- an event as a line has it: of a client not the listener and the port
abbrev pub as_told : Event → Event
as_told (Query now origin kind random bytes) = Query now (told_origin origin.slot origin.source) kind random bytes
as_told event = event
