-- After the reservation for a walk, each limiter that has a pass may count the query.
use Rattle.std.proofs.Common.{◌≡◌, Bool, true, false, ℕ, zero, suc, ◌+◌, ◌<◌, ◌≤◌, ◌==◌, ◌&&◌, ◌||◌, List, [], ◌∷◌, ◌++◌, length, get_or, map, Option, Some, None, ◌⊎◌, inl, inr, refl, sym, ap, subst, ◌∙◌, arith, append_assoc}
use Rattle.std.specs.List.{list_any}
use Rattle.std.proofs.lemmas.Bool.{cases_Bool, eq-eqb}
use Rattle.std.proofs.lemmas.List.{append-nil}
use Rattle.std.proofs.lemmas.List.Folds.{list_any-append}
use Rattle.std.proofs.lemmas.List.Sums.{sum_by-cons}
use Rattle.lb_wire.specs.declared.addr.Addr.{Addr}
use Rattle.lb_wire.specs.declared.ids.RuleId.{RuleId}
use Rattle.lb_wire.specs.declared.transport.Kind.{Kind}
use Rattle.lb_wire.specs.declared.query.QueryView.{QueryView}
use Rattle.lb_limits.specs.Window.{Limits, source_of, matches, passed_at, reserved_at}
use Rattle.lb_limits.specs.Laws.{PutIsThere, ReservingKeepsMatches}
use Rattle.lb_terms.specs.Truth.{Asked, asked_of, passes_at}
use Rattle.lb_chain.specs.declared.walked.Passed.{Passed}
use Rattle.lb_chain.specs.declared.walked.Verdict.{Verdict}
use Rattle.lb_chain.specs.declared.walked.Walked.{Walked}
use Rattle.lb_chain.specs.declared.numbered.Numbered.{Numbered}
use Rattle.lb_chain.specs.Chain.{with_id}
use Rattle.lb_chain.specs.Counting.{has_pass, changed_limits, changed_rules, IsReady, LimitersReady, RulesReady}
use Rattle.lb_chain.specs.Walk.{ending_of, passes_of, tested_by, tests_of, truth_of, walk_of}
use Rattle.lb_chain.proofs.ChangedRules.{limits_so_far, limits_there, rules_so_far, rules_there}
use Rattle.lb_chain.proofs.Chains.{has_id}
use Rattle.lb_chain.proofs.Passes.{listed, matched_of, unmatched}

-- some pass is of the rule with a number
abbrev pub has_some : ℕ → List Passed → Bool
has_some id passes = list_any (λ p. p.rule.0 == id) passes

-- a rule without passes has none at a limiter
no_pass : (passes : List Passed) (rule : RuleId) (at : ℕ) → has_some rule.0 passes ≡ false → has_pass passes rule at ≡ false
no_pass [] rule at none = refl
no_pass (p ∷ passes) rule at none = elim (cases_Bool (p.rule.0 == rule.0)) [
  | inl is ↦ absurd (let some : has_some rule.0 (p ∷ passes) ≡ true = rw is refl in cc)
  | inr is ↦
      let rest : has_some rule.0 passes ≡ false = rw is at none in
      rw is (no_pass passes rule at rest)
]

-- the passes of a rule with these limiters
abbrev pub own_passes : RuleId → List ℕ → List Passed
own_passes rule numbers = map (λ at. record { rule = rule; limiter = at }) numbers

own_strange : (rule : RuleId) (id : ℕ) (numbers : List ℕ) → (rule.0 == id) ≡ false → has_some id (own_passes rule numbers) ≡ false
own_strange rule id [] other = refl
own_strange rule id (number ∷ numbers) other = rw other (own_strange rule id numbers other)

own_listed : (rule : RuleId) (at : ℕ) (numbers : List ℕ) → has_pass (own_passes rule numbers) rule at ≡ listed at numbers
own_listed rule at [] = refl
own_listed rule at (number ∷ numbers) =
    let same : (rule.0 == rule.0) ≡ true = eq-eqb rule.0 rule.0 refl in
    rw same (ap (λ (b : Bool). (number == at) || b) (own_listed rule at numbers))

-- the passes after a rule: none, or those of the later rules
parts_of : (n : Numbered) (truth : Bool) (ending : Option Verdict) (passes : List Passed) (t : ℕ) (after : Walked) → ((tested_by n truth ending passes t after).passes ≡ passes) ⊎ ((tested_by n truth ending passes t after).passes ≡ passes ++ after.passes)
parts_of n true (Some verdict) passes t after = inl refl
parts_of n true None passes t after = inr refl
parts_of n false ending passes t after = inr refl

with_id-cons : (id : ℕ) (n : Numbered) (rules : List Numbered) → with_id id (n ∷ rules) ≡ has_id id n + with_id id rules
with_id-cons id n rules = sum_by-cons (has_id id) n rules

apart : (id : ℕ) (passes more : List Passed) → has_some id passes ≡ false → has_some id more ≡ false → has_some id (passes ++ more) ≡ false
apart id passes more front back = list_any-append (λ (p : Passed). p.rule.0 == id) passes more ∙ ap (λ (b : Bool). b || has_some id more) front ∙ back

-- a walk has no pass of a rule that is not there
strange : (id : ℕ) (rules : List Numbered) (view : QueryView) (addr : Addr) (kind : Kind) (now : ℕ) → with_id id rules ≡ 0 → has_some id (walk_of rules view addr kind now).passes ≡ false
strange id [] view addr kind now none = refl
strange id (n ∷ rules) view addr kind now none =
    let rest : with_id id rules ≡ 0 = omega (arith, with_id-cons id n rules) in
    let own : List Passed = passes_of n view addr now in
    let after : Walked = walk_of rules view addr kind now in
    let later : has_some id after.passes ≡ false = strange id rules view addr kind now rest in
    elim (cases_Bool (n.id.0 == id)) [
      | inl is ↦ absurd (let one : has_id id n ≡ 1 = rw is refl in omega (arith, with_id-cons id n rules))
      | inr other ↦
          let here : has_some id own ≡ false = own_strange n.id id (passes_at n.rule.term (asked_of view addr n.limits now) 0) other in
          elim (parts_of n (truth_of n view addr now) (ending_of n.rule.action view kind) own (tests_of n view addr) after) [
            | inl alone ↦ ap (has_some id) alone ∙ here
            | inr both ↦ ap (has_some id) both ∙ apart id own after.passes here later
          ]
    ]

-- where no limiter has a pass, none has to be ready
idle_limits : (passes : List Passed) (addr : Addr) (now : ℕ) (rule : RuleId) (at : ℕ) (limits : List Limits) → has_some rule.0 passes ≡ false → LimitersReady passes addr now rule at limits
idle_limits passes addr now rule at [] none = tt
idle_limits passes addr now rule at (l ∷ limits) none =
    (λ is. absurd (let not_it : has_pass passes rule at ≡ false = no_pass passes rule at none in cc), idle_limits passes addr now rule (at + 1) limits none)

-- the passes are of no rule of these
abbrev Foreign : List Passed → List Numbered → Type 0
Foreign passes rules = (id : ℕ) → 0 < with_id id rules → has_some id passes ≡ false

own_one : (n : Numbered) → has_id n.id.0 n ≡ 1
own_one n = let same : (n.id.0 == n.id.0) ≡ true = eq-eqb n.id.0 n.id.0 refl in rw same refl

own_id : (n : Numbered) (rules : List Numbered) → 0 < with_id n.id.0 (n ∷ rules)
own_id n rules = omega (arith, own_one n, with_id-cons n.id.0 n rules)

foreign_tail : (passes : List Passed) (n : Numbered) (rules : List Numbered) → Foreign passes (n ∷ rules) → Foreign passes rules
foreign_tail passes n rules foreign = λ id some. foreign id (omega (arith, with_id-cons id n rules))

idle_rules : (passes : List Passed) (addr : Addr) (now : ℕ) (rules : List Numbered) → Foreign passes rules → RulesReady passes addr now (changed_rules (λ l. reserved_at l addr now) passes rules)
idle_rules passes addr now [] foreign = tt
idle_rules passes addr now (n ∷ rules) foreign =
    (idle_limits passes addr now n.id 0 (changed_limits (λ l. reserved_at l addr now) passes n.id 0 n.limits) (foreign n.id.0 (own_id n rules)), idle_rules passes addr now rules (foreign_tail passes n rules foreign))

-- a pass that is not among the first nor among the last is among those in between
between : (rule : RuleId) (at : ℕ) (front own back : List Passed) → has_some rule.0 front ≡ false → has_some rule.0 back ≡ false → has_pass (front ++ (own ++ back)) rule at ≡ true → has_pass own rule at ≡ true
between rule at front own back before behind is =
    let test : Passed → Bool = λ p. p.rule.0 == rule.0 && p.limiter == at in
    let outer : list_any test (front ++ (own ++ back)) ≡ (list_any test front || list_any test (own ++ back)) = list_any-append test front (own ++ back) in
    let inner : list_any test (own ++ back) ≡ (list_any test own || list_any test back) = list_any-append test own back in
    let first : list_any test front ≡ false = no_pass front rule at before in
    let last : list_any test back ≡ false = no_pass back rule at behind in
    elim (cases_Bool (list_any test own)) [
      | inl there ↦ there
      | inr none ↦ absurd (let all : (list_any test front || (list_any test own || list_any test back)) ≡ false = rw (first, none, last) refl in cc)
    ]

-- the passes of the first rule are of no later one
foreign_more : (front : List Passed) (n : Numbered) (rules : List Numbered) (view : QueryView) (addr : Addr) (now : ℕ) → Foreign front (n ∷ rules) → ((id : ℕ) → with_id id (n ∷ rules) ≤ 1) → Foreign (front ++ passes_of n view addr now) rules
foreign_more front n rules view addr now foreign once = λ id some. elim (cases_Bool (n.id.0 == id)) [
  | inl is ↦ absurd (let one : has_id id n ≡ 1 = rw is refl in omega (arith, once id, with_id-cons id n rules))
  | inr other ↦
      let own : has_some id (passes_of n view addr now) ≡ false = own_strange n.id id (passes_at n.rule.term (asked_of view addr n.limits now) 0) other in
      apart id front (passes_of n view addr now) (foreign_tail front n rules foreign id some) own
]

-- the limiter at a place is ready, where it has a pass
ready_place : (passes : List Passed) (addr : Addr) (now : ℕ) (rule : RuleId) (at : ℕ) (xs : List Limits) (j : ℕ) (d : Limits) → LimitersReady passes addr now rule at xs → j < length xs → has_pass passes rule (at + j) ≡ true → IsReady addr now (get_or xs j d)
ready_place passes addr now rule at [] j d ready lt is = absurd (omega arith)
ready_place passes addr now rule at (x ∷ xs) zero d ready lt is = let first : at ≡ at + 0 = omega arith in ready.0 (ap (has_pass passes rule) first ∙ is)
ready_place passes addr now rule at (x ∷ xs) (suc j) d ready lt is =
    let number : (at + 1) + j ≡ at + suc j = omega arith in
    ready_place passes addr now rule (at + 1) xs j d ready.1 (omega arith) (ap (has_pass passes rule) number ∙ is)

-- so it is while those before it have counted
pub ready_there : (passes : List Passed) (addr : Addr) (now : ℕ) (rule : RuleId) (xs ys : List Limits) (i : ℕ) (y : Limits) → i < length xs → ys ≡ limits_so_far (λ l. passed_at l addr now) passes rule i xs → y ≡ get_or ys i y → LimitersReady passes addr now rule 0 xs → has_pass passes rule i ≡ true → IsReady addr now y
ready_there passes addr now rule xs ys i y lt is own ready has =
    let number : 0 + i ≡ i = omega arith in
    let old : y ≡ get_or xs i y = own ∙ limits_there (λ l. passed_at l addr now) passes rule xs ys i y lt is in
    subst (IsReady addr now) (sym old) (ready_place passes addr now rule 0 xs i y ready lt (ap (has_pass passes rule) number ∙ has))

rule_place : (passes : List Passed) (addr : Addr) (now : ℕ) (xs : List Numbered) (j : ℕ) (d : Numbered) → RulesReady passes addr now xs → j < length xs → LimitersReady passes addr now (get_or xs j d).id 0 (get_or xs j d).limits
rule_place passes addr now [] j d ready lt = absurd (omega arith)
rule_place passes addr now (x ∷ xs) zero d ready lt = ready.0
rule_place passes addr now (x ∷ xs) (suc j) d ready lt = rule_place passes addr now xs j d ready.1 (omega arith)

-- the limiters of a rule are ready, while those before it have counted
pub rule_there : (passes : List Passed) (addr : Addr) (now : ℕ) (xs ys : List Numbered) (i : ℕ) (y : Numbered) → i < length xs → ys ≡ rules_so_far (λ l. passed_at l addr now) passes i xs → y ≡ get_or ys i y → RulesReady passes addr now xs → LimitersReady passes addr now y.id 0 y.limits
rule_there passes addr now xs ys i y lt is own ready =
    let old : y ≡ get_or xs i y = own ∙ rules_there (λ l. passed_at l addr now) passes xs ys i y lt is in
    subst (λ (n : Numbered). LimitersReady passes addr now n.id 0 n.limits) (sym old) (rule_place passes addr now xs i y ready lt)

-- without passes there is nothing to be ready
pub ready_idle : (passes : List Passed) (addr : Addr) (now : ℕ) (rules : List Numbered) → passes ≡ [] → RulesReady passes addr now rules
ready_idle passes addr now [] is = tt
ready_idle passes addr now (n ∷ rules) is = (idle_limits passes addr now n.id 0 n.limits (ap (has_some n.id.0) is), ready_idle passes addr now rules is)

-- where an address that is put among the reserved ones is one of them, and a reservation changes no test
module _ (put_is_there : PutIsThere) (keeps_matches : ReservingKeepsMatches) where
  -- a limiter that does not match may count the query once it is reserved
  ready_one : (addr : Addr) (now : ℕ) (l : Limits) → matches l addr now ≡ false → IsReady addr now (reserved_at l addr now)
  ready_one addr now l fails = record {
    reserved = put_is_there (source_of l addr) l.reserved;
    within = keeps_matches l addr addr now now (omega arith) ∙ fails;
  }

  ready_limits : (passes : List Passed) (addr : Addr) (now : ℕ) (rule : RuleId) (at : ℕ) (limits : List Limits) → ((j : ℕ) → has_pass passes rule (at + j) ≡ true → get_or (matched_of addr now limits) j false ≡ false) → LimitersReady passes addr now rule at (changed_limits (λ l. reserved_at l addr now) passes rule at limits)
  ready_limits passes addr now rule at [] fail = tt
  ready_limits passes addr now rule at (l ∷ limits) fail =
      let rest : (j : ℕ) → has_pass passes rule ((at + 1) + j) ≡ true → get_or (matched_of addr now limits) j false ≡ false =
      λ j is. (let number : at + suc j ≡ (at + 1) + j = omega arith in fail (suc j) (ap (has_pass passes rule) number ∙ is)) in
      let first : at + 0 ≡ at = omega arith in
      (λ is. rw is (ready_one addr now l (fail 0 (ap (has_pass passes rule) first ∙ is))), ready_limits passes addr now rule (at + 1) limits rest)

  -- the head of a walk
  ready_head : (front back : List Passed) (n : Numbered) (view : QueryView) (addr : Addr) (now : ℕ) → has_some n.id.0 front ≡ false → has_some n.id.0 back ≡ false → LimitersReady (front ++ (passes_of n view addr now ++ back)) addr now n.id 0 (changed_limits (λ l. reserved_at l addr now) (front ++ (passes_of n view addr now ++ back)) n.id 0 n.limits)
  ready_head front back n view addr now before behind =
      let passes : List Passed = front ++ (passes_of n view addr now ++ back) in
      let asked : Asked = asked_of view addr n.limits now in
      ready_limits passes addr now n.id 0 n.limits
      (λ j is.
      let number : 0 + j ≡ j = omega arith in
      let there : has_pass passes n.id j ≡ true = ap (has_pass passes n.id) (sym number) ∙ is in
      let own : has_pass (own_passes n.id (passes_at n.rule.term asked 0)) n.id j ≡ true = between n.id j front (passes_of n view addr now) back before behind there in
      unmatched n.rule.term asked 0 j (sym (own_listed n.id j (passes_at n.rule.term asked 0)) ∙ own))

  -- passes in front of those of a walk, of no rule of it
  ready_from : (front all : List Passed) (rules : List Numbered) (view : QueryView) (addr : Addr) (kind : Kind) (now : ℕ) → Foreign front rules → ((id : ℕ) → with_id id rules ≤ 1) → all ≡ front ++ (walk_of rules view addr kind now).passes → RulesReady all addr now (changed_rules (λ l. reserved_at l addr now) all rules)
  ready_from front all [] view addr kind now foreign once is = tt
  ready_from front all (n ∷ rules) view addr kind now foreign once is =
      let own : List Passed = passes_of n view addr now in
      let after : Walked = walk_of rules view addr kind now in
      let before : has_some n.id.0 front ≡ false = foreign n.id.0 (own_id n rules) in
      let alone : with_id n.id.0 rules ≡ 0 = omega (arith, once n.id.0, with_id-cons n.id.0 n rules, own_one n) in
      let ahead : Foreign (front ++ own) rules = foreign_more front n rules view addr now foreign once in
      let fewer : (id : ℕ) → with_id id rules ≤ 1 = λ id. omega (arith, once id, with_id-cons id n rules) in
      elim (parts_of n (truth_of n view addr now) (ending_of n.rule.action view kind) own (tests_of n view addr) after) [
        | inl ends ↦
            let parts : all ≡ front ++ own = is ∙ ap (λ (ps : List Passed). front ++ ps) ends in
            let padded : all ≡ front ++ (own ++ []) = parts ∙ ap (λ (ps : List Passed). front ++ ps) (sym (append-nil own)) in
            let head : LimitersReady all addr now n.id 0 (changed_limits (λ l. reserved_at l addr now) all n.id 0 n.limits) =
            subst (λ (ps : List Passed). LimitersReady ps addr now n.id 0 (changed_limits (λ l. reserved_at l addr now) ps n.id 0 n.limits)) (sym padded) (ready_head front [] n view addr now before refl) in
            let foreign_all : Foreign all rules = subst (λ (ps : List Passed). Foreign ps rules) (sym parts) ahead in
            (head, idle_rules all addr now rules foreign_all)
        | inr goes ↦
            let parts : all ≡ front ++ (own ++ after.passes) = is ∙ ap (λ (ps : List Passed). front ++ ps) goes in
            let behind : has_some n.id.0 after.passes ≡ false = strange n.id.0 rules view addr kind now alone in
            let head : LimitersReady all addr now n.id 0 (changed_limits (λ l. reserved_at l addr now) all n.id 0 n.limits) =
            subst (λ (ps : List Passed). LimitersReady ps addr now n.id 0 (changed_limits (λ l. reserved_at l addr now) ps n.id 0 n.limits)) (sym parts) (ready_head front after.passes n view addr now before behind) in
            (head, ready_from (front ++ own) all rules view addr kind now ahead fewer (parts ∙ sym (append_assoc front own after.passes)))
      ]

  -- after the reservation for a walk
  pub ready_walk : (rules : List Numbered) (view : QueryView) (addr : Addr) (kind : Kind) (now : ℕ) (passes : List Passed) → ((id : ℕ) → with_id id rules ≤ 1) → passes ≡ (walk_of rules view addr kind now).passes → RulesReady passes addr now (changed_rules (λ l. reserved_at l addr now) passes rules)
  ready_walk rules view addr kind now passes once is = ready_from [] passes rules view addr kind now (λ id some. refl) once is
