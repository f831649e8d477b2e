-- The walk, one rule after the other.
use Rattle.std.proofs.Common.{◌≡◌, cond, Bool, true, false, ℕ, ◌+◌, ◌<◌, ◌≤◌, ◌&&◌, ◌||◌, if◌then◌else◌, List, [], ◌∷◌, ◌++◌, length, get_or, drop, Option, Some, None, inl, inr, refl, true≢false, sym, ap, subst, ◌∙◌, arith, append_assoc, length-append}
use Rattle.std.specs.List.{All}
use Rattle.std.proofs.lemmas.Bool.{cases_Bool}
use Rattle.std.proofs.lemmas.List.{append-nil, drop_more, length-map}
use Rattle.std.proofs.Math.Seq.{drop-length}
use Rattle.std.proofs.lemmas.List.Concat.{flat_map-cons}
use Rattle.std.proofs.lemmas.List.Sums.{sum_by-cons}
use Rattle.std.proofs.lemmas.Grind.{flat_map-append}
use Rattle.std.proofs.lemmas.List.Elements.{All-head, All-tail}
use Rattle.lb_wire.specs.declared.addr.Addr.{Addr}
use Rattle.lb_wire.specs.declared.ids.RuleId.{RuleId}
use Rattle.lb_wire.specs.declared.transport.Kind.{Kind}
use Rattle.lb_wire.specs.declared.query.QueryView.{QueryView}
use Rattle.lb_terms.specs.Truth.{asked_of, limiters_of, passes_at}
use Rattle.lb_chain.specs.declared.walked.Passed.{Passed}
use Rattle.lb_chain.specs.declared.walked.Verdict.{Verdict}
use Rattle.lb_chain.specs.declared.walked.Walked.{Walked}
use Rattle.lb_chain.specs.declared.numbered.Numbered.{Numbered}
use Rattle.lb_chain.specs.Edits.{limiters_in}
use Rattle.lb_chain.specs.declared.walked.Verdict.TheVariants as verdicts
use Rattle.lb_chain.specs.FirstAsked.{may_hold}
use Rattle.lb_chain.specs.Walk.{ending_by, no_rule, one_says, passes_in, ended_by, ending_of, is_no_recurse, is_skip_cache, passes_of, tested_by, tests_in, tests_of, truth_of, walk_of, with_before}
use Rattle.lb_chain.proofs.FirstFails.{first_fails}
use Rattle.lb_chain.proofs.Passes.{few_passes}

or_assoc : (a b c : Bool) → (a || (b || c)) ≡ ((a || b) || c)
or_assoc true b c = refl
or_assoc false b c = refl

pub or_none : (a : Bool) → (a || false) ≡ a
or_none true = refl
or_none false = refl

-- what two rules add, one after the other
pub before_both : (a b : Bool) (ps : List Passed) (t : ℕ) (c d : Bool) (qs : List Passed) (u : ℕ) (after : Walked) → with_before a b ps t (with_before c d qs u after) ≡ with_before (a || c) (b || d) (ps ++ qs) (t + u) after
before_both a b ps t c d qs u after =
    let sum : t + (u + after.tests) ≡ (t + u) + after.tests = omega arith in
    ap (λ (x : Bool). record after { no_recurse = x; skip_cache = b || (d || after.skip_cache); passes = ps ++ (qs ++ after.passes); tests = t + (u + after.tests) }) (or_assoc a c after.no_recurse)
    ∙ ap (λ (x : Bool). record after { no_recurse = (a || c) || after.no_recurse; skip_cache = x; passes = ps ++ (qs ++ after.passes); tests = t + (u + after.tests) }) (or_assoc b d after.skip_cache)
    ∙ ap (λ (x : List Passed). record after { no_recurse = (a || c) || after.no_recurse; skip_cache = (b || d) || after.skip_cache; passes = x; tests = t + (u + after.tests) }) (sym (append_assoc ps qs after.passes))
    ∙ ap (λ (x : ℕ). record after { no_recurse = (a || c) || after.no_recurse; skip_cache = (b || d) || after.skip_cache; passes = (ps ++ qs) ++ after.passes; tests = x }) sum

-- the walk of what is left, with its first rule
walk_more : (rules : List Numbered) (i : ℕ) (n : Numbered) (view : QueryView) (addr : Addr) (kind : Kind) (now : ℕ) → i < length rules → n ≡ get_or rules i n → walk_of (drop i rules) view addr kind now ≡ tested_by n (truth_of n view addr now) (ending_of n.rule.action view kind) (passes_of n view addr now) (tests_of n view addr) (walk_of (drop (i + 1) rules) view addr kind now)
walk_more rules i n view addr kind now lt is =
    ap (λ (ns : List Numbered). walk_of ns view addr kind now) (drop_more rules i n lt ∙ ap (λ (m : Numbered). m ∷ drop (i + 1) rules) (sym is))

-- a rule that does not hold is passed by
pub walk_fails : (rules : List Numbered) (i : ℕ) (n : Numbered) (view : QueryView) (addr : Addr) (kind : Kind) (now : ℕ) (a b : Bool) (ps : List Passed) (t : ℕ) → i < length rules → n ≡ get_or rules i n → truth_of n view addr now ≡ false → with_before a b ps t (walk_of (drop i rules) view addr kind now) ≡ with_before a b (ps ++ passes_of n view addr now) (t + tests_of n view addr) (walk_of (drop (i + 1) rules) view addr kind now)
walk_fails rules i n view addr kind now a b ps t lt is fails =
    let after : Walked = walk_of (drop (i + 1) rules) view addr kind now in
    let own : List Passed = passes_of n view addr now in
    let one : ℕ = tests_of n view addr in
    ap (with_before a b ps t) (walk_more rules i n view addr kind now lt is)
    ∙ ap (λ (truth : Bool). with_before a b ps t (tested_by n truth (ending_of n.rule.action view kind) own one after)) fails
    ∙ before_both a b ps t false false own one after
    ∙ ap (λ (x : Bool). with_before x (b || false) (ps ++ own) (t + one) after) (or_none a) ∙ ap (λ (x : Bool). with_before a x (ps ++ own) (t + one) after) (or_none b)

-- a rule that holds and does not end the walk leaves its flags
pub walk_goes_on : (rules : List Numbered) (i : ℕ) (n : Numbered) (view : QueryView) (addr : Addr) (kind : Kind) (now : ℕ) (a b : Bool) (ps : List Passed) (t : ℕ) → i < length rules → n ≡ get_or rules i n → truth_of n view addr now ≡ true → ending_of n.rule.action view kind ≡ None → with_before a b ps t (walk_of (drop i rules) view addr kind now) ≡ with_before (a || is_no_recurse n.rule.action) (b || is_skip_cache n.rule.action) (ps ++ passes_of n view addr now) (t + tests_of n view addr) (walk_of (drop (i + 1) rules) view addr kind now)
walk_goes_on rules i n view addr kind now a b ps t lt is holds none =
    let after : Walked = walk_of (drop (i + 1) rules) view addr kind now in
    let own : List Passed = passes_of n view addr now in
    let one : ℕ = tests_of n view addr in
    ap (with_before a b ps t) (walk_more rules i n view addr kind now lt is)
    ∙ ap (λ (truth : Bool). with_before a b ps t (tested_by n truth (ending_of n.rule.action view kind) own one after)) holds
    ∙ ap (λ (ending : Option Verdict). with_before a b ps t (ended_by n ending own one after)) none
    ∙ before_both a b ps t (is_no_recurse n.rule.action) (is_skip_cache n.rule.action) own one after

-- the passes of a rule are no more than its limiters
pub few_of : (n : Numbered) (view : QueryView) (addr : Addr) (now : ℕ) → length n.limits ≡ limiters_of n.rule.term → length (passes_of n view addr now) ≤ length n.limits
few_of n view addr now is =
    let numbers : List ℕ = passes_at n.rule.term (asked_of view addr n.limits now) 0 in
    let passed : ℕ → Passed = λ at. record { rule = n.id; limiter = at } in
    omega (arith, few_passes n.rule.term (asked_of view addr n.limits now) 0, length-map numbers passed)

-- the next rule has room for its passes
pub room_next : (rules : List Numbered) (i : ℕ) (n : Numbered) (count : ℕ) → i < length rules → n ≡ get_or rules i n → count + limiters_in (drop i rules) ≤ 16 → count + length n.limits + limiters_in (drop (i + 1) rules) ≤ 16
room_next rules i n count lt is fits =
    let parts : drop i rules ≡ n ∷ drop (i + 1) rules = drop_more rules i n lt ∙ ap (λ (m : Numbered). m ∷ drop (i + 1) rules) (sym is) in
    let sum : limiters_in (drop i rules) ≡ length n.limits + limiters_in (drop (i + 1) rules) = ap limiters_in parts in
    omega arith

-- it leaves room for those of the rules after it
pub walk_room : (rules : List Numbered) (i : ℕ) (n : Numbered) (view : QueryView) (addr : Addr) (now : ℕ) (ps qs : List Passed) → All (λ m. length m.limits ≡ limiters_of m.rule.term) rules → i < length rules → n ≡ get_or rules i n → length ps + limiters_in (drop i rules) ≤ 16 → qs ≡ ps ++ passes_of n view addr now → length qs + limiters_in (drop (i + 1) rules) ≤ 16
walk_room rules i n view addr now ps qs limiters lt is fits next =
    let own : length n.limits ≡ limiters_of n.rule.term = subst (λ (m : Numbered). length m.limits ≡ limiters_of m.rule.term) (sym is) (limiters i n lt) in
    omega (arith, ap length next, length-append ps (passes_of n view addr now), few_of n view addr now own, room_next rules i n (length ps) lt is fits)

-- the walk goes on after a rule that does not hold
pub next_fails : (rules : List Numbered) (i : ℕ) (n : Numbered) (view : QueryView) (addr : Addr) (kind : Kind) (now : ℕ) (a b c d : Bool) (ps qs : List Passed) (t u : ℕ) (whole : Walked) → i < length rules → n ≡ get_or rules i n → truth_of n view addr now ≡ false → qs ≡ ps ++ passes_of n view addr now → u ≡ t + tests_of n view addr → c ≡ a → d ≡ b → with_before a b ps t (walk_of (drop i rules) view addr kind now) ≡ whole → with_before c d qs u (walk_of (drop (i + 1) rules) view addr kind now) ≡ whole
next_fails rules i n view addr kind now a b c d ps qs t u whole lt is fails next more c_is d_is before =
    let after : Walked = walk_of (drop (i + 1) rules) view addr kind now in
    ap (λ (x : Bool). with_before x d qs u after) c_is ∙ ap (λ (x : Bool). with_before a x qs u after) d_is ∙ ap (λ (x : List Passed). with_before a b x u after) next
    ∙ ap (λ (x : ℕ). with_before a b (ps ++ passes_of n view addr now) x after) more ∙ sym (walk_fails rules i n view addr kind now a b ps t lt is fails) ∙ before

-- and after one that holds and does not end it
pub next_goes_on : (rules : List Numbered) (i : ℕ) (n : Numbered) (view : QueryView) (addr : Addr) (kind : Kind) (now : ℕ) (a b c d : Bool) (ps qs : List Passed) (t u : ℕ) (whole : Walked) → i < length rules → n ≡ get_or rules i n → truth_of n view addr now ≡ true → ending_of n.rule.action view kind ≡ None → qs ≡ ps ++ passes_of n view addr now → u ≡ t + tests_of n view addr → c ≡ (a || is_no_recurse n.rule.action) → d ≡ (b || is_skip_cache n.rule.action) → with_before a b ps t (walk_of (drop i rules) view addr kind now) ≡ whole → with_before c d qs u (walk_of (drop (i + 1) rules) view addr kind now) ≡ whole
next_goes_on rules i n view addr kind now a b c d ps qs t u whole lt is holds none next more c_is d_is before =
    let after : Walked = walk_of (drop (i + 1) rules) view addr kind now in
    let e : Bool = a || is_no_recurse n.rule.action in
    let f : Bool = b || is_skip_cache n.rule.action in
    ap (λ (x : Bool). with_before x d qs u after) c_is ∙ ap (λ (x : Bool). with_before e x qs u after) d_is ∙ ap (λ (x : List Passed). with_before e f x u after) next
    ∙ ap (λ (x : ℕ). with_before e f (ps ++ passes_of n view addr now) x after) more ∙ sym (walk_goes_on rules i n view addr kind now a b ps t lt is holds none) ∙ before

-- a rule that does not end the walk leaves its flags, where it holds
tested_none : (n : Numbered) (truth : Bool) (ending : Option Verdict) (passes : List Passed) (t : ℕ) (after : Walked) → (if truth then ending else None) ≡ None → tested_by n truth ending passes t after ≡ with_before (truth && is_no_recurse n.rule.action) (truth && is_skip_cache n.rule.action) passes t after
tested_none n true None passes t after is = refl
tested_none n true (Some verdict) passes t after is = absurd (cc)
tested_none n false ending passes t after is = refl

-- one that ends it decides
tested_some : (n : Numbered) (truth : Bool) (ending : Option Verdict) (passes : List Passed) (t : ℕ) (after : Walked) (verdict : Verdict) → (if truth then ending else None) ≡ Some verdict → tested_by n truth ending passes t after ≡ ended_by n (Some verdict) passes t after
tested_some n true None passes t after verdict is = absurd (cc)
tested_some n true (Some own) passes t after verdict is = ap (λ (ending : Option Verdict). ended_by n ending passes t after) is
tested_some n false ending passes t after verdict is = absurd (cc)

-- a rule that ends the walk may hold
ends_truly : (truth : Bool) (ending : Option Verdict) (verdict : Verdict) → (if truth then ending else None) ≡ Some verdict → truth ≡ true
ends_truly true ending verdict is = refl
ends_truly false ending verdict is = absurd (cc)

pub held_counts : (n : Numbered) (view : QueryView) (addr : Addr) → may_hold n.rule.term view addr ≡ true → tests_of n view addr ≡ 1
held_counts n view addr may = rw may refl

truth_counts : (n : Numbered) (view : QueryView) (addr : Addr) (now : ℕ) → truth_of n view addr now ≡ true → tests_of n view addr ≡ 1
truth_counts n view addr now holds =
    elim (cases_Bool (may_hold n.rule.term view addr)) [
      | inl may ↦ held_counts n view addr may
      | inr may_not ↦ absurd (true≢false (sym holds ∙ first_fails n.rule.term (asked_of view addr n.limits now) 0 may_not))
    ]

tests-cons : (n : Numbered) (rules : List Numbered) (view : QueryView) (addr : Addr) → tests_in (n ∷ rules) view addr ≡ tests_of n view addr + tests_in rules view addr
tests-cons n rules view addr = sum_by-cons (λ (m : Numbered). cond (may_hold m.rule.term view addr) 1 0) n rules

-- nothing adds nothing
pub with_none : (after : Walked) → after ≡ with_before false false [] 0 after
with_none after = let sum : after.tests ≡ 0 + after.tests = omega arith in ap (λ (t : ℕ). record after { tests = t }) sum

-- rules that do not end the walk, in front of others
none_ends : (before rest : List Numbered) (view : QueryView) (addr : Addr) (kind : Kind) (now : ℕ) → All (λ m. ending_by m view addr kind now ≡ None) before → walk_of (before ++ rest) view addr kind now ≡ with_before (one_says is_no_recurse before view addr now) (one_says is_skip_cache before view addr now) (passes_in before view addr now) (tests_in before view addr) (walk_of rest view addr kind now)
none_ends [] rest view addr kind now none = with_none (walk_of rest view addr kind now)
none_ends (m ∷ before) rest view addr kind now none =
    let P : Numbered → Type 0 = λ m. ending_by m view addr kind now ≡ None in
    let truth : Bool = truth_of m view addr now in
    let own : List Passed = passes_of m view addr now in
    let one : ℕ = tests_of m view addr in
    let a : Bool = truth && is_no_recurse m.rule.action in
    let b : Bool = truth && is_skip_cache m.rule.action in
    let c : Bool = one_says is_no_recurse before view addr now in
    let d : Bool = one_says is_skip_cache before view addr now in
    let qs : List Passed = passes_in before view addr now in
    let after : Walked = walk_of rest view addr kind now in
    tested_none m truth (ending_of m.rule.action view kind) own one (walk_of (before ++ rest) view addr kind now) (All-head P m before none)
    ∙ ap (with_before a b own one) (none_ends before rest view addr kind now (All-tail P m before none))
    ∙ before_both a b own one c d qs (tests_in before view addr) after
    ∙ ap (λ (t : ℕ). with_before (a || c) (b || d) (own ++ qs) t after) (sym (tests-cons m before view addr))

-- a rule, and what was before it
with_flags : (a b : Bool) (ps : List Passed) (t : ℕ) (w : Walked) → w.no_recurse ≡ false → w.skip_cache ≡ false → with_before a b ps t w ≡ record w { no_recurse = a; skip_cache = b; passes = ps ++ w.passes; tests = t + w.tests }
with_flags a b ps t w no_recurse skip_cache =
    ap (λ (x : Bool). record w { no_recurse = a || x; skip_cache = b || w.skip_cache; passes = ps ++ w.passes; tests = t + w.tests }) no_recurse
    ∙ ap (λ (x : Bool). record w { no_recurse = a || false; skip_cache = b || x; passes = ps ++ w.passes; tests = t + w.tests }) skip_cache
    ∙ ap (λ (x : Bool). record w { no_recurse = x; skip_cache = b || false; passes = ps ++ w.passes; tests = t + w.tests }) (or_none a)
    ∙ ap (λ (x : Bool). record w { no_recurse = a; skip_cache = x; passes = ps ++ w.passes; tests = t + w.tests }) (or_none b)

pub first_to_end : (before after : List Numbered) (n : Numbered) (verdict : Verdict) (view : QueryView) (addr : Addr) (kind : Kind) (now : ℕ) → All (λ m. ending_by m view addr kind now ≡ None) before → ending_by n view addr kind now ≡ Some verdict →
    walk_of (before ++ n ∷ after) view addr kind now ≡ record { rule = Some n.id; verdict = verdict; no_recurse = one_says is_no_recurse before view addr now; skip_cache = one_says is_skip_cache before view addr now; passes = passes_in (before ++ n ∷ []) view addr now; tests = tests_in before view addr + 1 }
first_to_end before after n verdict view addr kind now none ends =
    let a : Bool = one_says is_no_recurse before view addr now in
    let b : Bool = one_says is_skip_cache before view addr now in
    let ps : List Passed = passes_in before view addr now in
    let t : ℕ = tests_in before view addr in
    let own : List Passed = passes_of n view addr now in
    let one : ℕ = tests_of n view addr in
    let end : Walked = record { rule = Some n.id; verdict = verdict; no_recurse = false; skip_cache = false; passes = own; tests = one } in
    let each : Numbered → List Passed = λ m. passes_of m view addr now in
    let all : passes_in (before ++ n ∷ []) view addr now ≡ ps ++ own =
    flat_map-append each before (n ∷ []) ∙ ap (λ (qs : List Passed). ps ++ qs) (flat_map-cons each n [] ∙ append-nil own) in
    let counts : one ≡ 1 = truth_counts n view addr now (ends_truly (truth_of n view addr now) (ending_of n.rule.action view kind) verdict ends) in
    none_ends before (n ∷ after) view addr kind now none
    ∙ ap (with_before a b ps t) (tested_some n (truth_of n view addr now) (ending_of n.rule.action view kind) own one (walk_of after view addr kind now) verdict ends)
    ∙ with_flags a b ps t end refl refl
    ∙ ap (λ (qs : List Passed). record end { no_recurse = a; skip_cache = b; passes = qs; tests = t + one }) (sym all)
    ∙ ap (λ (u : ℕ). record end { no_recurse = a; skip_cache = b; passes = passes_in (before ++ n ∷ []) view addr now; tests = t + u }) counts

pub none_to_end : (rules : List Numbered) (view : QueryView) (addr : Addr) (kind : Kind) (now : ℕ) → All (λ m. ending_by m view addr kind now ≡ None) rules →
    walk_of rules view addr kind now ≡ record { rule = None; verdict = verdicts.Allow; no_recurse = one_says is_no_recurse rules view addr now; skip_cache = one_says is_skip_cache rules view addr now; passes = passes_in rules view addr now; tests = tests_in rules view addr }
none_to_end rules view addr kind now none =
    let a : Bool = one_says is_no_recurse rules view addr now in
    let b : Bool = one_says is_skip_cache rules view addr now in
    let ps : List Passed = passes_in rules view addr now in
    let t : ℕ = tests_in rules view addr in
    let sum : t + 0 ≡ t = omega arith in
    ap (λ (ns : List Numbered). walk_of ns view addr kind now) (sym (append-nil rules))
    ∙ none_ends rules [] view addr kind now none
    ∙ with_flags a b ps t no_rule refl refl
    ∙ ap (λ (qs : List Passed). record no_rule { no_recurse = a; skip_cache = b; passes = qs; tests = t + 0 }) (append-nil ps)
    ∙ ap (λ (u : ℕ). record no_rule { no_recurse = a; skip_cache = b; passes = ps; tests = u }) sum

some_none : (id : RuleId) → Some id ≡ None → ⊥
some_none id is = cc is

allowed_past : (n : Numbered) (truth : Bool) (ending : Option Verdict) (passes : List Passed) (t : ℕ) (after : Walked) →
    (after.rule ≡ None → after.verdict ≡ verdicts.Allow) → (tested_by n truth ending passes t after).rule ≡ None → (tested_by n truth ending passes t after).verdict ≡ verdicts.Allow
allowed_past n true (Some verdict) passes t after rest is = absurd (some_none n.id is)
allowed_past n true None passes t after rest is = rest is
allowed_past n false ending passes t after rest is = rest is

-- a walk that no rule ended has the verdict Allow
pub no_rule_allows : (rules : List Numbered) (view : QueryView) (addr : Addr) (kind : Kind) (now : ℕ) →
    (walk_of rules view addr kind now).rule ≡ None → (walk_of rules view addr kind now).verdict ≡ verdicts.Allow
no_rule_allows [] view addr kind now is = refl
no_rule_allows (n ∷ rules) view addr kind now is =
    allowed_past n (truth_of n view addr now) (ending_of n.rule.action view kind) (passes_of n view addr now) (tests_of n view addr) (walk_of rules view addr kind now) (no_rule_allows rules view addr kind now) is

-- the walk ends at a rule
pub ends_here : (rules : List Numbered) (i : ℕ) (n : Numbered) (verdict : Verdict) (view : QueryView) (addr : Addr) (kind : Kind) (now : ℕ) (a b : Bool) (ps qs : List Passed) (t u : ℕ) (whole : Walked) → i < length rules → n ≡ get_or rules i n → truth_of n view addr now ≡ true → ending_of n.rule.action view kind ≡ Some verdict → qs ≡ ps ++ passes_of n view addr now → u ≡ t + tests_of n view addr → with_before a b ps t (walk_of (drop i rules) view addr kind now) ≡ whole → record { rule = Some n.id; verdict = verdict; no_recurse = a; skip_cache = b; passes = qs; tests = u } ≡ whole
ends_here rules i n verdict view addr kind now a b ps qs t u whole lt is holds ends next more before =
    let after : Walked = walk_of (drop (i + 1) rules) view addr kind now in
    let own : List Passed = passes_of n view addr now in
    let one : ℕ = tests_of n view addr in
    let end : Walked = record { rule = Some n.id; verdict = verdict; no_recurse = false; skip_cache = false; passes = own; tests = one } in
    ap (λ (x : List Passed). record end { no_recurse = a; skip_cache = b; passes = x; tests = u }) next
    ∙ ap (λ (x : ℕ). record end { no_recurse = a; skip_cache = b; passes = ps ++ own; tests = x }) more
    ∙ sym (with_flags a b ps t end refl refl)
    ∙ sym (ap (λ (ending : Option Verdict). with_before a b ps t (ended_by n ending own one after)) ends)
    ∙ sym (ap (λ (truth : Bool). with_before a b ps t (tested_by n truth (ending_of n.rule.action view kind) own one after)) holds)
    ∙ sym (ap (with_before a b ps t) (walk_more rules i n view addr kind now lt is))
    ∙ before

-- or after the last
pub ends_behind : (rules : List Numbered) (i : ℕ) (view : QueryView) (addr : Addr) (kind : Kind) (now : ℕ) (a b : Bool) (ps : List Passed) (t : ℕ) (whole : Walked) → i ≡ length rules → with_before a b ps t (walk_of (drop i rules) view addr kind now) ≡ whole → record { rule = None; verdict = verdicts.Allow; no_recurse = a; skip_cache = b; passes = ps; tests = t } ≡ whole
ends_behind rules i view addr kind now a b ps t whole at before =
    let none : drop i rules ≡ [] = ap (λ (k : ℕ). drop k rules) at ∙ drop-length rules in
    let sum : t ≡ t + 0 = omega arith in
    ap (λ (x : List Passed). record no_rule { no_recurse = a; skip_cache = b; passes = x; tests = t }) (sym (append-nil ps))
    ∙ ap (λ (x : ℕ). record no_rule { no_recurse = a; skip_cache = b; passes = ps ++ []; tests = x }) sum
    ∙ sym (with_flags a b ps t no_rule refl refl)
    ∙ sym (ap (λ (ns : List Numbered). with_before a b ps t (walk_of ns view addr kind now)) none)
    ∙ before

-- a walk that no rule ended
pub not_ended : (walked : Walked) → walked.rule ≡ None → walked.verdict ≡ verdicts.Allow → walked ≡ record walked { rule = None; verdict = verdicts.Allow }
not_ended walked rule verdict =
    ap (λ (r : _). record walked { rule = r }) rule ∙ ap (λ (v : Verdict). record walked { rule = None; verdict = v }) verdict
