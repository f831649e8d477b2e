-- A rule whose term may not hold, by what it asks first, is passed by: it does not hold, and gives no passes.
use Rattle.std.proofs.Common.{◌≡◌, Bool, true, false, ℕ, zero, suc, ◌<◌, ◌≤◌, List, [], ◌∷◌, length, map, get_or, drop, None, Some, refl, sym, ap, ◌∙◌, arith}
use Rattle.std.proofs.lemmas.List.{get_or-map, length-map}
use Rattle.lb_wire.specs.declared.addr.Addr.{Addr}
use Rattle.lb_wire.specs.declared.transport.Kind.{Kind}
use Rattle.lb_wire.specs.declared.query.QueryView.{QueryView}
use Rattle.lb_terms.specs.Selector.{Selector, All}
use Rattle.lb_terms.specs.Truth.{Asked, asked_of}
use Rattle.lb_chain.specs.declared.walked.Passed.{Passed}
use Rattle.lb_chain.specs.declared.walked.Walked.{Walked}
use Rattle.lb_chain.specs.declared.numbered.Numbered.{Numbered}
use Rattle.lb_chain.specs.Edits.{limiters_in}
use Rattle.lb_chain.specs.FirstAsked.{may_hold}
use Rattle.lb_chain.specs.Offers.{IsNextOffered, may_hold_at, terms_of}
use Rattle.lb_chain.specs.Walk.{ending_of, passes_of, tested_by, tests_of, truth_of, walk_of, with_before}
use Rattle.lb_chain.proofs.FirstFails.{first_fails, first_passes}
use Rattle.lb_chain.proofs.Walks.{with_none}

-- it is not tested
not_tested : (n : Numbered) (view : QueryView) (addr : Addr) → may_hold n.rule.term view addr ≡ false → tests_of n view addr ≡ 0
not_tested n view addr is = rw is refl

-- it changes nothing
passed_by : (n : Numbered) (rules : List Numbered) (view : QueryView) (addr : Addr) (kind : Kind) (now : ℕ) → may_hold n.rule.term view addr ≡ false → walk_of (n ∷ rules) view addr kind now ≡ walk_of rules view addr kind now
passed_by n rules view addr kind now is =
    let after : Walked = walk_of rules view addr kind now in
    let asked : Asked = asked_of view addr n.limits now in
    let fails : truth_of n view addr now ≡ false = first_fails n.rule.term asked 0 is in
    let none : passes_of n view addr now ≡ [] = ap (λ (ats : List ℕ). map {B = Passed} (λ at. record { rule = n.id; limiter = at }) ats) (first_passes n.rule.term asked 0 is) in
    ap (λ (truth : Bool). tested_by n truth (ending_of n.rule.action view kind) (passes_of n view addr now) (tests_of n view addr) after) fails
    ∙ ap (λ (ps : List Passed). with_before false false ps (tests_of n view addr) after) none
    ∙ ap (λ (t : ℕ). with_before false false [] t after) (not_tested n view addr is)
    ∙ sym (with_none after)

-- nor do several, one after the other
passed_all : (rules : List Numbered) (view : QueryView) (addr : Addr) (kind : Kind) (now i j : ℕ) → i ≤ j → j ≤ length rules → ((k : ℕ) (d : Numbered) → i ≤ k → k < j → may_hold (get_or rules k d).rule.term view addr ≡ false) → walk_of (drop i rules) view addr kind now ≡ walk_of (drop j rules) view addr kind now
passed_all [] view addr kind now i j le lt each = let same : j ≡ i = omega arith in rw same refl
passed_all (n ∷ rules) view addr kind now zero zero le lt each = refl
passed_all (n ∷ rules) view addr kind now zero (suc j) le lt each =
    passed_by n rules view addr kind now (each 0 n (omega arith) (omega arith))
    ∙ passed_all rules view addr kind now 0 j (omega arith) (omega arith) (λ k d from to. each (suc k) d (omega arith) (omega arith))
passed_all (n ∷ rules) view addr kind now (suc i) zero le lt each = absurd (omega arith)
passed_all (n ∷ rules) view addr kind now (suc i) (suc j) le lt each =
    passed_all rules view addr kind now i j (omega arith) (omega arith) (λ k d from to. each (suc k) d (omega arith) (omega arith))

-- the terms of rules between two places may not hold
none_between : (rules : List Numbered) (i j : ℕ) (view : QueryView) (addr : Addr) → j ≤ length rules → ((k : ℕ) → i ≤ k → k < j → may_hold_at (terms_of rules) view addr k ≡ false) → (k : ℕ) (d : Numbered) → i ≤ k → k < j → may_hold (get_or rules k d).rule.term view addr ≡ false
none_between rules i j view addr within none k d low high =
    sym (ap (λ (term : Selector). may_hold term view addr) (get_or-map (λ (n : Numbered). n.rule.term) rules k d All (omega arith))) ∙ none k low high

-- the next place offered is one of the rules
pub offered_within : (rules : List Numbered) (at place : ℕ) (view : QueryView) (addr : Addr) → IsNextOffered (terms_of rules) view addr at (Some place) → place < length rules
offered_within rules at place view addr next = omega (arith, next.1, length-map rules (λ (n : Numbered). n.rule.term))

-- and may hold
pub offered_may : (rules : List Numbered) (at place : ℕ) (view : QueryView) (addr : Addr) (n : Numbered) → IsNextOffered (terms_of rules) view addr at (Some place) → n ≡ get_or rules place n → may_hold n.rule.term view addr ≡ true
offered_may rules at place view addr n next is =
    ap (λ (m : Numbered). may_hold m.rule.term view addr) is
    ∙ sym (ap (λ (term : Selector). may_hold term view addr) (get_or-map (λ (m : Numbered). m.rule.term) rules place n All (offered_within rules at place view addr next))) ∙ next.2

-- the walk from a place is the walk from the next one offered
pub walk_to : (rules : List Numbered) (at place : ℕ) (view : QueryView) (addr : Addr) (kind : Kind) (now : ℕ) (a b : Bool) (ps : List Passed) (t : ℕ) (whole : Walked) →
    IsNextOffered (terms_of rules) view addr at (Some place) → with_before a b ps t (walk_of (drop at rules) view addr kind now) ≡ whole → with_before a b ps t (walk_of (drop place rules) view addr kind now) ≡ whole
walk_to rules at place view addr kind now a b ps t whole next before =
    let lt : place < length rules = offered_within rules at place view addr next in
    ap (with_before a b ps t) (sym (passed_all rules view addr kind now at place next.0 (omega arith) (none_between rules at place view addr (omega arith) next.3))) ∙ before

-- where none is, it is at its end
pub walk_to_end : (rules : List Numbered) (at : ℕ) (view : QueryView) (addr : Addr) (kind : Kind) (now : ℕ) (a b : Bool) (ps : List Passed) (t : ℕ) (whole : Walked) →
    at ≤ length rules → IsNextOffered (terms_of rules) view addr at None → with_before a b ps t (walk_of (drop at rules) view addr kind now) ≡ whole → with_before a b ps t (walk_of (drop (length rules) rules) view addr kind now) ≡ whole
walk_to_end rules at view addr kind now a b ps t whole le next before =
    let none : (k : ℕ) → at ≤ k → k < length rules → may_hold_at (terms_of rules) view addr k ≡ false = λ k low high. next k low (omega (arith, length-map rules (λ (n : Numbered). n.rule.term))) in
    ap (with_before a b ps t) (sym (passed_all rules view addr kind now at (length rules) le (omega arith) (none_between rules at (length rules) view addr (omega arith) none))) ∙ before

-- the rules from a later place on have no more limiters
fewer_by : (rules : List Numbered) (j : ℕ) → limiters_in (drop j rules) ≤ limiters_in rules
fewer_by [] zero = omega arith
fewer_by [] (suc j) = omega arith
fewer_by (n ∷ rules) zero = omega arith
fewer_by (n ∷ rules) (suc j) = omega (arith, fewer_by rules j)

pub fewer : (rules : List Numbered) (i j : ℕ) → i ≤ j → limiters_in (drop j rules) ≤ limiters_in (drop i rules)
fewer [] zero zero le = omega arith
fewer [] zero (suc j) le = omega arith
fewer [] (suc i) zero le = absurd (omega arith)
fewer [] (suc i) (suc j) le = omega arith
fewer (n ∷ rules) zero j le = fewer_by (n ∷ rules) j
fewer (n ∷ rules) (suc i) zero le = absurd (omega arith)
fewer (n ∷ rules) (suc i) (suc j) le = fewer rules i j (omega arith)
