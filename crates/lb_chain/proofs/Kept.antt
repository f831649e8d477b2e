-- What the list of a chain keeps true, and what it keeps true as it is seen at a moment.
use Rattle.std.proofs.Common.{◌≡◌, ℕ, ◌+◌, ◌<◌, ◌≤◌, cond, List, [], ◌∷◌, length, get_or, inl, inr, refl, ap, arith, eq-eqb}
use Rattle.std.specs.List.{All}
use Rattle.std.proofs.lemmas.Bool.{cases_lt}
use Rattle.std.proofs.lemmas.List.{length-map}
use Rattle.std.proofs.lemmas.List.Elements.{All-cons, All-head, All-map, All-nil, All-tail, All-weaker}
use Rattle.std.proofs.lemmas.List.Sums.{get_or-le-sum_by, sum_by-cons}
use Rattle.lb_limits.specs.Laws.{RecentArePasses}
use Rattle.lb_limits.specs.Window.{ArePasses, Limits}
use Rattle.lb_chain.specs.declared.numbered.Numbered.{Numbered}
use Rattle.lb_chain.specs.Chain.{AreRules, HasPasses, IsChain, SeenAreRules, with_id}
use Rattle.lb_chain.specs.Edits.{limiters_in}
use Rattle.lb_chain.specs.Seen.{seen_limits, seen_rule, seen_rules}
use Rattle.lb_chain.proofs.Chains.{has_id, passes_of_each}

-- a rule that is there has a number that was given
given_at : (last moment limiters : ℕ) (rules : List Numbered) → IsChain last moment limiters rules → (k : ℕ) (d : Numbered) → k < length rules → (get_or rules k d).id.0 < last + 1
given_at last moment limiters rules chain k d lt = elim (cases_lt last (get_or rules k d).id.0) [
  | inl over ↦
      let id : ℕ = (get_or rules k d).id.0 in
      let one : has_id id (get_or rules k d) ≡ 1 = ap (λ b. cond b 1 0) (eq-eqb id id refl) in
      absurd (omega (arith, one, get_or-le-sum_by (has_id id) rules k d lt, chain.given id over))
  | inr within ↦ omega (arith, within)
]

pub are_rules : (last moment limiters : ℕ) (rules : List Numbered) → IsChain last moment limiters rules → AreRules (record { next = last + 1; moment = moment; rules = rules })
are_rules last moment limiters rules chain = record {
  given = λ k d lt. ((chain.each k d lt).number, given_at last moment limiters rules chain k d lt);
  once = chain.once;
  few = chain.short;
  limiters = omega (arith, chain.count, chain.few);
  passes = passes_of_each last moment limiters rules chain;
}

-- a rule that is seen has its number, and as many limiters
seen_given : (next moment : ℕ) (rules : List Numbered) → All (λ n. (1 ≤ n.id.0) × (n.id.0 < next)) rules → All (λ n. (1 ≤ n.id.0) × (n.id.0 < next)) (seen_rules moment rules)
seen_given next moment [] all = All-nil (λ (n : Numbered). (1 ≤ n.id.0) × (n.id.0 < next))
seen_given next moment (n ∷ rules) all =
    All-cons (λ (n : Numbered). (1 ≤ n.id.0) × (n.id.0 < next)) (seen_rule moment n) (seen_rules moment rules) (All-head (λ (n : Numbered). (1 ≤ n.id.0) × (n.id.0 < next)) n rules all)
    (seen_given next moment rules (All-tail (λ (n : Numbered). (1 ≤ n.id.0) × (n.id.0 < next)) n rules all))

seen_once : (moment id : ℕ) (rules : List Numbered) → with_id id (seen_rules moment rules) ≡ with_id id rules
seen_once moment id [] = refl
seen_once moment id (n ∷ rules) = omega (arith, sum_by-cons (has_id id) (seen_rule moment n) (seen_rules moment rules), sum_by-cons (has_id id) n rules, seen_once moment id rules)

seen_limiters : (moment : ℕ) (rules : List Numbered) → limiters_in (seen_rules moment rules) ≡ limiters_in rules
seen_limiters moment [] = refl
seen_limiters moment (n ∷ rules) = omega (arith, length-map n.limits (seen_limits moment), seen_limiters moment rules)

seen_passes : RecentArePasses → (moment : ℕ) (n : Numbered) → HasPasses n → HasPasses (seen_rule moment n)
seen_passes recent moment n are =
    All-map ArePasses (seen_limits moment) n.limits (All-weaker ArePasses (λ (l : Limits). ArePasses (seen_limits moment l)) (λ l own. recent moment l [] own) n.limits are)

pub seen_are : RecentArePasses → SeenAreRules
seen_are recent moment chain are = record {
  given = seen_given chain.next moment chain.rules are.given;
  once = λ id. omega (arith, seen_once moment id chain.rules, are.once id);
  few = omega (arith, length-map chain.rules (seen_rule moment), are.few);
  limiters = omega (arith, seen_limiters moment chain.rules, are.limiters);
  passes = All-map HasPasses (seen_rule moment) chain.rules (All-weaker HasPasses (λ (n : Numbered). HasPasses (seen_rule moment n)) (seen_passes recent moment) chain.rules are.passes);
}
