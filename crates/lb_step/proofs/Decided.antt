-- What a pool answers is what the walk decides, where it names that pool.
use Rattle.std.proofs.Common.{◌≡◌, ℕ, List, Option, None, Some, sym, subst}
use Rattle.lb_wire.specs.declared.ids.PoolId.{PoolId}
use Rattle.lb_wire.specs.declared.ids.RuleId.{RuleId}
use Rattle.lb_wire.specs.declared.query.QueryView.{QueryView}
use Rattle.lb_chain.specs.declared.walked.Verdict.{Verdict}
use Rattle.lb_chain.specs.declared.walked.Verdict.TheVariants as verdicts
use Rattle.lb_chain.specs.declared.walked.Walked.{Walked}
use Rattle.lb_step.specs.declared.answer.Answer.{Answer}
use Rattle.lb_step.specs.declared.asked.Asked.{Asked}
use Rattle.lb_step.specs.declared.asked.Routed.{Routed}
use Rattle.lb_step.specs.Look.{PoolAnswers}
use Rattle.lb_step.specs.Query.{Decides, EndDecides, RuleDecides, default_pool, to_pool}
use Rattle.lb_step.specs.Upstream.{Upstreams}

module _ (ups new : Upstreams) (asked : Asked) (bytes : List ℕ) (view : QueryView) (walked : Walked) (routed : Routed) (answer : Answer) where
  -- no rule ended the walk
  pub by_none : walked.rule ≡ None → routed ≡ to_pool walked default_pool → PoolAnswers ups asked bytes view routed answer new → Decides ups asked bytes view walked answer new
  by_none none is answers =
      subst (λ (o : Option RuleId). EndDecides ups asked bytes view walked o answer new) (sym none) (subst (λ (r : Routed). PoolAnswers ups asked bytes view r answer new) is answers)

  by_verdict : (rule : RuleId) (verdict : Verdict) → walked.rule ≡ Some rule → walked.verdict ≡ verdict → RuleDecides ups asked bytes view walked rule verdict answer new → Decides ups asked bytes view walked answer new
  by_verdict rule verdict ended is decides =
      subst (λ (o : Option RuleId). EndDecides ups asked bytes view walked o answer new) (sym ended) (subst (λ (v : Verdict). RuleDecides ups asked bytes view walked rule v answer new) (sym is) decides)

  pub by_allow : (rule : RuleId) → walked.rule ≡ Some rule → walked.verdict ≡ verdicts.Allow → routed ≡ to_pool walked default_pool → PoolAnswers ups asked bytes view routed answer new → Decides ups asked bytes view walked answer new
  by_allow rule ended verdict is answers = by_verdict rule verdicts.Allow ended verdict (subst (λ (r : Routed). PoolAnswers ups asked bytes view r answer new) is answers)

  pub by_pool : (rule : RuleId) (pool : PoolId) → walked.rule ≡ Some rule → walked.verdict ≡ verdicts.Pool pool → routed ≡ to_pool walked pool → PoolAnswers ups asked bytes view routed answer new → Decides ups asked bytes view walked answer new
  by_pool rule pool ended verdict is answers = by_verdict rule (verdicts.Pool pool) ended verdict (subst (λ (r : Routed). PoolAnswers ups asked bytes view r answer new) is answers)
