-- Queries that are given up.
use Rattle.std.proofs.Common.{◌≡◌, ℕ, Option, None, Some, Ok, sym, ◌∙◌, ap, subst, List}
use Rattle.lb_wire.specs.Query.{Reads}
use Rattle.lb_wire.specs.declared.query.QueryView.{QueryView}
use Rattle.lb_table.specs.declared.entry.Waiting.{Waiting}
use Rattle.lb_table.specs.Table.{due}
use Rattle.lb_step.specs.declared.answer.Answer.{Answer}
use Rattle.lb_step.specs.declared.answer.Answer.TheVariants.{Expired, Quiet}
use Rattle.lb_step.specs.Expiry.{Ends, Expires, without_expired}
use Rattle.lb_step.specs.Forward.{failure_of}
use Rattle.lb_step.specs.Upstream.{Upstreams}
use Rattle.lb_step.proofs.Tied.{none_due}

-- a query that is given up gets ServFail
pub ended_one : (ups new : Upstreams) (now : ℕ) (w : Waiting) (answer : Answer) → Some w ≡ due now ups.outstanding → new ≡ without_expired now ups →
    ((view : QueryView) × Reads w.entry.asked (Ok view) × (answer ≡ Expired w.entry.origin (failure_of view))) → Expires ups now answer new
ended_one ups new now w answer found left told =
    subst (λ (d : Option Waiting). Ends ups now d answer new) found
    (told.0, told.1, ap (λ (u : Upstreams). (u, answer)) left ∙ ap (λ (a : Answer). (without_expired now ups, a)) told.2)

-- where none is, nothing changes
pub ended_none : (ups new : Upstreams) (now : ℕ) → None ≡ due now ups.outstanding → new ≡ without_expired now ups → Expires ups now Quiet new
ended_none ups new now none left =
    subst (λ (d : Option Waiting). Ends ups now d Quiet new) none
    (ap (λ (u : Upstreams). (u, Quiet)) (left ∙ ap (λ (t : List Waiting). record ups { outstanding = t }) (none_due ups.outstanding now (sym none))))
