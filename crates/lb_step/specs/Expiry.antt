-- Expiry: a query that no server answered in time is answered ServFail.
use Rattle.std.specs.Prelude.{ℕ, Option, None, Some, Ok}
use Rattle.lb_wire.specs.Query.{Reads}
use Rattle.lb_wire.specs.declared.query.QueryView.{QueryView}
use Rattle.lb_table.specs.declared.entry.Waiting.{Waiting}
use Rattle.lb_table.specs.Table.{due, without_due}
use Rattle.lb_step.specs.declared.answer.Answer.{Answer}
use Rattle.lb_step.specs.declared.answer.Answer.TheVariants.{Expired, Quiet}
use Rattle.lb_step.specs.Answer.{Leaves}
use Rattle.lb_step.specs.Forward.{failure_of}
use Rattle.lb_step.specs.Upstream.{Upstreams}

-- the outstanding queries without the first that is given up by now
abbrev pub without_expired : ℕ → Upstreams → Upstreams
without_expired now ups = record ups { outstanding = without_due now ups.outstanding }

-- what a tick does where this query is given up, or none: its client gets ServFail, made from the query as it came in
abbrev pub Ends : Upstreams → ℕ → Option Waiting → Answer → Upstreams → Type 0
Ends ups now None answer new = Leaves new answer (ups, Quiet)
Ends ups now (Some w) answer new = (view : QueryView) × Reads w.entry.asked (Ok view) × Leaves new answer (without_expired now ups, Expired w.entry.origin (failure_of view))

-- a tick: the query of least deadline goes that is given up by now, of equal ones the one that was sent first; one tick ends
-- one query
abbrev pub Expires : Upstreams → ℕ → Answer → Upstreams → Type 0
Expires ups now answer new = Ends ups now (due now ups.outstanding) answer new
