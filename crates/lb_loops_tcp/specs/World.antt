-- What the loop of streams holds.
use Rattle.std.specs.Prelude.{ℕ, List}
use Rattle.lb_step.specs.declared.answer.Answer.{Answer}
use Rattle.lb_step.specs.declared.event.Event.{Event}
use Rattle.lb_loops_io.specs.Stamps.{Stamp}
use Rattle.lb_loops_io.specs.declared.traffic.Service.{Service}
use Rattle.lb_outbox.specs.Outbox.{Receiving}
use Rattle.lb_loops_tcp.specs.Links.{Net}
use Rattle.lb_wire.specs.declared.addr.Origin.{Origin}

-- what its parts tell: its connections; the jobs that came; what listens at each place; what was handed to requests; the answered calls
-- and the pairs; the stamps that were said, and the failures outside
pub record World : Type 0 where
  pub net : Net
  pub jobs : Receiving
  pub fronts : List Service
  pub handed : List (Origin × List ℕ)
  pub answered : ℕ
  pub pairs : List (Event × Answer)
  pub said : List Stamp
  pub outside : ℕ
