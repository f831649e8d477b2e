use Rattle.std.proofs.Common.{◌≡◌, [], ◌∷◌, ◌++◌, Some, sym, ap, ◌∙◌, subst}
use Rattle.lb_loops_io.specs.Letter.{Letter, job_letter}
use Rattle.lb_loops_io.specs.declared.report.Sending.{Sending}
use Rattle.lb_outbox.specs.Outbox.{Receiving}
use Rattle.lb_outbox.specs.Rule.{delivery}
use Rattle.lb_outbox.specs.declared.job.Job.{Job}
use Rattle.lb_loops_tcp.proofs.Turning.{turns_job}
use Rattle.lb_loops_tcp.specs.Turn.{Sends}
use Rattle.lb_loops_tcp.specs.World.{World}
use Rattle.lb_loops_tcp.proofs.streams.StreamLoop.one_job.Goals as goal
use Rattle.lb_loops_tcp.proofs.streams.StreamLoop.one_job.Goals.{in-ToServer, in-ToClient}

pub returns-clause-turns : goal.returns-clause-turns
returns-clause-turns g c =
    let old : World = record { net = c.self.inside.links; jobs = c.self.inside.receiver; fronts = c.self.inside.fronts.items; handed = g.P.Posts.handed c.self.inside.posts; answered = g.T.Taker.answered c.self.inside.taker; pairs = g.T.Taker.pairs c.self.inside.taker; said = g.O.Outside.said c.self.inside.outside; outside = g.O.Outside.failures c.self.inside.outside } in
    let mid : World = record { net = c.self.inside.links; jobs = c.receive.new.self; fronts = c.self.inside.fronts.items; handed = g.P.Posts.handed c.self.inside.posts; answered = g.T.Taker.answered c.self.inside.taker; pairs = g.T.Taker.pairs c.self.inside.taker; said = g.O.Outside.said c.self.inside.outside; outside = g.O.Outside.failures c.self.inside.outside } in
    let roster = c.args.roster.now.listed in
    let job : Job = c.in_ok-job.job in
    let from = c.in_ok-job.ensures.received.0 in
    let came : mid ≡ record c.args.self.now { jobs = record c.args.self.now.jobs { received = c.args.self.now.jobs.received ++ delivery from job ∷ [] } } =
    ap (λ (j : Receiving). record old { jobs = j }) c.in_ok-job.ensures.received.1 ∙ ap (λ (w : World). record w { jobs = record w.jobs { received = w.jobs.received ++ delivery from job ∷ [] } }) c.self.view_is in
    elim c.match-job.branch [
      | in-ToServer w ↦
          let sent = subst (λ (s : Sending). Sends roster mid c.match-job.self (Some (job_letter job)) s) (sym w.sending-is) (subst (λ (z : World). Sends roster mid z (Some (job_letter job)) w.send_to_server-sending.result) (sym w.self-is)
          (subst (λ (l : Letter). Sends roster mid w.send_to_server-sending.new.self (Some l) w.send_to_server-sending.result) (sym (ap job_letter w.in-ToServer.is)) w.send_to_server-sending.ensures.sends)) in
          turns_job roster c.args.self.now mid c.match-job.self from job c.match-job.sending came sent
      | in-ToClient w ↦
          let sent = subst (λ (s : Sending). Sends roster mid c.match-job.self (Some (job_letter job)) s) (sym w.sending-is) (subst (λ (z : World). Sends roster mid z (Some (job_letter job)) w.send_to_client-sending.result) (sym w.self-is)
          (subst (λ (l : Letter). Sends roster mid w.send_to_client-sending.new.self (Some l) w.send_to_client-sending.result) (sym (ap job_letter w.in-ToClient.is)) w.send_to_client-sending.ensures.sends)) in
          turns_job roster c.args.self.now mid c.match-job.self from job c.match-job.sending came sent
    ]
