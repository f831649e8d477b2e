use Rattle.std.proofs.Common.{inr}
use Rattle.lb_program_serve.specs.Serving.{ServesBy}
use Rattle.lb_program_serve.proofs.serving.serve_told.Goals as goal

pub returns : goal.returns
returns g c =
    let serves : ServesBy c.args.text.now (g.W.Write.contents c.args.output.now) (g.W.Write.contents c.serve_by-end.new.output) (g.F.Write.contents c.args.faults.now) (g.F.Write.contents c.tell-2.new.faults) c.tell-2.result.status c.tell-2.result.told = record {
      stated = c.in-Ok.read.0;
      balancer = c.in-Ok.read.1;
      applied = c.in-Ok.ensures;
      end = c.serve_by-end.result;
      served = c.serve_by-end.ensures;
      status_is = c.tell-2.ensures.status;
      tells = c.tell-2.ensures.told _ c.warn.ensures;
    } in
    inr serves
