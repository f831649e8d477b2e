use Rattle.lb_step.specs.Snapshot.{snapshot_of}
use Rattle.lb_program_serve.proofs.Outputs.{served_nothing}
use Rattle.lb_program_serve.proofs.serving.serve_by.Goals as goal

pub returns-in-Err : goal.returns-in-Err
returns-in-Err g c = served_nothing (snapshot_of c.args.balancer) c.args.setup.log _ c.in-Err.fault
