use Rattle.lb_step.specs.Snapshot.{snapshot_of}
use Rattle.lb_program_serve.proofs.desk.serve_at_desk.Given as goal

abbrev pub ghosts-serve_named-J-Ledger : goal.ghosts-serve_named-J-Ledger
ghosts-serve_named-J-Ledger g a = record { name = a.blank.name; parts = a.blank.parts }

abbrev pub ghosts-serve_named-J-Naming : goal.ghosts-serve_named-J-Naming
ghosts-serve_named-J-Naming g a = record { seats = a.count; limit = a.ready.plan.setup.log; opening = snapshot_of a.balancer }
