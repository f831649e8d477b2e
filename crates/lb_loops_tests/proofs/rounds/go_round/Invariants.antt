use Rattle.lb_step.specs.Snapshot.{snapshot_of}
use Rattle.lb_loops_tests.proofs.rounds.go_round.Given as goal

abbrev pub ghosts-gone_round-J-Ledger : goal.ghosts-gone_round-J-Ledger
ghosts-gone_round-J-Ledger g a = record { name = a.blank.name; parts = a.blank.parts }

abbrev pub ghosts-gone_round-J-Naming : goal.ghosts-gone_round-J-Naming
ghosts-gone_round-J-Naming g a = record { seats = a.size.0; limit = a.size.1; opening = snapshot_of a.balancer }
