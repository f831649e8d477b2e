use Rattle.lb_step.specs.Snapshot.{snapshot_of}
use Rattle.lb_loops_scenes.proofs.desk.play_at_desk.Given as goal

abbrev pub ghosts-play_at-J-Ledger : goal.ghosts-play_at-J-Ledger
ghosts-play_at-J-Ledger g a = record { name = a.blank.name; parts = a.blank.parts }

abbrev pub ghosts-play_at-J-Naming : goal.ghosts-play_at-J-Naming
ghosts-play_at-J-Naming g a = record { seats = 4; limit = 1000; opening = snapshot_of a.balancer }
