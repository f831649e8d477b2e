use Rattle.std.proofs.Common.{arith}
use Rattle.lb_program.proofs.Outputs.{appends_kept, appends_taken}
use Rattle.lb_program.proofs.output.write_bytes.Goals as goal
use Rattle.lb_program.proofs.output.write_bytes.Goals.{in-Ok, in-Err}

pub writes-preserved : goal.writes-preserved
writes-preserved g c =
    elim c.match-write.branch [
      | in-Ok w ↦
          let more = appends_taken _ _ _ c.writes.written w.in-Ok.len c.args.bytes.now c.split_at.result.1.now c.writes.invariant.1 w.in-Ok.ensures.bytes c.split_at.ensures.back in
          rw w.written-is (omega (arith, c.writes.invariant.0, w.in-Ok.ensures.bound, c.split_at.ensures.back_len), more)
      | in-Err w ↦ rw w.written-is (c.writes.invariant.0, appends_kept _ _ _ _ c.writes.invariant.1 w.in-Err.ensures.bytes)
    ]
