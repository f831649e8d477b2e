use Rattle.std.proofs.Common.{◌∙◌, ◌==◌, ap, List, ℕ, ◌++◌}
use Rattle.std.specs.Io.Buffered.{reader_buffer, reader_capacity, reader_inner, reader_remaining}
use Rattle.lb_program.proofs.Outputs.{keeps_same}
use Rattle.lb_program.proofs.Takes.{line_at_hand}
use Rattle.lb_program.proofs.shown.take_shown.Goals as goal
use Rattle.lb_program.proofs.shown.take_shown.Goals.{then-is_empty+in_ok-fill_buf, else-is_empty}

pub returns-in_ok-extend_from_slice-in-Some-clause-ok : goal.returns-in_ok-extend_from_slice-in-Some-clause-ok
returns-in_ok-extend_from_slice-in-Some-clause-ok g c =
    let known = reader_remaining g.R.Read.remaining in
    let old = known c.args.input.now in
    let mid = c.if-is_empty.input in
    let found = c.in-Some.ensures.found in
    let moved = c.in_ok-extend_from_slice-in-Some.ensures.items ∙ ap (λ (xs : List ℕ). c.args.bytes.now.items ++ xs) c.split_at.ensures.front in
    let taken = line_at_hand old (g.R.Read.remaining (reader_inner mid)) _ (reader_capacity mid == 0) (reader_buffer mid) c.buffer-shown.result.now c.args.bytes.now.items _ c.in-Some.len in
    elim c.if-is_empty.branch [
      | then-is_empty+in_ok-fill_buf w ↦
          let kept = rw w.in_ok-fill_buf.was at w.fill_buf.follows.holds-at-none in
          taken (rw w.input-is kept.0) c.buffer-shown.ensures c.consume.ensures.bytes found.0 found.1 found.2 moved
      | else-is_empty w ↦ taken (rw w.input-is (keeps_same old)) c.buffer-shown.ensures c.consume.ensures.bytes found.0 found.1 found.2 moved
    ]
