use Rattle.std.proofs.Common.{inl, inr}
use Rattle.lb_program_start.proofs.Unwritten.{keeps_same}
use Rattle.lb_program_start.proofs.program.serve_file.Goals as goal

pub returns-in-Ok : goal.returns-in-Ok
returns-in-Ok g c = inl (c.as_str.result.now, c.as_str.utf8, c.serve_told.ensures)

pub returns-in-Err : goal.returns-in-Err
returns-in-Err g c = inr (record {
  error = c.in-Err.error;
  status_is = c.tell_unreadable.ensures.status;
  unwritten = keeps_same _;
  said = c.tell_unreadable.ensures.told.0;
  says = c.tell_unreadable.ensures.told.1;
  tells = c.tell_unreadable.ensures.told.2;
})
