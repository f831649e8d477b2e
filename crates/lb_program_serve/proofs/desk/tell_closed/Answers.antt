use Rattle.lb_program_serve.proofs.Outputs.{served_closed}
use Rattle.lb_program_serve.proofs.desk.tell_closed.Goals as goal

pub returns : goal.returns
returns g c =
    let front = rw (c.as_slice-2.ensures.value, c.closed_line-line.ensures) at c.write_line.ensures.front in
    let whole = rw (c.as_slice-2.ensures.value, c.closed_line-line.ensures) at c.write_line.ensures.all in
    λ old opening limit closes ready. rw c.told.ensures (served_closed opening limit c.args.count old _ _ c.write_line.result closes ready front whole)
