use Rattle.std.proofs.Common.{sym, subst, List, ℕ}
use Rattle.lb_program.specs.Checking.{Shows, ShowsLine}
use Rattle.lb_program.proofs.Checked.{line_written}
use Rattle.lb_program.proofs.checking.check_lines.Goals as goal

pub returns : goal.returns
returns g c =
    let shown = subst (λ (bytes : List ℕ). ShowsLine c.in_ok-balancer.balancer bytes) (sym c.as_bytes.ensures.value) c.in_ok-line.ensures in
    let shows : Shows c.args.text.now c.as_bytes.result.now = record { stated = c.in_ok-balancer.field-0-0; end = c.in_ok-balancer.balancer; applied = c.in_ok-balancer.ensures; shows = shown } in
    rw c.as_stop.ensures.end (line_written _ _ _ _ _ shows c.write_line.ensures.front c.write_line.ensures.all)
