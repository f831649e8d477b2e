use Rattle.std.proofs.Common.{take, drop, sym}
use Rattle.std.proofs.lemmas.List.{take-append-drop}
use Rattle.lb_program.proofs.Outputs.{appends_kept}
use Rattle.lb_program.proofs.output.write_line.Goals as goal

pub returns-in_err-result-clause-front : goal.returns-in_err-result-clause-front
returns-in_err-result-clause-front g c =
    let n = c.write_bytes-result.result.0 in
    (drop n c.args.line.now, (take n c.args.line.now, sym (take-append-drop n c.args.line.now), c.write_bytes-result.ensures.front.1))

pub returns-clause-front : goal.returns-clause-front
returns-clause-front g c =
    let n = c.write_bytes-result.result.0 in
    (drop n c.args.line.now, (take n c.args.line.now, sym (take-append-drop n c.args.line.now), appends_kept _ _ _ _ c.write_bytes-result.ensures.front.1 c.flush.ensures.bytes))
