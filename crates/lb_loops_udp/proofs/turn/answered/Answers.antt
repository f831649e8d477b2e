use Rattle.std.proofs.Common.{[], ◌++◌, ◌∷◌, ap, arith, subst, ◌∙◌}
use Rattle.lb_loops_udp.specs.Turn.{asked_line}
use Rattle.lb_loops_io.specs.Letter.{Excuses}
use Rattle.lb_loops_io.specs.declared.report.Outcome.TheVariants.{Answered, Fault}
use Rattle.lb_loops_udp.proofs.Handling.{grows_none}
use Rattle.lb_loops_udp.proofs.turn.answered.Goals as goal

pub returns-in-Ok-clause-asked : goal.returns-in-Ok-clause-asked
returns-in-Ok-clause-asked g c =
    let answered = c.in-Ok.ensures.answered in record {
      outcome = Answered c.in-Ok.answer;
      put = c.add.ensures.put ∙ ap (λ e. c.args.lines.now.items ++ asked_line e (Answered c.in-Ok.answer) ∷ []) c.of-reported.ensures;
      is = tt;
      counted = answered.0;
      grows = answered.1;
    }

pub returns-in-Err-clause-asked : goal.returns-in-Err-clause-asked
returns-in-Err-clause-asked g c =
    let fault = c.in-Err.ensures.fault in
    let count = fault.0 in record {
      outcome = Fault c.in-Err.fault c.excuse.result;
      put = c.add-in-Err.ensures.put ∙ ap (λ e. c.args.lines.now.items ++ asked_line e (Fault c.in-Err.fault c.excuse.result) ∷ []) c.of-reported.ensures;
      is = subst (λ e. Excuses e c.excuse.result) fault.2 c.excuse.ensures;
      counted = omega arith;
      grows = grows_none _ _ fault.1;
    }
