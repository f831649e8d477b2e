use Rattle.lb_command.proofs.Said.{equal_lines}
use Rattle.lb_command.proofs.laws.equal_lines_mean_equal_answers.Goals as goal

pub returns : goal.returns
returns c = equal_lines c.args.a.now c.args.b.now c.answer_fits.ensures c.answer_fits-2.ensures
