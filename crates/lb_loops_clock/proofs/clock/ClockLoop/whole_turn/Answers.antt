use Rattle.lb_loops_clock.proofs.Going.{turned_by}
use Rattle.lb_loops_clock.proofs.clock.ClockLoop.whole_turn.Goals as goal

pub returns-clause-turned : goal.returns-clause-turned
returns-clause-turned g c =
    turned_by c.args.roster.now c.args.self.now c.all_steps-end.new.self c.args.tally.lines.items c.all_steps-end.new.tally.lines.items c.report.result.lines.items c.args.tally.device c.all_steps-end.new.tally.device c.report.result.device c.report.result.is_held c.all_steps-end.result
    c.requires.empty.0 c.requires.empty.1 c.report.ensures.same.0 c.report.ensures.same.1 c.report.ensures.held c.all_steps-end.ensures c.report.ensures.few.0 c.report.ensures.few.1
