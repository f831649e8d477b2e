use Rattle.std.proofs.Common.{◌≡◌, ◌+◌, List, ◌++◌, option_to_list, sym, ap, ◌∙◌, subst}
use Rattle.std.specs.Prelude.{Bool}
use Rattle.lb_loops_io.specs.declared.report.Line.{Line}
use Rattle.lb_loops_tcp.proofs.Turning.{turns_round}
use Rattle.lb_loops_tcp.specs.Ends.{is_blinded}
use Rattle.lb_loops_tcp.specs.Steps as steps
use Rattle.lb_loops_tcp.specs.Turn.{Turns}
use Rattle.lb_loops_tcp.proofs.streams.StreamLoop.one_round.Goals as goal

pub returns-clause-turned : goal.returns-clause-turned
returns-clause-turned g c = λ first n before.
    let roster = c.args.roster.now.listed in
    let ls : List Line = c.args.lines.now.items in
    let js : List Line = option_to_list c.next_job-job.result in
    let es : List Line = steps.lines_of c.one_event-step.result in
    let all : c.add_line-2.new.lines.items ≡ (ls ++ js) ++ es =
    c.add_line-2.ensures.lines ∙ ap (λ zs. zs ++ option_to_list c.line_of.result) c.add_line.ensures.lines ∙ ap (λ zs. (ls ++ js) ++ zs) c.line_of.ensures in
    subst (λ (zs : List Line). Turns roster (n + 1) (n + 1) first c.one_event-step.new.self zs (is_blinded c.end_after-end.result)) (sym all)
    (subst (λ (b : Bool). Turns roster (n + 1) (n + 1) first c.one_event-step.new.self ((ls ++ js) ++ es) b) (sym c.end_after-end.ensures)
    (turns_round roster n first c.args.self.now c.next_job-job.new.self c.next_arrival-coming.new.self c.one_event-step.new.self ls js es (steps.is_blind c.one_event-step.result) before c.next_job-job.ensures.turns c.next_arrival-coming.ensures.turns c.one_event-step.ensures.turns))
