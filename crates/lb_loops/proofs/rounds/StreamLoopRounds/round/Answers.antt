use Rattle.std.proofs.Common.{rules, ◌≡◌, ◌≤◌, sym, ◌∙◌, subst}
use Rattle.lb_loops.specs.Running.{ReceivesOn, StreamsGoOn}
use Rattle.lb_loops.proofs.Continuing.{turn_receives}
use Rattle.lb_loops.proofs.rounds.StreamLoopRounds.round.Goals as goal
use Rattle.lb_loops.proofs.rounds.StreamLoopRounds.round.Goals.{then-is_idle+in_ok-wait, else-is_idle}

pub returns : goal.returns
returns g c =
    let turned : ReceivesOn c.args.self.now.jobs c.stream_turn.new.streams.jobs = turn_receives c.args.roster.now.listed _ _ _ c.in-Ok.ensures.turned in
    let more : c.args.self.now.answered ≤ c.stream_turn.new.streams.answered = search rules in
    let kept : c.stream_turn.new.streams ≡ c.if-is_idle.self = elim c.if-is_idle.branch [ then-is_idle+in_ok-wait w ↦ search rules | else-is_idle w ↦ search rules ] in
    subst (StreamsGoOn c.args.self.now) kept (more, turned)

pub returns-in_err-wait : goal.returns-in_err-wait
returns-in_err-wait g c =
    let turned : ReceivesOn c.args.self.now.jobs c.stream_turn.new.streams.jobs = turn_receives c.args.roster.now.listed _ _ _ c.in-Ok.ensures.turned in
    let more : c.args.self.now.answered ≤ c.stream_turn.new.streams.answered = search rules in
    subst (StreamsGoOn c.args.self.now) (sym (c.in_err-wait.ensures ∙ c.take_back.ensures)) (more, turned)
