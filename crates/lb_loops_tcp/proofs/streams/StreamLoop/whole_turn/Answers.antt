use Rattle.std.proofs.Common.{List, arith, sym, ap, ◌∙◌, subst, inl}
use Rattle.std.specs.Prelude.{Option}
use Rattle.lb_loops_io.specs.Lines.{FirstFault}
use Rattle.lb_loops_io.specs.declared.report.DeviceFault.{DeviceFault}
use Rattle.lb_loops_io.specs.declared.report.Line.{Line}
use Rattle.lb_loops_tcp.proofs.Pieces.{told_reads}
use Rattle.lb_loops_tcp.proofs.Turning.{went, went_first, went_settles}
use Rattle.lb_loops_tcp.specs.Ends.{first_device, is_blind}
use Rattle.lb_loops_tcp.specs.Turn.{Turned}
use Rattle.lb_loops_tcp.specs.World.{World}
use Rattle.lb_loops_tcp.proofs.streams.StreamLoop.whole_turn.Goals as goal

pub returns-clause-turned : goal.returns-clause-turned
returns-clause-turned g c =
    subst (λ (zs : List Line). Turned c.args.roster.now.listed c.args.self.now c.write_all.new.self zs) (sym (ap (λ v. v.items) c.report-2.ensures.lines.0))
    (inl (went c.args.roster.now.listed c.args.self.now c.begin.new.self c.follow.new.self c.all_rounds-end.new.self c.write_all.new.self c.begin.new.self.net c.in-Some.now c.in-Some.ensures.said.0 c.all_rounds-end.new.lines.items
    (is_blind c.all_rounds-end.result) c.in-Some.ensures.sweeps c.in-Some.ensures.said.1 c.follow.ensures.goes c.follow.ensures.settles c.follow.ensures.same c.all_rounds-end.ensures.turns c.write_all.ensures.goes c.write_all.ensures.settles c.write_all.ensures.same))

pub returns-clause-closed : goal.returns-clause-closed
returns-clause-closed g c =
    went_settles c.args.roster.now.listed c.args.self.now c.write_all.new.self c.all_rounds-end.new.lines.items
    (went c.args.roster.now.listed c.args.self.now c.begin.new.self c.follow.new.self c.all_rounds-end.new.self c.write_all.new.self c.begin.new.self.net c.in-Some.now c.in-Some.ensures.said.0 c.all_rounds-end.new.lines.items
    (is_blind c.all_rounds-end.result) c.in-Some.ensures.sweeps c.in-Some.ensures.said.1 c.follow.ensures.goes c.follow.ensures.settles c.follow.ensures.same c.all_rounds-end.ensures.turns c.write_all.ensures.goes c.write_all.ensures.settles c.write_all.ensures.same)

pub returns-clause-device : goal.returns-clause-device
returns-clause-device g c =
    let old : World = c.args.self.now in
    let new : World = c.write_all.new.self in
    subst (λ (d : Option DeviceFault). FirstFault d old.net.told.failures new.net.told.failures old.outside new.outside)
    (ap (first_device (is_blind c.all_rounds-end.result)) (sym c.device-2.ensures) ∙ sym c.report-2.ensures.device)
    (went_first c.args.roster.now.listed old c.begin.new.self c.follow.new.self c.all_rounds-end.new.self new c.begin.new.self.net c.in-Some.now c.in-Some.ensures.said.0 c.all_rounds-end.new.lines.items
    (is_blind c.all_rounds-end.result) c.in-Some.ensures.sweeps c.in-Some.ensures.said.1 c.follow.ensures.goes c.follow.ensures.settles c.follow.ensures.same c.all_rounds-end.ensures.turns c.write_all.ensures.goes c.write_all.ensures.settles c.write_all.ensures.same)

pub returns-clause-reads : goal.returns-clause-reads
returns-clause-reads g c =
    let swept = ap told_reads c.in-Some.ensures.sweeps.told in
    let followed = c.follow.ensures.reads in
    let rounds = c.all_rounds-end.ensures.reads in
    let wrote = c.write_all.ensures.reads in
    omega (arith, swept, followed, rounds, wrote)
