use Rattle.std.proofs.Common.{rules, refl, ap, arith}
use Rattle.lb_loops_clock.specs.Acts.{setting}
use Rattle.lb_loops_clock.proofs.Going.{goes_on, steps_blind, steps_cut, steps_done}
use Rattle.lb_loops_clock.proofs.Probing.{each_same}
use Rattle.lb_loops_probes.specs.Probes.{IsAsked, IsTimely}
use Rattle.lb_loops_clock.proofs.clock.ClockLoop.all_steps.Goals as goal

pub returns-in_default : goal.returns-in_default
returns-in_default g c = steps_blind c.args.roster.now _ _ _ _ _ _ c.in_default.ensures.blind (ap (λ v. v.items) c.note.ensures.same.0) c.note.ensures.device

pub returns-in-Some-read_all : goal.returns-in-Some-read_all
returns-in-Some-read_all g c = let begins = c.in-Some.ensures.begins in steps_cut c.args.roster.now c.in-Some.begun begins.0 _ _ _ _ _ _ _ _ begins.1 begins.2 (c.in-Some-read_all.ensures.goes (setting c.args.roster.now c.in-Some.begun))

pub returns-in-Some-end_all : goal.returns-in-Some-end_all
returns-in-Some-end_all g c =
    let begins = c.in-Some.ensures.begins in
    let r = c.args.roster.now in
    let on = setting r c.in-Some.begun in
    steps_cut r c.in-Some.begun begins.0 _ _ _ _ _ _ _ _ begins.1 begins.2 (goes_on on 64 0 _ _ _ _ _ _ _ _ _ _ (c.in_default-read_all.ensures.goes on) (c.in-Some-end_all.ensures.goes r))

pub returns-in-Some-probe_all : goal.returns-in-Some-probe_all
returns-in-Some-probe_all g c =
    let begins = c.in-Some.ensures.begins in
    let r = c.args.roster.now in
    let on = setting r c.in-Some.begun in
    steps_cut r c.in-Some.begun begins.0 _ _ _ _ _ _ _ _ begins.1 begins.2 (goes_on on 64 0 _ _ _ _ _ _ _ _ _ _ (goes_on on 64 0 _ _ _ _ _ _ _ _ _ _ (c.in_default-read_all.ensures.goes on) (c.in_default-end_all.ensures.goes r)) c.in-Some-probe_all.ensures.goes)

pub returns : goal.returns
returns g c =
    let begins = c.in-Some.ensures.begins in
    let r = c.args.roster.now in
    let on = setting r c.in-Some.begun in
    let same = c.tick_all.ensures.same in
    let sent = same.2 in
    steps_done r c.in-Some.begun begins.0 _ _ _ _ _ _ _ _ c.tick_all.new.tally.events c.tick_all.new.tally.probes begins.1 begins.2
    (goes_on on 64 0 _ _ _ _ _ _ _ _ _ _ (goes_on on 64 0 _ _ _ _ _ _ _ _ _ _ (goes_on on 64 0 _ _ _ _ _ _ _ _ _ _ (c.in_default-read_all.ensures.goes on) (c.in_default-end_all.ensures.goes r)) c.in_default-probe_all.ensures.goes) (c.tick_all.ensures.goes on))
    c.tick_all.ensures.rests (search rules) (search rules)
    (each_same (IsTimely c.in-Some.begun) _ _ _ _ same.1 (ap (λ p. p.watched) same.0) (c.in_default-probe_all.ensures.timely refl (c.in_default-end_all.ensures.timely refl)))
    (each_same (IsAsked r.listed c.in-Some.begun) _ _ _ _ (omega (arith, sent)) (ap (λ p. p.watched) same.0) (c.in_default-probe_all.ensures.asked refl))
