use Rattle.std.proofs.Common.{◌≡◌, Some, sym, ap, ◌∙◌}
use Rattle.std.proofs.lemmas.Bool.{ltb-true}
use Rattle.lb_wire.specs.Opt.{least_ttl}
use Rattle.lb_wire.specs.Message.{Message}
use Rattle.lb_wire.specs.declared.tally.Survey.{Survey}
use Rattle.lb_bench.proofs.messages.outlives_a_second.Goals as goal

pub returns-in-Some-least_all : goal.returns-in-Some-least_all
returns-in-Some-least_all c = λ yes.
    let s = c.in-Some.ensures in
    let m : Message = s.0 in
    let least : least_ttl m.records ≡ Some c.in-Some-least_all.least = ap (λ (x : Survey). x.least_all) (sym s.2) ∙ c.in-Some-least_all.is in
    (m, s.1, c.least_is_outlived.ensures 1 _ m.records least (ltb-true 0 c.in-Some-least_all.least yes))
