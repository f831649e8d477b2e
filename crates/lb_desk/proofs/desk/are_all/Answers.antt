use Rattle.std.proofs.Common.{arith, rules, ◌∙◌}
use Rattle.std.proofs.lemmas.Bool.{false≢true}
use Rattle.lb_desk.proofs.desk.are_all.Goals as goal

pub returns-then-not-has_number-clause-found : goal.returns-then-not-has_number-clause-found
returns-then-not-has_number-clause-found g c all = absurd (false≢true (c.if-not-has_number.ensures ∙ all c.loop-number.number (search rules)))

pub returns-clause-all : goal.returns-clause-all
returns-clause-all g c is k within =
    let past = c.loop-number-test.false in
    c.loop-number.invariant k (omega (arith, within, past))
