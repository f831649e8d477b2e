use Rattle.lb_name.proofs.LowerName.{Walks-more, longer, under_test}
use Rattle.lb_name.proofs.labels.is_wire_under.Goals as goal

pub labels-preserved : goal.labels-preserved
labels-preserved c =
    let more = longer _ _ c.labels.invariant.0 c.requires.other c.labels-test.true in
    (c.in-Some.ensures.rest, Walks-more _ _ _ _ _ c.labels.invariant.1 c.in-Some.ensures.first more)

pub returns : goal.returns
returns c =
    under_test _ _ _ _ c.labels.invariant.0 c.requires.other c.labels.invariant.1 c.labels-test.false c.eq_ignore_ascii_case.ensures.test
