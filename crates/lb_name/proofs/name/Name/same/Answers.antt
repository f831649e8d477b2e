use Rattle.lb_name.proofs.LowerName.{same_from_wires, wires_from_same}
use Rattle.lb_name.proofs.name.Name.same.Goals as goal

pub returns : goal.returns
returns c =
    let there = rw (c.as_slice-ours.ensures.value, c.as_slice-others.ensures.value) at c.eq_ignore_ascii_case.ensures.test in
    rw (← c.self.view_is, ← c.other.view_is)
    (λ yes. same_from_wires _ _ c.self.invariant c.other.invariant (there.0 yes), λ same. there.1 (wires_from_same _ _ c.self.invariant c.other.invariant same))
