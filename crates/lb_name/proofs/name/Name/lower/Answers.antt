use Rattle.std.proofs.Common.{◌∙◌, List, ℕ, ap}
use Rattle.lb_name.specs.Name.{lower_name}
use Rattle.lb_name.proofs.Names.{IsName-lower, IsWire-read, labels_of-read}
use Rattle.lb_name.proofs.LowerName.{lowered}
use Rattle.lb_name.proofs.name.Name.lower.Goals as goal

pub invariant_of-result : goal.invariant_of-result
invariant_of-result c =
    let name = IsName-lower _ c.self.invariant.is_name in
    IsWire-read _ _ name (lowered _ _ _ _ c.self.invariant (c.copied-wire.ensures ∙ c.as_slice.ensures.value) c.as_mut_slice.ensures.value c.make_ascii_lowercase.ensures.after)

pub returns : goal.returns
returns c =
    let name = IsName-lower _ c.self.invariant.is_name in
    let is = lowered _ _ _ _ c.self.invariant (c.copied-wire.ensures ∙ c.as_slice.ensures.value) c.as_mut_slice.ensures.value c.make_ascii_lowercase.ensures.after in
    labels_of-read _ _ name is ∙ ap (λ (ls : List (List ℕ)). lower_name ls) c.self.view_is
