use Rattle.std.proofs.Common.{◌≡◌, ◌∙◌, List, ℕ, length, ap, arith}
use Rattle.lb_name.proofs.Names.{IsWire-read, labels_of-read}
use Rattle.lb_name.proofs.name.Name.of_wire.Goals as goal

pub copied-requires : goal.copied-requires
copied-requires c = omega (arith, ap (λ (xs : List ℕ). length xs) c.requires.2, c.requires.1.fits)

pub invariant_of-result : goal.invariant_of-result
invariant_of-result c = IsWire-read _ _ c.requires.1 (c.copied.ensures ∙ c.requires.2)

pub returns : goal.returns
returns c = λ labels name is. labels_of-read _ _ name (c.copied.ensures ∙ is)
