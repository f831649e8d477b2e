use Rattle.std.proofs.Common.{◌≡◌, ◌≤◌, drop}
use Rattle.lb_masks.specs.Number.{number_up_to}
use Rattle.lb_masks.proofs.Digits.{rest_up_to}
use Rattle.lb_masks.proofs.number.number_up_to.Given as goal

abbrev pub invariant-digits : goal.invariant-digits
invariant-digits l =
    (l.number ≤ l.most) × (rest_up_to l.radix l.most l.number (drop l.byte-index l.text) ≡ number_up_to l.radix l.most l.text)
