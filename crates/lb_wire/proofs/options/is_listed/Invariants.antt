use Rattle.std.proofs.Common.{◌≡◌, ◌==◌, ◌≤◌, length, drop}
use Rattle.std.specs.List.{list_any}
use Rattle.lb_wire.proofs.options.is_listed.Given as goal

-- it is listed if it is listed from the place on
abbrev pub invariant-codes : goal.invariant-codes
invariant-codes l = (l.listed-index ≤ length l.skips) × (list_any (λ c. c == l.code) l.skips ≡ list_any (λ c. c == l.code) (drop l.listed-index l.skips))
