use Rattle.std.proofs.Common.{◌≡◌, ◌≤◌, drop, length}
use Rattle.lb_cache.specs.Skips.{each_once, listed_after}
use Rattle.lb_cache.proofs.skips.Skips.from_codes.Given as goal

-- what is left is listed as the whole is, and no more codes are listed than there were
abbrev pub invariant-loop-code : goal.invariant-loop-code
invariant-loop-code l = (listed_after l.skips (drop l.code-index l.codes) ≡ each_once l.codes) × (length l.skips ≤ l.code-index)
