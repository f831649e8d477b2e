use Rattle.std.proofs.Common.{List, ℕ, string_bytes, take}
use Rattle.lb_command.specs.Grammar.{comma_list, says}
use Rattle.lb_command.specs.Values.{mask_of}
use Rattle.lb_typed.specs.Pieces.{Spells}
use Rattle.lb_typed.proofs.terms.masks_text.Given as goal

-- the masks so far are written
abbrev pub invariant-masks : goal.invariant-masks
invariant-masks l = Spells (comma_list (says mask_of) (take l.place l.fn.masks)) (string_bytes l.text)
