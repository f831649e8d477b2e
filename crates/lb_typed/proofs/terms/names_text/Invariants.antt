use Rattle.std.proofs.Common.{◌≡◌, ◌≤◌, List, ℕ, string_bytes, length, take}
use Rattle.std.specs.List.{AllByRecursion}
use Rattle.lb_command.specs.Grammar.{comma_list, says}
use Rattle.lb_command.specs.Values.{name_of}
use Rattle.lb_typed.specs.Pieces.{Spells}
use Rattle.lb_typed.specs.Typed.{IsTypedName}
use Rattle.lb_typed.proofs.terms.names_text.Given as goal

-- the names so far are written
abbrev pub invariant-names : goal.invariant-names
invariant-names l = (length l.fn.names ≡ l.count) × (AllByRecursion IsTypedName l.fn.names → Spells (comma_list (says name_of) (take l.place l.fn.names)) (string_bytes l.text))
