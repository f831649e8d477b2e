use Rattle.std.proofs.Common.{List, ℕ, string_bytes, take}
use Rattle.lb_command.specs.Grammar.{comma_list, says}
use Rattle.lb_command.specs.Values.{word_number}
use Rattle.lb_typed.specs.Pieces.{Spells}
use Rattle.lb_typed.proofs.commands.codes_word.Given as goal

-- the codes so far are written
abbrev pub invariant-codes : goal.invariant-codes
invariant-codes l = Spells (comma_list (says word_number) (take l.place l.fn.codes)) (string_bytes l.text)
