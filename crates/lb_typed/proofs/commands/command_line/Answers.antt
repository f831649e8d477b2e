use Rattle.std.proofs.Common.{◌≡◌, ◌≤◌, ◌∙◌, length, List, ℕ, [], ◌∷◌, ◌++◌, string_bytes, codes, subst, sym, ap, arith}
use Rattle.std.specs.Fmt.{decimal}
use Rattle.lb_step.specs.declared.command.Command.TheVariants as commands
use Rattle.lb_command.specs.Grammar.{◌▷◌, IsCommand, action, comma_list, command, covered, says, skips, term}
use Rattle.lb_command.specs.Reading.{max_line}
use Rattle.lb_command.specs.Values.{word_number}
use Rattle.lb_cache.specs.Skips.{each_once}
use Rattle.lb_typed.specs.Options.{choices_of}
use Rattle.lb_typed.specs.Pieces.{Follows, Spells}
use Rattle.lb_typed.specs.Typed.{CanBeTyped, HasTypedNames, IsTypedAction, IsTypedCovered}
use Rattle.lb_typed.specs.Words.{Types}
use Rattle.lb_typed.proofs.CommandPieces as pieces
use Rattle.lb_typed.proofs.Texts.{holds, weaker}
use Rattle.lb_typed.proofs.commands.command_line.Goals as goal

pub returns : goal.returns
returns c =
    let what = c.args.what.now in
    weaker (λ text. CanBeTyped what → Spells (command what) (string_bytes text)) (λ text. CanBeTyped what → length (string_bytes text) ≤ max_line → IsCommand (string_bytes text) what) c.command_text.result
    (λ text spells can short. (pieces.is_said (command what) (string_bytes text) (spells can) short, c.law_of_command.ensures can)) c.command_text.ensures
