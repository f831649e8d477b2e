use Rattle.std.proofs.Common.{◌≡◌, ◌∙◌, List, ℕ, [], ◌∷◌, ◌++◌, string_bytes, codes, subst, sym, ap, arith}
use Rattle.std.specs.Fmt.{decimal}
use Rattle.lb_step.specs.declared.command.Command.TheVariants as commands
use Rattle.lb_command.specs.Grammar.{◌▷◌, action, comma_list, command, covered, says, skips, term}
use Rattle.lb_command.specs.Values.{word_number}
use Rattle.lb_cache.specs.Skips.{each_once}
use Rattle.lb_typed.specs.Pieces.{Follows, Spells}
use Rattle.lb_typed.specs.Typed.{CanBeTyped, HasTypedNames, IsTypedAction, IsTypedCovered}
use Rattle.lb_typed.specs.Words.{Types}
use Rattle.lb_typed.proofs.CommandPieces as pieces
use Rattle.lb_typed.proofs.Texts.{holds}
use Rattle.lb_typed.proofs.commands.server_mode.Goals as goal

pub returns : goal.returns
returns c = holds string_bytes c.spaced-2.result (codes "server mode" ++ 32 ∷ (c.ident_word.result.now ++ 32 ∷ c.mode_word.result.now)) (λ text. Spells (command (commands.ServerMode c.args.name.now c.args.mode)) text)
    (pieces.server_mode c.args.name.now c.ident_word.result.now c.args.mode c.mode_word.result.now c.ident_word.ensures c.mode_word.ensures) (rw (c.as_str.ensures.value, c.in_ok-named.ensures) at c.spaced-2.ensures)
