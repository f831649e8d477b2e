use Rattle.std.proofs.Common.{◌≡◌, ◌∙◌, List, ℕ, [], ◌∷◌, ◌++◌, string_bytes, codes, subst, sym, ap, arith}
use Rattle.std.specs.Fmt.{decimal}
use Rattle.lb_step.specs.declared.command.Command.TheVariants as commands
use Rattle.lb_command.specs.Grammar.{◌▷◌, action, comma_list, command, covered, says, skips, term}
use Rattle.lb_command.specs.Values.{word_number}
use Rattle.lb_cache.specs.Skips.{each_once}
use Rattle.lb_typed.specs.Pieces.{Follows, Spells}
use Rattle.lb_typed.specs.Typed.{CanBeTyped, HasTypedNames, IsTypedAction, IsTypedCovered}
use Rattle.lb_typed.specs.Words.{Types}
use Rattle.lb_typed.proofs.CommandPieces as pieces
use Rattle.lb_typed.proofs.Texts.{holds}
use Rattle.lb_typed.proofs.commands.codes_word.Goals as goal
use Rattle.lb_typed.proofs.Sets.{first_typed, next_typed}

pub codes-init : goal.codes-init
codes-init c = first_typed word_number 0 c.args.codes.now (string_bytes c.in_ok-text.text) (omega (arith, c.in-len1-up.len_at_least)) c.in_ok-text.ensures

pub codes-preserved : goal.codes-preserved
codes-preserved c = next_typed word_number 0 c.args.codes.now c.codes.place (string_bytes c.codes.text) (string_bytes c.in_ok-word.word) (string_bytes c.push_word.new.text) (omega (arith, c.codes-test.true)) c.codes.invariant c.in_ok-word.ensures (rw c.as_str.ensures.value at c.in_ok-push_word.ensures)
