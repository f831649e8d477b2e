use Rattle.std.proofs.Common.{◌≡◌, ◌≤◌, ◌∙◌, length, List, ℕ, [], ◌∷◌, ◌++◌, string_bytes, codes, subst, sym, ap, arith}
use Rattle.std.specs.Fmt.{decimal}
use Rattle.lb_step.specs.declared.command.Command.TheVariants as commands
use Rattle.lb_command.specs.Grammar.{◌▷◌, IsCommand, action, comma_list, command, covered, says, skips, term}
use Rattle.lb_command.specs.Reading.{max_line}
use Rattle.lb_command.specs.Values.{word_number}
use Rattle.lb_cache.specs.Skips.{each_once}
use Rattle.lb_typed.specs.Options.{choices_of}
use Rattle.lb_typed.specs.Pieces.{Follows, Spells}
use Rattle.lb_typed.specs.Typed.{CanBeTyped, HasTypedNames, IsTypedAction, IsTypedCovered}
use Rattle.lb_typed.specs.Words.{Types}
use Rattle.lb_typed.proofs.CommandPieces as pieces
use Rattle.lb_typed.proofs.Texts.{holds, weaker}
use Rattle.lb_typed.proofs.commands.expunge.Goals as goal

pub returns : goal.returns
returns c =
    let what = c.args.what.now in
    let what_text = string_bytes c.in_ok-what.what in
    holds string_bytes c.spaced-2.result (codes "expunge" ++ 32 ∷ (c.pool_word.result.now ++ 32 ∷ what_text)) (λ text. IsTypedCovered what → Spells (command (commands.Expunge c.args.name.now what)) text)
    (λ is. pieces.expunge c.args.name.now what c.pool_word.result.now what_text c.pool_word.ensures (c.in_ok-what.ensures is))
    (rw (c.as_str-2.ensures.value, c.in_ok-named.ensures, c.as_str.ensures.value) at c.spaced-2.ensures)
