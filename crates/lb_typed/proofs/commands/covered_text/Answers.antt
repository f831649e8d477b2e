use Rattle.std.proofs.Common.{◌≡◌, ◌≤◌, ◌∙◌, length, List, ℕ, [], ◌∷◌, ◌++◌, string_bytes, codes, subst, sym, ap, arith}
use Rattle.std.specs.Fmt.{decimal}
use Rattle.lb_step.specs.declared.command.Command.TheVariants as commands
use Rattle.lb_command.specs.Grammar.{◌▷◌, IsCommand, action, comma_list, command, covered, says, skips, term}
use Rattle.lb_command.specs.Reading.{max_line}
use Rattle.lb_command.specs.Values.{word_number}
use Rattle.lb_cache.specs.Skips.{each_once}
use Rattle.lb_typed.specs.Options.{choices_of}
use Rattle.lb_typed.specs.Pieces.{Follows, Spells}
use Rattle.lb_typed.specs.Typed.{CanBeTyped, HasTypedNames, IsTypedAction, IsTypedCovered}
use Rattle.lb_typed.specs.Words.{Types}
use Rattle.lb_typed.proofs.CommandPieces as pieces
use Rattle.lb_typed.proofs.Texts.{holds, weaker}
use Rattle.lb_typed.proofs.commands.covered_text.Goals as goal
use Rattle.lb_typed.proofs.Keywords as words

pub returns-in-Name : goal.returns-in-Name
returns-in-Name c = rw c.in-Name.is c.named_text.ensures

pub returns-in_ok-name-in-Suffix : goal.returns-in_ok-name-in-Suffix
returns-in_ok-name-in-Suffix c =
    let text = string_bytes c.in_ok-name-in-Suffix.name in
    holds string_bytes c.spaced.result (codes "suffix" ++ 32 ∷ text) (λ bytes. IsTypedCovered c.args.what.now → Spells (covered c.args.what.now) bytes)
    (rw c.in-Suffix.is (λ is. pieces.by_suffix c.in-Suffix.name text (c.in_ok-name-in-Suffix.ensures is))) (rw c.as_str.ensures.value at c.spaced.ensures)

pub returns-in-All : goal.returns-in-All
returns-in-All c = holds string_bytes c.from_str.result (codes "all") (λ text. IsTypedCovered c.args.what.now → Spells (covered c.args.what.now) text) (rw c.in-All.is (λ is. words.all_word)) c.from_str.ensures.ok
