use Rattle.std.proofs.Common.{◌≡◌, ◌≤◌, ◌∙◌, length, List, ℕ, [], ◌∷◌, ◌++◌, string_bytes, codes, subst, sym, ap, arith}
use Rattle.std.specs.Fmt.{decimal}
use Rattle.lb_step.specs.declared.command.Command.TheVariants as commands
use Rattle.lb_command.specs.Grammar.{◌▷◌, IsCommand, action, comma_list, command, covered, says, skips, term}
use Rattle.lb_command.specs.Reading.{max_line}
use Rattle.lb_command.specs.Values.{word_number}
use Rattle.lb_cache.specs.Skips.{each_once}
use Rattle.lb_typed.specs.Options.{choices_of}
use Rattle.lb_typed.specs.Pieces.{Follows, Spells}
use Rattle.lb_typed.specs.Typed.{CanBeTyped, HasTypedNames, IsTypedAction, IsTypedCovered}
use Rattle.lb_typed.specs.Words.{Types}
use Rattle.lb_typed.proofs.CommandPieces as pieces
use Rattle.lb_typed.proofs.Texts.{holds, weaker}
use Rattle.lb_typed.proofs.commands.command_text.Goals as goal
use Rattle.lb_typed.proofs.Keywords as words

pub returns-in-RuleAdd : goal.returns-in-RuleAdd
returns-in-RuleAdd c = rw c.in-RuleAdd.is c.rule_add.ensures

pub returns-in-CacheAttach : goal.returns-in-CacheAttach
returns-in-CacheAttach c = rw c.in-CacheAttach.is c.cache_attach.ensures

pub returns-in-Show : goal.returns-in-Show
returns-in-Show c = holds string_bytes c.from_str.result (codes "show") (λ text. CanBeTyped c.args.what.now → Spells (command c.args.what.now) text) (rw c.in-Show.is (λ is. words.show_word)) c.from_str.ensures.ok
