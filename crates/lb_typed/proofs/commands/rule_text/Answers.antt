use Rattle.std.proofs.Common.{◌≡◌, ◌∙◌, List, ℕ, [], ◌∷◌, ◌++◌, string_bytes, codes, subst, sym, ap, arith}
use Rattle.std.specs.Fmt.{decimal}
use Rattle.lb_step.specs.declared.command.Command.TheVariants as commands
use Rattle.lb_command.specs.Grammar.{◌▷◌, action, comma_list, command, covered, says, skips, term}
use Rattle.lb_command.specs.Values.{word_number}
use Rattle.lb_cache.specs.Skips.{each_once}
use Rattle.lb_typed.specs.Pieces.{Follows, Spells}
use Rattle.lb_typed.specs.Typed.{CanBeTyped, HasTypedNames, IsTypedAction, IsTypedCovered}
use Rattle.lb_typed.specs.Words.{Types}
use Rattle.lb_typed.proofs.CommandPieces as pieces
use Rattle.lb_typed.proofs.Texts.{holds}
use Rattle.lb_typed.proofs.commands.rule_text.Goals as goal
use Rattle.lb_typed.proofs.Checked.{checked_is_typed}
use Rattle.lb_typed.proofs.Spelled.{spaced}

pub returns : goal.returns
returns c =
    let rule = c.args.rule.now in
    let t = string_bytes c.in_ok-term.term in
    let a = string_bytes c.in_ok-action.action in
    holds string_bytes c.spaced.result (t ++ 32 ∷ a) (λ text. HasTypedNames rule.term → IsTypedAction rule.action → Spells (term rule.term ▷ action rule.action) text)
    (λ names code. spaced (term rule.term) (action rule.action) t a (rw c.as_term.ensures.term at c.in_ok-term.ensures (checked_is_typed rule.term c.as_term.ensures.within names)) (c.in_ok-action.ensures code))
    (rw (c.as_str.ensures.value, c.as_str-2.ensures.value) at c.spaced.ensures)
