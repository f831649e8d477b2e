use Rattle.std.proofs.Common.{◌≡◌, ◌≤◌, ◌∙◌, length, List, ℕ, [], ◌∷◌, ◌++◌, string_bytes, codes, subst, sym, ap, arith}
use Rattle.std.specs.Fmt.{decimal}
use Rattle.lb_step.specs.declared.command.Command.TheVariants as commands
use Rattle.lb_command.specs.Grammar.{◌▷◌, IsCommand, action, comma_list, command, covered, says, skips, term}
use Rattle.lb_command.specs.Reading.{max_line}
use Rattle.lb_command.specs.Values.{word_number}
use Rattle.lb_cache.specs.Skips.{each_once}
use Rattle.lb_typed.specs.Options.{choices_of}
use Rattle.lb_typed.specs.Pieces.{Follows, Spells}
use Rattle.lb_typed.specs.Typed.{CanBeTyped, HasTypedNames, IsTypedAction, IsTypedCovered}
use Rattle.lb_typed.specs.Words.{Types}
use Rattle.lb_typed.proofs.CommandPieces as pieces
use Rattle.lb_typed.proofs.Texts.{holds, weaker}
use Rattle.lb_typed.proofs.commands.server_add.Goals as goal
use Rattle.lb_typed.specs.Addrs.{TypesAddr}
use Rattle.lb_typed.proofs.Numbers.{port}

pub returns : goal.returns
returns c =
    let spec = c.args.spec.now in
    let check = c.args.check.now in
    let name = c.ident_word.result.now in
    let addr = string_bytes c.in_ok-addr.addr in
    let rest = string_bytes c.in_ok-options.options in
    holds string_bytes c.spaced-3.result (codes "server add" ++ 32 ∷ (name ++ 32 ∷ (addr ++ 32 ∷ (decimal spec.port.value ++ rest)))) (λ text. Spells (command (commands.ServerAdd spec check)) text)
    (pieces.server_add spec check name addr (decimal spec.port.value) rest c.ident_word.ensures (TypesAddr.types c.in_ok-addr.ensures) (port spec.port (rw c.get.ensures.value at c.law_of_u16.ensures)) c.in_ok-options.ensures)
    (rw (c.as_str-6.ensures.value, c.in_ok-named.ensures, c.as_str-5.ensures.value, c.in_ok-at.ensures, c.as_str-3.ensures.value, c.as_str-4.ensures.value, c.in_ok-port-2.ensures, c.as_str.ensures.value, c.as_str-2.ensures.value, c.in_ok-port.ensures, c.from.ensures, c.get-2.ensures.value) at c.spaced-3.ensures)
