use Rattle.std.proofs.Common.{◌≡◌, ◌≤◌, ◌∙◌, length, List, ℕ, [], ◌∷◌, ◌++◌, string_bytes, codes, subst, sym, ap, arith}
use Rattle.std.specs.Fmt.{decimal}
use Rattle.lb_step.specs.declared.command.Command.TheVariants as commands
use Rattle.lb_command.specs.Grammar.{◌▷◌, IsCommand, action, comma_list, command, covered, says, skips, term}
use Rattle.lb_command.specs.Reading.{max_line}
use Rattle.lb_command.specs.Values.{word_number}
use Rattle.lb_cache.specs.Skips.{each_once}
use Rattle.lb_typed.specs.Options.{choices_of}
use Rattle.lb_typed.specs.Pieces.{Follows, Spells}
use Rattle.lb_typed.specs.Typed.{CanBeTyped, HasTypedNames, IsTypedAction, IsTypedCovered}
use Rattle.lb_typed.specs.Words.{Types}
use Rattle.lb_typed.proofs.CommandPieces as pieces
use Rattle.lb_typed.proofs.Texts.{holds, weaker}
use Rattle.lb_typed.proofs.commands.cache_attach.Goals as goal

pub returns : goal.returns
returns c =
    let name = c.args.name.now in
    let listed = c.args.listed.now in
    let text = c.pool_word.result.now in
    let rest = string_bytes c.in_ok-listed.listed in
    holds string_bytes c.spaced-4.result (codes "cache attach" ++ 32 ∷ (text ++ 32 ∷ (decimal c.args.limits.0 ++ 32 ∷ (decimal c.args.limits.1 ++ 32 ∷ (decimal c.args.limits.2 ++ rest))))) (λ bytes. each_once listed ≡ listed → Spells (command (commands.CacheAttach name c.args.limits.0 c.args.limits.1 c.args.limits.2 listed)) bytes)
    (λ once. pieces.cache_attach name c.args.limits.0 c.args.limits.1 c.args.limits.2 listed text rest c.pool_word.ensures c.law_of_limits.ensures (c.in_ok-listed.ensures once))
    (rw (c.as_str-8.ensures.value, c.in_ok-named.ensures, c.as_str-7.ensures.value, c.in_ok-max-2.ensures, c.as_str-5.ensures.value, c.as_str-6.ensures.value, c.in_ok-shards-2.ensures, c.as_str-3.ensures.value, c.as_str-4.ensures.value, c.in_ok-ttl-2.ensures, c.as_str.ensures.value, c.as_str-2.ensures.value, c.in_ok-max.ensures, c.in_ok-shards.ensures, c.in_ok-ttl.ensures, c.from.ensures, c.from-2.ensures, c.from-3.ensures, c.get.ensures, c.get-2.ensures, c.get-3.ensures) at c.spaced-4.ensures)
