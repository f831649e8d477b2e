use Rattle.std.proofs.Common.{◌≡◌, ◌≤◌, ◌<◌, ◌∙◌, length, List, ℕ, [], ◌∷◌, ◌++◌, string_bytes, codes, subst, sym, ap, arith}
use Rattle.std.specs.Fmt.{decimal}
use Rattle.lb_step.specs.declared.event.Event.TheVariants as events
use Rattle.lb_command.specs.Answers.{hex_text}
use Rattle.lb_command.specs.Events.{told_origin}
use Rattle.lb_command.specs.Grammar.{IsEvent, event}
use Rattle.lb_command.specs.Reading.{max_line}
use Rattle.lb_command.specs.Values.{hex_of}
use Rattle.lb_typed.specs.Pieces.{Spells}
use Rattle.lb_typed.specs.Typed.{CanBeTyped, EventCanBeTyped, as_told}
use Rattle.lb_typed.specs.Words.{Types}
use Rattle.lb_typed.proofs.EventPieces as pieces
use Rattle.lb_typed.proofs.Texts.{holds, weaker}
use Rattle.lb_typed.proofs.events.query_text.Goals as goal
use Rattle.lb_typed.specs.Addrs.{TypesAddr}

pub returns : goal.returns
returns c =
    let origin = c.args.origin.now in
    let source = string_bytes c.in_ok-source.source in
    let kind = c.kind_word.result.now in
    let bytes = string_bytes c.in_ok-bytes.bytes in
    holds string_bytes c.spaced-6.result (codes "query" ++ 32 ∷ (decimal c.args.now ++ 32 ∷ (decimal origin.slot ++ 32 ∷ (kind ++ 32 ∷ (source ++ 32 ∷ (decimal c.args.asked.1 ++ 32 ∷ bytes)))))) (λ text. Spells (event (events.Query c.args.now (told_origin origin.slot origin.source) c.args.asked.0 c.args.asked.1 c.args.bytes.now)) text)
    (pieces.query c.args.now origin c.args.asked.0 c.args.asked.1 c.args.bytes.now kind source bytes c.law_of_u64.ensures c.law_of_u64-2.ensures c.law_of_u16.ensures c.kind_word.ensures (TypesAddr.types c.in_ok-source.ensures) c.in_ok-bytes.ensures)
    (rw (c.as_str-10.ensures.value, c.in_ok-text-5.ensures, c.as_str-8.ensures.value, c.as_str-9.ensures.value, c.in_ok-text-4.ensures, c.as_str-6.ensures.value, c.as_str-7.ensures.value, c.in_ok-text-3.ensures, c.as_str-5.ensures.value, c.in_ok-text-2.ensures, c.as_str-3.ensures.value, c.as_str-4.ensures.value, c.in_ok-text.ensures, c.as_str.ensures.value, c.as_str-2.ensures.value, c.in_ok-word.ensures, c.from.ensures, c.in_ok-slot.ensures, c.in_ok-now.ensures) at c.spaced-6.ensures)
