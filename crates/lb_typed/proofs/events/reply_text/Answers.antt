use Rattle.std.proofs.Common.{◌≡◌, ◌≤◌, ◌<◌, ◌∙◌, length, List, ℕ, [], ◌∷◌, ◌++◌, string_bytes, codes, subst, sym, ap, arith}
use Rattle.std.specs.Fmt.{decimal}
use Rattle.lb_step.specs.declared.event.Event.TheVariants as events
use Rattle.lb_command.specs.Answers.{hex_text}
use Rattle.lb_command.specs.Events.{told_origin}
use Rattle.lb_command.specs.Grammar.{IsEvent, event}
use Rattle.lb_command.specs.Reading.{max_line}
use Rattle.lb_command.specs.Values.{hex_of}
use Rattle.lb_typed.specs.Pieces.{Spells}
use Rattle.lb_typed.specs.Typed.{CanBeTyped, EventCanBeTyped, as_told}
use Rattle.lb_typed.specs.Words.{Types}
use Rattle.lb_typed.proofs.EventPieces as pieces
use Rattle.lb_typed.proofs.Texts.{holds, weaker}
use Rattle.lb_typed.proofs.events.reply_text.Goals as goal

pub returns : goal.returns
returns c =
    let lane = string_bytes c.in_ok-lane.lane in
    let bytes = string_bytes c.in_ok-bytes.bytes in
    holds string_bytes c.spaced-4.result (codes "reply" ++ 32 ∷ (decimal c.args.now ++ 32 ∷ (decimal c.args.server.0 ++ 32 ∷ (lane ++ 32 ∷ bytes)))) (λ text. c.args.lane.number < 8 → Spells (event (events.Reply c.args.now c.args.server c.args.lane c.args.bytes.now)) text)
    (λ few. pieces.reply c.args.now c.args.server c.args.lane c.args.bytes.now lane bytes c.law_of_u64.ensures c.law_of_u64-2.ensures (c.in_ok-lane.ensures few) c.in_ok-bytes.ensures)
    (rw (c.as_str-7.ensures.value, c.in_ok-text-3.ensures, c.as_str-5.ensures.value, c.as_str-6.ensures.value, c.in_ok-text-2.ensures, c.as_str-3.ensures.value, c.as_str-4.ensures.value, c.in_ok-text.ensures, c.as_str.ensures.value, c.as_str-2.ensures.value, c.in_ok-number.ensures, c.in_ok-now.ensures) at c.spaced-4.ensures)
