use Rattle.std.proofs.Common.{◌≡◌, ◌≤◌, ◌<◌, ◌∙◌, length, List, ℕ, [], ◌∷◌, ◌++◌, string_bytes, codes, subst, sym, ap, arith}
use Rattle.std.specs.Fmt.{decimal}
use Rattle.lb_step.specs.declared.event.Event.TheVariants as events
use Rattle.lb_command.specs.Answers.{hex_text}
use Rattle.lb_command.specs.Events.{told_origin}
use Rattle.lb_command.specs.Grammar.{IsEvent, event}
use Rattle.lb_command.specs.Reading.{max_line}
use Rattle.lb_command.specs.Values.{hex_of}
use Rattle.lb_typed.specs.Pieces.{Spells}
use Rattle.lb_typed.specs.Typed.{CanBeTyped, EventCanBeTyped, as_told}
use Rattle.lb_typed.specs.Words.{Types}
use Rattle.lb_typed.proofs.EventPieces as pieces
use Rattle.lb_typed.proofs.Texts.{holds, weaker}
use Rattle.lb_typed.proofs.events.event_line.Goals as goal
use Rattle.lb_typed.proofs.CommandPieces.{is_said}

pub returns : goal.returns
returns c =
    let what = c.args.what.now in
    weaker (λ text. EventCanBeTyped what → Spells (event (as_told what)) (string_bytes text)) (λ text. EventCanBeTyped what → length (string_bytes text) ≤ max_line → IsEvent (string_bytes text) (as_told what)) c.event_text.result
    (λ text spells can short. (is_said (event (as_told what)) (string_bytes text) (spells can) short, c.law_of_event.ensures can)) c.event_text.ensures
