use Rattle.std.proofs.Common.{◌≡◌, ◌≤◌, ◌<◌, ◌∙◌, length, List, ℕ, [], ◌∷◌, ◌++◌, string_bytes, codes, subst, sym, ap, arith}
use Rattle.std.specs.Fmt.{decimal}
use Rattle.lb_step.specs.declared.event.Event.TheVariants as events
use Rattle.lb_command.specs.Answers.{hex_text}
use Rattle.lb_command.specs.Events.{told_origin}
use Rattle.lb_command.specs.Grammar.{IsEvent, event}
use Rattle.lb_command.specs.Reading.{max_line}
use Rattle.lb_command.specs.Values.{hex_of}
use Rattle.lb_typed.specs.Pieces.{Spells}
use Rattle.lb_typed.specs.Typed.{CanBeTyped, EventCanBeTyped, as_told}
use Rattle.lb_typed.specs.Words.{Types}
use Rattle.lb_typed.proofs.EventPieces as pieces
use Rattle.lb_typed.proofs.Texts.{holds, weaker}
use Rattle.lb_typed.proofs.events.event_text.Goals as goal
use Rattle.lb_typed.specs.Addrs.{TypesAddr}

pub returns-in-Query : goal.returns-in-Query
returns-in-Query c =
    let what = events.Query c.in-Query.now c.in-Query.origin c.in-Query.kind c.in-Query.word c.in-Query.bytes in
    rw c.in-Query.is (weaker (λ text. Spells (event (as_told what)) (string_bytes text)) (λ text. EventCanBeTyped what → Spells (event (as_told what)) (string_bytes text)) c.query_text.result (λ text is can. is) c.query_text.ensures)

pub returns-in-Reply : goal.returns-in-Reply
returns-in-Reply c = rw c.in-Reply.is c.reply_text.ensures
