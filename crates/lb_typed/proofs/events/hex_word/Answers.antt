use Rattle.std.proofs.Common.{◌≡◌, ◌≤◌, ◌<◌, ◌∙◌, length, List, ℕ, [], ◌∷◌, ◌++◌, string_bytes, codes, subst, sym, ap, arith}
use Rattle.std.specs.Fmt.{decimal}
use Rattle.lb_step.specs.declared.event.Event.TheVariants as events
use Rattle.lb_command.specs.Answers.{hex_text}
use Rattle.lb_command.specs.Events.{told_origin}
use Rattle.lb_command.specs.Grammar.{IsEvent, event}
use Rattle.lb_command.specs.Reading.{max_line}
use Rattle.lb_command.specs.Values.{hex_of}
use Rattle.lb_typed.specs.Pieces.{Spells}
use Rattle.lb_typed.specs.Typed.{CanBeTyped, EventCanBeTyped, as_told}
use Rattle.lb_typed.specs.Words.{Types}
use Rattle.lb_typed.proofs.EventPieces as pieces
use Rattle.lb_typed.proofs.Texts.{holds, weaker}
use Rattle.lb_typed.proofs.events.hex_word.Goals as goal
use Rattle.lb_typed.proofs.Hexes.{octets}

pub returns : goal.returns
returns c = holds string_bytes c.hex_text.result (hex_text c.args.bytes.now) (λ text. Types hex_of c.args.bytes.now text) (octets c.args.bytes.now (rw c.as_slice.ensures.octets at c.law_of_octets.ensures) (rw c.as_slice.ensures.octets at c.as_slice.ensures.short)) (rw c.as_slice-2.ensures.octets at c.hex_text.ensures)
