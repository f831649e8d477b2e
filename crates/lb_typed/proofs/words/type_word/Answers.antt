use Rattle.std.proofs.Common.{List, ℕ, string_bytes}
use Rattle.std.specs.Fmt.{decimal}
use Rattle.lb_command.specs.Values.{type_of}
use Rattle.lb_typed.specs.Words.{Types}
use Rattle.lb_typed.proofs.Types.{numbered}
use Rattle.lb_typed.proofs.Texts.{holds}
use Rattle.lb_typed.proofs.words.type_word.Goals as goal

pub returns-in-None : goal.returns-in-None
returns-in-None c = holds string_bytes c.number_text.result (decimal c.args.qtype.0) (λ text. Types type_of c.args.qtype text) (numbered c.args.qtype c.law_of_u16.ensures) (rw c.from.ensures at c.number_text.ensures)
