use Rattle.std.proofs.Common.{rules, ◌≡◌, List, ℕ, true, string_bytes, sym, ap, ◌∙◌, Option}
use Rattle.std.specs.Prelude.{option_map}
use Rattle.lb_name.specs.Text.{has_name_bytes}
use Rattle.lb_command.specs.Values.{name_of}
use Rattle.lb_typed.specs.Words.{Types}
use Rattle.lb_typed.proofs.Names.{written}
use Rattle.lb_typed.proofs.Texts.{holds}
use Rattle.lb_typed.proofs.words.name_word.Goals as goal

pub returns : goal.returns
returns c =
    let name = c.args.name.now in
    holds string_bytes c.from_str-2.result c.shortened.result.now (λ text. has_name_bytes name ≡ true → Types name_of name text)
    (written c.text_round_trip.ensures name c.law_of_name.ensures c.in-Some.whole.bytes (rw c.in-Some.is at c.write_text.ensures) c.shortened.result.now (search rules)) c.from_str-2.ensures.ok
