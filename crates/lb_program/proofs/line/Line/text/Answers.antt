use Rattle.std.proofs.Common.{◌≡◌, ap, sym, ◌∙◌, rules}
use Rattle.std.proofs.lemmas.Str.{is_utf8-from_IsUtf8}
use Rattle.std.specs.Str.{is_utf8}
use Rattle.lb_program.proofs.Texts.{no_text}
use Rattle.lb_program.proofs.line.Line.text.Goals as goal

pub returns-in-Ok-clause-text : goal.returns-in-Ok-clause-text
returns-in-Ok-clause-text c =
    let same : c.as_slice.result.now ≡ c.args.self.now.bytes.items = search rules in
    (search rules, ap is_utf8 (sym same) ∙ is_utf8-from_IsUtf8 c.as_slice.result.now c.in-Ok.ensures.cases.1)

pub returns-in-Err-clause-none : goal.returns-in-Err-clause-none
returns-in-Err-clause-none c =
    let same : c.as_slice.result.now ≡ c.args.self.now.bytes.items = search rules in
    ap is_utf8 (sym same) ∙ no_text c.as_slice.result.now c.in-Err.ensures.cases.0
