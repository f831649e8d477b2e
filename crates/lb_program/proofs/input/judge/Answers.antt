use Rattle.std.proofs.Common.{◌≡◌, sym, ap, ◌∙◌, refl, List, ℕ, inr, true}
use Rattle.lb_program.specs.Input.{too_long}
use Rattle.lb_program.specs.Line.{kind_with}
use Rattle.lb_program.specs.declared.line.LineKind.TheVariants.{Told}
use Rattle.lb_program.proofs.ToldLines.{told_when}
use Rattle.lb_program.proofs.input.judge.Goals as goal

pub returns-then-is_long : goal.returns-then-is_long
returns-then-is_long c =
    let line = c.args.line.now in
    let told : kind_with line.kind line.bytes.items ≡ Told = ap (λ (xs : List ℕ). kind_with line.kind xs) (sym c.in-Ok.ensures.text.0) ∙ sym c.kind.ensures ∙ c.in-Told.is in
    let long : line.is_long ≡ true = sym c.is_long.ensures ∙ c.if-is_long.true in
    (too_long, told_when c.args.number line.kind line.is_long line.bytes.items c.in-Ok.ensures.text.1 told ∙ rw long refl, inr (rw c.too_long-fault.ensures refl))
