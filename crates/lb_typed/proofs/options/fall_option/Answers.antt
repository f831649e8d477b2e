use Rattle.std.proofs.Common.{◌≡◌, ◌∙◌, List, ℕ, [], ◌∷◌, ◌++◌, string_bytes, codes, subst, sym}
use Rattle.std.specs.Fmt.{decimal}
use Rattle.lb_command.specs.Grammar.{options}
use Rattle.lb_typed.specs.Options.{fall_choice}
use Rattle.lb_typed.specs.Pieces.{Follows}
use Rattle.lb_typed.proofs.OptionPieces.{fall_one, fall_other}
use Rattle.lb_typed.proofs.Texts.{holds}
use Rattle.lb_typed.proofs.options.fall_option.Goals as goal

pub returns-then-number-eq1 : goal.returns-then-number-eq1
returns-then-number-eq1 c = subst (λ (text : List ℕ). Follows (options (fall_choice c.args.fall)) text) (sym c.new.ensures.bytes) (fall_one c.args.fall (sym c.get-number.ensures.value ∙ c.if-number-eq1.true))

pub returns : goal.returns
returns c = holds string_bytes c.numbered.result (32 ∷ (codes "fall" ++ 32 ∷ decimal c.args.fall.value)) (λ text. Follows (options (fall_choice c.args.fall)) text) (fall_other c.args.fall (λ is. c.if-number-eq1.false (c.get-number.ensures.value ∙ is)) (rw c.get-number.ensures.value at c.law_of_u8.ensures)) (rw (c.from.ensures, c.get-number.ensures.value) at c.numbered.ensures)
