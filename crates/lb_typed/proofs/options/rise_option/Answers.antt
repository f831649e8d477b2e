use Rattle.std.proofs.Common.{◌≡◌, ◌∙◌, List, ℕ, [], ◌∷◌, ◌++◌, string_bytes, codes, subst, sym}
use Rattle.std.specs.Fmt.{decimal}
use Rattle.lb_command.specs.Grammar.{options}
use Rattle.lb_typed.specs.Options.{rise_choice}
use Rattle.lb_typed.specs.Pieces.{Follows}
use Rattle.lb_typed.proofs.OptionPieces.{rise_one, rise_other}
use Rattle.lb_typed.proofs.Texts.{holds}
use Rattle.lb_typed.proofs.options.rise_option.Goals as goal

pub returns-then-number-eq1 : goal.returns-then-number-eq1
returns-then-number-eq1 c = subst (λ (text : List ℕ). Follows (options (rise_choice c.args.rise)) text) (sym c.new.ensures.bytes) (rise_one c.args.rise (sym c.get-number.ensures.value ∙ c.if-number-eq1.true))

pub returns : goal.returns
returns c = holds string_bytes c.numbered.result (32 ∷ (codes "rise" ++ 32 ∷ decimal c.args.rise.value)) (λ text. Follows (options (rise_choice c.args.rise)) text) (rise_other c.args.rise (λ is. c.if-number-eq1.false (c.get-number.ensures.value ∙ is)) (rw c.get-number.ensures.value at c.law_of_u8.ensures)) (rw (c.from.ensures, c.get-number.ensures.value) at c.numbered.ensures)
