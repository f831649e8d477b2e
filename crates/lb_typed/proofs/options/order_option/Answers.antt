use Rattle.std.proofs.Common.{◌≡◌, ◌∙◌, List, ℕ, [], ◌∷◌, ◌++◌, string_bytes, codes, subst, sym}
use Rattle.std.specs.Fmt.{decimal}
use Rattle.lb_command.specs.Grammar.{options}
use Rattle.lb_typed.specs.Options.{order_choice}
use Rattle.lb_typed.specs.Pieces.{Follows}
use Rattle.lb_typed.proofs.OptionPieces.{order_one, order_other}
use Rattle.lb_typed.proofs.Texts.{holds}
use Rattle.lb_typed.proofs.options.order_option.Goals as goal

pub returns-then-order-eq1 : goal.returns-then-order-eq1
returns-then-order-eq1 c = subst (λ (text : List ℕ). Follows (options (order_choice c.args.order)) text) (sym c.new.ensures.bytes) (order_one c.args.order c.if-order-eq1.true)

pub returns : goal.returns
returns c = holds string_bytes c.numbered.result (32 ∷ (codes "order" ++ 32 ∷ decimal c.args.order)) (λ text. Follows (options (order_choice c.args.order)) text) (order_other c.args.order c.if-order-eq1.false c.law_of_u16.ensures) (rw (c.from.ensures) at c.numbered.ensures)
