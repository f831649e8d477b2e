use Rattle.std.proofs.Common.{◌≡◌, ◌∙◌, List, ℕ, [], ◌∷◌, ◌++◌, string_bytes, codes, subst, sym}
use Rattle.std.specs.Fmt.{decimal}
use Rattle.lb_command.specs.Grammar.{options}
use Rattle.lb_typed.specs.Options.{lanes_choice}
use Rattle.lb_typed.specs.Pieces.{Follows}
use Rattle.lb_typed.proofs.OptionPieces.{lanes_one, lanes_other}
use Rattle.lb_typed.proofs.Texts.{holds}
use Rattle.lb_typed.proofs.options.lanes_option.Goals as goal

pub returns-then-number-eq1 : goal.returns-then-number-eq1
returns-then-number-eq1 c = subst (λ (text : List ℕ). Follows (options (lanes_choice c.args.lanes)) text) (sym c.new.ensures.bytes) (lanes_one c.args.lanes (sym c.get-number.ensures ∙ c.if-number-eq1.true))

pub returns : goal.returns
returns c = holds string_bytes c.numbered.result (32 ∷ (codes "lanes" ++ 32 ∷ decimal c.args.lanes)) (λ text. Follows (options (lanes_choice c.args.lanes)) text) (lanes_other c.args.lanes (λ is. c.if-number-eq1.false (c.get-number.ensures ∙ is)) c.law_of_lanes.ensures.least c.law_of_lanes.ensures.most) (rw (c.from.ensures, c.get-number.ensures) at c.numbered.ensures)
