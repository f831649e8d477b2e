use Rattle.std.proofs.Common.{subst, sym, List, ℕ}
use Rattle.lb_command.specs.Values.{ident_of}
use Rattle.lb_typed.specs.Words.{Types}
use Rattle.lb_typed.proofs.Idents.{ident}
use Rattle.lb_typed.proofs.words.ident_word.Goals as goal

pub returns : goal.returns
returns c = subst (λ (text : List ℕ). Types ident_of c.args.name.now text) (sym c.as_str.ensures) (ident c.args.name.now c.law_of_idents.ensures)
