use Rattle.std.proofs.Common.{List, ℕ, string_bytes, take}
use Rattle.lb_terms.specs.Selector.{selectors_of}
use Rattle.lb_command.specs.Grammar.{terms}
use Rattle.lb_typed.specs.Pieces.{Spells}
use Rattle.lb_typed.specs.Typed.{AreTyped}
use Rattle.lb_typed.proofs.terms.+term_text.Given as goal

-- the terms so far are written
abbrev pub invariant-terms_text-members : goal.invariant-terms_text-members
invariant-terms_text-members l = AreTyped l.fn.most (selectors_of l.fn.members) → Spells (terms (selectors_of (take l.place l.fn.members))) (string_bytes l.text)
