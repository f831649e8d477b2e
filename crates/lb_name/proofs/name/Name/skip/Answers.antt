use Rattle.std.proofs.Common.{◌≡◌, ◌+◌, ◌∙◌, List, ℕ, length, ap, sym}
use Rattle.std.proofs.lemmas.List.{length-take-le}
use Rattle.lb_name.specs.Name.{wire_of}
use Rattle.lb_name.proofs.Names.{Begins-front, no_fault, one_name}
use Rattle.lb_name.proofs.name.Name.skip.Goals as goal

pub returns-in_err-len-clause-only : goal.returns-in_err-len-clause-only
returns-in_err-len-clause-only c = λ labels rest begins. absurd (no_fault _ labels rest _ begins (rw c.split_at.ensures.back at c.in_err-len.ensures.fault))

pub returns-clause-found : goal.returns-clause-found
returns-clause-found c =
    let begins = Begins-front _ _ _ c.in_ok-len.ensures.found.1 c.in_ok-len.ensures.found.3 in
    let long : c.in_ok-len.len ≡ length (wire_of c.in_ok-len.ensures.found.0) =
    sym (length-take-le _ _ c.in_ok-len.ensures.found.2) ∙ ap (λ (xs : List ℕ). length xs) c.in_ok-len.ensures.found.3 in
    (_, _, rw c.split_at.ensures.back at begins, ap (λ (n : ℕ). c.args.at + n) long)

pub returns-clause-only : goal.returns-clause-only
returns-clause-only c = λ labels rest there.
    let begins = Begins-front _ _ _ c.in_ok-len.ensures.found.1 c.in_ok-len.ensures.found.3 in
    let long : c.in_ok-len.len ≡ length (wire_of c.in_ok-len.ensures.found.0) =
    sym (length-take-le _ _ c.in_ok-len.ensures.found.2) ∙ ap (λ (xs : List ℕ). length xs) c.in_ok-len.ensures.found.3 in
    let same = (one_name _ _ _ _ _ (rw c.split_at.ensures.back at begins) there).0 in
    (ap (λ (n : ℕ). c.args.at + n) (long ∙ ap (λ (ls : List (List ℕ)). length (wire_of ls)) same), tt)
