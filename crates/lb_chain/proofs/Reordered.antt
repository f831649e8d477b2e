-- The selectors of rules, through the edits of their list.
use Rattle.std.proofs.Common.{◌≡◌, ℕ, zero, suc, ◌+◌, ◌<◌, ◌≤◌, List, [], ◌∷◌, length, get_or, Option, Some, slice_get, refl, sym, ap, ◌∙◌, arith}
use Rattle.std.specs.List.{insert, remove}
use Rattle.std.proofs.lemmas.List.{length-map}
use Rattle.std.proofs.lemmas.Option.{slice_get-get_or}
use Rattle.lb_wire.specs.declared.addr.Addr.{Addr}
use Rattle.lb_limits.specs.Window.{Limits}
use Rattle.lb_terms.specs.Selector.{Selector}
use Rattle.lb_chain.specs.declared.rule.Rule.{Rule}
use Rattle.lb_chain.specs.declared.walked.Passed.{Passed}
use Rattle.lb_chain.specs.declared.numbered.Numbered.{Numbered}
use Rattle.lb_chain.specs.Counting.{changed_rules, PartlyReserved}
use Rattle.lb_chain.specs.Edits.{put_again}
use Rattle.lb_chain.specs.Offers.{terms_of}

pub terms_inserted : (rules : List Numbered) (place : ℕ) (n : Numbered) → terms_of (insert rules place n) ≡ insert (terms_of rules) place n.rule.term
terms_inserted [] zero n = refl
terms_inserted [] (suc place) n = refl
terms_inserted (m ∷ rules) zero n = refl
terms_inserted (m ∷ rules) (suc place) n = ap (λ (terms : List Selector). m.rule.term ∷ terms) (terms_inserted rules place n)

pub terms_removed : (rules : List Numbered) (at : ℕ) → terms_of (remove rules at) ≡ remove (terms_of rules) at
terms_removed [] zero = refl
terms_removed [] (suc at) = refl
terms_removed (m ∷ rules) zero = refl
terms_removed (m ∷ rules) (suc at) = ap (λ (terms : List Selector). m.rule.term ∷ terms) (terms_removed rules at)

-- the selector of the rule at a place
pub term_found : (rules : List Numbered) (at : ℕ) (n : Numbered) → at < length rules → n ≡ get_or rules at n → slice_get (terms_of rules) at ≡ Some n.rule.term
term_found [] at n lt is = absurd (omega arith)
term_found (m ∷ rules) zero n lt is = ap (λ (k : Numbered). Some k.rule.term) (sym is)
term_found (m ∷ rules) (suc at) n lt is = term_found rules at n (omega arith) is

-- it is still there where another is put after it
found_before : {X : Type 0} (xs : List X) (at place : ℕ) (x y : X) → at < place → slice_get xs at ≡ Some y → slice_get (insert xs place x) at ≡ Some y
found_before [] at place x y lt is = absurd (cc)
found_before (z ∷ xs) at zero x y lt is = absurd (omega arith)
found_before (z ∷ xs) zero (suc place) x y lt is = is
found_before (z ∷ xs) (suc at) (suc place) x y lt is = found_before xs at place x y (omega arith) is

-- and one place on where it is put before it
found_behind : {X : Type 0} (xs : List X) (at place : ℕ) (x y : X) → place ≤ at → slice_get xs at ≡ Some y → slice_get (insert xs place x) (suc at) ≡ Some y
found_behind [] at place x y le is = absurd (cc)
found_behind (z ∷ xs) at zero x y le is = is
found_behind (z ∷ xs) zero (suc place) x y le is = absurd (omega arith)
found_behind (z ∷ xs) (suc at) (suc place) x y le is = found_behind xs at place x y (omega arith) is

-- what is put in after and then taken out before is moved
moved_down : {X : Type 0} (xs : List X) (at place : ℕ) (x : X) → at ≤ place → at < length xs → remove (insert xs (suc place) x) at ≡ insert (remove xs at) place x
moved_down [] at place x le lt = absurd (omega arith)
moved_down (y ∷ xs) zero place x le lt = refl
moved_down (y ∷ xs) (suc at) zero x le lt = absurd (omega arith)
moved_down {X = X} (y ∷ xs) (suc at) (suc place) x le lt = ap (λ (zs : List X). y ∷ zs) (moved_down xs at place x (omega arith) (omega arith))

-- and put in before and taken out after
moved_up : {X : Type 0} (xs : List X) (at place : ℕ) (x : X) → place ≤ at → at < length xs → remove (insert xs place x) (suc at) ≡ insert (remove xs at) place x
moved_up [] at place x le lt = absurd (omega arith)
moved_up (y ∷ xs) at zero x le lt = refl
moved_up (y ∷ xs) zero (suc place) x le lt = absurd (omega arith)
moved_up {X = X} (y ∷ xs) (suc at) (suc place) x le lt = ap (λ (zs : List X). y ∷ zs) (moved_up xs at place x (omega arith) (omega arith))

-- the selectors of rules of which one is moved
terms_again : (rules : List Numbered) (at place : ℕ) (n : Numbered) → at < length rules → n ≡ get_or rules at n → insert (remove (terms_of rules) at) place n.rule.term ≡ terms_of (put_again rules at place (slice_get rules at))
terms_again rules at place n lt is =
    let found : slice_get rules at ≡ Some n = slice_get-get_or rules at n lt ∙ ap Some (sym is) in
    ap (λ (terms : List Selector). insert terms place n.rule.term) (sym (terms_removed rules at)) ∙ sym (terms_inserted (remove rules at) place n) ∙ ap (λ (o : Option Numbered). terms_of (put_again rules at place o)) (sym found)

-- its selector is put in after, and the one before is still there
pub found_down : (rules : List Numbered) (at place : ℕ) (n : Numbered) → at < place → at < length rules → n ≡ get_or rules at n → slice_get (insert (terms_of rules) (place + 1) n.rule.term) at ≡ Some n.rule.term
found_down rules at place n before lt is = found_before (terms_of rules) at (place + 1) n.rule.term n.rule.term (omega arith) (term_found rules at n lt is)

-- taken out, it is moved
pub terms_down : (rules : List Numbered) (at place : ℕ) (n : Numbered) → at < place → at < length rules → n ≡ get_or rules at n → remove (insert (terms_of rules) (place + 1) n.rule.term) at ≡ terms_of (put_again rules at place (slice_get rules at))
terms_down rules at place n before lt is =
    let more : place + 1 ≡ suc place = omega arith in
    let within : at < length (terms_of rules) = omega (arith, length-map rules (λ (m : Numbered). m.rule.term)) in
    ap (λ (k : ℕ). remove (insert (terms_of rules) k n.rule.term) at) more ∙ moved_down (terms_of rules) at place n.rule.term (omega arith) within ∙ terms_again rules at place n lt is

-- its selector is put in before, and the other is one place on
pub found_up : (rules : List Numbered) (at place : ℕ) (n : Numbered) → place ≤ at → at < length rules → n ≡ get_or rules at n → slice_get (insert (terms_of rules) place n.rule.term) (at + 1) ≡ Some n.rule.term
found_up rules at place n behind lt is =
    let more : at + 1 ≡ suc at = omega arith in
    ap (λ (k : ℕ). slice_get (insert (terms_of rules) place n.rule.term) k) more ∙ found_behind (terms_of rules) at place n.rule.term n.rule.term behind (term_found rules at n lt is)

-- taken out, it is moved
pub terms_up : (rules : List Numbered) (at place : ℕ) (n : Numbered) → place ≤ at → at < length rules → n ≡ get_or rules at n → remove (insert (terms_of rules) place n.rule.term) (at + 1) ≡ terms_of (put_again rules at place (slice_get rules at))
terms_up rules at place n behind lt is =
    let more : at + 1 ≡ suc at = omega arith in
    let within : at < length (terms_of rules) = omega (arith, length-map rules (λ (m : Numbered). m.rule.term)) in
    ap (λ (k : ℕ). remove (insert (terms_of rules) place n.rule.term) k) more ∙ moved_up (terms_of rules) at place n.rule.term behind within ∙ terms_again rules at place n lt is

-- counted, the rules have the selectors that they had
pub terms_counted : (change : Limits → Limits) (passes : List Passed) (rules : List Numbered) → terms_of (changed_rules change passes rules) ≡ terms_of rules
terms_counted change passes [] = refl
terms_counted change passes (n ∷ rules) = ap (λ (terms : List Selector). n.rule.term ∷ terms) (terms_counted change passes rules)

-- and reserved, in part or whole
pub terms_partly : (passes : List Passed) (addr : Addr) (now : ℕ) (old new : List Numbered) → PartlyReserved passes addr now old new → terms_of new ≡ terms_of old
terms_partly passes addr now [] [] partly = refl
terms_partly passes addr now (a ∷ old) (b ∷ new) partly =
    ap (λ (rule : Rule). rule.term ∷ terms_of new) partly.1 ∙ ap (λ (terms : List Selector). a.rule.term ∷ terms) (terms_partly passes addr now old new partly.3)
terms_partly passes addr now [] (b ∷ new) partly = absurd partly
terms_partly passes addr now (a ∷ old) [] partly = absurd partly
