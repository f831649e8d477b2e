-- Selectors of a list.
use Rattle.std.proofs.Common.{◌≡◌, ℕ, zero, suc, List, [], ◌∷◌, get_or, length, map, set, refl, sym, ap, ◌∙◌}
use Rattle.lb_terms.specs.Selector.{Selector, Selectors, end, more, selector_of, selectors_of}
use Rattle.lb_terms.specs.declared.term.Term.{Term}

-- how many selectors there are
abbrev count_of : Selectors → ℕ
count_of end = zero
count_of (more selector selectors) = suc (count_of selectors)

-- the selectors of a list are as many as its terms
count_is_length : (terms : List Term) → count_of (selectors_of terms) ≡ length terms
count_is_length [] = refl
count_is_length (term ∷ terms) = ap suc (count_is_length terms)

-- lists with equal selectors have the same length
pub same_length : (terms others : List Term) → selectors_of terms ≡ selectors_of others → length terms ≡ length others
same_length terms others same = sym (count_is_length terms) ∙ ap count_of same ∙ count_is_length others

-- a term that gives way to one with its selector leaves all selectors as they are
pub same_set : (terms : List Term) (i : ℕ) (old new : Term) → old ≡ get_or terms i old → selector_of new ≡ selector_of old → map selector_of (set terms i new) ≡ map selector_of terms
same_set [] i old new is same = refl
same_set (term ∷ terms) zero old new is same = ap (λ (s : Selector). s ∷ map selector_of terms) (same ∙ ap selector_of is)
same_set (term ∷ terms) (suc i) old new is same = ap (λ (ss : List Selector). selector_of term ∷ ss) (same_set terms i old new is same)
