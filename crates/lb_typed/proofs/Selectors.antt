-- Terms, one after another.
use Rattle.std.proofs.Common.{◌≡◌, ℕ, zero, suc, ◌+◌, ◌<◌, List, [], ◌∷◌, ◌++◌, length, map, take, codes, append_assoc, refl, sym, ap, subst, arith}
use Rattle.std.specs.Prelude.{slice_index_or}
use Rattle.lb_terms.specs.declared.term.Term.{Term}
use Rattle.lb_terms.specs.Selector.{Selector, members_of, selector_of, selectors_of, end, more}
use Rattle.lb_command.specs.Line.{Left, Seen, left_of}
use Rattle.lb_command.specs.Grammar.{other_terms, term, terms, word}
use Rattle.lb_typed.specs.Pieces.{Spells}
use Rattle.lb_typed.specs.Typed.{AreTyped, IsTyped}
use Rattle.lb_typed.proofs.Lexed as lexed
use Rattle.lb_typed.proofs.Sets.{one_more as one_more_member}
use Rattle.lb_typed.proofs.Spelled.{ended, left_with}

one_more : (xs : List Selector) (y : Selector) (l m n r : Left) → other_terms (members_of xs) l m → word (codes ",") m n → term y n r → other_terms (members_of (xs ++ y ∷ [])) l r
one_more [] y l m n r none mark last = (n, subst (λ (k : Left). word (codes ",") k n) (sym none) mark, (r, last, refl))
one_more (x ∷ xs) y l m n r some mark last = (some.0, some.1, (some.2.0, some.2.1, one_more xs y some.2.0 m n r some.2.2 mark last))

one_more_of : (xs : List Selector) (y : Selector) (l m n r : Left) → terms (members_of xs) l m → word (codes ",") m n → term y n r → terms (members_of (xs ++ y ∷ [])) l r
one_more_of [] y l m n r none mark last = absurd none
one_more_of (x ∷ xs) y l m n r some mark last = (some.0, some.1, one_more xs y some.0 m n r some.2 mark last)

pub single : (x : Selector) (t : List ℕ) → Spells (term x) t → Spells (terms (members_of (x ∷ []))) t
single x t first = ended (term x) t first

pub listed : (xs : List Selector) (y : Selector) (t u : List ℕ) → Spells (terms (members_of xs)) t → Spells (term y) u → Spells (terms (members_of (xs ++ y ∷ []))) (t ++ 44 ∷ u)
listed xs y t u first second total rest ends =
    one_more_of xs y (left_of total ((t ++ 44 ∷ u) ++ rest)) (left_of total (44 ∷ u ++ rest)) (left_of total (u ++ rest)) (left_of total rest)
    (subst (λ (line : List ℕ). terms (members_of xs) (left_of total line) (left_of total (44 ∷ u ++ rest))) (sym (append_assoc t (44 ∷ u) rest)) (first total (44 ∷ u ++ rest) refl))
    (_, ap (λ (ws : List Seen). left_with total ws) (lexed.comma total (u ++ rest)))
    (second total rest ends)

mapped : (xs : List Term) (y : Term) → map selector_of (xs ++ y ∷ []) ≡ map selector_of xs ++ selector_of y ∷ []
mapped [] y = refl
mapped (x ∷ xs) y = ap (λ (ys : List Selector). selector_of x ∷ ys) (mapped xs y)

typed_at : (most : ℕ) (d : Term) (xs : List Term) (k : ℕ) → k < length xs → AreTyped most (selectors_of xs) → IsTyped most (selector_of (slice_index_or xs k d))
typed_at most d [] k within are = absurd (omega (arith, within))
typed_at most d (x ∷ xs) zero within are = are.0
typed_at most d (x ∷ xs) (suc k) within are = typed_at most d xs k (omega (arith, within)) are.1

-- terms of a list, with one more
pub first_term : (most : ℕ) (d : Term) (xs : List Term) (text : List ℕ) → 0 < length xs → (IsTyped most (selector_of (slice_index_or xs 0 d)) → Spells (term (selector_of (slice_index_or xs 0 d))) text) → AreTyped most (selectors_of xs) → Spells (terms (selectors_of (take 1 xs))) text
first_term most d [] text some first are = absurd (omega (arith, some))
first_term most d (x ∷ xs) text some first are = single (selector_of x) text (first are.0)

pub next_term : (most : ℕ) (d : Term) (xs : List Term) (k : ℕ) (text word both : List ℕ) → k < length xs → Spells (terms (selectors_of (take k xs))) text → (IsTyped most (selector_of (slice_index_or xs k d)) → Spells (term (selector_of (slice_index_or xs k d))) word) → AreTyped most (selectors_of xs) → both ≡ text ++ 44 ∷ word → Spells (terms (selectors_of (take (k + 1) xs))) both
next_term most d xs k text word both within before next are is =
    let one : suc k ≡ k + 1 = omega arith in
    let last = slice_index_or xs k d in
    subst (λ (n : ℕ). Spells (terms (selectors_of (take n xs))) both) one
    (subst (λ (bytes : List ℕ). Spells (terms (selectors_of (take (suc k) xs))) bytes) (sym is)
    (subst (λ (members : List Term). Spells (terms (selectors_of members)) (text ++ 44 ∷ word)) (sym (one_more_member d xs k within))
    (subst (λ (members : List Selector). Spells (terms (members_of members)) (text ++ 44 ∷ word)) (sym (mapped (take k xs) last)) (listed (map selector_of (take k xs)) (selector_of last) text word before (next (typed_at most d xs k within are))))))
