-- The words of a command line.
use Rattle.std.proofs.Common.{◌≡◌, ℕ, ◌≤◌, ◌<◌, List, [], ◌∷◌, length, map, get_or, sym, ◌∙◌, ap, arith}

-- one word
pub one_word : {X : Type 0} (f : X → List ℕ) (words : List X) (word : X) (said text : List ℕ) → 1 ≤ length words → length words < 2 → word ≡ get_or words 0 word → said ≡ f word → said ≡ text → map f words ≡ text ∷ []
one_word f [] word said text least most is same eq = absurd (omega (arith, least))
one_word f (x ∷ []) word said text least most is same eq = ap (λ (y : List ℕ). y ∷ []) (ap f (sym is) ∙ sym same ∙ eq)
one_word f (x ∷ y ∷ more) word said text least most is same eq = absurd (omega (arith, most))

-- a word, and another
pub two_words : {X : Type 0} (f : X → List ℕ) (words : List X) (word file : X) (said text path : List ℕ) → 2 ≤ length words → length words < 3 → word ≡ get_or words 0 word → file ≡ get_or words 1 file → said ≡ f word → said ≡ text → path ≡ f file → map f words ≡ text ∷ path ∷ []
two_words f [] word file said text path least most first second same eq other = absurd (omega (arith, least))
two_words f (x ∷ []) word file said text path least most first second same eq other = absurd (omega (arith, least))
two_words f (x ∷ y ∷ []) word file said text path least most first second same eq other =
    ap (λ (z : List ℕ). z ∷ f y ∷ []) (ap f (sym first) ∙ sym same ∙ eq) ∙ ap (λ (z : List ℕ). text ∷ z ∷ []) (ap f (sym second) ∙ sym other)
two_words f (x ∷ y ∷ z ∷ more) word file said text path least most first second same eq other = absurd (omega (arith, most))
