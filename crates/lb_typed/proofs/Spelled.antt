-- Pieces that spell parts.
use Rattle.std.proofs.Common.{◌≡◌, ℕ, false, Option, Some, List, [], ◌∷◌, ◌++◌, codes, append_assoc, refl, sym, ap, subst, ◌∙◌, inl, inr}
use Rattle.lb_command.specs.Line.{Left, Seen, begins_word, left_of, seen}
use Rattle.lb_command.specs.Grammar.{Part, ◌▷◌, bracketed, comma_list, either, nothing, others, says, word}
use Rattle.lb_typed.specs.Words.{IsWord, Types}
use Rattle.lb_typed.specs.Pieces.{Follows, Spells}
use Rattle.lb_typed.proofs.Lexed as lexed

-- a line's words, and what is left
abbrev pub left_with : ℕ → List Seen → Left
left_with total ws = record { words = ws; total = total }

-- a word spells itself
pub fixed : (text : List ℕ) → IsWord text → Spells (word text) text
fixed text is total rest ends = (_, ap (λ (ws : List Seen). left_with total ws) (lexed.word total text rest is ends))

-- a word for a value spells it
pub value : {A : Type 0} (of : List ℕ → Option A) (x : A) (text : List ℕ) → Types of x text → Spells (says of x) text
value of x text is total rest ends = (seen text _, is.says, ap (λ (ws : List Seen). left_with total ws) (lexed.word total text rest is.is_word ends))

-- two pieces with a space between them
pub spaced : (p q : Part) (a b : List ℕ) → Spells p a → Spells q b → Spells (p ▷ q) (a ++ 32 ∷ b)
spaced p q a b first second total rest ends = (
  left_of total (32 ∷ b ++ rest),
  subst (λ (line : List ℕ). p (left_of total line) (left_of total (32 ∷ b ++ rest))) (sym (append_assoc a (32 ∷ b) rest)) (first total (32 ∷ b ++ rest) refl),
  subst (λ (left : Left). q left (left_of total rest)) (sym (lexed.past_space total (b ++ rest))) (second total rest ends),
)

-- a piece and what is in brackets after it
pub in_brackets : (p inner : Part) (a t : List ℕ) → Spells p a → Spells inner t → Spells (p ▷ bracketed inner) (a ++ 40 ∷ (t ++ 41 ∷ []))
in_brackets p inner a t first second total rest ends = (
  left_of total (40 ∷ (t ++ 41 ∷ []) ++ rest),
  subst (λ (line : List ℕ). p (left_of total line) (left_of total (40 ∷ (t ++ 41 ∷ []) ++ rest))) (sym (append_assoc a (40 ∷ (t ++ 41 ∷ [])) rest)) (first total (40 ∷ (t ++ 41 ∷ []) ++ rest) refl),
  (
    left_of total ((t ++ 41 ∷ []) ++ rest),
    (_, ap (λ (ws : List Seen). left_with total ws) (lexed.opening total ((t ++ 41 ∷ []) ++ rest))),
    (
      left_of total (41 ∷ rest),
      subst (λ (line : List ℕ). inner (left_of total line) (left_of total (41 ∷ rest))) (sym (append_assoc t (41 ∷ []) rest)) (second total (41 ∷ rest) refl),
      (_, ap (λ (ws : List Seen). left_with total ws) (lexed.closing total rest)),
    ),
  ),
)

-- nothing before a piece, and after it
pub silent : (q : Part) (b : List ℕ) → Spells q b → Spells (nothing ▷ q) b
silent q b second total rest ends = (left_of total (b ++ rest), refl, second total rest ends)

pub ended : (p : Part) (a : List ℕ) → Spells p a → Spells (p ▷ nothing) a
ended p a first total rest ends = (left_of total rest, first total rest ends, refl)

-- one of two forms
pub one : (p q : Part) (a : List ℕ) → Spells p a → Spells (either p q) a
one p q a first total rest ends = inl (first total rest ends)

pub other : (p q : Part) (a : List ℕ) → Spells q a → Spells (either p q) a
other p q a second total rest ends = inr (second total rest ends)

-- a list with one more member
one_more : {A : Type 0} (part : A → Part) (xs : List A) (y : A) (l m n r : Left) → others part xs l m → word (codes ",") m n → part y n r → others part (xs ++ y ∷ []) l r
one_more part [] y l m n r none mark last = (n, subst (λ (k : Left). word (codes ",") k n) (sym none) mark, (r, last, refl))
one_more part (x ∷ xs) y l m n r some mark last = (some.0, some.1, (some.2.0, some.2.1, one_more part xs y some.2.0 m n r some.2.2 mark last))

more : {A : Type 0} (part : A → Part) (xs : List A) (y : A) (l m n r : Left) → comma_list part xs l m → word (codes ",") m n → part y n r → comma_list part (xs ++ y ∷ []) l r
more part [] y l m n r none mark last = absurd none
more part (x ∷ xs) y l m n r some mark last = (some.0, some.1, one_more part xs y some.0 m n r some.2 mark last)

pub single : {A : Type 0} (part : A → Part) (x : A) (t : List ℕ) → Spells (part x) t → Spells (comma_list part (x ∷ [])) t
single part x t first = ended (part x) t first

pub listed : {A : Type 0} (part : A → Part) (xs : List A) (y : A) (t u : List ℕ) → Spells (comma_list part xs) t → Spells (part y) u → Spells (comma_list part (xs ++ y ∷ [])) (t ++ 44 ∷ u)
listed part xs y t u first second total rest ends =
    more part xs y (left_of total ((t ++ 44 ∷ u) ++ rest)) (left_of total (44 ∷ u ++ rest)) (left_of total (u ++ rest)) (left_of total rest)
    (subst (λ (line : List ℕ). comma_list part xs (left_of total line) (left_of total (44 ∷ u ++ rest))) (sym (append_assoc t (44 ∷ u) rest)) (first total (44 ∷ u ++ rest) refl))
    (_, ap (λ (ws : List Seen). left_with total ws) (lexed.comma total (u ++ rest)))
    (second total rest ends)

-- what follows a piece, with its own space or nothing
pub followed : (p q : Part) (a b : List ℕ) → Spells p a → Follows q b → Spells (p ▷ q) (a ++ b)
followed p q a b first second total rest ends = (
  left_of total (b ++ rest),
  subst (λ (line : List ℕ). p (left_of total line) (left_of total (b ++ rest))) (sym (append_assoc a b rest)) (first total (b ++ rest) (second total rest ends).0),
  (second total rest ends).1,
)
