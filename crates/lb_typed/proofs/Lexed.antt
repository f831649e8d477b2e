-- What stands first in a line that begins with a word, a sign or a space.
use Rattle.std.proofs.Common.{◌≡◌, ℕ, suc, ◌<◌, ◌==◌, ◌-◌, length, true, false, ◌&&◌, if◌then◌else◌, List, [], ◌∷◌, ◌++◌, refl, sym, ap, ◌∙◌, arith}
use Rattle.std.proofs.lemmas.Grind.{common_steps}
use Rattle.std.proofs.lemmas.Bool.{and_parts}
use Rattle.std.specs.List.{list_all}
use Rattle.lb_command.specs.Line.{begins_word, in_front, is_word_byte, left_of, seen, words_of}
use Rattle.lb_typed.specs.Words.{IsWord}

no_space : (b : ℕ) → is_word_byte b ≡ true → (b == 32) ≡ false
no_space b is = grind (arith, common_steps)

before : (total b : ℕ) (bs : List ℕ) → words_of total (b ∷ bs) ≡ (if b == 32 then words_of total bs else (if is_word_byte b && begins_word bs then in_front b (total - length (b ∷ bs)) (words_of total bs) else seen (b ∷ []) (total - length (b ∷ bs)) ∷ words_of total bs))
unfolding words_of
before total b bs = refl

-- nothing is at the end
pub at_end : (total : ℕ) → words_of total [] ≡ []
unfolding words_of
at_end total = refl

-- a space is passed
pub past_space : (total : ℕ) (bs : List ℕ) → left_of total (32 ∷ bs) ≡ left_of total bs
past_space total bs = rw (before total 32 bs) refl

-- a word before no byte of one
run : (total b : ℕ) (bs rest : List ℕ) → is_word_byte b ≡ true → list_all is_word_byte bs ≡ true → begins_word rest ≡ false → words_of total (b ∷ bs ++ rest) ≡ seen (b ∷ bs) (total - length (b ∷ bs ++ rest)) ∷ words_of total rest
run total b [] rest is each ends = before total b rest ∙ rw (no_space b is, is, ends) refl
run total b (d ∷ ds) rest is each ends =
    let parts = and_parts (is_word_byte d) (list_all is_word_byte ds) each in
    before total b (d ∷ ds ++ rest) ∙ rw (no_space b is, is, parts.0, run total d ds rest parts.0 parts.1 ends) refl

pub word : (total : ℕ) (text rest : List ℕ) → IsWord text → begins_word rest ≡ false → words_of total (text ++ rest) ≡ seen text (total - length (text ++ rest)) ∷ words_of total rest
word total [] rest is ends =
    let some = is.some in
    absurd (omega (arith, some))
word total (b ∷ bs) rest is ends =
    let parts = and_parts (is_word_byte b) (list_all is_word_byte bs) is.each in
    run total b bs rest parts.0 parts.1 ends

-- `(`, `)` and `,`
pub opening : (total : ℕ) (rest : List ℕ) → words_of total (40 ∷ rest) ≡ seen (40 ∷ []) (total - length (40 ∷ rest)) ∷ words_of total rest
opening total rest = before total 40 rest ∙ refl

pub closing : (total : ℕ) (rest : List ℕ) → words_of total (41 ∷ rest) ≡ seen (41 ∷ []) (total - length (41 ∷ rest)) ∷ words_of total rest
closing total rest = before total 41 rest ∙ refl

pub comma : (total : ℕ) (rest : List ℕ) → words_of total (44 ∷ rest) ≡ seen (44 ∷ []) (total - length (44 ∷ rest)) ∷ words_of total rest
comma total rest = before total 44 rest ∙ refl
