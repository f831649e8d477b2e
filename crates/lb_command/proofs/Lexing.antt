-- The text that comes first in a line.
use Rattle.std.proofs.Common.{◌≡◌, ℕ, suc, ◌==◌, ◌-◌, length, true, false, ◌&&◌, if◌then◌else◌, List, [], ◌∷◌, length, take, drop, refl, sym, ap, ◌∙◌, arith, inl, inr}
use Rattle.std.proofs.lemmas.Bool.{cases_Bool}
use Rattle.std.proofs.lemmas.Grind.{common_steps}
use Rattle.lb_command.specs.Line.{is_word_byte, begins_word, Seen, seen, in_front, words_of, first_in, tail_of, spaces_of, run_of, first_len}

no_space : (b : ℕ) → is_word_byte b ≡ true → (b == 32) ≡ false
no_space b h = grind (arith, common_steps)

pub at_end : (total : ℕ) → words_of total [] ≡ []
unfolding words_of
at_end total = refl

-- one byte more
pub before : (total b : ℕ) (bs : List ℕ) → words_of total (b ∷ bs) ≡ (if b == 32 then words_of total bs else (if is_word_byte b && begins_word bs then in_front b (total - length (b ∷ bs)) (words_of total bs) else seen (b ∷ []) (total - length (b ∷ bs)) ∷ words_of total bs))
unfolding words_of
before total b bs = refl

-- a word takes all bytes of its run
run : (total b : ℕ) (bs : List ℕ) → is_word_byte b ≡ true → words_of total (b ∷ bs) ≡ seen (take (suc (run_of bs)) (b ∷ bs)) (total - length (b ∷ bs)) ∷ words_of total (drop (suc (run_of bs)) (b ∷ bs))
run total b [] h = before total b [] ∙ rw (no_space b h, h) refl
run total b (d ∷ bs) h =
    elim (cases_Bool (is_word_byte d)) [
      | inl e ↦ before total b (d ∷ bs) ∙ rw (no_space b h, h, e, run total d bs e) refl
      | inr e ↦ before total b (d ∷ bs) ∙ rw (no_space b h, h, e) refl
    ]

-- what stands first, where that is no space
first : (total b : ℕ) (bs : List ℕ) → (b == 32) ≡ false → words_of total (b ∷ bs) ≡ seen (take (first_len (b ∷ bs)) (b ∷ bs)) (total - length (b ∷ bs)) ∷ words_of total (drop (first_len (b ∷ bs)) (b ∷ bs))
first total b bs h =
    elim (cases_Bool (is_word_byte b)) [
      | inl e ↦ run total b bs e ∙ rw e refl
      | inr e ↦ before total b bs ∙ rw (h, e) refl
    ]

sub_nothing : (n : ℕ) → n - 0 ≡ n
sub_nothing n = omega arith

-- what comes first after the spaces, and what is left
pub split : (total : ℕ) (bs : List ℕ) → (seen (take (first_len (drop (spaces_of bs) bs)) (drop (spaces_of bs) bs)) (total - length (drop (spaces_of bs) bs)) ≡ first_in (words_of total bs) total) × (words_of total (drop (first_len (drop (spaces_of bs) bs)) (drop (spaces_of bs) bs)) ≡ tail_of (words_of total bs))
split total [] = (ap (seen []) (sub_nothing total) ∙ sym (ap (λ (ws : List Seen). first_in ws total) (at_end total)), at_end total ∙ sym (ap tail_of (at_end total)))
split total (b ∷ bs) =
    elim (cases_Bool (b == 32)) [
      | inl e ↦ rw (before total b bs, e) (split total bs)
      | inr e ↦ rw e (sym (ap (λ (ws : List Seen). first_in ws total) (first total b bs e)), sym (ap tail_of (first total b bs e)))
    ]
