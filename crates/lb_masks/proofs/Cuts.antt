-- A text and its pieces between marks.
use Rattle.std.proofs.Common.{◌≡◌, ℕ, ◌+◌, ◌<◌, ◌≤◌, Bool, true, false, cond, not, ltb, eqb, inl, inr, List, [], ◌∷◌, length, take, drop, Option, Some, None, refl, sym, ◌∙◌, ap, arith}
use Rattle.std.proofs.lemmas.List.{drop-drop}
use Rattle.std.proofs.lemmas.List.Splits.{slice_split_first}
use Rattle.std.proofs.lemmas.Bool.{ltb-true, ltb-false, cond-true, cond-false, cases_Bool}
use Rattle.std.specs.Borrow.{Bor}
use Rattle.std.specs.List.{position, position_or_len, slice_split, onto_first}
use Rattle.lb_masks.specs.Form.{cut_at}

-- the byte is the mark
abbrev pub is_mark : ℕ → ℕ → Bool
is_mark mark b = eqb b mark

-- how much of a text is left
abbrev pub text_left : Option (Bor (List ℕ)) → ℕ
text_left None = 0
text_left (Some text) = length text.now + 1

-- where no mark stands, the text is one piece
one_piece : (mark : ℕ) (text : List ℕ) → length text ≤ position_or_len (is_mark mark) text → cut_at mark text ≡ text ∷ []
one_piece mark [] past = refl
one_piece mark (b ∷ text) past =
    (elim (is_mark mark b) as (λ there. length (b ∷ text) ≤ cond (not there) (1 + position_or_len (is_mark mark) text) 0 → cond there ([] ∷ slice_split (is_mark mark) text) (onto_first b (slice_split (is_mark mark) text)) ≡ (b ∷ text) ∷ []) [
      | true ↦ λ h. absurd (omega (arith, h))
      | false ↦ λ h. ap (λ (pieces : List (List ℕ)). onto_first b pieces) (one_piece mark text (omega (arith, h)))
    ]) past

-- the place of the first mark is within the text where there is one
place_from : (mark : ℕ) (text : List ℕ) (place : ℕ) → position (is_mark mark) text ≡ Some place → (position_or_len (is_mark mark) text < length text) × (position_or_len (is_mark mark) text ≡ place)
place_from mark text place is =
    elim (cases_Bool (ltb (position_or_len (is_mark mark) text) (length text))) [
      | inl within ↦ (ltb-true _ _ within, let found : Some (position_or_len (is_mark mark) text) ≡ Some place = sym (cond-true _ _ _ within) ∙ is in cc)
      | inr past ↦ let none : None ≡ Some place = sym (cond-false _ _ _ past) ∙ is in absurd (cc)
    ]

no_place : (mark : ℕ) (text : List ℕ) → position (is_mark mark) text ≡ None → length text ≤ position_or_len (is_mark mark) text
no_place mark text is =
    elim (cases_Bool (ltb (position_or_len (is_mark mark) text) (length text))) [
      | inl within ↦ let found : Some (position_or_len (is_mark mark) text) ≡ None = sym (cond-true _ _ _ within) ∙ is in absurd (cc)
      | inr past ↦ ltb-false _ _ past
    ]

pub cut_none : (mark : ℕ) (text : List ℕ) → position (is_mark mark) text ≡ None → cut_at mark text ≡ text ∷ []
cut_none mark text is = one_piece mark text (no_place mark text is)

pub cut_first : (mark : ℕ) (text : List ℕ) (place : ℕ) → position (is_mark mark) text ≡ Some place → cut_at mark text ≡ take place text ∷ cut_at mark (drop 1 (drop place text))
cut_first mark text place is =
    let found = place_from mark text place is in
    slice_split_first (is_mark mark) text 0 found.0
    ∙ ap (λ (k : ℕ). take k text ∷ cut_at mark (drop (k + 1) text)) found.1
    ∙ ap (λ (xs : List ℕ). take place text ∷ cut_at mark xs) (sym (drop-drop 1 place text))
