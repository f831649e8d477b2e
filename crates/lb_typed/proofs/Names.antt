-- Names as words.
use Rattle.std.proofs.Common.{◌≡◌, ℕ, ◌+◌, ◌-◌, ◌<◌, true, false, ◌&&◌, if◌then◌else◌, List, [], ◌∷◌, ◌++◌, length, Ok, Result, refl, sym, ap, subst, ◌∙◌, arith, Option, Some, None, inl, inr}
use Rattle.std.specs.Prelude.{slice_index, option_map, MatchOption}
use Rattle.std.specs.List.{flat_map, list_all}
use Rattle.std.specs.Result.{result_ok}
use Rattle.std.specs.Option.{option_or}
use Rattle.std.proofs.lemmas.List.{get_or_push, length-append, take_at}
use Rattle.std.proofs.lemmas.Bool.{and_left, and_parts, cond-false, cond-true, ne_eqb}
use Rattle.std.proofs.lemmas.Grind.{common_steps}
use Rattle.lb_name.specs.Name.{IsName}
use Rattle.lb_name.specs.Laws.{TextRoundTrip}
use Rattle.lb_name.specs.Text.{cut_at_dots, first_fault, has_name_bytes, is_dot, is_dot_alone, is_name_byte, label_text, name_of_text, name_or_fault, text_labels, text_of, without_end_dot}
use Rattle.lb_command.specs.Line.{is_word_byte}
use Rattle.lb_command.specs.Values.{name_of}
use Rattle.lb_typed.specs.Words.{IsShort, IsShortened, IsWord, Types}

byte_is_word : (b : ℕ) → is_name_byte b ≡ true → is_word_byte b ≡ true
byte_is_word b is = grind (arith, common_steps, is)

label_is_word : (label rest : List ℕ) → list_all is_name_byte label ≡ true → list_all is_word_byte rest ≡ true → list_all is_word_byte ((label ++ 46 ∷ []) ++ rest) ≡ true
label_is_word [] rest all after = after
label_is_word (b ∷ bs) rest all after =
    let parts = and_parts (is_name_byte b) (list_all is_name_byte bs) all in
    rw (byte_is_word b parts.0, label_is_word bs rest parts.1 after) refl

labels_are_word : (labels : List (List ℕ)) → has_name_bytes labels ≡ true → list_all is_word_byte (flat_map label_text labels) ≡ true
labels_are_word [] all = refl
labels_are_word (label ∷ labels) all =
    let parts = and_parts (list_all is_name_byte label) (has_name_bytes labels) all in
    label_is_word label (flat_map label_text labels) parts.0 (labels_are_word labels parts.1)

text_is_word : (labels : List (List ℕ)) → has_name_bytes labels ≡ true → IsWord (text_of labels)
text_is_word [] all = record { some = omega arith; each = refl }
text_is_word (label ∷ labels) all =
    record {
      some = omega (arith, length-append (label_text label) (flat_map label_text labels), length-append label (46 ∷ []));
      each = labels_are_word (label ∷ labels) all;
    }

-- the text of a name, with its last dot
pub whole : TextRoundTrip → (labels : List (List ℕ)) → IsName labels → has_name_bytes labels ≡ true → Types name_of labels (text_of labels)
whole back labels name all =
    let word = text_is_word labels all in
    record { is_word = word; says = rw (word.each, back labels name all) refl }

front_is_word : (front rest : List ℕ) → list_all is_word_byte (front ++ rest) ≡ true → list_all is_word_byte front ≡ true
front_is_word [] rest all = refl
front_is_word (b ∷ bs) rest all =
    let parts = and_parts (is_word_byte b) (list_all is_word_byte (bs ++ rest)) all in
    rw (parts.0, front_is_word bs rest parts.1) refl

without_end_push : (front : List ℕ) → without_end_dot (front ++ 46 ∷ []) ≡ front
without_end_push front =
    let last : length front ≡ length (front ++ 46 ∷ []) - 1 = omega (arith, length-append front (46 ∷ [])) in
    let dot : is_dot (slice_index (front ++ 46 ∷ []) (length (front ++ 46 ∷ []) - 1)) ≡ true =
    ap (λ (b : ℕ). is_dot b) (get_or_push front 46 0 _ last) in
    cond-true _ _ _ dot ∙ take_at front (46 ∷ []) _ last

not_alone : (text : List ℕ) → (length text ≡ 1 → ⊥) → is_dot_alone text ≡ false
not_alone text long = and_left _ _ (ne_eqb (length text) 1 long)

no_dot_alone : (front : List ℕ) → is_dot (slice_index front (length front - 1)) ≡ false → is_dot_alone front ≡ false
no_dot_alone [] last = refl
no_dot_alone (b ∷ []) last = rw last refl
no_dot_alone (b ∷ d ∷ ds) last = not_alone (b ∷ d ∷ ds) (λ one. omega (arith, one))

same_labels : (front : List ℕ) → 0 < length front → is_dot (slice_index front (length front - 1)) ≡ false → text_labels front ≡ text_labels (front ++ 46 ∷ [])
same_labels front some last =
    let whole_text = front ++ 46 ∷ [] in
    let long : is_dot_alone whole_text ≡ false = not_alone whole_text (λ one. omega (arith, one, some, length-append front (46 ∷ []))) in
    let stays : without_end_dot front ≡ front = cond-false _ _ _ last in
    cond-false _ _ _ (no_dot_alone front last)
    ∙ ap (λ (xs : List ℕ). cut_at_dots xs) (stays ∙ sym (without_end_push front))
    ∙ sym (cond-false _ _ _ long)

-- the text without its last dot
pub short : TextRoundTrip → (labels : List (List ℕ)) → IsName labels → has_name_bytes labels ≡ true → (front : List ℕ) → IsShort front (text_of labels) → Types name_of labels front
short back labels name all front is =
    let word = text_is_word labels all in
    let each : list_all is_word_byte front ≡ true = front_is_word front (46 ∷ []) (subst (λ (text : List ℕ). list_all is_word_byte text ≡ true) is.whole word.each) in
    let same : text_labels front ≡ text_labels (text_of labels) = same_labels front is.some is.last ∙ ap (λ (text : List ℕ). text_labels text) (sym is.whole) in
    let reads : name_of_text front ≡ Ok labels =
    ap (λ (ls : List (List ℕ)). name_or_fault ls (first_fault ls)) same ∙ back labels name all in
    record { is_word = record { some = is.some; each = each }; says = rw (each, reads) refl }

some_is : (whole : List ℕ) (text : List ℕ) → Some whole ≡ Some text → whole ≡ text
some_is whole text same = cc same

-- what is written of a name
pub written : TextRoundTrip → (labels : List (List ℕ)) → IsName labels → (whole_text : List ℕ) → Some whole_text ≡ (if has_name_bytes labels then Some (text_of labels) else None) → (text : List ℕ) → IsShortened text whole_text → has_name_bytes labels ≡ true → Types name_of labels text
written back labels name whole_text gives text (inl same) all =
    subst (λ (bytes : List ℕ). Types name_of labels bytes) (sym (same ∙ some_is whole_text (text_of labels) (rw all at gives))) (whole back labels name all)
written back labels name whole_text gives text (inr is) all =
    short back labels name all text (subst (λ (bytes : List ℕ). IsShort text bytes) (some_is whole_text (text_of labels) (rw all at gives)) is)
