-- The pieces of a text, and the name that they make.
use Rattle.std.proofs.Common.{◌≡◌, ℕ, ◌+◌, ◌<◌, ◌≤◌, Bool, true, false, cond, not, ltb, inl, inr, List, [], ◌∷◌, ◌++◌, length, get_or, take, drop, Option, Some, None, Ok, Err, refl, sym, ◌∙◌, ap, arith}
use Rattle.std.proofs.lemmas.List.{drop-drop, drop_more, take-append-drop, length-append}
use Rattle.std.proofs.lemmas.List.Splits.{slice_split_first}
use Rattle.std.proofs.lemmas.Bool.{ltb-true, ltb-false, lt-ltb, le-ltb, eqb-true, eqb-false, cond-true, cond-false, cases_Bool, and_parts}
use Rattle.std.proofs.lemmas.List.Quantifiers.{position-Some}
use Rattle.std.proofs.lemmas.Bool.Decides.{nat_tests}
use Rattle.std.proofs.lemmas.Str.{IsUtf8-from_ascii}
use Rattle.std.proofs.lemmas.Str.Ascii.{IsAscii-nil, IsAscii-cons}
use Rattle.std.specs.Borrow.{Bor}
use Rattle.std.specs.Option.{option_or}
use Rattle.std.specs.List.{AllByRecursion, list_all, position, position_or_len, slice_split, onto_first}
use Rattle.std.specs.Str.{IsAscii, IsUtf8}
use Rattle.lb_name.specs.Name.{IsLabel, labels_octets, wire_of, IsName}
use Rattle.lb_name.specs.Text.{is_name_byte, is_dot, cut_at_dots, is_dot_alone, without_end_dot, text_labels, label_fault, first_fault, name_or_fault, name_of_text}
use Rattle.lb_name.specs.declared.fault.NameFault.{NameFault}
use Rattle.lb_name.specs.declared.fault.NameFault.TheVariants.{LongName}

-- how much of a text is left
abbrev pub text_left : Option (Bor (List ℕ)) → ℕ
text_left None = 0
text_left (Some text) = length text.now + 1

-- where no dot stands, the text is one piece
one_piece : (text : List ℕ) → length text ≤ position_or_len is_dot text → cut_at_dots text ≡ text ∷ []
one_piece [] past = refl
one_piece (b ∷ text) past =
    (elim (is_dot b) as (λ dot. length (b ∷ text) ≤ cond (not dot) (1 + position_or_len is_dot text) 0 → cond dot ([] ∷ slice_split is_dot text) (onto_first b (slice_split is_dot text)) ≡ (b ∷ text) ∷ []) [
      | true ↦ λ h. absurd (omega (arith, h))
      | false ↦ λ h. ap (λ (pieces : List (List ℕ)). onto_first b pieces) (one_piece text (omega (arith, h)))
    ]) past

-- the place of the first dot is within the text where there is one
place_from : (text : List ℕ) (place : ℕ) → position is_dot text ≡ Some place → (position_or_len is_dot text < length text) × (position_or_len is_dot text ≡ place)
place_from text place is =
    elim (cases_Bool (ltb (position_or_len is_dot text) (length text))) [
      | inl within ↦ (ltb-true _ _ within, let found : Some (position_or_len is_dot text) ≡ Some place = sym (cond-true _ _ _ within) ∙ is in cc)
      | inr past ↦ let none : None ≡ Some place = sym (cond-false _ _ _ past) ∙ is in absurd (cc)
    ]

no_place : (text : List ℕ) → position is_dot text ≡ None → length text ≤ position_or_len is_dot text
no_place text is =
    elim (cases_Bool (ltb (position_or_len is_dot text) (length text))) [
      | inl within ↦ let found : Some (position_or_len is_dot text) ≡ None = sym (cond-true _ _ _ within) ∙ is in absurd (cc)
      | inr past ↦ ltb-false _ _ past
    ]

pub cut_none : (text : List ℕ) → position is_dot text ≡ None → cut_at_dots text ≡ text ∷ []
cut_none text is = one_piece text (no_place text is)

pub cut_first : (text : List ℕ) (place : ℕ) → position is_dot text ≡ Some place → cut_at_dots text ≡ take place text ∷ cut_at_dots (drop 1 (drop place text))
cut_first text place is =
    let found = place_from text place is in
    slice_split_first is_dot text 0 found.0
    ∙ ap (λ (k : ℕ). take k text ∷ cut_at_dots (drop (k + 1) text)) found.1
    ∙ ap (λ (xs : List ℕ). take place text ∷ cut_at_dots xs) (sym (drop-drop 1 place text))

-- at that place stands a dot
pub dot_there : (text : List ℕ) (place : ℕ) → position is_dot text ≡ Some place → text ≡ take place text ++ 46 ∷ drop 1 (drop place text)
dot_there text place is =
    let found = position-Some is_dot text place 0 is in
    let dot : get_or text place 0 ≡ 46 = eqb-true _ _ found.1 in
    let after : drop place text ≡ 46 ∷ drop 1 (drop place text) =
    drop_more text place 0 found.0 ∙ ap (λ (b : ℕ). b ∷ drop (place + 1) text) dot ∙ ap (λ (xs : List ℕ). 46 ∷ xs) (sym (drop-drop 1 place text)) in
    sym (take-append-drop place text) ∙ ap (λ (xs : List ℕ). take place text ++ xs) after

-- a byte more in the first piece is an octet more
length-onto_first : (b : ℕ) (pieces : List (List ℕ)) → 0 < length (labels_octets pieces) → length (labels_octets (onto_first b pieces)) ≡ length (labels_octets pieces) + 1
length-onto_first b [] some = absurd (omega arith)
length-onto_first b (piece ∷ pieces) some = omega arith

-- the pieces take an octet more than the text
length-pieces : (text : List ℕ) → length (labels_octets (cut_at_dots text)) ≡ length text + 1
length-pieces [] = refl
length-pieces (b ∷ text) =
    elim (is_dot b) as (λ dot. length (labels_octets (cond dot ([] ∷ cut_at_dots text) (onto_first b (cut_at_dots text)))) ≡ length (b ∷ text) + 1) [
      | true ↦ omega (arith, length-pieces text)
      | false ↦ length-onto_first b (cut_at_dots text) (omega (arith, length-pieces text)) ∙ omega (arith, length-pieces text)
    ]

-- with the zero octet, two more
pub length-cut : (text : List ℕ) → length (wire_of (cut_at_dots text)) ≡ length text + 2
length-cut text = length-append (labels_octets (cut_at_dots text)) (0 ∷ []) ∙ omega (arith, length-pieces text)

-- where no fault is first, none is
or_none : {X : Type 0} (a b : Option X) → option_or a b ≡ None → (a ≡ None) × (b ≡ None)
or_none None b is = (refl, is)
or_none (Some x) b is = absurd (cc)

test_none : {X : Type 0} (test : Bool) (x : X) (others : Option X) → cond test (Some x) others ≡ None → (test ≡ false) × (others ≡ None)
test_none true x others is = absurd (cc)
test_none false x others is = (refl, is)

last_none : {X : Type 0} (test : Bool) (x : X) → cond test None (Some x) ≡ None → test ≡ true
last_none true x is = refl
last_none false x is = absurd (cc)

-- a label with no fault is a label
pub IsLabel-sound : (label : List ℕ) → label_fault label ≡ None → IsLabel label
IsLabel-sound label none =
    let some = test_none _ _ _ none in
    let short = test_none _ _ _ some.1 in
    let not_empty = eqb-false (length label) 0 some.0 in
    let fits = ltb-false 63 (length label) short.0 in
    (omega arith, omega arith)

pub first_sound : (label : List ℕ) (labels : List (List ℕ)) → first_fault (label ∷ labels) ≡ None → (label_fault label ≡ None) × (first_fault labels ≡ None)
first_sound label labels none = or_none (label_fault label) (first_fault labels) none

each_sound : (labels : List (List ℕ)) → first_fault labels ≡ None → AllByRecursion IsLabel labels
each_sound [] none = tt
each_sound (label ∷ labels) none =
    let first = first_sound label labels none in
    (IsLabel-sound label first.0, each_sound labels first.1)

-- the pieces of a text are a name where they have no fault and fit
pub IsName-text : (text : List ℕ) → first_fault (cut_at_dots text) ≡ None → length text ≤ 253 → IsName (cut_at_dots text)
IsName-text text none short = record {
  each = each_sound (cut_at_dots text) none;
  fits = omega (arith, length-cut text);
}

-- a dot alone is the root
pub root_text : (text bytes : List ℕ) (alone : Bool) → bytes ≡ text → alone ≡ is_dot_alone bytes → alone ≡ true → name_of_text text ≡ Ok []
root_text text bytes alone same is holds =
    let here : is_dot_alone text ≡ true = ap (λ (xs : List ℕ). is_dot_alone xs) (sym same) ∙ sym is ∙ holds in
    let labels : text_labels text ≡ [] = cond-true _ _ _ here in
    ap (λ (ls : List (List ℕ)). name_or_fault ls (first_fault ls)) labels

-- the labels of any other text are its pieces
pub other_text : (text bytes front : List ℕ) (alone : Bool) → bytes ≡ text → alone ≡ is_dot_alone bytes → alone ≡ false → front ≡ without_end_dot bytes → name_of_text text ≡ name_or_fault (cut_at_dots front) (first_fault (cut_at_dots front))
other_text text bytes front alone same is fails cut =
    let here : is_dot_alone text ≡ false = ap (λ (xs : List ℕ). is_dot_alone xs) (sym same) ∙ sym is ∙ fails in
    let labels : text_labels text ≡ cut_at_dots front =
    cond-false _ _ _ here ∙ ap (λ (xs : List ℕ). cut_at_dots (without_end_dot xs)) (sym same) ∙ ap (λ (xs : List ℕ). cut_at_dots xs) (sym cut) in
    ap (λ (ls : List (List ℕ)). name_or_fault ls (first_fault ls)) labels

pub long_text : (text : List ℕ) → first_fault (cut_at_dots text) ≡ None → 253 < length text → name_or_fault (cut_at_dots text) (first_fault (cut_at_dots text)) ≡ Err LongName
long_text text none long =
    ap (λ (fault : Option NameFault). name_or_fault (cut_at_dots text) fault) none ∙ cond-true _ _ _ (lt-ltb 255 (length (wire_of (cut_at_dots text))) (omega (arith, length-cut text)))

pub short_text : (text : List ℕ) → first_fault (cut_at_dots text) ≡ None → length text ≤ 253 → name_or_fault (cut_at_dots text) (first_fault (cut_at_dots text)) ≡ Ok (cut_at_dots text)
short_text text none short =
    ap (λ (fault : Option NameFault). name_or_fault (cut_at_dots text) fault) none ∙ cond-false _ _ _ (le-ltb 255 (length (wire_of (cut_at_dots text))) (omega (arith, length-cut text)))

-- name bytes are ASCII, and so text
small_name_byte : (b : ℕ) → is_name_byte b ≡ true → b < 128
small_name_byte b is = grind (arith, nat_tests)

IsAscii-name : (label : List ℕ) → list_all is_name_byte label ≡ true → IsAscii label
IsAscii-name [] all = IsAscii-nil
IsAscii-name (b ∷ label) all =
    let parts = and_parts (is_name_byte b) (list_all is_name_byte label) all in
    IsAscii-cons b label (small_name_byte b parts.0) (IsAscii-name label parts.1)

pub IsUtf8-name : (label : List ℕ) → list_all is_name_byte label ≡ true → IsUtf8 label
IsUtf8-name label all = IsUtf8-from_ascii label (IsAscii-name label all)
