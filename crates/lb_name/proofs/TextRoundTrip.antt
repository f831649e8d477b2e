-- A name's text reads as the name.
use Rattle.std.proofs.Common.{◌≡◌, ℕ, ◌-◌, ◌<◌, true, false, cond, List, [], ◌∷◌, ◌++◌, length, get_or, Option, None, refl, sym, ◌∙◌, ap, arith}
use Rattle.std.proofs.lemmas.List.{append_assoc, take_at, get_or_push, length-append, same_from_push}
use Rattle.std.proofs.lemmas.Bool.{le-ltb, ne_eqb, cond-true, cond-false, and_left, and_parts}
use Rattle.std.proofs.lemmas.Bool.Decides.{nat_tests}
use Rattle.std.specs.Option.{option_or}
use Rattle.std.specs.List.{AllByRecursion, flat_map, list_all, onto_first}
use Rattle.lb_name.specs.Name.{IsLabel, wire_of}
use Rattle.lb_name.specs.Laws.{TextRoundTrip}
use Rattle.lb_name.specs.Text.{is_name_byte, has_name_bytes, is_dot, cut_at_dots, is_dot_alone, without_end_dot, text_labels, label_fault, first_fault, name_or_fault, label_text}
use Rattle.lb_name.specs.declared.fault.NameFault.{NameFault}

-- a name byte is no dot
no_dot : (b : ℕ) → is_name_byte b ≡ true → is_dot b ≡ false
no_dot b is = grind (arith, nat_tests)

-- a label and a dot are the first piece
cut_label : (label rest : List ℕ) → list_all is_name_byte label ≡ true → cut_at_dots (label ++ 46 ∷ rest) ≡ label ∷ cut_at_dots rest
cut_label [] rest all = refl
cut_label (b ∷ label) rest all =
    let parts = and_parts (is_name_byte b) (list_all is_name_byte label) all in
    cond-false _ _ _ (no_dot b parts.0) ∙ ap (λ (pieces : List (List ℕ)). onto_first b pieces) (cut_label label rest parts.1)

-- labels that each end in a dot are the pieces, before an empty one
cut_labels : (labels : List (List ℕ)) → has_name_bytes labels ≡ true → cut_at_dots (flat_map label_text labels) ≡ labels ++ [] ∷ []
cut_labels [] all = refl
cut_labels (label ∷ labels) all =
    let parts = and_parts (list_all is_name_byte label) (has_name_bytes labels) all in
    ap (λ (xs : List ℕ). cut_at_dots xs) (append_assoc label (46 ∷ []) (flat_map label_text labels)) ∙ cut_label label (flat_map label_text labels) parts.0 ∙ ap (λ (ls : List (List ℕ)). label ∷ ls) (cut_labels labels parts.1)

-- a dot at the end is before an empty piece
onto_first-append : (b : ℕ) (pieces : List (List ℕ)) (piece : List ℕ) (others : List (List ℕ)) → pieces ≡ piece ∷ others → onto_first b (pieces ++ [] ∷ []) ≡ onto_first b pieces ++ [] ∷ []
onto_first-append b pieces piece others is = rw is refl

-- a text has a first piece
record HasFirst (pieces : List (List ℕ)) : Type 0 where
  piece : List ℕ
  others : List (List ℕ)
  is : pieces ≡ piece ∷ others

onto_has_first : (b : ℕ) (pieces : List (List ℕ)) → HasFirst (onto_first b pieces)
onto_has_first b [] = record { piece = b ∷ []; others = []; is = refl }
onto_has_first b (piece ∷ pieces) = record { piece = b ∷ piece; others = pieces; is = refl }

has_first : (text : List ℕ) → HasFirst (cut_at_dots text)
has_first [] = record { piece = []; others = []; is = refl }
has_first (b ∷ text) =
    elim (is_dot b) as (λ dot. HasFirst (cond dot ([] ∷ cut_at_dots text) (onto_first b (cut_at_dots text)))) [
      | true ↦ record { piece = []; others = cut_at_dots text; is = refl }
      | false ↦ onto_has_first b (cut_at_dots text)
    ]

cut_push : (text : List ℕ) → cut_at_dots (text ++ 46 ∷ []) ≡ cut_at_dots text ++ [] ∷ []
cut_push [] = refl
cut_push (b ∷ text) =
    let first = has_first text in
    elim (is_dot b) as (λ dot. cond dot ([] ∷ cut_at_dots (text ++ 46 ∷ [])) (onto_first b (cut_at_dots (text ++ 46 ∷ []))) ≡ cond dot ([] ∷ cut_at_dots text) (onto_first b (cut_at_dots text)) ++ [] ∷ []) [
      | true ↦ ap (λ (pieces : List (List ℕ)). [] ∷ pieces) (cut_push text)
      | false ↦ ap (λ (pieces : List (List ℕ)). onto_first b pieces) (cut_push text) ∙ onto_first-append b (cut_at_dots text) first.piece first.others first.is
    ]

-- a text of labels ends in a dot
record EndsInDot (text : List ℕ) : Type 0 where
  front : List ℕ
  is : text ≡ front ++ 46 ∷ []

ends_in_dot : (label : List ℕ) (labels : List (List ℕ)) → EndsInDot (flat_map label_text (label ∷ labels))
ends_in_dot label [] = record { front = label; is = append_assoc label (46 ∷ []) [] }
ends_in_dot label (next ∷ labels) =
    let end = ends_in_dot next labels in
    record {
      front = label_text label ++ end.front;
      is = ap (λ (xs : List ℕ). label_text label ++ xs) end.is ∙ sym (append_assoc (label_text label) end.front (46 ∷ []));
    }

without_end_push : (front : List ℕ) → without_end_dot (front ++ 46 ∷ []) ≡ front
without_end_push front =
    let last : length front ≡ length (front ++ 46 ∷ []) - 1 = omega (arith, length-append front (46 ∷ [])) in
    let dot : is_dot (get_or (front ++ 46 ∷ []) (length (front ++ 46 ∷ []) - 1) 0) ≡ true =
    ap (λ (b : ℕ). is_dot b) (get_or_push front 46 0 _ last) in
    cond-true _ _ _ dot ∙ take_at front (46 ∷ []) _ last

-- a label of a name of such bytes has no fault
label_sound : (label : List ℕ) → IsLabel label → list_all is_name_byte label ≡ true → label_fault label ≡ None
label_sound label is all =
    cond-false _ _ _ (ne_eqb (length label) 0 (λ zero_is. omega arith)) ∙ cond-false _ _ _ (le-ltb 63 (length label) (omega arith)) ∙ cond-true _ _ _ all

labels_sound : (labels : List (List ℕ)) → AllByRecursion IsLabel labels → has_name_bytes labels ≡ true → first_fault labels ≡ None
labels_sound [] each all = refl
labels_sound (label ∷ labels) each all =
    let parts = and_parts (list_all is_name_byte label) (has_name_bytes labels) all in
    ap (λ (fault : Option NameFault). option_or fault (first_fault labels)) (label_sound label each.0 parts.0) ∙ labels_sound labels each.1 parts.1

labels_back : (label : List ℕ) (labels : List (List ℕ)) → 0 < length label → has_name_bytes (label ∷ labels) ≡ true → text_labels (flat_map label_text (label ∷ labels)) ≡ label ∷ labels
labels_back label labels some all =
    let text = flat_map label_text (label ∷ labels) in
    let end = ends_in_dot label labels in
    let long : length text ≡ 1 → ⊥ = λ (one : length text ≡ 1). omega (arith, one, length-append (label_text label) (flat_map label_text labels), length-append label (46 ∷ [])) in
    let not_alone : is_dot_alone text ≡ false = and_left _ _ (ne_eqb (length text) 1 long) in
    let front : without_end_dot text ≡ end.front = ap (λ (xs : List ℕ). without_end_dot xs) end.is ∙ without_end_push end.front in
    let pieces : cut_at_dots end.front ++ [] ∷ [] ≡ (label ∷ labels) ++ [] ∷ [] =
    sym (cut_push end.front) ∙ ap (λ (xs : List ℕ). cut_at_dots xs) (sym end.is) ∙ cut_labels (label ∷ labels) all in
    cond-false _ _ _ not_alone ∙ ap (λ (xs : List ℕ). cut_at_dots xs) front ∙ (same_from_push (cut_at_dots end.front) (label ∷ labels) [] [] pieces).0

pub reads_back : TextRoundTrip
reads_back [] name all = refl
reads_back (label ∷ labels) name all =
    ap (λ (ls : List (List ℕ)). name_or_fault ls (first_fault ls)) (labels_back label labels name.each.0.0 all) ∙ ap (λ (fault : Option NameFault). name_or_fault (label ∷ labels) fault) (labels_sound (label ∷ labels) name.each all) ∙ cond-false _ _ _ (le-ltb 255 (length (wire_of (label ∷ labels))) name.fits)
