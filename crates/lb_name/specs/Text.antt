-- Names as text: labels joined by dots (RFC 1035 sections 2.3.1 and 5.1).
use Rattle.std.specs.Prelude.{ℕ, ◌-◌, ◌==◌, nat_lt, Bool, ◌&&◌, ◌||◌, if◌then◌else◌, Option, Some, None, Result, Ok, Err, List, [], ◌∷◌, ◌++◌, length, take, slice_index, codes}
use Rattle.std.specs.Option.{option_or}
use Rattle.std.specs.Borrow.{Bor}
use Rattle.std.specs.List.{flat_map, list_all, slice_split}
use Rattle.std.specs.Char.{is_ascii_alphanumeric}
use Rattle.lb_name.specs.Name.{wire_of}
use Rattle.lb_name.specs.declared.fault.NameFault.{NameFault}
use Rattle.lb_name.specs.declared.fault.NameFault.TheVariants.{EmptyLabel, LongLabel, LongName, BadByte}

-- a byte that may stand in a label of a text: an ASCII letter, a digit, `-`, `_` or `*` (section 2.3.1, with the `_`
-- of RFC 8552 and the `*` of RFC 4592)
abbrev pub is_name_byte : ℕ → Bool
is_name_byte b = is_ascii_alphanumeric b || b == 45 || b == 95 || b == 42

-- labels whose octets are all such bytes
abbrev pub has_name_bytes : List (List ℕ) → Bool
has_name_bytes labels = list_all (list_all is_name_byte) labels

-- the byte is a dot
abbrev pub is_dot : ℕ → Bool
is_dot b = b == 46

-- what stands between the dots of a text: n dots give n + 1 pieces
abbrev pub cut_at_dots : List ℕ → List (List ℕ)
cut_at_dots text = slice_split is_dot text

-- the pieces of what is left of a text, and none where nothing is left
abbrev pub pieces_left : Option (Bor (List ℕ)) → List (List ℕ)
pieces_left None = []
pieces_left (Some text) = cut_at_dots text.now

-- the text is a dot and nothing else
abbrev pub is_dot_alone : List ℕ → Bool
is_dot_alone text = length text == 1 && is_dot (slice_index text 0)

-- the text without the dot at its end, where one stands there
abbrev pub without_end_dot : List ℕ → List ℕ
without_end_dot text =
    if is_dot (slice_index text (length text - 1)) then take (length text - 1) text else text

-- the labels of a text: a dot alone is the root, which has none; else its pieces, where one dot may end the last
-- (section 5.1)
abbrev pub text_labels : List ℕ → List (List ℕ)
text_labels text = if is_dot_alone text then [] else cut_at_dots (without_end_dot text)

-- what is wrong with a label of a text: the first of these that applies (section 2.3.4 has the 63)
abbrev pub label_fault : List ℕ → Option NameFault
label_fault label =
    if length label == 0 then Some EmptyLabel else (if nat_lt 63 (length label) then Some LongLabel else (if list_all is_name_byte label then None else Some BadByte))

-- the fault of the first label that has one, from the left
abbrev pub first_fault : List (List ℕ) → Option NameFault
first_fault [] = None
first_fault (label ∷ labels) = option_or (label_fault label) (first_fault labels)

-- the labels where they have no fault and make at most 255 octets (section 2.3.4)
abbrev pub name_or_fault : List (List ℕ) → Option NameFault → Result (List (List ℕ)) NameFault
name_or_fault labels (Some fault) = Err fault
name_or_fault labels None = if nat_lt 255 (length (wire_of labels)) then Err LongName else Ok labels

-- the name that a text spells: a fault of a label comes before the length of the whole
abbrev pub name_of_text : List ℕ → Result (List (List ℕ)) NameFault
name_of_text text = name_or_fault (text_labels text) (first_fault (text_labels text))

-- a label and the dot that ends it
abbrev pub label_text : List ℕ → List ℕ
label_text label = label ++ 46 ∷ []

-- the text of a name: a dot ends each label, and the root is a dot alone (section 5.1)
abbrev pub text_of : List (List ℕ) → List ℕ
text_of [] = codes "."
text_of (label ∷ labels) = flat_map label_text (label ∷ labels)
