-- What is left to read of an input: piece by piece, line by line.
use Rattle.std.proofs.Common.{◌≡◌, ℕ, ◌+◌, ◌<◌, ◌≤◌, ◌-◌, Bool, true, false, nat_lt, if◌then◌else◌, List, [], ◌∷◌, ◌++◌, length, take, get_or, refl, sym, ◌∙◌, ap, ◌==◌, arith, Some, None}
use Rattle.std.proofs.lemmas.List.{append-nil, append_assoc, length-append, length-take-le, get_or-append-add}
use Rattle.std.proofs.lemmas.List.Elements.{All-head, All-tail}
use Rattle.std.proofs.lemmas.List.Splits.{slice_split_at, slice_split_none, slice_split-cons_no, length-slice_split}
use Rattle.std.proofs.lemmas.Bool.{ne_eqb}
use Rattle.std.proofs.lemmas.Grind.{common_steps}
use Rattle.std.proofs.lemmas.Str.{IsUtf8-nil, is_utf8-from_IsUtf8}
use Rattle.std.proofs.Math.Seq.{take-append-add}
use Rattle.std.specs.List.{All, slice_split, onto_first}
use Rattle.std.specs.Str.{is_utf8}
use Rattle.std.specs.Str.Lines.{lines_of_parts, strip_carriage_return}
use Rattle.lb_command.specs.Events.{event_of}
use Rattle.lb_program.specs.Shown.{is_line_feed}
use Rattle.lb_program.specs.Line.{kind_of, kind_with}
use Rattle.lb_program.specs.Input.{Reading, is_told, reading_of, readings, told_from, told_of, told_read, too_long}
use Rattle.lb_program.specs.declared.line.LineKind.{LineKind}
use Rattle.lb_program.specs.declared.line.LineKind.TheVariants.{Blank, Comment, Told}
use Rattle.lb_program.proofs.Texts.{broken_stripped, text_behind}

-- a line that is told
pub told_when : (n : ℕ) (kind : LineKind) (long : Bool) (bytes : List ℕ) → is_utf8 bytes ≡ true → kind_with kind bytes ≡ Told → told_read n kind long bytes ≡ (n, Some (reading_of long bytes)) ∷ []
told_when n kind long bytes text is = rw (text, is) refl

-- a line that is no text
pub told_broken : (n : ℕ) (kind : LineKind) (long : Bool) (bytes : List ℕ) → is_utf8 bytes ≡ false → told_read n kind long bytes ≡ (n, None) ∷ []
told_broken n kind long bytes broken = rw broken refl

-- a line before others, told or not
line_before : (n : ℕ) (line : List ℕ) (others : List (List ℕ)) (text told : Bool) → is_utf8 line ≡ text → is_told line ≡ told → told_read n Blank false line ++ told_of (n + 1) others ≡ told_of n (line ∷ others)
line_before n line others true true text told = rw (text, told) refl
line_before n line others true false text told = rw (text, told) refl
line_before n line others false told text is = rw text refl

-- no bytes are text, and no line is told of them
pub none_told : (n : ℕ) → told_read n Blank false [] ≡ []
none_told n = rw (is_utf8-from_IsUtf8 [] IsUtf8-nil) refl

-- a last part that is not empty is a line
last_by : (x : List ℕ) (b : Bool) → b ≡ false → (if b then [] else x ∷ []) ≡ x ∷ []
last_by x b is = rw is refl

pub last_part : (x : List ℕ) → 0 < length x → lines_of_parts (x ∷ []) ≡ x ∷ []
last_part x some = last_by x (length x == 0) (ne_eqb (length x) 0 (λ none. omega arith))

-- the told lines of parts are read
told_parts : (n : ℕ) (parts : List (List ℕ)) → told_from n Blank false parts ≡ told_of n (lines_of_parts parts)
told_parts n [] = refl
told_parts n ([] ∷ []) = none_told n
told_parts n ((byte ∷ bytes) ∷ []) = ap (told_of n) (sym (last_part (byte ∷ bytes) (omega arith)))
told_parts n (x ∷ y ∷ more) =
    let line = strip_carriage_return x in
    ap (λ (others : List (ℕ × Reading)). told_read n Blank false line ++ others) (told_parts (n + 1) (y ∷ more)) ∙ line_before n line (lines_of_parts (y ∷ more)) (is_utf8 line) (is_told line) refl refl

-- the told lines of an input are read
pub told_all : (bytes : List ℕ) → told_from 1 Blank false (slice_split is_line_feed bytes) ≡ readings bytes
told_all bytes = told_parts 1 (slice_split is_line_feed bytes)

-- over 300,000 bytes are too many
is_over : (n : ℕ) → 300000 < n → nat_lt 300000 n ≡ true
is_over n over = grind (arith, common_steps)

long_reads : (line : List ℕ) → 300000 < length line → event_of line ≡ too_long
long_reads line over =
    let h = is_over (length line) over in
    rw h refl

too_long_by : (long : Bool) (line : List ℕ) → 300000 < length line → reading_of long line ≡ too_long
too_long_by true line over = refl
too_long_by false line over = long_reads line over

-- the same, by whether the first byte is a space or a hash
kind_step : (space hash : Bool) (a b : List ℕ) → kind_of (a ++ b) ≡ kind_with (kind_of a) b → (if space then kind_of (a ++ b) else (if hash then Comment else Told)) ≡ kind_with (if space then kind_of a else (if hash then Comment else Told)) b
kind_step true hash a b same = same
kind_step false true a b same = refl
kind_step false false a b same = refl

-- bytes after others make of a line what both make of it
kind_of-append : (a b : List ℕ) → kind_of (a ++ b) ≡ kind_with (kind_of a) b
kind_of-append [] b = refl
kind_of-append (byte ∷ a) b = kind_step (byte == 32) (byte == 35) a b (kind_of-append a b)

kind_with-append : (kind : LineKind) (a b : List ℕ) → kind_with kind (a ++ b) ≡ kind_with (kind_with kind a) b
kind_with-append Blank a b = kind_of-append a b
kind_with-append Comment a b = refl
kind_with-append Told a b = refl

-- bytes in front of the first part
abbrev pub onto_front : List ℕ → List (List ℕ) → List (List ℕ)
onto_front front [] = front ∷ []
onto_front front (part ∷ parts) = (front ++ part) ∷ parts

onto_more : (byte : ℕ) (front : List ℕ) (parts : List (List ℕ)) → onto_first byte (onto_front front parts) ≡ onto_front (byte ∷ front) parts
onto_more byte front [] = refl
onto_more byte front (part ∷ parts) = refl

-- there is a first part
split_first : (xs : List ℕ) → 0 < length (slice_split is_line_feed xs)
split_first xs = omega (arith, length-slice_split is_line_feed xs)

front_none : (parts : List (List ℕ)) → 0 < length parts → parts ≡ onto_front [] parts
front_none [] some = absurd (omega arith)
front_none (part ∷ parts) some = refl

-- bytes without a line feed stand in the first part
split_front : (front xs : List ℕ) → All (λ byte. is_line_feed byte ≡ false) front → slice_split is_line_feed (front ++ xs) ≡ onto_front front (slice_split is_line_feed xs)
split_front [] xs none = front_none (slice_split is_line_feed xs) (split_first xs)
split_front (byte ∷ front) xs none =
    slice_split-cons_no is_line_feed byte (front ++ xs) (All-head (λ byte. is_line_feed byte ≡ false) byte front none)
    ∙ ap (λ (parts : List (List ℕ)). onto_first byte parts) (split_front front xs (All-tail (λ byte. is_line_feed byte ≡ false) byte front none))
    ∙ onto_more byte front (slice_split is_line_feed xs)

-- a carriage return at the end, by whether it stands there
strip_by : (front xs : List ℕ) (a b : Bool) → a ≡ b → (if a then front ++ take (length xs - 1) xs else front ++ xs) ≡ front ++ (if b then take (length xs - 1) xs else xs)
strip_by front xs a true same = rw same refl
strip_by front xs a false same = rw same refl

-- a carriage return at the end of bytes after others
strip-append : (front xs : List ℕ) → 0 < length xs → strip_carriage_return (front ++ xs) ≡ front ++ strip_carriage_return xs
strip-append front xs some =
    let last : length (front ++ xs) - 1 ≡ length front + (length xs - 1) = omega (arith, length-append front xs) in
    let byte : get_or (front ++ xs) (length (front ++ xs) - 1) 0 ≡ get_or xs (length xs - 1) 0 = ap (λ (n : ℕ). get_or (front ++ xs) n 0) last ∙ get_or-append-add front xs (length xs - 1) 0 in
    let cut : take (length (front ++ xs) - 1) (front ++ xs) ≡ front ++ take (length xs - 1) xs = ap (λ (n : ℕ). take n (front ++ xs)) last ∙ take-append-add front xs (length xs - 1) in
    ap (λ (ys : List ℕ). if get_or (front ++ xs) (length (front ++ xs) - 1) 0 == 13 then ys else front ++ xs) cut
    ∙ strip_by front xs (get_or (front ++ xs) (length (front ++ xs) - 1) 0 == 13) (get_or xs (length xs - 1) 0 == 13) (ap (λ (n : ℕ). n == 13) byte)

strip_kept : (xs : List ℕ) (b : Bool) → b ≡ false → (if b then take (length xs - 1) xs else xs) ≡ xs
strip_kept xs b is = rw is refl

-- bytes that end with no carriage return stay
strip-none : (xs : List ℕ) → (get_or xs (length xs - 1) 0 ≡ 13 → ⊥) → strip_carriage_return xs ≡ xs
strip-none xs other = strip_kept xs (get_or xs (length xs - 1) 0 == 13) (ne_eqb (get_or xs (length xs - 1) 0) 13 other)

-- the front of the first part goes into its kind
strip_front : (front held part : List ℕ) → (length held ≡ 0 → get_or front (length front - 1) 0 ≡ 13 → ⊥) → strip_carriage_return ((front ++ held) ++ part) ≡ front ++ strip_carriage_return (held ++ part)
strip_front front [] [] ends = ap (λ (xs : List ℕ). strip_carriage_return xs) (append-nil (front ++ []) ∙ append-nil front) ∙ strip-none front (ends refl) ∙ sym (append-nil front)
strip_front front [] (byte ∷ part) ends = ap (λ (xs : List ℕ). strip_carriage_return xs) (append_assoc front [] (byte ∷ part)) ∙ strip-append front (byte ∷ part) (omega arith)
strip_front front (byte ∷ held) part ends = ap (λ (xs : List ℕ). strip_carriage_return xs) (append_assoc front (byte ∷ held) part) ∙ strip-append front ((byte ∷ held) ++ part) (omega arith)

-- the front of a line that is too long goes into its kind
shed_read : (n : ℕ) (kind : LineKind) (long : Bool) (front end : List ℕ) → is_utf8 front ≡ true → 300000 < length (front ++ end) → told_read n kind long (front ++ end) ≡ told_read n (kind_with kind front) true end
shed_read n kind long front end text over =
    let texts = text_behind front end text in
    let kinds = kind_with-append kind front end in
    let reading = too_long_by long (front ++ end) over in
    rw (texts, kinds, reading) refl

-- at most one byte is stripped
strip_size_by : (xs : List ℕ) (b : Bool) → length xs ≤ length (if b then take (length xs - 1) xs else xs) + 1
strip_size_by xs true =
    let size = length-take-le (length xs - 1) xs (omega arith) in
    omega (arith, size)
strip_size_by xs false = omega arith

strip_size : (xs : List ℕ) → length xs ≤ length (strip_carriage_return xs) + 1
strip_size xs = strip_size_by xs (get_or xs (length xs - 1) 0 == 13)

shed_parts : (n : ℕ) (kind : LineKind) (long : Bool) (front held : List ℕ) (parts : List (List ℕ)) → is_utf8 front ≡ true → 300001 < length (front ++ held) → (length held ≡ 0 → get_or front (length front - 1) 0 ≡ 13 → ⊥) → told_from n kind long (onto_front (front ++ held) parts) ≡ told_from n (kind_with kind front) true (onto_front held parts)
shed_parts n kind long front held [] text over ends = shed_read n kind long front held text (omega (arith, over))
shed_parts n kind long front held (part ∷ []) text over ends =
    let same = append_assoc front held part in
    let size = length-append (front ++ held) part in
    let more : 300000 < length (front ++ (held ++ part)) = rw (← same) (omega (arith, over, size)) in
    ap (λ (xs : List ℕ). told_read n kind long xs) same ∙ shed_read n kind long front (held ++ part) text more
shed_parts n kind long front held (part ∷ next ∷ parts) text over ends =
    let same = strip_front front held part ends in
    let size = length-append (front ++ held) part in
    let stripped = strip_size ((front ++ held) ++ part) in
    let more : 300000 < length (front ++ strip_carriage_return (held ++ part)) = rw (← same) (omega (arith, over, size, stripped)) in
    ap (λ (xs : List ℕ). told_read n kind long xs ++ told_from (n + 1) Blank false (next ∷ parts)) same
    ∙ ap (λ (read : List (ℕ × Reading)). read ++ told_from (n + 1) Blank false (next ∷ parts)) (shed_read n kind long front (strip_carriage_return (held ++ part)) text more)

-- the front of the bytes held goes into the line's kind
pub told_shed : (n : ℕ) (kind : LineKind) (long : Bool) (front held rest : List ℕ) → is_utf8 front ≡ true → 300001 < length (front ++ held) → All (λ byte. is_line_feed byte ≡ false) (front ++ held) → All (λ byte. is_line_feed byte ≡ false) held → (length held ≡ 0 → get_or front (length front - 1) 0 ≡ 13 → ⊥)
    → told_from n kind long (slice_split is_line_feed ((front ++ held) ++ rest)) ≡ told_from n (kind_with kind front) true (slice_split is_line_feed (held ++ rest))
told_shed n kind long front held rest text over none none_held ends =
    ap (λ (parts : List (List ℕ)). told_from n kind long parts) (split_front (front ++ held) rest none)
    ∙ shed_parts n kind long front held (slice_split is_line_feed rest) text over ends
    ∙ ap (λ (parts : List (List ℕ)). told_from n (kind_with kind front) true parts) (sym (split_front held rest none_held))

told_first : (n : ℕ) (kind : LineKind) (long : Bool) (x : List ℕ) (parts : List (List ℕ)) → 0 < length parts → told_from n kind long (x ∷ parts) ≡ told_read n kind long (strip_carriage_return x) ++ told_from (n + 1) Blank false parts
told_first n kind long x [] some = absurd (omega arith)
told_first n kind long x (part ∷ parts) some = refl

-- a line that no bytes make a text is the first that is left, whatever comes
broken_parts : (n : ℕ) (kind : LineKind) (long : Bool) (held : List ℕ) (parts : List (List ℕ)) → ((more : List ℕ) → is_utf8 (held ++ more) ≡ false) → (more : List (ℕ × Reading)) × (told_from n kind long (onto_front held parts) ≡ (n, None) ∷ more)
broken_parts n kind long held [] never = ([], told_broken n kind long held (ap is_utf8 (sym (append-nil held)) ∙ never []))
broken_parts n kind long held (part ∷ []) never = ([], told_broken n kind long (held ++ part) (never part))
broken_parts n kind long held (part ∷ next ∷ parts) never =
    let others = told_from (n + 1) Blank false (next ∷ parts) in
    (others, ap (λ (first : List (ℕ × Reading)). first ++ others) (told_broken n kind long (strip_carriage_return (held ++ part)) (broken_stripped (held ++ part) (never part))))

pub told_never : (n : ℕ) (kind : LineKind) (long : Bool) (held rest : List ℕ) → All (λ byte. is_line_feed byte ≡ false) held → ((more : List ℕ) → is_utf8 (held ++ more) ≡ false) → (more : List (ℕ × Reading)) × (told_from n kind long (slice_split is_line_feed (held ++ rest)) ≡ (n, None) ∷ more)
told_never n kind long held rest none never =
    let broken = broken_parts n kind long held (slice_split is_line_feed rest) never in
    (broken.0, ap (λ (parts : List (List ℕ)). told_from n kind long parts) (split_front held rest none) ∙ broken.1)

-- a line feed ends the line in hand
pub told_line : (n : ℕ) (kind : LineKind) (long : Bool) (x rest : List ℕ) → All (λ byte. is_line_feed byte ≡ false) x → told_from n kind long (slice_split is_line_feed (x ++ 10 ∷ rest)) ≡ told_read n kind long (strip_carriage_return x) ++ told_from (n + 1) Blank false (slice_split is_line_feed rest)
told_line n kind long x rest none =
    ap (λ (parts : List (List ℕ)). told_from n kind long parts) (slice_split_at is_line_feed x 10 rest none refl)
    ∙ told_first n kind long x (slice_split is_line_feed rest) (split_first rest)

-- the end of the input ends the line in hand
pub told_end : (n : ℕ) (kind : LineKind) (long : Bool) (x : List ℕ) → All (λ byte. is_line_feed byte ≡ false) x → told_from n kind long (slice_split is_line_feed (x ++ [])) ≡ told_read n kind long x
told_end n kind long x none = ap (λ (xs : List ℕ). told_from n kind long (slice_split is_line_feed xs)) (append-nil x) ∙ ap (λ (parts : List (List ℕ)). told_from n kind long parts) (slice_split_none is_line_feed x none)
