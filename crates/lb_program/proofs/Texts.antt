-- Bytes that are text in UTF-8, and bytes that are not.
use lib.Utf8.{encode, encodes, scalars}
use Rattle.std.proofs.Common.{◌≡◌, ℕ, ◌+◌, ◌-◌, ◌<◌, ◌≤◌, Bool, true, false, ◌&&◌, ◌==◌, if◌then◌else◌, List, [], ◌∷◌, ◌++◌, length, take, drop, get_or, refl, sym, ◌∙◌, ap, subst, arith}
use Rattle.std.proofs.lemmas.Bool.{eqb-true}
use Rattle.std.proofs.lemmas.List.{drop_at, drop_more, drop-append-le, length-append, length-drop, nil_from_length, take-append-drop, take-append-le, take_at}
use Rattle.std.proofs.lemmas.Str.{IsCharBoundary-from_take, IsCharBoundary-before_ascii, IsUtf8-append, IsUtf8-drop, IsUtf8-encode, IsUtf8-from_is_utf8, IsUtf8-take, encode_ascii, is_utf8-from_IsUtf8, len_utf8_bounds, length-encode}
use Rattle.std.specs.Char.{IsScalar}
use Rattle.std.specs.Str.{IsUtf8, IsValidUpTo, is_utf8}
use Rattle.std.specs.Str.Lines.{strip_carriage_return}
use Rattle.lb_program.proofs.Outputs.{taken_more}

-- bits that are true together are the same
same_bits : (a b : Bool) → (a ≡ true → b ≡ true) → (b ≡ true → a ≡ true) → a ≡ b
same_bits true true there back = refl
same_bits true false there back = sym (there refl)
same_bits false true there back = back refl
same_bits false false there back = refl

-- a bit that is not true is false
not_true : (b : Bool) → (b ≡ true → ⊥) → b ≡ false
not_true true never = absurd (never refl)
not_true false never = refl

-- a bit has one value
pub not_both : (b : Bool) → b ≡ true → b ≡ false → ⊥
not_both true is is_not = absurd (cc)
not_both false is is_not = absurd (cc)

-- bytes that are no text
pub no_text : (bytes : List ℕ) → (IsUtf8 bytes → ⊥) → is_utf8 bytes ≡ false
no_text bytes never = not_true (is_utf8 bytes) (λ text. never (IsUtf8-from_is_utf8 bytes text))

-- bytes after a text are one where both are
behind_text : (front end : List ℕ) → IsUtf8 front → IsUtf8 (front ++ end) → IsUtf8 end
behind_text front end text both =
    let cut = IsCharBoundary-from_take (front ++ end) (length front) both (omega (arith, length-append front end)) (subst IsUtf8 (sym (take_at front end (length front) refl)) text) in
    subst IsUtf8 (drop_at front end (length front) refl) (IsUtf8-drop (front ++ end) (length front) both cut)

pub text_behind : (front end : List ℕ) → is_utf8 front ≡ true → is_utf8 (front ++ end) ≡ is_utf8 end
text_behind front end is =
    let text = IsUtf8-from_is_utf8 front is in
    same_bits (is_utf8 (front ++ end)) (is_utf8 end)
    (λ both. is_utf8-from_IsUtf8 end (behind_text front end text (IsUtf8-from_is_utf8 (front ++ end) both)))
    (λ last. is_utf8-from_IsUtf8 (front ++ end) (IsUtf8-append front end text (IsUtf8-from_is_utf8 end last)))

-- the byte at the end
ends_with : (xs : List ℕ) (n : ℕ) → length xs ≡ n + 1 → xs ≡ take n xs ++ get_or xs n 0 ∷ []
ends_with xs n size =
    let none : drop (n + 1) xs ≡ [] = nil_from_length _ (omega (arith, size, length-drop (n + 1) xs)) in
    sym (take-append-drop n xs) ∙ ap (λ (ys : List ℕ). take n xs ++ ys) (drop_more xs n 0 (omega (arith, size)) ∙ ap (λ (ys : List ℕ). get_or xs n 0 ∷ ys) none)

-- a text is one with a carriage return after it
return_behind : (xs : List ℕ) → IsUtf8 xs → IsUtf8 (xs ++ 13 ∷ [])
return_behind xs text = IsUtf8-append xs (13 ∷ []) text (subst IsUtf8 (encode_ascii 13 (omega arith)) (IsUtf8-encode 13 refl))

-- bytes are text where they are one without the carriage return at their end
stripped_by : (xs : List ℕ) (b : Bool) → (get_or xs (length xs - 1) 0 == 13) ≡ b → IsUtf8 (if b then take (length xs - 1) xs else xs) → IsUtf8 xs
stripped_by [] true is text = absurd (cc)
stripped_by (x ∷ xs) true is text =
    let all : List ℕ = x ∷ xs in
    let n = length all - 1 in
    let last : get_or all n 0 ≡ 13 = eqb-true _ _ is in
    let size : length all ≡ n + 1 = omega arith in
    subst IsUtf8 (ap (λ (y : ℕ). take n all ++ y ∷ []) (sym last) ∙ sym (ends_with all n size)) (return_behind (take n all) text)
stripped_by xs false is text = text

pub broken_stripped : (xs : List ℕ) → is_utf8 xs ≡ false → is_utf8 (strip_carriage_return xs) ≡ false
broken_stripped xs broken = no_text (strip_carriage_return xs) (λ text. not_both (is_utf8 xs) (is_utf8-from_IsUtf8 xs (stripped_by xs (get_or xs (length xs - 1) 0 == 13) refl text)) broken)

-- a text that is not empty begins with a character
abbrev Begins : List ℕ → Type 0
Begins bytes = (c : ℕ) × (rest : List ℕ) × IsScalar c × (bytes ≡ encode c ++ rest)

first_true : (a b : Bool) → (a && b) ≡ true → a ≡ true
first_true true b is = refl
first_true false b is = is

begins_by : (bytes cs : List ℕ) → scalars cs ≡ true → encodes cs ≡ bytes → 0 < length bytes → Begins bytes
begins_by bytes [] all is some = absurd (omega (arith, some, ap length is))
begins_by bytes (c ∷ cs) all is some = (c, encodes cs, first_true _ _ all, sym is)

begins : (bytes : List ℕ) → IsUtf8 bytes → 0 < length bytes → Begins bytes
begins bytes text some = begins_by bytes text.0 text.1.0 text.1.1 some

-- where bytes stop being text four bytes before their end or earlier, none after them make them one
longer_text : (bytes more : List ℕ) (n : ℕ) → IsValidUpTo bytes n → n + 4 ≤ length bytes → IsUtf8 (bytes ++ more) → ⊥
longer_text bytes more n valid room text =
    let within : n ≤ length bytes = omega (arith, room) in
    let both = bytes ++ more in
    let front : take n both ≡ take n bytes = take-append-le n bytes more within in
    let cut = IsCharBoundary-from_take both n text (omega (arith, within, length-append bytes more)) (subst IsUtf8 (sym front) valid.front) in
    let behind : drop n both ≡ drop n bytes ++ more = drop-append-le n bytes more within in
    let rest : IsUtf8 (drop n bytes ++ more) = subst IsUtf8 behind (IsUtf8-drop both n text cut) in
    let left = length-drop n bytes in
    let first = begins (drop n bytes ++ more) rest (omega (arith, room, left, length-append (drop n bytes) more)) in
    let c = first.0 in
    let k = length (encode c) in
    let bounds = len_utf8_bounds c in
    let size = length-encode c in
    let fits : k ≤ length (drop n bytes) = omega (arith, room, left, bounds.1, size) in
    let char : take k (drop n bytes) ≡ encode c =
    sym (take-append-le k (drop n bytes) more fits) ∙ ap (take k) first.3 ∙ take_at (encode c) first.1 k refl in
    let longer : IsUtf8 (take (n + k) bytes) =
    subst IsUtf8 (sym (taken_more n k bytes ∙ ap (λ (ys : List ℕ). take n bytes ++ ys) char)) (IsUtf8-append (take n bytes) (encode c) valid.front (IsUtf8-encode c first.2)) in
    valid.longest (n + k) (omega (arith, bounds.0, size)) longer

pub never_text : (bytes : List ℕ) (n : ℕ) → IsValidUpTo bytes n → n + 4 ≤ length bytes → (more : List ℕ) → is_utf8 (bytes ++ more) ≡ false
never_text bytes n valid room more = no_text (bytes ++ more) (longer_text bytes more n valid room)

-- a text is one without the carriage return at its end
pub text_before_return : (xs : List ℕ) → IsUtf8 xs → 0 < length xs → get_or xs (length xs - 1) 0 ≡ 13 → is_utf8 (take (length xs - 1) xs) ≡ true
text_before_return xs text some last =
    is_utf8-from_IsUtf8 _ (IsUtf8-take xs (length xs - 1) text (IsCharBoundary-before_ascii xs (length xs - 1) (omega (arith, some)) (omega (arith, last))))
