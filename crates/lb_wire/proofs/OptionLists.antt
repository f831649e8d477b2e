-- Octets read as a list of options.
use Rattle.std.proofs.Common.{◌≡◌, ℕ, zero, suc, ◌+◌, ◌-◌, ◌<◌, ◌≤◌, ◌==◌, Bool, true, false, List, [], ◌∷◌, ◌++◌, length, take, drop, filter, Option, None, Some, option_map, nat_le, if◌then◌else◌, refl, sym, ◌∙◌, ap, arith}
use Rattle.std.proofs.lemmas.List.{append_assoc, append-nil, drop-drop, length-append, length-drop, length-take-le, take-append-drop, take_at, drop_at, nil_from_length}
use Rattle.std.proofs.lemmas.Bool.Decides.{nat_tests}
use Rattle.std.proofs.lemmas.Nat.{from_be_bytes-to_be_bytes_2}
use Rattle.std.proofs.lemmas.Grind.{flat_map-append}
use Rattle.std.proofs.lemmas.List.Elements.{filter-append}
use Rattle.std.specs.List.{flat_map, list_any, AllByRecursion}
use Rattle.lb_wire.specs.BigEndian.{two_octets, number_at}
use Rattle.lb_wire.specs.Options.{EdnsOption, option_octets, IsOption, AreOptions, options_within, options_of, is_listed, is_unlisted, left_octets}

-- the options with one in front
abbrev pub with_front : EdnsOption → Option (List EdnsOption) → Option (List EdnsOption)
with_front o read = option_map (λ options. o ∷ options) read

-- options after others
abbrev pub behind : List EdnsOption → Option (List EdnsOption) → Option (List EdnsOption)
behind front read = option_map (λ options. front ++ options) read

-- the option that octets begin with, of this length
abbrev pub sized : ℕ → ℕ → List ℕ → EdnsOption
sized code size octets = record { code = code; value = take size (drop 4 octets) }

-- what octets are read as, by whether the first option is whole
abbrev pub read_by : Bool → ℕ → ℕ → ℕ → List ℕ → Option (List EdnsOption)
read_by whole code size most octets = if whole then with_front (sized code size octets) (options_within most (drop (4 + size) octets)) else None

is_le : (a b : ℕ) → a ≤ b → nat_le a b ≡ true
is_le a b le = grind (arith, nat_tests)

is_gt : (a b : ℕ) → b < a → nat_le a b ≡ false
is_gt a b lt = grind (arith, nat_tests)

-- an option at the front is read first
pub reads_front : (most : ℕ) (o : EdnsOption) (after : List ℕ) → IsOption o → options_within (suc most) (option_octets o ++ after) ≡ with_front o (options_within most after)
reads_front most o after is =
    let octets = option_octets o ++ after in
    let size : number_at octets 2 ≡ length o.value = from_be_bytes-to_be_bytes_2 (length o.value) is.value in
    let code : number_at octets 0 ≡ o.code = from_be_bytes-to_be_bytes_2 o.code is.code in
    let long : 4 + length o.value ≤ length octets = omega (arith, length-append o.value after) in
    let value : take (length o.value) (drop 4 octets) ≡ o.value = take_at o.value after (length o.value) refl in
    let rest : drop (4 + length o.value) octets ≡ after = sym (drop-drop (length o.value) 4 octets) ∙ drop_at o.value after (length o.value) refl in
    ap (λ (n : ℕ). read_by (nat_le (4 + n) (length octets)) (number_at octets 0) n most octets) size
    ∙ ap (λ (n : ℕ). read_by (nat_le (4 + length o.value) (length octets)) n (length o.value) most octets) code
    ∙ ap (λ (b : Bool). read_by b o.code (length o.value) most octets) (is_le (4 + length o.value) (length octets) long)
    ∙ ap (λ (xs : List ℕ). with_front (record { code = o.code; value = xs }) (options_within most (drop (4 + length o.value) octets))) value
    ∙ ap (λ (xs : List ℕ). with_front o (options_within most xs)) rest

-- if octets are fewer than the first option says, they are not read
pub reads_none : (most : ℕ) (octets : List ℕ) → 0 < length octets → length octets < 4 + number_at octets 2 → options_within most octets ≡ None
reads_none most [] some short = absurd (omega arith)
reads_none zero (octet ∷ octets) some short = refl
reads_none (suc most) (octet ∷ octets) some short =
    let whole = octet ∷ octets in
    ap (λ (b : Bool). read_by b (number_at whole 0) (number_at whole 2) most whole) (is_gt (4 + number_at whole 2) (length whole) short)

-- options that were read after others
behind_one : (front : List EdnsOption) (o : EdnsOption) (read : Option (List EdnsOption)) → behind front (with_front o read) ≡ behind (front ++ o ∷ []) read
behind_one front o None = refl
behind_one front o (Some options) = ap (λ (os : List EdnsOption). Some os) (sym (append_assoc front (o ∷ []) options))

behind_none : (read : Option (List EdnsOption)) → read ≡ behind [] read
behind_none None = refl
behind_none (Some options) = refl

-- the octets up to a place are these options, and what stands after them is read next
pub record ReadTo (octets : List ℕ) (place : ℕ) (front : List EdnsOption) : Type 0 where
  pub each : AllByRecursion IsOption front
  pub parts : octets ≡ flat_map option_octets front ++ drop place octets
  pub most : ℕ
  pub enough : length (drop place octets) ≤ most
  pub reads : options_of octets ≡ behind front (options_within most (drop place octets))

pub ReadTo-none : (octets : List ℕ) → ReadTo octets 0 []
unfolding options_of
ReadTo-none octets = record { each = tt; parts = refl; most = length octets; enough = omega arith; reads = behind_none (options_within (length octets) octets) }

-- a list of options with one more at its end
each_more : (options : List EdnsOption) (o : EdnsOption) → AllByRecursion IsOption options → IsOption o → AllByRecursion IsOption (options ++ o ∷ [])
each_more [] o each is = (is, tt)
each_more (p ∷ options) o each is = (each.0, each_more options o each.1 is)

octets_more : (front : List EdnsOption) (o : EdnsOption) (after : List ℕ) → flat_map option_octets front ++ (option_octets o ++ after) ≡ flat_map option_octets (front ++ o ∷ []) ++ after
octets_more front o after =
    sym (append_assoc (flat_map option_octets front) (option_octets o) after)
    ∙ ap (λ (xs : List ℕ). (flat_map option_octets front ++ xs) ++ after) (sym (append-nil (option_octets o)))
    ∙ ap (λ (xs : List ℕ). xs ++ after) (sym (flat_map-append option_octets front (o ∷ [])))

-- what is read if an option stands
reads_more : (most : ℕ) (o : EdnsOption) (there after : List ℕ) → IsOption o → there ≡ option_octets o ++ after → length there ≤ most → (n : ℕ) × (length after ≤ n) × (options_within most there ≡ with_front o (options_within n after))
reads_more zero o there after is here enough =
    let size = ap (λ (xs : List ℕ). length xs) here in
    absurd (omega (arith, size, enough))
reads_more (suc n) o there after is here enough =
    let size = ap (λ (xs : List ℕ). length xs) here ∙ length-append (option_octets o) after in
    (n, omega (arith, size, enough), ap (λ (xs : List ℕ). options_within (suc n) xs) here ∙ reads_front n o after is)

-- an option more is read
pub ReadTo-more : (octets : List ℕ) (place end : ℕ) (front : List EdnsOption) (o : EdnsOption) → ReadTo octets place front → IsOption o → drop place octets ≡ option_octets o ++ drop end octets → ReadTo octets end (front ++ o ∷ [])
ReadTo-more octets place end front o read is here =
    let next = reads_more read.most o (drop place octets) (drop end octets) is here read.enough in
    record {
      each = each_more front o read.each is;
      parts = read.parts ∙ ap (λ (xs : List ℕ). flat_map option_octets front ++ xs) here ∙ octets_more front o (drop end octets);
      most = next.0;
      enough = next.1;
      reads = read.reads ∙ ap (λ (r : Option (List EdnsOption)). behind front r) next.2 ∙ behind_one front o (options_within next.0 (drop end octets));
    }

-- at the end all options are read
no_octets : (most : ℕ) (octets : List ℕ) → octets ≡ [] → options_within most octets ≡ Some []
no_octets most octets is = ap (λ (xs : List ℕ). options_within most xs) is

pub ReadTo-all : (octets : List ℕ) (place : ℕ) (front : List EdnsOption) → ReadTo octets place front → length octets ≤ place → AreOptions octets front × (options_of octets ≡ Some front)
ReadTo-all octets place front read ends =
    let empty : drop place octets ≡ [] = nil_from_length (drop place octets) (omega (arith, length-drop place octets)) in (
      record { each = read.each; parts = read.parts ∙ ap (λ (xs : List ℕ). flat_map option_octets front ++ xs) empty ∙ append-nil (flat_map option_octets front) },
      read.reads ∙ ap (λ (r : Option (List EdnsOption)). behind front r) (no_octets read.most (drop place octets) empty) ∙ ap (λ (os : List EdnsOption). Some os) (append-nil front),
    )

-- if no option is whole, no options are read
pub ReadTo-cut : (octets : List ℕ) (place : ℕ) (front : List EdnsOption) → ReadTo octets place front → place < length octets → length octets < place + 4 + number_at (drop place octets) 2 → options_of octets ≡ None
ReadTo-cut octets place front read within short =
    let size = length-drop place octets in
    read.reads ∙ ap (λ (r : Option (List EdnsOption)). behind front r) (reads_none read.most (drop place octets) (omega (arith, size)) (omega (arith, size)))

-- the parts of an option, one after another, are the option
pub option_there : (octets : List ℕ) (at end code size : ℕ) → drop at octets ≡ two_octets code ++ drop (at + 2) octets → drop (at + 2) octets ≡ two_octets size ++ drop (at + 2 + 2) octets → end ≡ at + 4 + size → end ≤ length octets → (length (take size (drop (at + 4) octets)) ≡ size) × (drop at octets ≡ option_octets (record { code = code; value = take size (drop (at + 4) octets) }) ++ drop end octets)
option_there octets at end code size at_code at_size ends within =
    let four : at + 2 + 2 ≡ at + 4 = omega arith in
    let value = take size (drop (at + 4) octets) in
    let long : length value ≡ size = length-take-le size (drop (at + 4) octets) (omega (arith, length-drop (at + 4) octets)) in
    let place : at + 4 + size ≡ end = sym ends in
    let split : drop (at + 4) octets ≡ value ++ drop end octets =
    sym (take-append-drop size (drop (at + 4) octets)) ∙ ap (λ (xs : List ℕ). value ++ xs) (drop-drop size (at + 4) octets ∙ ap (λ (k : ℕ). drop k octets) place) in (
      long,
      at_code
          ∙ ap (λ (xs : List ℕ). two_octets code ++ xs) (at_size ∙ ap (λ (k : ℕ). two_octets size ++ drop k octets) four)
          ∙ ap (λ (xs : List ℕ). two_octets code ++ (two_octets size ++ xs)) split
          ∙ ap (λ (k : ℕ). two_octets code ++ (two_octets k ++ (value ++ drop end octets))) (sym long),
    )

-- the place after an option
pub option_end : (octets : List ℕ) (at end : ℕ) (o : EdnsOption) → drop at octets ≡ option_octets o ++ drop end octets → at ≤ length octets → end ≤ length octets → end ≡ at + length (option_octets o)
option_end octets at end o here within ends =
    let size : length (drop at octets) ≡ length (option_octets o) + length (drop end octets) = ap (λ (xs : List ℕ). length xs) here ∙ length-append (option_octets o) (drop end octets) in
    omega (arith, size, length-drop at octets, length-drop end octets)

-- what is left of one option, by whether it is listed
left_one : (skips : List ℕ) (o : EdnsOption) (b : Bool) → is_listed skips o ≡ b → left_octets skips (o ∷ []) ≡ (if b then [] else option_octets o)
left_one skips o true is = rw is refl
left_one skips o false is = rw is (append-nil (option_octets o))

left_more : (skips : List ℕ) (front : List EdnsOption) (o : EdnsOption) (b : Bool) → is_listed skips o ≡ b → left_octets skips (front ++ o ∷ []) ≡ left_octets skips front ++ (if b then [] else option_octets o)
left_more skips front o b is =
    ap (λ (os : List EdnsOption). flat_map option_octets os) (filter-append (is_unlisted skips) front (o ∷ []))
    ∙ flat_map-append option_octets (filter (is_unlisted skips) front) (filter (is_unlisted skips) (o ∷ []))
    ∙ ap (λ (xs : List ℕ). left_octets skips front ++ xs) (left_one skips o b is)

-- a listed option more leaves the same, another one is left too
pub left_taken : (skips : List ℕ) (front : List EdnsOption) (o : EdnsOption) → is_listed skips o ≡ true → left_octets skips (front ++ o ∷ []) ≡ left_octets skips front
left_taken skips front o is = left_more skips front o true is ∙ append-nil (left_octets skips front)

pub left_kept : (skips : List ℕ) (front : List EdnsOption) (o : EdnsOption) → is_listed skips o ≡ false → left_octets skips (front ++ o ∷ []) ≡ left_octets skips front ++ option_octets o
left_kept skips front o is = left_more skips front o false is

-- whether an option with this code is listed
pub listed_by : (skips : List ℕ) (code : ℕ) (o : EdnsOption) (b : Bool) → code ≡ o.code → b ≡ list_any (λ c. c == code) skips → is_listed skips o ≡ b
listed_by skips code o b is told = ap (λ (n : ℕ). list_any (λ c. c == n) skips) (sym is) ∙ sym told

-- the octets of an option that stands at a place
pub option_piece : (octets : List ℕ) (at end : ℕ) (o : EdnsOption) → drop at octets ≡ option_octets o ++ drop end octets → at ≤ length octets → end ≤ length octets → take (end - at) (drop at octets) ≡ option_octets o
option_piece octets at end o here within ends =
    let size : length (option_octets o) ≡ end - at = omega (arith, option_end octets at end o here within ends) in
    ap (λ (xs : List ℕ). take (end - at) xs) here ∙ take_at (option_octets o) (drop end octets) (end - at) size

-- an option that is left, appended to those before
pub left_pushed : (skips front_octets now piece new : List ℕ) (front : List EdnsOption) (o : EdnsOption) → now ≡ front_octets ++ left_octets skips front → is_listed skips o ≡ false → piece ≡ option_octets o → new ≡ now ++ piece → new ≡ front_octets ++ left_octets skips (front ++ o ∷ [])
left_pushed skips front_octets now piece new front o so listed is new_is =
    new_is
    ∙ ap (λ (xs : List ℕ). xs ++ piece) so
    ∙ ap (λ (xs : List ℕ). (front_octets ++ left_octets skips front) ++ xs) is
    ∙ append_assoc front_octets (left_octets skips front) (option_octets o)
    ∙ ap (λ (xs : List ℕ). front_octets ++ xs) (sym (left_kept skips front o listed))

-- octets that are read as options stop nowhere
pub never_cut : (octets : List ℕ) (place : ℕ) (front options : List EdnsOption) → ReadTo octets place front → options_of octets ≡ Some options → place < length octets → length octets < place + 4 + number_at (drop place octets) 2 → ⊥
never_cut octets place front options read are within short =
    let none : None ≡ Some options = sym (ReadTo-cut octets place front read within short) ∙ are in cc none

-- octets are read as one list of options
pub read_once : (octets : List ℕ) (a b : List EdnsOption) → options_of octets ≡ Some a → options_of octets ≡ Some b → a ≡ b
read_once octets a b as_a as_b = let same : Some a ≡ Some b = sym as_a ∙ as_b in cc same
