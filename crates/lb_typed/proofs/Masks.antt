-- Masks as words.
use Rattle.std.proofs.Common.{◌≡◌, ℕ, zero, suc, ◌+◌, ◌-◌, ◌*◌, ◌/◌, ◌%◌, ◌^◌, ◌<◌, ◌≤◌, ◌==◌, Bool, true, false, not, ◌&&◌, if◌then◌else◌, List, [], ◌∷◌, ◌++◌, length, drop, take, Option, None, Some, Ok, Result, refl, sym, ap, subst, ◌∙◌, arith, inl, inr}
use Rattle.std.specs.Prelude.{min, nat_lt, slice_index}
use Rattle.std.specs.Fmt.{decimal}
use Rattle.std.specs.Int.{bit_at}
use Rattle.std.specs.List.{list_all, prefix_len}
use Rattle.std.proofs.lemmas.Bool.{and_parts, cases_lt, le-ltb, lt-ltb}
use Rattle.std.proofs.lemmas.List.{length-append, take_at}
use Rattle.std.proofs.Math.Seq.{drop-append-add}
use Rattle.std.proofs.lemmas.Nat.Bits.{same_from_bits_below}
use Rattle.hex.specs.Hex.{IsBytes}
use Rattle.lb_wire.specs.declared.addr.Addr.{Addr}
use Rattle.lb_wire.specs.declared.addr.Addr.TheVariants.{V4, V6}
use Rattle.lb_masks.specs.Bits.{KeepsBits, OneFamily, bit_of, kept_octets, octets_of}
use Rattle.lb_masks.specs.Form.{before, behind}
use Rattle.lb_masks.specs.Mask.{Prefix, len_for, masked_at, masked_of, prefix_of, width}
use Rattle.lb_masks.specs.Text.{addr_of_text, mask_of_text}
use Rattle.lb_command.specs.Line.{is_word_byte}
use Rattle.lb_command.specs.Values.{addr_of, mask_of}
use Rattle.lb_typed.specs.Addrs.{TypesAddr, is_other}
use Rattle.lb_typed.specs.Words.{IsWord, Types}
use Rattle.lb_typed.proofs.Addresses.{all_after, is_not}
use Rattle.lb_typed.proofs.Numbers.{decimal_word, number_back}

abbrev the_prefix : Addr → ℕ → Prefix
the_prefix addr len = record { network = addr; len = len }

-- octets with the same bits are the same
first_bit : (x : ℕ) (xs : List ℕ) (i : ℕ) → i < 8 → bit_of (x ∷ xs) (7 - i) ≡ bit_at x i
first_bit x xs i few =
    let place : (7 - i) / 8 ≡ 0 = omega arith in
    let bit : 7 - (7 - i) % 8 ≡ i = omega (arith, few) in
    rw (place, bit) refl

next_bit : (x : ℕ) (xs : List ℕ) (k : ℕ) → bit_of (x ∷ xs) (k + 8) ≡ bit_of xs k
next_bit x xs k =
    let place : (k + 8) / 8 ≡ suc (k / 8) = omega arith in
    let bit : (k + 8) % 8 ≡ k % 8 = omega arith in
    rw (place, bit) refl

same_octets : (xs ys : List ℕ) → length xs ≡ length ys → IsBytes xs → IsBytes ys → ((k : ℕ) → bit_of xs k ≡ bit_of ys k) → xs ≡ ys
same_octets [] [] len are others bits = refl
same_octets [] (y ∷ ys) len are others bits = absurd (omega (arith, len))
same_octets (x ∷ xs) [] len are others bits = absurd (omega (arith, len))
same_octets (x ∷ xs) (y ∷ ys) len are others bits =
    let first : x ≡ y = same_from_bits_below 8 x y (omega (arith, are 0)) (omega (arith, others 0)) (λ i few. sym (first_bit x xs i few) ∙ bits (7 - i) ∙ first_bit y ys i few) in
    let rest : xs ≡ ys = same_octets xs ys (omega (arith, len)) (λ i. are (suc i)) (λ i. others (suc i)) (λ k. sym (next_bit x xs k) ∙ bits (k + 8) ∙ next_bit y ys k) in
    ap (λ (n : ℕ). n ∷ xs) first ∙ ap (λ (ns : List ℕ). y ∷ ns) rest

kept_length : (count : ℕ) (octets : List ℕ) → length (kept_octets count octets) ≡ length octets
kept_length count [] = refl
kept_length count (octet ∷ octets) = ap (λ (n : ℕ). suc n) (kept_length (count - 8) octets)

pub keeps : (count : ℕ) (octets : List ℕ) → IsBytes octets → IsBytes (kept_octets count octets) → KeepsBits count octets (kept_octets count octets) → ((k : ℕ) → count ≤ k → bit_of octets k ≡ 0) → kept_octets count octets ≡ octets
keeps count octets are kept_are kept cleared =
    same_octets (kept_octets count octets) octets (kept_length count octets) kept_are are
    (λ k. elim (cases_lt k count) [
      | inl low ↦ sym (kept.kept k low)
      | inr high ↦ kept.cleared k high ∙ sym (cleared k high)
    ])

same_addr : (addr : Addr) (len m : ℕ) (kept : Addr) → m ≡ min len 32 → len ≤ width addr → kept ≡ masked_of m len addr → OneFamily (KeepsBits (len_for m len addr)) addr kept → IsBytes (octets_of addr) → IsBytes (octets_of kept) → ((k : ℕ) → len ≤ k → bit_of (octets_of addr) k ≡ 0) → masked_at len addr ≡ addr
same_addr (V4 octets) len m kept least within is bits are kept_are cleared =
    let all : m ≡ len = omega (arith, least, within) in
    let kept_is : kept ≡ V4 (kept_octets len octets) = is ∙ ap (λ (n : ℕ). V4 (kept_octets n octets)) all in
    let keep : OneFamily (KeepsBits len) (V4 octets) (V4 (kept_octets len octets)) = subst (λ (a : Addr). OneFamily (KeepsBits len) (V4 octets) a) kept_is (subst (λ (n : ℕ). OneFamily (KeepsBits n) (V4 octets) kept) all bits) in
    let small : IsBytes (octets_of (V4 (kept_octets len octets))) = subst (λ (a : Addr). IsBytes (octets_of a)) kept_is kept_are in
    ap (λ (os : List ℕ). V4 os) (keeps len octets are small keep cleared)
same_addr (V6 octets) len m kept least within is bits are kept_are cleared =
    let keep : OneFamily (KeepsBits len) (V6 octets) (V6 (kept_octets len octets)) = subst (λ (a : Addr). OneFamily (KeepsBits len) (V6 octets) a) is bits in
    let small : IsBytes (octets_of (V6 (kept_octets len octets))) = subst (λ (a : Addr). IsBytes (octets_of a)) is kept_are in
    ap (λ (os : List ℕ). V6 os) (keeps len octets are small keep cleared)

-- a mask is the one of its network and its length
pub same_mask : (prefix : Prefix) (m : ℕ) (kept : Addr) → m ≡ min prefix.len 32 → prefix.len ≤ width prefix.network → kept ≡ masked_of m prefix.len prefix.network → OneFamily (KeepsBits (len_for m prefix.len prefix.network)) prefix.network kept → IsBytes (octets_of prefix.network) → IsBytes (octets_of kept) → ((k : ℕ) → prefix.len ≤ k → bit_of (octets_of prefix.network) k ≡ 0) → prefix_of prefix.len prefix.network ≡ prefix
same_mask prefix m kept least within is bits are kept_are cleared =
    ap (λ (a : Addr). the_prefix a prefix.len) (same_addr prefix.network prefix.len m kept least within is bits are kept_are cleared)

width_is_small : (addr : Addr) → width addr ≤ 128
width_is_small (V4 octets) = omega arith
width_is_small (V6 octets) = omega arith

take_all : (xs : List ℕ) → take (length xs) xs ≡ xs
take_all [] = refl
take_all (x ∷ xs) = ap (λ (ys : List ℕ). x ∷ ys) (take_all xs)

drop_past : (xs : List ℕ) (mark : ℕ) (rest : List ℕ) → drop (length xs + 1) (xs ++ mark ∷ rest) ≡ rest
drop_past xs mark rest = drop-append-add xs (mark ∷ rest) 1

-- what is before a slash, and after it
run : (piece rest : List ℕ) → list_all (is_other 47) piece ≡ true → prefix_len (is_other 47) (piece ++ 47 ∷ rest) ≡ length piece
run [] rest none = refl
run (b ∷ bs) rest none =
    let parts = and_parts (is_other 47 b) (list_all (is_other 47) bs) none in
    rw (parts.0, run bs rest parts.1) (omega arith)

run_all : (piece : List ℕ) → list_all (is_other 47) piece ≡ true → prefix_len (is_other 47) piece ≡ length piece
run_all [] none = refl
run_all (b ∷ bs) none =
    let parts = and_parts (is_other 47 b) (list_all (is_other 47) bs) none in
    rw (parts.0, run_all bs parts.1) (omega arith)

before_slash : (piece rest : List ℕ) → list_all (is_other 47) piece ≡ true → before 47 (piece ++ 47 ∷ rest) ≡ piece
before_slash piece rest none = take_at piece (47 ∷ rest) _ (sym (run piece rest none))

after_slash : (piece rest : List ℕ) → list_all (is_other 47) piece ≡ true → behind 47 (piece ++ 47 ∷ rest) ≡ Some rest
after_slash piece rest none =
    let long : nat_lt (length piece) (length (piece ++ 47 ∷ rest)) ≡ true = lt-ltb (length piece) (length (piece ++ 47 ∷ rest)) (omega (arith, length-append piece (47 ∷ rest))) in
    rw (run piece rest none, long) (ap (λ (xs : List ℕ). Some xs) (drop_past piece 47 rest))

before_none : (piece : List ℕ) → list_all (is_other 47) piece ≡ true → before 47 piece ≡ piece
before_none piece none = rw (run_all piece none) (take_all piece)

after_none : (piece : List ℕ) → list_all (is_other 47) piece ≡ true → behind 47 piece ≡ None
after_none piece none =
    let short : nat_lt (length piece) (length piece) ≡ false = le-ltb (length piece) (length piece) (omega arith) in
    rw (run_all piece none, short) refl

-- the mask of a whole address
pub whole : (prefix : Prefix) (text : List ℕ) → prefix_of prefix.len prefix.network ≡ prefix → prefix.len ≡ width prefix.network → TypesAddr prefix.network text → Types mask_of prefix text
whole prefix text same all is =
    let word = is.types.is_word in
    let reads : addr_of_text text ≡ Some prefix.network = rw word.each at is.types.says in
    record {
      is_word = word;
      says = rw (word.each, before_none text is.no_slash, after_none text is.no_slash, reads) (ap (λ (p : Prefix). Some p) (rw (sym all) same));
    }

-- and with its length
pub with_length : (prefix : Prefix) (text : List ℕ) → prefix_of prefix.len prefix.network ≡ prefix → prefix.len ≤ width prefix.network → TypesAddr prefix.network text → Types mask_of prefix (text ++ 47 ∷ decimal prefix.len)
with_length prefix text same within is =
    let word = is.types.is_word in
    let reads : addr_of_text text ≡ Some prefix.network = rw word.each at is.types.says in
    let most = width_is_small prefix.network in
    let digits = decimal_word prefix.len (omega (arith, within, most)) in
    let each : list_all is_word_byte (text ++ 47 ∷ decimal prefix.len) ≡ true = all_after is_word_byte text (47 ∷ decimal prefix.len) word.each digits.each in
    record {
      is_word = record { some = omega (arith, length-append text (47 ∷ decimal prefix.len), word.some); each = each };
      says = rw (each, before_slash text (decimal prefix.len) is.no_slash, after_slash text (decimal prefix.len) is.no_slash, reads, number_back (width prefix.network) prefix.len (omega (arith, within, most)) within) (ap (λ (p : Prefix). Some p) same);
    }
