-- Names of servers and pools as words.
use Rattle.std.proofs.Common.{◌≡◌, ℕ, ◌<◌, ◌==◌, true, false, ◌&&◌, if◌then◌else◌, List, [], ◌∷◌, length, Option, Some, refl, ap, ◌∙◌, arith, codes}
use Rattle.std.specs.Prelude.{bytes_eq, nat_le, nat_lt, slice_index}
use Rattle.std.specs.List.{list_all}
use Rattle.std.specs.Char.{is_ascii_alphabetic}
use Rattle.std.proofs.lemmas.Bool.{and_parts}
use Rattle.std.proofs.lemmas.Bool.Decides.{nat_tests}
use Rattle.std.proofs.lemmas.Grind.{common_steps}
use Rattle.lb_servers.specs.Ident.{is_ident, is_ident_byte, max_ident}
use Rattle.lb_servers.specs.declared.pool.PoolName.{PoolName}
use Rattle.lb_servers.specs.declared.pool.PoolName.TheVariants.{Named}
use Rattle.lb_command.specs.Line.{is_word_byte}
use Rattle.lb_command.specs.Values.{ident_of, pool_of, word_of}
use Rattle.lb_typed.specs.Words.{IsWord, Types}

byte_is_word : (b : ℕ) → is_ident_byte b ≡ true → is_word_byte b ≡ true
byte_is_word b is = grind (arith, common_steps, is)

bytes_are_word : (text : List ℕ) → list_all is_ident_byte text ≡ true → list_all is_word_byte text ≡ true
bytes_are_word [] all = refl
bytes_are_word (b ∷ bs) all =
    let parts = and_parts (is_ident_byte b) (list_all is_ident_byte bs) all in
    rw (byte_is_word b parts.0, bytes_are_word bs parts.1) refl

no_dash : (b : ℕ) → is_ascii_alphabetic b ≡ true → (b == 45) ≡ false
no_dash b is = grind (arith, common_steps, is)

-- a name is a word
pub ident_is_word : (text : List ℕ) → is_ident text ≡ true → IsWord text
ident_is_word [] is = grind (arith, is)
ident_is_word (b ∷ bs) is =
    let front = and_parts (nat_lt 0 (length (b ∷ bs)) && nat_le (length (b ∷ bs)) max_ident && is_ascii_alphabetic b) (list_all is_ident_byte (b ∷ bs)) is in
    record { some = omega arith; each = bytes_are_word (b ∷ bs) front.1 }

pub ident : (text : List ℕ) → is_ident text ≡ true → Types ident_of text text
ident text is =
    let word = ident_is_word text is in
    record { is_word = word; says = rw (word.each, is) refl }

not_default : (text : List ℕ) → is_ident text ≡ true → bytes_eq text (codes "-") ≡ false
not_default [] is = refl
not_default (b ∷ bs) is =
    let front = and_parts (nat_lt 0 (length (b ∷ bs)) && nat_le (length (b ∷ bs)) max_ident && is_ascii_alphabetic b) (list_all is_ident_byte (b ∷ bs)) is in
    let letter = and_parts (nat_lt 0 (length (b ∷ bs)) && nat_le (length (b ∷ bs)) max_ident) (is_ascii_alphabetic b) front.0 in
    rw (no_dash b letter.1) refl

-- the name of a pool
pub pool : (text : List ℕ) → is_ident text ≡ true → Types pool_of (Named text) text
pool text is =
    let word = ident text is in
    record { is_word = word.is_word; says = rw (not_default text is, word.says) refl }
