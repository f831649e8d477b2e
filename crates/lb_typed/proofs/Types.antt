-- Types of records and lanes as words.
use Rattle.std.proofs.Common.{◌≡◌, ℕ, zero, suc, ◌<◌, ◌≤◌, ◌^◌, ◌==◌, true, false, ◌&&◌, if◌then◌else◌, List, [], ◌∷◌, ◌++◌, length, Option, None, Some, refl, sym, ap, ◌∙◌, arith, codes}
use Rattle.std.specs.Prelude.{bytes_eq, nat_lt}
use Rattle.std.specs.Char.{digit_value}
use Rattle.std.specs.Fmt.{decimal}
use Rattle.std.specs.Str.Parse.{AllDigits}
use Rattle.std.proofs.lemmas.Fmt.{decimal_is_IsNumeral}
use Rattle.std.proofs.lemmas.Bool.{lt-ltb}
use Rattle.std.proofs.lemmas.Grind.{common_steps}
use Rattle.lb_wire.specs.RecordType.{type_of_name}
use Rattle.lb_wire.specs.declared.record_type.RecordType.{RecordType}
use Rattle.lb_wire.specs.declared.transport.Kind.{Kind}
use Rattle.lb_wire.specs.declared.transport.Kind.TheVariants.{Datagram, Stream}
use Rattle.lb_wire.specs.declared.transport.Lane.{Lane}
use Rattle.lb_command.specs.Answers.{kind_text}
use Rattle.lb_command.specs.Values.{lane_of, type_of}
use Rattle.lb_typed.specs.Words.{IsWord, Types}
use Rattle.lb_typed.proofs.Numbers.{decimal_word, number_back}

-- no digit is one of the letters that the names of types begin with
no_letter : (b : ℕ) → digit_value b < 10 → (65 == b ≡ false) × (78 == b ≡ false) × (67 == b ≡ false) × (83 == b ≡ false) × (80 == b ≡ false) × (77 == b ≡ false) × (84 == b ≡ false)
no_letter b is = (grind (arith, common_steps, is), grind (arith, common_steps, is), grind (arith, common_steps, is), grind (arith, common_steps, is), grind (arith, common_steps, is), grind (arith, common_steps, is), grind (arith, common_steps, is))

-- digits are no name of a type
digits_name_no_type : (digits : List ℕ) → 0 < length digits → AllDigits 10 digits → type_of_name digits ≡ None
digits_name_no_type [] some each = absurd (omega (arith, some))
digits_name_no_type (b ∷ bs) some each =
    let no = no_letter b each.0 in
    rw (no.0, no.1, no.2, no.3, no.4, no.5, no.6) refl

-- the number of a type
pub numbered : (qtype : RecordType) → qtype.0 < 2 ^ 16 → Types type_of qtype (decimal qtype.0)
numbered qtype small =
    let d = decimal_is_IsNumeral qtype.0 (omega (arith, small)) in
    record {
      is_word = decimal_word qtype.0 (omega (arith, small));
      says = rw (digits_name_no_type (decimal qtype.0) d.0.0 d.0.1, number_back 65535 qtype.0 (omega (arith, small)) (omega (arith, small))) refl;
    }
