-- Lanes as words.
use Rattle.std.proofs.Common.{◌≡◌, ℕ, zero, suc, ◌<◌, ◌≤◌, true, false, ◌&&◌, if◌then◌else◌, List, [], ◌∷◌, ◌++◌, length, Option, None, Some, refl, sym, ap, ◌∙◌, arith, codes}
use Rattle.std.specs.Prelude.{nat_lt}
use Rattle.std.specs.Fmt.{decimal}
use Rattle.std.specs.List.{list_all}
use Rattle.std.proofs.lemmas.Bool.{lt-ltb}
use Rattle.lb_wire.specs.declared.transport.Kind.{Kind}
use Rattle.lb_wire.specs.declared.transport.Kind.TheVariants.{Datagram, Stream}
use Rattle.lb_wire.specs.declared.transport.Lane.{Lane}
use Rattle.lb_command.specs.Answers.{kind_text, lane_number_text, lane_text}
use Rattle.lb_command.specs.Line.{is_word_byte}
use Rattle.lb_command.specs.Values.{lane_of}
use Rattle.lb_typed.specs.Words.{IsWord, Types}
use Rattle.lb_typed.proofs.Numbers.{decimal_word, number_back}

read_back : (kind : Kind) (n : ℕ) → n < 8 → lane_of (kind_text kind ++ lane_number_text n) ≡ Some (record { kind = kind; number = n })
read_back Datagram zero few = refl
read_back Datagram (suc n) few = rw (lt-ltb 3 (length (kind_text Datagram ++ lane_number_text (suc n))) (omega arith), number_back 7 (suc n) (omega (arith, few)) (omega (arith, few))) refl
read_back Stream zero few = refl
read_back Stream (suc n) few = rw (lt-ltb 3 (length (kind_text Stream ++ lane_number_text (suc n))) (omega arith), number_back 7 (suc n) (omega (arith, few)) (omega (arith, few))) refl

each : (kind : Kind) (n : ℕ) → n < 8 → list_all is_word_byte (kind_text kind ++ lane_number_text n) ≡ true
each Datagram zero few = refl
each Datagram (suc n) few = (decimal_word (suc n) (omega (arith, few))).each
each Stream zero few = refl
each Stream (suc n) few = (decimal_word (suc n) (omega (arith, few))).each

some : (kind : Kind) (n : ℕ) → 0 < length (kind_text kind ++ lane_number_text n)
some Datagram n = omega arith
some Stream n = omega arith

pub lane : (l : Lane) → l.number < 8 → Types lane_of l (lane_text l)
lane l few = record { is_word = record { some = some l.kind l.number; each = each l.kind l.number few }; says = read_back l.kind l.number few }
