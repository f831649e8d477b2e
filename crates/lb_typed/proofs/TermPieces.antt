-- Pieces of terms.
use Rattle.std.proofs.Common.{◌≡◌, ℕ, zero, suc, ◌<◌, ◌≤◌, ◌^◌, ◌==◌, ◌&&◌, true, false, if◌then◌else◌, List, [], ◌∷◌, ◌++◌, length, codes, append_assoc, refl, sym, ap, subst, ◌∙◌, arith, inl, inr}
use Rattle.std.specs.List.{AllByRecursion}
use Rattle.std.specs.Fmt.{decimal}
use Rattle.std.proofs.lemmas.Bool.{and_parts, cases_Bool}
use Rattle.std.proofs.lemmas.Grind.{common_steps}
use Rattle.lb_masks.specs.Mask.{Prefix}
use Rattle.lb_masks.specs.Number.{number_up_to}
use Rattle.lb_wire.specs.declared.record_type.RecordType.{RecordType}
use Rattle.lb_terms.specs.Selector.{Selector, Selectors}
use Rattle.lb_terms.specs.Selector as sel
use Rattle.lb_command.specs.Line.{Seen, left_of}
use Rattle.lb_command.specs.Grammar.{Part, ◌▷◌, bracketed, comma_list, lengths, says, term, terms, word}
use Rattle.lb_command.specs.Values.{in_range, mask_of, name_of, type_of}
use Rattle.lb_typed.specs.Words.{IsWord, Types}
use Rattle.lb_typed.specs.Pieces.{Spells}
use Rattle.lb_typed.specs.Typed.{AreTyped, IsSome, IsTyped, IsTypedName, rate_text}
use Rattle.lb_typed.proofs.Lexed as lexed
use Rattle.lb_typed.proofs.Numbers.{ranged, up_to}
use Rattle.lb_typed.proofs.Spelled.{fixed, in_brackets, left_with, value}

pub known : (text : List ℕ) → IsWord text → Spells (word text) text
known text is = fixed text is

-- a word and its parentheses
abbrev pub within : List ℕ → List ℕ → List ℕ
within text inner = text ++ 40 ∷ (inner ++ 41 ∷ [])

pub all : (most : ℕ) → IsTyped most sel.All → Spells (term sel.All) (codes "all")
all most is = fixed (codes "all") (record { some = omega arith; each = refl })

pub suffix : (most : ℕ) (names : List (List (List ℕ))) (inner : List ℕ) → (0 < length names → length names ≤ most → AllByRecursion IsTypedName names → Spells (comma_list (says name_of) names) inner) → IsTyped most (sel.Suffix names) → Spells (term (sel.Suffix names)) (within (codes "suffix") inner)
suffix most names inner spells is = in_brackets (word (codes "suffix")) (comma_list (says name_of) names) (codes "suffix") inner (fixed (codes "suffix") (record { some = omega arith; each = refl })) (spells is.0 is.1 is.2)

pub masks : (most : ℕ) (group : List Prefix) (inner : List ℕ) → (0 < length group → length group ≤ most → Spells (comma_list (says mask_of) group) inner) → IsTyped most (sel.Masks group) → Spells (term (sel.Masks group)) (within (codes "masks") inner)
masks most group inner spells is = in_brackets (word (codes "masks")) (comma_list (says mask_of) group) (codes "masks") inner (fixed (codes "masks") (record { some = omega arith; each = refl })) (spells is.0 is.1)

pub qtype : (most : ℕ) (type : RecordType) (inner : List ℕ) → Types type_of type inner → IsTyped most (sel.Qtype type) → Spells (term (sel.Qtype type)) (within (codes "qtype") inner)
qtype most type inner types is = in_brackets (word (codes "qtype")) (says type_of type) (codes "qtype") inner (fixed (codes "qtype") (record { some = omega arith; each = refl })) (value type_of type inner types)

pub and : (most : ℕ) (members : Selectors) (inner : List ℕ) → (AreTyped most members → IsSome members → Spells (terms members) inner) → IsTyped most (sel.And members) → Spells (term (sel.And members)) (within (codes "and") inner)
and most members inner spells is = in_brackets (word (codes "and")) (terms members) (codes "and") inner (fixed (codes "and") (record { some = omega arith; each = refl })) (spells is.1 is.0)

pub or : (most : ℕ) (members : Selectors) (inner : List ℕ) → (AreTyped most members → IsSome members → Spells (terms members) inner) → IsTyped most (sel.Or members) → Spells (term (sel.Or members)) (within (codes "or") inner)
or most members inner spells is = in_brackets (word (codes "or")) (terms members) (codes "or") inner (fixed (codes "or") (record { some = omega arith; each = refl })) (spells is.1 is.0)

pub not : (most : ℕ) (member : Selector) (inner : List ℕ) → (IsTyped most member → Spells (term member) inner) → IsTyped most (sel.Not member) → Spells (term (sel.Not member)) (within (codes "not") inner)
not most member inner spells is = in_brackets (word (codes "not")) (term member) (codes "not") inner (fixed (codes "not") (record { some = omega arith; each = refl })) (spells is)

-- a rate, its lengths given or not
comma_piece : (p q : Part) (a b : List ℕ) → Spells p a → Spells q b → Spells (p ▷ word (codes ",") ▷ q) (a ++ 44 ∷ b)
comma_piece p q a b first second total rest ends = (
  left_of total (44 ∷ b ++ rest),
  subst (λ (line : List ℕ). p (left_of total line) (left_of total (44 ∷ b ++ rest))) (sym (append_assoc a (44 ∷ b) rest)) (first total (44 ∷ b ++ rest) refl),
  (left_of total (b ++ rest), (_, ap (λ (ws : List Seen). left_with total ws) (lexed.comma total (b ++ rest))), second total rest ends),
)

three : (qps v4 v6 : ℕ) → Types (in_range 1 1000) qps (decimal qps) → Types (number_up_to 10 32) v4 (decimal v4) → Types (number_up_to 10 128) v6 (decimal v6) → Spells (says (in_range 1 1000) qps ▷ lengths v4 v6) (decimal qps ++ 44 ∷ (decimal v4 ++ 44 ∷ decimal v6))
three qps v4 v6 first second third total rest ends =
    let long = comma_piece (says (in_range 1 1000) qps) (says (number_up_to 10 32) v4 ▷ word (codes ",") ▷ says (number_up_to 10 128) v6) (decimal qps) (decimal v4 ++ 44 ∷ decimal v6) (value (in_range 1 1000) qps (decimal qps) first) (comma_piece (says (number_up_to 10 32) v4) (says (number_up_to 10 128) v6) (decimal v4) (decimal v6) (value (number_up_to 10 32) v4 (decimal v4) second) (value (number_up_to 10 128) v6 (decimal v6) third)) total rest ends in
    (long.0, long.1, inl long.2)

one : (qps v4 v6 : ℕ) → v4 ≡ 32 → v6 ≡ 64 → Types (in_range 1 1000) qps (decimal qps) → Spells (says (in_range 1 1000) qps ▷ lengths v4 v6) (decimal qps)
one qps v4 v6 is_32 is_64 first total rest ends = (left_of total rest, value (in_range 1 1000) qps (decimal qps) first total rest ends, inr (is_32, is_64, refl))

either_rate : (qps v4 v6 : ℕ) → Types (in_range 1 1000) qps (decimal qps) → Types (number_up_to 10 32) v4 (decimal v4) → Types (number_up_to 10 128) v6 (decimal v6) → Spells (says (in_range 1 1000) qps ▷ lengths v4 v6) (rate_text qps v4 v6)
either_rate qps v4 v6 first second third =
    elim (cases_Bool (v4 == 32 && v6 == 64)) [
      | inl e ↦
          let parts = and_parts (v4 == 32) (v6 == 64) e in
          rw e (one qps v4 v6 (grind (arith, common_steps, parts.0)) (grind (arith, common_steps, parts.1)) first)
      | inr e ↦ rw e (three qps v4 v6 first second third)
    ]

pub rate : (most qps v4 v6 : ℕ) (inner : List ℕ) → inner ≡ rate_text qps v4 v6 → IsTyped most (sel.MaxQps qps v4 v6) → Spells (term (sel.MaxQps qps v4 v6)) (within (codes "maxqps") inner)
rate most qps v4 v6 inner is typed =
    let first = ranged 1 1000 qps typed.0 typed.1 (omega (arith, typed.1)) in
    let second : Types (number_up_to 10 32) v4 (decimal v4) = up_to 32 v4 (omega (arith, typed.2)) typed.2 in
    let third : Types (number_up_to 10 128) v6 (decimal v6) = up_to 128 v6 (omega (arith, typed.3)) typed.3 in
    in_brackets (word (codes "maxqps")) (says (in_range 1 1000) qps ▷ lengths v4 v6) (codes "maxqps") inner (fixed (codes "maxqps") (record { some = omega arith; each = refl }))
    (subst (λ (bytes : List ℕ). Spells (says (in_range 1 1000) qps ▷ lengths v4 v6) bytes) (sym is) (either_rate qps v4 v6 first second third))
