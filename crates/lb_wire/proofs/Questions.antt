-- Parts of a message at their places.
use Rattle.std.proofs.Common.{◌≡◌, ℕ, ◌+◌, ◌-◌, ◌<◌, List, ◌++◌, length, drop, sym, ◌∙◌, ap, arith}
use Rattle.std.proofs.lemmas.List.{append_assoc, length-append, length-drop}
use Rattle.lb_name.specs.Name.{wire_of}
use Rattle.lb_name.specs.Reading.{Begins}
use Rattle.lb_wire.proofs.Lists.{drop_after}
use Rattle.lb_wire.specs.Question.{Asks}
use Rattle.lb_wire.specs.declared.question.Question.{Question}
use Rattle.lb_wire.specs.BigEndian.{two_octets}
use Rattle.lb_wire.specs.Message.{question_octets}
use Rattle.lb_wire.specs.declared.record_type.RecordType.{RecordType}
use Rattle.lb_wire.specs.declared.record_type.Class.{Class}

-- a name, a type and a class that stand one after the other are a question
pub question_there : (bytes : List ℕ) (at place : ℕ) (name : List (List ℕ)) (rest : List ℕ) (qtype : RecordType) (qclass : Class) → drop at bytes ≡ wire_of name ++ rest → place ≡ at + length (wire_of name) → drop place bytes ≡ two_octets qtype.0 ++ drop (place + 2) bytes → drop (place + 2) bytes ≡ two_octets qclass.0 ++ drop (place + 2 + 2) bytes → drop at bytes ≡ question_octets name qtype qclass ++ drop (place + 4) bytes
question_there bytes at place name rest qtype qclass there is at_type at_class =
    let after : drop place bytes ≡ rest = ap (λ (n : ℕ). drop n bytes) is ∙ drop_after bytes (wire_of name) rest at there in
    let four : place + 2 + 2 ≡ place + 4 = omega arith in
    let numbers : rest ≡ two_octets qtype.0 ++ (two_octets qclass.0 ++ drop (place + 4) bytes) =
    sym after ∙ at_type ∙ ap (λ (xs : List ℕ). two_octets qtype.0 ++ xs) (at_class ∙ ap (λ (n : ℕ). two_octets qclass.0 ++ drop n bytes) four) in
    there ∙ ap (λ (xs : List ℕ). wire_of name ++ xs) numbers ∙ sym (append_assoc (wire_of name) (two_octets qtype.0 ++ two_octets qclass.0) (drop (place + 4) bytes))

-- where a name stands alone and fewer than four octets follow it, no question stands
pub no_question : (bytes : List ℕ) (at place : ℕ) → ((labels : List (List ℕ)) (rest : List ℕ) → Begins (drop at bytes) labels rest → place ≡ at + length (wire_of labels)) → length bytes - place < 4 → (q : Question) (rest : List ℕ) → Asks (drop at bytes) q rest → ⊥
no_question bytes at place ends short q rest asks =
    let numbers = two_octets q.qtype.0 ++ two_octets q.qclass.0 in
    let regrouped : drop at bytes ≡ wire_of q.name ++ (numbers ++ rest) = asks.parts ∙ append_assoc (wire_of q.name) numbers rest in
    let there : place ≡ at + length (wire_of q.name) = ends q.name (numbers ++ rest) (record { is_name = asks.name; parts = regrouped }) in
    let long : length (drop at bytes) ≡ length (wire_of q.name) + (4 + length rest) = ap (λ (xs : List ℕ). length xs) regrouped ∙ length-append (wire_of q.name) (numbers ++ rest) ∙ omega arith in
    omega (arith, long, there, length-drop at bytes)
