use Rattle.std.proofs.Common.{◌≡◌, ℕ, ◌+◌, List, ◌++◌, length, drop, arith}
use Rattle.std.proofs.lemmas.List.{length-append}
use Rattle.lb_name.specs.Name.{wire_of}
use Rattle.lb_name.specs.Reading.{Begins}
use Rattle.lb_wire.specs.BigEndian.{two_octets}
use Rattle.lb_wire.proofs.Questions.{question_there, no_question}
use Rattle.lb_wire.proofs.Holds.{number_there}
use Rattle.lb_wire.proofs.question.skip_question.Goals as goal

pub returns-then-bytes-place-lt-AFTER_NAME-clause-none : goal.returns-then-bytes-place-lt-AFTER_NAME-clause-none
returns-then-bytes-place-lt-AFTER_NAME-clause-none c =
    let ends : (labels : List (List ℕ)) (rest : List ℕ) → Begins (drop c.args.at c.args.bytes.now) labels rest → c.in-Ok.place ≡ c.args.at + length (wire_of labels) =
    λ labels rest begins. (c.in-Ok.ensures.only labels rest begins).0 in
    no_question _ _ _ ends c.if-bytes-place-lt-AFTER_NAME.true

pub returns-clause-found : goal.returns-clause-found
returns-clause-found c =
    let bytes = c.args.bytes.now in
    let found = c.in-Ok.ensures.found in
    let qtype = number_there bytes c.in-Ok.place (λ i. omega (arith, c.type_inv.bytes i)) (omega arith) in
    let qclass = number_there bytes (c.in-Ok.place + 2) (λ i. omega (arith, c.type_inv.bytes i)) (omega arith) in
    let there = question_there bytes c.args.at c.in-Ok.place found.0 found.1 (record { 0 = qtype.0 }) (record { 0 = qclass.0 }) found.2.parts found.3 qtype.2 qclass.2 in
    let long = length-append (wire_of found.0) (two_octets qtype.0 ++ two_octets qclass.0) in (
      record { name = found.0; qtype = record { 0 = qtype.0 }; qclass = record { 0 = qclass.0 } },
      record { name = found.2.is_name; qtype = qtype.1; qclass = qclass.1; parts = there },
      omega (arith, found.3, long),
    )
