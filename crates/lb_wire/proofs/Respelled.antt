-- What is written in a message, piece by piece.
use Rattle.std.proofs.Common.{◌≡◌, ℕ, ◌+◌, ◌≤◌, List, [], ◌∷◌, ◌++◌, length, take, drop, map, refl, sym, ◌∙◌, ap, arith}
use Rattle.std.proofs.lemmas.List.{append_assoc, length-append, length-map, length-drop, length-take-le, take-append-drop}
use Rattle.std.specs.List.{flat_map}
use Rattle.std.specs.Char.{to_ascii_lowercase}
use Rattle.lb_name.specs.Name.{labels_octets, wire_of, lower_name, IsSame}
use Rattle.lb_wire.specs.BigEndian.{two_octets}
use Rattle.lb_wire.specs.Record.{record_octets}
use Rattle.lb_wire.specs.Message.{Message, header_octets, question_octets, message_octets}
use Rattle.lb_wire.specs.Question.{Asks}
use Rattle.lb_wire.specs.declared.question.Question.{Question}
use Rattle.lb_wire.proofs.Lists.{put_at}

-- lower case keeps the length of labels on the wire
lower_long : (labels : List (List ℕ)) → length (labels_octets (lower_name labels)) ≡ length (labels_octets labels)
lower_long [] = refl
lower_long (label ∷ labels) =
    let size : length (map to_ascii_lowercase label) ≡ length label = length-map label to_ascii_lowercase in
    let left = length-append (map to_ascii_lowercase label) (labels_octets (lower_name labels)) in
    let right = length-append label (labels_octets labels) in
    omega (arith, size, left, right, lower_long labels)

-- names that are the same without regard to case are as long on the wire
pub same_long : (a b : List (List ℕ)) → IsSame a b → length (wire_of a) ≡ length (wire_of b)
same_long a b same =
    let low : length (labels_octets (lower_name a)) ≡ length (labels_octets (lower_name b)) = ap (λ (n : List (List ℕ)). length (labels_octets n)) same in
    omega (arith, low, lower_long a, lower_long b, length-append (labels_octets a) (0 ∷ []), length-append (labels_octets b) (0 ∷ []))

-- what follows the question name in a message
abbrev pub behind_name : Message → List ℕ
behind_name m = (two_octets m.qtype.0 ++ two_octets m.qclass.0) ++ (flat_map record_octets m.records ++ m.rest)

-- a message, its question name between what stands before and after it
pub named : (m : Message) → message_octets m ≡ header_octets m.header ++ (wire_of m.name ++ behind_name m)
named m = ap (λ (xs : List ℕ). header_octets m.header ++ xs) (append_assoc (wire_of m.name) (two_octets m.qtype.0 ++ two_octets m.qclass.0) (flat_map record_octets m.records ++ m.rest))

-- a question, its name before what follows it
question_parts : (octets : List ℕ) (q : Question) (rest : List ℕ) → Asks octets q rest → octets ≡ wire_of q.name ++ ((two_octets q.qtype.0 ++ two_octets q.qclass.0) ++ rest)
question_parts octets q rest asks = asks.parts ∙ append_assoc (wire_of q.name) (two_octets q.qtype.0 ++ two_octets q.qclass.0) rest

-- there is room for another spelling of the question name
pub respell_room : (bytes piece : List ℕ) (q : Question) (rest : List ℕ) (name : List (List ℕ)) → Asks (drop 12 bytes) q rest → IsSame q.name name → piece ≡ wire_of name → 12 + length piece ≤ length bytes
respell_room bytes piece q rest name asks same is =
    let behind = (two_octets q.qtype.0 ++ two_octets q.qclass.0) ++ rest in
    let size : length (drop 12 bytes) ≡ length (wire_of q.name) + (4 + length rest) = ap (λ (xs : List ℕ). length xs) (question_parts (drop 12 bytes) q rest asks) ∙ length-append (wire_of q.name) behind ∙ omega arith in
    let piece_size : length piece ≡ length (wire_of name) = ap (λ (xs : List ℕ). length xs) is in
    omega (arith, size, piece_size, same_long q.name name same, length-drop 12 bytes)

-- the octets with another spelling of the question name
pub respelled : (bytes piece new : List ℕ) (q : Question) (rest : List ℕ) (name : List (List ℕ)) → piece ≡ wire_of name → new ≡ (take 12 bytes ++ piece) ++ drop (12 + length piece) bytes → Asks (drop 12 bytes) q rest → IsSame q.name name → new ≡ take 12 bytes ++ (question_octets name q.qtype q.qclass ++ rest)
respelled bytes piece new q rest name is new_is asks same =
    let behind = (two_octets q.qtype.0 ++ two_octets q.qclass.0) ++ rest in
    let size : length (wire_of q.name) ≡ length piece = same_long q.name name same ∙ ap (λ (xs : List ℕ). length xs) (sym is) in
    let room : 12 ≤ length bytes = omega (arith, respell_room bytes piece q rest name asks same is) in
    let whole : bytes ≡ take 12 bytes ++ (wire_of q.name ++ behind) =
    sym (take-append-drop 12 bytes) ∙ ap (λ (xs : List ℕ). take 12 bytes ++ xs) (question_parts (drop 12 bytes) q rest asks) in
    new_is
    ∙ put_at (take 12 bytes) (wire_of q.name) piece behind bytes 12 size whole (sym (length-take-le 12 bytes room))
    ∙ ap (λ (xs : List ℕ). take 12 bytes ++ (xs ++ behind)) is
    ∙ ap (λ (xs : List ℕ). take 12 bytes ++ xs) (sym (append_assoc (wire_of name) (two_octets q.qtype.0 ++ two_octets q.qclass.0) rest))
