-- Questions (RFC 1035 section 4.1.2), and where one stands.
use Rattle.std.specs.Prelude.{◌≡◌, ℕ, ◌<◌, ◌^◌, List, ◌++◌}
use Rattle.lb_name.specs.Name.{IsName}
use Rattle.lb_wire.specs.Message.{question_octets}
use Rattle.lb_wire.specs.declared.question.Question.{Question}

-- the octets begin with this question
pub record Asks (octets : List ℕ) (q : Question) (rest : List ℕ) : Type 0 where
  pub name : IsName q.name
  pub qtype : q.qtype.0 < 2 ^ 16
  pub qclass : q.qclass.0 < 2 ^ 16
  pub parts : octets ≡ question_octets q.name q.qtype q.qclass ++ rest
