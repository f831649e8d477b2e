-- Bytes read as a reply in one way, and have one survey.
use Rattle.std.proofs.Common.{◌≡◌, ℕ, ◌==◌, if◌then◌else◌, Bool, List, drop, Option, None, Some, Result, Ok, Err, refl, sym, ◌∙◌, ap, arith}
use Rattle.lb_name.specs.Laws.{LabelsGoOn}
use Rattle.lb_wire.specs.Numbers.{rcode_number, opcode_number}
use Rattle.lb_wire.specs.Message.{Message}
use Rattle.lb_wire.specs.Question.{Asks}
use Rattle.lb_wire.specs.Reply.{Repeats, Replies, ReadsReply, Surveys, survey_of}
use Rattle.lb_wire.specs.declared.question.Question.{Question}
use Rattle.lb_wire.specs.declared.record_type.RecordType.{RecordType}
use Rattle.lb_wire.specs.declared.record_type.Class.{Class}
use Rattle.lb_wire.specs.declared.reply.ReplyView.{ReplyView}
use Rattle.lb_wire.specs.declared.reply.ReplyFault.{ReplyFault}
use Rattle.lb_wire.specs.declared.reply.ReplyFault.TheVariants as faults
use Rattle.lb_wire.specs.declared.tally.Survey.{Survey}
use Rattle.lb_wire.specs.declared.rcode.Rcode.{Rcode}
use Rattle.lb_wire.specs.declared.rcode.Rcode.TheVariants as rcodes
use Rattle.lb_wire.specs.declared.opcode.Opcode.{Opcode}
use Rattle.lb_wire.specs.declared.opcode.Opcode.TheVariants as opcodes
use Rattle.lb_wire.proofs.OneMessage.{one_layout, one_question}

-- the response code with a number
rcode_from : ℕ → Rcode
rcode_from n = if n == 0 then rcodes.NoError else (if n == 1 then rcodes.FormErr else (if n == 2 then rcodes.ServFail else (if n == 3 then rcodes.NXDomain else (if n == 4 then rcodes.NotImp else (if n == 5 then rcodes.Refused else (if n == 6 then rcodes.YXDomain else (if n == 7 then rcodes.YXRRSet else (if n == 8 then rcodes.NXRRSet else (if n == 9 then rcodes.NotAuth else (if n == 10 then rcodes.NotZone else (if n == 11 then rcodes.DsoTypeNI else (if n == 12 then rcodes.Unassigned12 else (if n == 13 then rcodes.Unassigned13 else (if n == 14 then rcodes.Unassigned14 else rcodes.Unassigned15))))))))))))))

-- the number of a response code gives it back
rcode_again : (r : Rcode) → rcode_from (rcode_number r) ≡ r
unfolding rcode_from
rcode_again rcodes.NoError = refl
rcode_again _ = refl

-- the kind of query with a number
opcode_from : ℕ → Opcode
opcode_from n = if n == 0 then opcodes.Query else (if n == 1 then opcodes.IQuery else (if n == 2 then opcodes.Status else (if n == 3 then opcodes.Unassigned3 else (if n == 4 then opcodes.Notify else (if n == 5 then opcodes.Update else (if n == 6 then opcodes.Dso else (if n == 7 then opcodes.Unassigned7 else (if n == 8 then opcodes.Unassigned8 else (if n == 9 then opcodes.Unassigned9 else (if n == 10 then opcodes.Unassigned10 else (if n == 11 then opcodes.Unassigned11 else (if n == 12 then opcodes.Unassigned12 else (if n == 13 then opcodes.Unassigned13 else (if n == 14 then opcodes.Unassigned14 else opcodes.Unassigned15))))))))))))))

-- the number of a kind of query gives it back
opcode_again : (o : Opcode) → opcode_from (opcode_number o) ≡ o
unfolding opcode_from
opcode_again opcodes.Query = refl
opcode_again _ = refl

-- octets begin with one question at most
one_asked : (go : LabelsGoOn) (octets : List ℕ) (p q : Question) (x y : List ℕ) → Asks octets p x → Asks octets q y → p ≡ q
one_asked go octets p q x y a b =
    let one = one_question go p.name q.name p.qtype q.qtype p.qclass q.qclass x y a.name b.name a.qtype b.qtype a.qclass b.qclass (sym a.parts ∙ b.parts) in
    ap (λ (n : List (List ℕ)). record p { name = n }) one.0
    ∙ ap (λ (t : RecordType). record q { qtype = t; qclass = p.qclass }) one.1
    ∙ ap (λ (k : Class). record q { qclass = k }) one.2

-- a reply repeats one question, or none
one_repeated : (go : LabelsGoOn) (octets : List ℕ) (m n : ℕ) (p q : Option Question) → m ≡ n → Repeats octets m p → Repeats octets n q → p ≡ q
one_repeated go octets m n None None same a b = refl
one_repeated go octets m n None (Some q) same a b = absurd (a (omega (arith, same, b.0)) q b.1.0 b.1.1)
one_repeated go octets m n (Some p) None same a b = absurd (b (omega (arith, same, a.0)) p a.1.0 a.1.1)
one_repeated go octets m n (Some p) (Some q) same a b = ap (λ (z : Question). Some z) (one_asked go octets p q a.1.0 b.1.0 a.1.1 b.1.1)

-- a reply has one header and question
one_view : (go : LabelsGoOn) (bytes : List ℕ) (a b : ReplyView) → Replies bytes a → Replies bytes b → a ≡ b
one_view go bytes a b x y =
    let rcode : a.rcode ≡ b.rcode = sym (rcode_again a.rcode) ∙ ap rcode_from (x.rcode ∙ sym y.rcode) ∙ rcode_again b.rcode in
    let opcode : a.opcode ≡ b.opcode = sym (opcode_again a.opcode) ∙ ap opcode_from (x.opcode ∙ sym y.opcode) ∙ opcode_again b.opcode in
    let questions : a.questions ≡ b.questions = x.questions ∙ sym y.questions in
    ap (λ (z : ℕ). record a { id = z }) (x.id ∙ sym y.id)
    ∙ ap (λ (z : Opcode). record a { id = b.id; opcode = z }) opcode
    ∙ ap (λ (z : Bool). record a { id = b.id; opcode = b.opcode; truncated = z }) (x.truncated ∙ sym y.truncated)
    ∙ ap (λ (z : Rcode). record b { rcode = z; questions = a.questions; question = a.question }) rcode
    ∙ ap (λ (z : ℕ). record b { questions = z; question = a.question }) questions
    ∙ ap (λ (z : Option Question). record b { question = z }) (one_repeated go (drop 12 bytes) a.questions b.questions a.question b.question questions x.question y.question)

-- bytes read as a reply in one way
pub one_reply : (go : LabelsGoOn) (bytes : List ℕ) (a b : Result ReplyView ReplyFault) → ReadsReply bytes a → ReadsReply bytes b → a ≡ b
one_reply go bytes (Ok a) (Ok b) x y = ap (λ (z : ReplyView). Ok z) (one_view go bytes a b x y)
one_reply go bytes (Ok a) (Err faults.Short) x y = absurd (omega (arith, x.long, y))
one_reply go bytes (Ok a) (Err faults.NotReply) x y = absurd (omega (arith, x.response, y.1))
one_reply go bytes (Err faults.Short) (Ok b) x y = absurd (omega (arith, y.long, x))
one_reply go bytes (Err faults.NotReply) (Ok b) x y = absurd (omega (arith, y.response, x.1))
one_reply go bytes (Err faults.Short) (Err faults.Short) x y = refl
one_reply go bytes (Err faults.NotReply) (Err faults.NotReply) x y = refl
one_reply go bytes (Err faults.Short) (Err faults.NotReply) x y = absurd (omega (arith, x, y.0))
one_reply go bytes (Err faults.NotReply) (Err faults.Short) x y = absurd (omega (arith, y, x.0))

-- bytes have one survey, or none
pub one_found : (go : LabelsGoOn) (bytes : List ℕ) (a b : Option Survey) → Surveys bytes a → Surveys bytes b → a ≡ b
one_found go bytes None None x y = refl
one_found go bytes None (Some b) x y = absurd (x y.0 y.1)
one_found go bytes (Some a) None x y = absurd (y x.0 x.1)
one_found go bytes (Some a) (Some b) x y = ap (λ (z : Survey). Some z) (x.2 ∙ ap (λ (m : Message). survey_of m) (one_layout go bytes x.0 y.0 x.1 y.1) ∙ sym y.2)
