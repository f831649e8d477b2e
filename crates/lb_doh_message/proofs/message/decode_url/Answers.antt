use Rattle.std.proofs.Common.{arith, rules}
use Rattle.lb_doh_message.proofs.Messages.{front_of_octets, none_spelled, spelled_by}
use Rattle.lb_doh_message.proofs.message.decode_url.Goals as goal

pub returns-in-Ok-clause-some : goal.returns-in-Ok-clause-some
returns-in-Ok-clause-some c =
    spelled_by c.args.text.now _ (λ i. omega (arith, c.type_inv.text i)) (front_of_octets _ _ (λ i. omega (arith, c.type_inv.room i))) (search rules)

pub returns-in-Err-clause-none : goal.returns-in-Err-clause-none
returns-in-Err-clause-none c = none_spelled c.args.text.now c.in-Err.field-0 (search rules)
