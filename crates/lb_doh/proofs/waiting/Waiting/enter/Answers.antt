use Rattle.std.proofs.Common.{◌≡◌, ◌∙◌, ◌++◌, ◌∷◌, ◌+◌, ap, [], arith, rules}
use Rattle.lb_doh.specs.Waiting.{are_given}
use Rattle.lb_doh.proofs.Requests.{given_more, put_last}
use Rattle.lb_doh.proofs.waiting.Waiting.enter.Goals as goal

pub invariant_of-self-2 : goal.invariant_of-self-2
invariant_of-self-2 g c =
    let requests = c.self.inside.requests.entries in
    let next : c.in-Some.number ≡ c.self.inside.last + 1 = search rules in
    let last = put_last c.self.inside.last c.in-Some.number c.args.waker requests c.self.invariant (omega arith) in
    let more : are_given c.in-Some.number (requests ++ (c.in-Some.number, c.args.waker) ∷ []) =
    given_more c.self.inside.last c.in-Some.number c.args.waker requests c.self.invariant (omega arith) in
    rw (c.in_ok-insert.ensures.entries ∙ last) more

pub returns : goal.returns
returns g c =
    let requests = c.self.inside.requests.entries in
    let next : c.in-Some.number ≡ c.self.inside.last + 1 = search rules in
    let last = put_last c.self.inside.last c.in-Some.number c.args.waker requests c.self.invariant (omega arith) in
    rw (← c.self.view_is) (next, ap (λ rs. record { last = c.in-Some.number; requests = rs }) (c.in_ok-insert.ensures.entries ∙ last))
