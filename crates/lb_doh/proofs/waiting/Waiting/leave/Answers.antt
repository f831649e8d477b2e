use Rattle.std.proofs.Common.{◌≡◌, ◌∙◌, ap, rules}
use Rattle.lb_doh.specs.Waiting.{Waits, are_given, without}
use Rattle.lb_doh.proofs.Requests.{found_under, given_without, left_without}
use Rattle.lb_doh.proofs.waiting.Waiting.leave.Given.{Over}
use Rattle.lb_doh.proofs.waiting.Waiting.leave.Goals.{After-remove}
use Rattle.lb_doh.proofs.waiting.Waiting.leave.Goals as goal

-- what is left
left : (g : Over) → (c : After-remove g) → c.remove.new.self.entries ≡ without c.args.number c.self.inside.requests.entries
left g c = c.remove.ensures.entries ∙ left_without c.args.number c.self.inside.requests.entries

pub invariant_of-self : goal.invariant_of-self
invariant_of-self g c =
    let others : are_given c.self.inside.last (without c.args.number c.self.inside.requests.entries) =
    given_without c.self.inside.last c.args.number c.self.inside.requests.entries c.self.invariant in
    rw (left g c) others

pub returns-clause-found : goal.returns-clause-found
returns-clause-found g c =
    rw (← c.self.view_is) (c.remove.ensures.value ∙ found_under c.args.number c.self.inside.requests.entries)

pub returns-clause-gone : goal.returns-clause-gone
returns-clause-gone g c =
    rw (← c.self.view_is) (ap (λ requests. record { last = c.self.inside.last; requests = requests }) (left g c))
