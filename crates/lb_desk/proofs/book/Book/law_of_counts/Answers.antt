use Rattle.std.proofs.Common.{subst}
use Rattle.lb_desk.specs.Book.{Booked, Counted}
use Rattle.lb_desk.proofs.book.Book.law_of_counts.Goals as goal

pub returns : goal.returns
returns g c = subst (λ (b : Booked). ∥ Counted g.J.Naming.opening b.count b.balancer b.tally ∥₁) c.self.view_is c.self.inside.tallied
