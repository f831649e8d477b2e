use Rattle.std.proofs.Common.{ℕ, None, rules, [], ◌∷◌, ap, sym, ◌∙◌}
use Rattle.lb_loops_probes.proofs.Freshening.{no_place}
use Rattle.lb_loops_probes.proofs.probes.admit.Goals as goal

pub returns-clause-fresh : goal.returns-clause-fresh
returns-clause-fresh c = (_ ∷ [], c.push_reserved.ensures.items, ((c.in-Some-get.place, sym c.get.ensures ∙ c.in-Some-get.is, ap (λ (n : ℕ). record { server = c.in-Some.server; at = c.in-Some-get.place.at; must_resolve = c.in-Some-get.place.must_resolve; next = n; waits = None }) c.saturating_add.ensures, search rules), tt))

pub returns-in_default-get-clause-here : goal.returns-in_default-get-clause-here
returns-in_default-get-clause-here c = λ l at. absurd (no_place c.args.roster.now.listed c.args.index l c.in-Some.server c.in-Some._place (sym c.in-Some.is ∙ c.nth.ensures) at (sym c.get.ensures ∙ c.in_default-get.is))
