use Rattle.std.proofs.Common.{rules, arith, ap, sym, subst, ◌∙◌, ◌≡◌, ◌==◌, refl, None, if◌then◌else◌}
use Rattle.std.proofs.Math.Logic.{∥∥₁_map}
use Rattle.lb_loops_io.specs.Roster.{AreApart, Rostered, place_in}
use Rattle.lb_wire.specs.declared.ids.ServerId.{ServerId}
use Rattle.lb_loops_io.proofs.Rosters.{apart_out, removed_at}
use Rattle.lb_loops_io.proofs.roster.Roster.remove.Goals as goal

pub invariant_of-self-inside : goal.invariant_of-self-inside
invariant_of-self-inside c = (search rules, (search rules, (∥∥₁_map c.self.inside.apart (λ all. subst AreApart (sym c.take_out.ensures.items) (apart_out _ _ all)), tt)))

pub returns-clause-removed : goal.returns-clause-removed
returns-clause-removed c =
    subst (λ (r : Rostered). (s : ServerId) → place_in s c.take_out.new.listed.items ≡ (if c.args.server.0 == s.0 then None else place_in s r.listed)) c.self.view_is
    (λ s. ap (place_in s) c.take_out.ensures.items ∙ removed_at c.args.server s _ (c.args.server.0 == s.0) refl)
