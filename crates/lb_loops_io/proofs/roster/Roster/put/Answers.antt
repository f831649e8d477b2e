use Rattle.std.proofs.Common.{rules, arith, ap, sym, subst, ◌≡◌, ◌∙◌, ◌==◌, refl, List, [], ◌∷◌, ◌++◌, Some, if◌then◌else◌}
use Rattle.std.proofs.Math.Logic.{∥∥₁_map}
use Rattle.lb_loops_io.specs.Roster.{AreApart, Rostered, place_in}
use Rattle.lb_wire.specs.declared.ids.ServerId.{ServerId}
use Rattle.lb_loops_io.specs.declared.roster.Listed.{Listed}
use Rattle.lb_loops_io.proofs.Rosters.{apart_behind, apart_out, length_out, out_same, put_behind, whole}
use Rattle.lb_loops_io.proofs.roster.Roster.put.Goals as goal

pub invariant_of-self-inside : goal.invariant_of-self-inside
invariant_of-self-inside c = (search rules, (search rules, (∥∥₁_map c.self.inside.apart (λ all. subst AreApart (sym c.take_out.ensures.items) (apart_out _ _ all)), tt)))

pub returns-then-len-eq-MAX_SERVERS-clause-same : goal.returns-then-len-eq-MAX_SERVERS-clause-same
returns-then-len-eq-MAX_SERVERS-clause-same c =
    let same : c.take_out.new.listed.items ≡ c.self.inside.listed.items = c.take_out.ensures.items ∙ whole _ _ (search rules) in
    ap (λ (l : List Listed). record { version = c.self.inside.version; listed = l }) same ∙ c.self.view_is

pub invariant_of-self-inside-2 : goal.invariant_of-self-inside-2
invariant_of-self-inside-2 c =
    let items = c.push_reserved.ensures.items ∙ ap (λ (l : List Listed). l ++ record { server = c.args.server; place = c.args.place } ∷ []) c.take_out.ensures.items in
    (search rules, (search rules, (∥∥₁_map c.self.inside.apart (λ all. subst AreApart (sym items) (apart_behind _ _ (out_same c.args.server c.args.server _ refl) (apart_out _ _ all))), tt)))

pub returns-clause-put : goal.returns-clause-put
returns-clause-put c =
    let items = c.push_reserved.ensures.items ∙ ap (λ (l : List Listed). l ++ record { server = c.args.server; place = c.args.place } ∷ []) c.take_out.ensures.items in
    subst (λ (r : Rostered). (s : ServerId) → place_in s c.push_reserved.new.self.items ≡ (if c.args.server.0 == s.0 then Some c.args.place else place_in s r.listed)) c.self.view_is
    (λ s. ap (place_in s) items ∙ put_behind c.args.server s c.args.place _)
