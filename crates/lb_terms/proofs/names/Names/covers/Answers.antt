use Rattle.std.proofs.Common.{◌≡◌, ℕ, IfSome, List, Option, subst}
use Rattle.std.proofs.lemmas.Bool.Decides.{same_from_decides}
use Rattle.lb_suffix.specs.Index.{Pair}
use Rattle.lb_terms.specs.Names.{IsIndexOf}
use Rattle.lb_terms.specs.Sets.{in_suffixes}
use Rattle.lb_terms.proofs.Indexed.{found-Decides}
use Rattle.lb_terms.proofs.names.Names.covers.Goals as goal

pub returns-in-Some : goal.returns-in-Some
returns-in-Some c =
    let name = c.args.name.now in
    let names = c.self.inside.items.items in
    let index = subst (λ (o : Option (List Pair)). IfSome o (IsIndexOf names)) c.in-Some.is c.self.invariant in
    subst (λ (all : List (List (List ℕ))). c.is_found.result ≡ in_suffixes all name) c.self.view_is
    (same_from_decides c.is_found.result (in_suffixes names name) c.is_found.ensures (found-Decides names c.in-Some.index name index))
