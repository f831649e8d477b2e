use Rattle.std.proofs.Common.{◌≡◌, ◌≤◌, [], ◌∷◌, length, rules, subst, sym}
use Rattle.std.specs.List.{insert}
use Rattle.lb_chain.specs.Filing.{AreWith}
use Rattle.lb_chain.proofs.LooseRanks.{with_inserted}
use Rattle.lb_chain.proofs.loose.Loose.file.Goals as goal

pub returns-in_ok-insert-clause-ok : goal.returns-in_ok-insert-clause-ok
returns-in_ok-insert-clause-ok c =
    let old = c.args.self.now in
    let at = c.place_in-at.result in
    let within : at ≤ length old = search rules in
    let is : c.insert.new.self.items ≡ insert old at c.args.rank = search rules in
    subst (AreWith old (c.args.rank ∷ [])) (sym is) (with_inserted old c.args.rank at within)
