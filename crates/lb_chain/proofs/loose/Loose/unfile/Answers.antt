use Rattle.std.proofs.Common.{◌≡◌, ◌<◌, [], ◌∷◌, length, get_or, rules, subst, sym}
use Rattle.std.specs.List.{remove}
use Rattle.lb_chain.specs.FirstAsked.{AreRising}
use Rattle.lb_chain.specs.Filing.{AreWithout}
use Rattle.lb_chain.proofs.LooseRanks.{IsPlaceOf, without_absent, without_removed}
use Rattle.lb_chain.proofs.Rising.{rising_removed}
use Rattle.lb_chain.proofs.loose.Loose.unfile.Goals as goal

pub invariant_of-self : goal.invariant_of-self
invariant_of-self c =
    let old = c.self.inside.ranks.items in
    let at = c.place_in-at.result in
    let within : at < length old = search rules in
    let is : c.remove-rank.new.self.items ≡ remove old at = search rules in
    subst AreRising (sym is) (rising_removed old at within c.self.invariant)

pub returns-then-stands_at : goal.returns-then-stands_at
returns-then-stands_at c =
    let old = c.args.self.now in
    let at = c.place_in-at.result in
    let rising : AreRising old = search rules in
    let within : at < length old = search rules in
    let here : get_or old at 0 ≡ c.args.rank = search rules in
    let is : c.remove-rank.new.self.items ≡ remove old at = search rules in
    subst (AreWithout old (c.args.rank ∷ [])) (sym is) (without_removed old c.args.rank at rising within here)

pub returns-else-stands_at : goal.returns-else-stands_at
returns-else-stands_at c =
    let old = c.args.self.now in
    let at = c.place_in-at.result in
    let rising : AreRising old = search rules in
    let place : IsPlaceOf old c.args.rank at = record { within = search rules; below = search rules; above = search rules } in
    without_absent old c.args.rank at rising place (λ within here. search rules)
