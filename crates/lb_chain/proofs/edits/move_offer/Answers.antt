use Rattle.std.proofs.Common.{◌≡◌, ◌<◌, ◌≤◌, get_or, subst, ap, arith}
use Rattle.lb_chain.specs.declared.numbered.Numbered.{Numbered}
use Rattle.lb_chain.specs.Offers.{AreOffers}
use Rattle.lb_chain.proofs.Reordered.{found_down, found_up, terms_down, terms_up}
use Rattle.lb_chain.proofs.edits.move_offer.Goals as goal

pub returns-in_ok-insert-clause-ok : goal.returns-in_ok-insert-clause-ok
returns-in_ok-insert-clause-ok c =
    let rules = c.args.rules.now in
    let n : Numbered = get_or rules c.args.at c.index-rules-at.result in
    let is : n ≡ get_or rules c.args.at n = ap (λ (d : Numbered). get_or rules c.args.at d) c.index-rules-at.is in
    let before : c.args.at < c.args.place = omega (arith, c.if-at-place.true) in
    subst (AreOffers c.remove.new.self) (terms_down rules c.args.at c.args.place n before c.requires.at is) (c.remove.ensures _ c.in_ok-insert.ensures.ok (found_down rules c.args.at c.args.place n before c.requires.at is))

pub returns-in_ok-insert-2-clause-ok : goal.returns-in_ok-insert-2-clause-ok
returns-in_ok-insert-2-clause-ok c =
    let rules = c.args.rules.now in
    let n : Numbered = get_or rules c.args.at c.index-rules-at.result in
    let is : n ≡ get_or rules c.args.at n = ap (λ (d : Numbered). get_or rules c.args.at d) c.index-rules-at.is in
    let behind : c.args.place ≤ c.args.at = omega (arith, c.if-at-place.false) in
    subst (AreOffers c.remove-else-at-place.new.self) (terms_up rules c.args.at c.args.place n behind c.requires.at is) (c.remove-else-at-place.ensures _ c.in_ok-insert-2.ensures.ok (found_up rules c.args.at c.args.place n behind c.requires.at is))
