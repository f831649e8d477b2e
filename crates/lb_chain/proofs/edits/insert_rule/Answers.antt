use Rattle.std.proofs.Common.{arith, ◌≡◌, List, subst, sym, ap, ◌∙◌}
use Rattle.std.specs.List.{insert}
use Rattle.std.proofs.lemmas.Grind.{common_steps}
use Rattle.lb_terms.specs.Selector.{Selector}
use Rattle.lb_chain.specs.declared.numbered.Numbered.{Numbered}
use Rattle.lb_chain.specs.Edits.{numbered_of}
use Rattle.lb_chain.specs.Offers.{AreOffers, terms_of}
use Rattle.lb_chain.proofs.Reordered.{terms_inserted}
use Rattle.lb_chain.proofs.edits.insert_rule.Goals as goal

pub returns-clause-offers : goal.returns-clause-offers
returns-clause-offers c =
    let rules = c.args.rules.now.items in
    let n : Numbered = numbered_of c.args.id c.args.rule in
    let there : c.insert-2.new.self.items ≡ insert rules c.args.place n = grind (arith, common_steps) in
    subst (AreOffers c.insert.new.self)
    (ap (λ (term : Selector). insert (terms_of c.as_slice.result.now) c.args.place term) c.index_sets.ensures
    ∙ ap (λ (ns : List Numbered). insert (terms_of ns) c.args.place c.args.rule.term) (c.as_slice.ensures.value ∙ c.reserve.ensures.items) ∙ sym (terms_inserted rules c.args.place n) ∙ ap terms_of (sym there))
    c.in_ok-insert.ensures.ok
