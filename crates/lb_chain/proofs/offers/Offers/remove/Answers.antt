use Rattle.std.proofs.Common.{◌≡◌, ◌<◌, ◌∙◌, ℕ, List, length, get_or, rules, subst, sym}
use Rattle.std.specs.List.{remove}
use Rattle.std.proofs.lemmas.List.{get_or_default}
use Rattle.std.proofs.lemmas.Option.{get_or_from_slice_get}
use Rattle.lb_terms.specs.Selector.{All}
use Rattle.lb_chain.specs.FirstAsked.{AreFiled}
use Rattle.lb_chain.proofs.Edited.{filed_removed}
use Rattle.lb_chain.proofs.offers.Offers.remove.Goals as goal

pub returns : goal.returns
returns c = λ terms filed is.
    let self = c.args.self.now in
    let own : get_or terms c.args.place All ≡ c.args.term.now = get_or_from_slice_get terms c.args.place c.args.term.now All is in
    let within : c.args.place < length self.ranks.items = search rules in
    let rank : get_or self.ranks.items c.args.place 0 ≡ c.remove-rank.result = get_or_default self.ranks.items c.args.place 0 c.remove-rank.result within ∙ sym c.remove-rank.ensures.value in
    subst (λ (rs : List ℕ). AreFiled c.unfile.new.names c.unfile.new.masks c.unfile.new.loose rs (remove terms c.args.place)) (sym c.remove-rank.ensures.items)
    (filed_removed self.names c.unfile.new.names self.masks c.unfile.new.masks self.loose c.unfile.new.loose terms self.ranks.items c.args.place c.remove-rank.result c.args.term.now within own rank c.unfile.ensures.names c.unfile.ensures.masks c.unfile.ensures.loose filed)
