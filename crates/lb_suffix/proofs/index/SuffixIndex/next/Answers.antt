use Rattle.std.proofs.Common.{List, [], reverse, map, ◌∙◌, subst}
use Rattle.lb_name.specs.Name.{lower_name}
use Rattle.lb_index_ranks.specs.Least.{IsLeastFrom}
use Rattle.lb_suffix.specs.Index.{Pair, IsFiledOver, shown}
use Rattle.lb_suffix.specs.Over.{IsOver}
use Rattle.lb_suffix.proofs.Overs.{least_same}
use Rattle.lb_suffix.proofs.Pairs.{each_reverse, pairs_from, pairs_to}
use Rattle.lb_suffix.proofs.index.SuffixIndex.next.Goals as goal

pub returns : goal.returns
returns c =
    let name = c.args.name.now in
    let items = c.self.inside.ranks in
    let back = c.key_of-key.ensures.back in
    let least = c.next_over.ensures (reverse (lower_name name)) (each_reverse (lower_name name) c.key_of-key.ensures.name.each) (c.as_slice.ensures.octets ∙ c.key_of-key.ensures.key) in
    subst (λ (ps : List Pair). IsLeastFrom (IsFiledOver ps name) c.args.from c.next_over.result) c.self.view_is
    (least_same (IsOver items [] (reverse (lower_name name))) (IsFiledOver (map shown items) name) c.args.from c.next_over.result
    (λ r over. pairs_to back items name r c.self.invariant c.key_of-key.ensures.name over) (λ r over. pairs_from back items name r c.self.invariant over) least)
