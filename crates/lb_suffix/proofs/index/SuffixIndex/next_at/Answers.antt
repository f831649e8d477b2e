use Rattle.std.proofs.Common.{List, ℕ, ◌≡◌, map, ◌∙◌, subst}
use Rattle.lb_index_ranks.specs.Filed.{IsFiledAt}
use Rattle.lb_index_ranks.specs.Least.{IsLeastFrom}
use Rattle.lb_suffix.specs.Index.{Pair, IsFiledAtName, shown}
use Rattle.lb_suffix.specs.Key.{key_of}
use Rattle.lb_suffix.proofs.Overs.{least_same}
use Rattle.lb_suffix.proofs.Pairs.{at_name, at_key}
use Rattle.lb_suffix.proofs.index.SuffixIndex.next_at.Goals as goal

pub returns : goal.returns
returns c =
    let name = c.args.name.now in
    let items = c.self.inside.ranks in
    let back = c.key_of-key.ensures.back in
    let key : c.as_slice.result.now ≡ key_of name = c.as_slice.ensures.octets ∙ c.key_of-key.ensures.key in
    let least = subst (λ (k : List ℕ). IsLeastFrom (IsFiledAt items k) c.args.from c.next_at.result) key c.next_at.ensures in
    subst (λ (ps : List Pair). IsLeastFrom (IsFiledAtName ps name) c.args.from c.next_at.result) c.self.view_is
    (least_same (IsFiledAt items (key_of name)) (IsFiledAtName (map shown items) name) c.args.from c.next_at.result
    (λ r has. at_name back items name r c.key_of-key.ensures.name has) (λ r has. at_key back items name r c.self.invariant has) least)
