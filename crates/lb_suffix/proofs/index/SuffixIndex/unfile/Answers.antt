use Rattle.std.proofs.Common.{◌≡◌, List, ℕ, map, ◌∙◌, subst}
use Rattle.lb_index_ranks.specs.Filed.{HasBut, filed_at}
use Rattle.lb_suffix.specs.Index.{Pair, IsFiledWithout, pair_of, shown}
use Rattle.lb_suffix.specs.Key.{key_of}
use Rattle.lb_suffix.proofs.Pairs.{keyed_but, unfiled_pairs}
use Rattle.lb_suffix.proofs.index.SuffixIndex.unfile.Goals as goal

pub invariant_of-self : goal.invariant_of-self
invariant_of-self c = keyed_but c.self.inside.ranks c.unfile.new.self (filed_at c.as_slice.result.now c.args.rank) c.self.invariant c.unfile.ensures

pub returns : goal.returns
returns c =
    let name = c.args.name.now in
    let old = c.self.inside.ranks in
    let new = c.unfile.new.self in
    let key : c.as_slice.result.now ≡ key_of name = c.as_slice.ensures.octets ∙ c.key_of-key.ensures.key in
    let has = subst (λ (k : List ℕ). HasBut old (filed_at k c.args.rank) new) key c.unfile.ensures in
    subst (λ (ps : List Pair). IsFiledWithout ps (pair_of name c.args.rank) (map shown new)) c.self.view_is
    (unfiled_pairs c.key_of-key.ensures.back old new name c.args.rank c.self.invariant c.key_of-key.ensures.name has)
