use Rattle.std.proofs.Common.{◌≡◌, List, ℕ, OnOk, map, ◌∙◌, subst}
use Rattle.std.proofs.lemmas.Result.{on_ok_weaker}
use Rattle.lb_index_ranks.specs.Filed.{HasBesides, filed_at}
use Rattle.lb_suffix.specs.Index.{Pair, IsFiledWith, pair_of, shown}
use Rattle.lb_suffix.specs.Key.{key_of}
use Rattle.lb_suffix.proofs.Pairs.{filed_pairs, keyed_put}
use Rattle.lb_suffix.proofs.index.SuffixIndex.file.Goals as goal

pub invariant_of-self : goal.invariant_of-self
invariant_of-self c =
    let name = c.args.name.now in
    let old = c.self.inside.ranks in
    let new = c.file.new.self in
    let key : c.as_slice.result.now ≡ key_of name = c.as_slice.ensures.octets ∙ c.key_of-key.ensures.key in
    let ok = subst (λ (k : List ℕ). OnOk c.file.result (HasBesides old (filed_at k c.args.rank) new)) key c.file.ensures.ok in
    keyed_put c.file.result old new name c.args.rank c.self.invariant c.key_of-key.ensures.name ok c.file.ensures.err

pub returns-clause-ok : goal.returns-clause-ok
returns-clause-ok c =
    let name = c.args.name.now in
    let old = c.self.inside.ranks in
    let new = c.file.new.self in
    let key : c.as_slice.result.now ≡ key_of name = c.as_slice.ensures.octets ∙ c.key_of-key.ensures.key in
    let ok = subst (λ (k : List ℕ). OnOk c.file.result (HasBesides old (filed_at k c.args.rank) new)) key c.file.ensures.ok in
    on_ok_weaker c.file.result
    (λ has. subst (λ (ps : List Pair). IsFiledWith ps (pair_of name c.args.rank) (map shown new)) c.self.view_is
    (filed_pairs c.key_of-key.ensures.back old new name c.args.rank c.key_of-key.ensures.name has))
    ok
