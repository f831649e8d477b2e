use Rattle.std.proofs.Common.{◌≡◌, ◌∙◌, subst, List, ℕ, map, ◌↔◌, ◌⊎◌, Contains}
use Rattle.lb_masks.specs.Bits.{octets_of}
use Rattle.lb_index_ranks.specs.Filed.{HasBut, filed_at}
use Rattle.lb_masks.specs.Index.{Pair, IsFiledWithout, pair_of, shown}
use Rattle.lb_masks.specs.Key.{key_of, kind_at}
use Rattle.lb_masks.specs.Kinds.{numbers, AreMarked, HasKind}
use Rattle.lb_masks.proofs.InUse.{used_but}
use Rattle.lb_masks.proofs.Marked.{marked_but}
use Rattle.lb_masks.proofs.Pairs.{keyed_but, unfiled_pairs}
use Rattle.lb_masks.proofs.index.MaskIndex.unfile.Goals as goal

pub invariant_of-self : goal.invariant_of-self
invariant_of-self c =
    let mask = c.args.mask.now in
    let kinds = c.self.inside.kinds.items in
    let less = c.forget_unused.new.kinds.items in
    let old = c.self.inside.ranks in
    let new = c.unfile.new.self in
    let key : c.as_slice.result.now ≡ key_of mask = c.as_slice.ensures ∙ c.key_of-key.ensures.key in
    let but = subst (λ (k : List ℕ). HasBut old (filed_at k c.args.rank) new) key c.unfile.ensures in
    let kept = subst (λ (k : ℕ). (j : ℕ) → Contains (numbers less) j ↔ (((j ≡ k → ⊥) ⊎ HasKind new k) × Contains (numbers kinds) j)) c.kind_of.ensures.kind c.forget_unused.ensures.kinds in
    let pair = filed_at c.as_slice.result.now c.args.rank in
    let marked : AreMarked less new = marked_but kinds less old new c.kind_of.result pair c.self.invariant.2 c.forget_unused.ensures.marked c.unfile.ensures in
    (keyed_but old new pair c.self.invariant.0 c.unfile.ensures, used_but (numbers kinds) (numbers less) old new (kind_at mask.network mask.len) (octets_of mask.network) c.args.rank c.self.invariant.1 kept c.forget_unused.ensures.once but, marked)

pub returns : goal.returns
returns c =
    let mask = c.args.mask.now in
    let old = c.self.inside.ranks in
    let new = c.unfile.new.self in
    let key : c.as_slice.result.now ≡ key_of mask = c.as_slice.ensures ∙ c.key_of-key.ensures.key in
    let but = subst (λ (k : List ℕ). HasBut old (filed_at k c.args.rank) new) key c.unfile.ensures in
    subst (λ (ps : List Pair). IsFiledWithout ps (pair_of mask c.args.rank) (map shown new)) c.self.view_is
    (unfiled_pairs old new mask c.args.rank c.self.invariant.0 c.key_of-key.ensures.mask but)
