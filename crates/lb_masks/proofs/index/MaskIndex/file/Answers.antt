use Rattle.std.proofs.Common.{◌≡◌, ◌∙◌, subst, List, ℕ, map, ◌↔◌, ◌⊎◌, Contains, sym}
use Rattle.lb_masks.specs.Bits.{octets_of}
use Rattle.lb_index_ranks.specs.declared.filed.Filed.{Filed}
use Rattle.lb_index_ranks.specs.Filed.{HasBesides, filed_at}
use Rattle.lb_masks.specs.Index.{Pair, IsFiledWith, pair_of, shown}
use Rattle.lb_masks.specs.Key.{key_of, kind_at}
use Rattle.lb_masks.specs.Kinds.{mark_of, numbers, AreInUse, AreMarked, HasKind, IsNoted, KeepsMarks}
use Rattle.lb_masks.specs.declared.kinds.MaskKind.{MaskKind}
use Rattle.lb_masks.proofs.InUse.{used_again, used_besides}
use Rattle.lb_masks.proofs.Marked.{marked_again, marked_besides}
use Rattle.lb_masks.proofs.Pairs.{Keyed, filed_pairs, keyed_besides}
use Rattle.lb_masks.proofs.index.MaskIndex.file.Goals as goal

pub invariant_of-self : goal.invariant_of-self
invariant_of-self c =
    let items = c.self.inside.ranks in
    subst (λ (ks : List MaskKind). Keyed items × AreInUse (numbers ks) items × AreMarked ks items) (sym c.in_err-note.ensures.err) c.self.invariant

pub invariant_of-self-in-Ok : goal.invariant_of-self-in-Ok
invariant_of-self-in-Ok c =
    let mask = c.args.mask.now in
    let kinds = c.self.inside.kinds.items in
    let more = c.note.new.kinds.items in
    let old = c.self.inside.ranks in
    let new = c.file.new.self in
    let key : c.as_slice.result.now ≡ key_of mask = c.as_slice.ensures ∙ c.key_of-key.ensures.key in
    let besides = subst (λ (k : List ℕ). HasBesides old (filed_at k c.args.rank) new) key c.in-Ok.ensures.ok in
    let noted = subst (λ (k : ℕ). (j : ℕ) → Contains (numbers more) j ↔ ((j ≡ k) ⊎ Contains (numbers kinds) j)) c.kind_of-kind.ensures.kind c.in_ok-note.ensures.ok in
    let mark = subst (λ (m : ℕ). IsNoted kinds c.kind_of-kind.result m more) c.mark_of.ensures c.in_ok-note.ensures.marked in
    let own = subst (λ (k : ℕ). IsNoted kinds k (mark_of mask) more) c.kind_of-kind.ensures.kind mark in
    let marked : AreMarked more new = marked_besides kinds more old new mask c.args.rank c.key_of-key.ensures.mask c.self.invariant.2 own besides in
    (keyed_besides old new mask c.args.rank c.self.invariant.0 c.key_of-key.ensures.mask besides, used_besides (numbers kinds) (numbers more) old new (kind_at mask.network mask.len) (octets_of mask.network) c.args.rank c.self.invariant.1 noted c.note.ensures.once besides, marked)

pub invariant_of-self-in-Err : goal.invariant_of-self-in-Err
invariant_of-self-in-Err c =
    let kinds = c.self.inside.kinds.items in
    let more = c.note.new.kinds.items in
    let less = c.forget_unused.new.kinds.items in
    let old = c.self.inside.ranks in
    let kept = subst (λ (xs : List Filed). (j : ℕ) → Contains (numbers less) j ↔ (((j ≡ c.kind_of-kind.result → ⊥) ⊎ HasKind xs c.kind_of-kind.result) × Contains (numbers more) j)) c.in-Err.ensures.err c.forget_unused.ensures.kinds in
    let kept_marks = subst (λ (xs : List Filed). KeepsMarks more c.kind_of-kind.result xs less) c.in-Err.ensures.err c.forget_unused.ensures.marked in
    let marked = marked_again kinds more less old c.kind_of-kind.result c.mark_of.result c.self.invariant.2 c.in_ok-note.ensures.marked kept_marks in
    let used = used_again (numbers kinds) (numbers more) (numbers less) old c.kind_of-kind.result c.self.invariant.1 c.in_ok-note.ensures.ok kept c.note.ensures.once c.forget_unused.ensures.once in
    (subst (λ (xs : List Filed). Keyed xs) (sym c.in-Err.ensures.err) c.self.invariant.0, subst (λ (xs : List Filed). AreInUse (numbers less) xs) (sym c.in-Err.ensures.err) used, subst (λ (xs : List Filed). AreMarked less xs) (sym c.in-Err.ensures.err) marked)

pub returns-in-Ok-clause-ok : goal.returns-in-Ok-clause-ok
returns-in-Ok-clause-ok c =
    let mask = c.args.mask.now in
    let old = c.self.inside.ranks in
    let new = c.file.new.self in
    let key : c.as_slice.result.now ≡ key_of mask = c.as_slice.ensures ∙ c.key_of-key.ensures.key in
    let besides = subst (λ (k : List ℕ). HasBesides old (filed_at k c.args.rank) new) key c.in-Ok.ensures.ok in
    subst (λ (ps : List Pair). IsFiledWith ps (pair_of mask c.args.rank) (map shown new)) c.self.view_is
    (filed_pairs old new mask c.args.rank c.key_of-key.ensures.mask besides)
