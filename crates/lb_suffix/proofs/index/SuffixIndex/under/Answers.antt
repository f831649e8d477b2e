use Rattle.std.proofs.Common.{List, ℕ, ◌≡◌, ◌↔◌, Contains, map, ◌∙◌, ap, subst, sym}
use Rattle.lb_index_ranks.specs.declared.filed.Filed.{Filed}
use Rattle.lb_index_ranks.specs.Filed.{filed_at, IsFrom}
use Rattle.lb_suffix.specs.Index.{Pair, shown, ArePairsInOrder, IsFiledUnder}
use Rattle.lb_suffix.specs.Key.{end_of, key_of}
use Rattle.lb_suffix.specs.Under.{pairs_before}
use Rattle.lb_suffix.proofs.Shown.{under_once, under_pairs}
use Rattle.lb_suffix.proofs.index.SuffixIndex.under.Goals as goal

pub returns-clause-pairs : goal.returns-clause-pairs
returns-clause-pairs c =
    let name = c.args.name.now in
    let items = c.self.inside.ranks in
    let rest : List Filed = c.walk_from-cursor.result in
    let key : c.as_slice.result.now ≡ key_of name = c.as_slice.ensures.octets ∙ c.key_of-key.ensures.key in
    let from : IsFrom (filed_at (key_of name) 0) items rest = subst (λ (k : List ℕ). IsFrom (filed_at k 0) items rest) key c.walk_from-cursor.ensures in
    let is : c.new.result ≡ pairs_before (end_of (key_of name)) rest = c.new.ensures ∙ ap (λ (k : List ℕ). pairs_before (end_of k) rest) c.key_of-key.ensures.key in
    λ p.
    subst (λ (ps : List Pair). Contains c.new.result p ↔ IsFiledUnder ps name p) c.self.view_is
    (subst (λ (qs : List Pair). Contains qs p ↔ IsFiledUnder (map shown items) name p) (sym is)
    (under_pairs c.key_of-key.ensures.back c.key_of-key.ensures.on items rest name c.self.invariant c.stand_in_order.ensures c.key_of-key.ensures.name from p))

pub returns-clause-once : goal.returns-clause-once
returns-clause-once c =
    let items = c.self.inside.ranks in
    let rest : List Filed = c.walk_from-cursor.result in
    subst ArePairsInOrder (sym c.new.ensures)
    (under_once c.key_of-key.ensures.back items rest c.as_slice.result.now (end_of c.key_of-key.result) c.self.invariant c.stand_in_order.ensures c.walk_from-cursor.ensures)
