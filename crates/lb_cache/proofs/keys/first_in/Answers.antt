use Rattle.std.proofs.Common.{◌≡◌, ap, subst, ◌∙◌, List, ℕ}
use Rattle.lb_index_ranks.specs.Cursor.{next_below}
use Rattle.lb_index_ranks.specs.Filed.{filed_at, IsFrom}
use Rattle.lb_cache.proofs.KeySides.{first_within, none_in, none_of}
use Rattle.lb_cache.proofs.keys.first_in.Goals as goal

pub returns-clause-some : goal.returns-clause-some
returns-clause-some c =
    let low = c.args.span.now.low in
    let high = c.args.span.now.high in
    let from : IsFrom (filed_at low 0) c.args.slots.now c.walk_from-walk.result = subst (λ (k : List ℕ). IsFrom (filed_at k 0) c.args.slots.now c.walk_from-walk.result) c.as_slice.ensures c.walk_from-walk.ensures in
    let rank : c.next_below.result ≡ next_below high c.walk_from-walk.result = c.next_below.ensures.rank ∙ ap (λ (k : List ℕ). next_below k c.walk_from-walk.result) c.as_slice-2.ensures in
    first_within low high c.args.slots.now c.walk_from-walk.result c.next_below.result from rank

pub returns-clause-none : goal.returns-clause-none
returns-clause-none c =
    let low = c.args.span.now.low in
    let high = c.args.span.now.high in
    let from : IsFrom (filed_at low 0) c.args.slots.now c.walk_from-walk.result = subst (λ (k : List ℕ). IsFrom (filed_at k 0) c.args.slots.now c.walk_from-walk.result) c.as_slice.ensures c.walk_from-walk.ensures in
    let rank : c.next_below.result ≡ next_below high c.walk_from-walk.result = c.next_below.ensures.rank ∙ ap (λ (k : List ℕ). next_below k c.walk_from-walk.result) c.as_slice-2.ensures in
    none_of c.next_below.result (λ is. none_in low high c.args.slots.now c.walk_from-walk.result c.stand_in_order.ensures from (is ∙ rank))
