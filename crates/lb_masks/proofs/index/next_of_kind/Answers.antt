use Rattle.std.proofs.Common.{List, ℕ, subst, sym}
use Rattle.lb_masks.specs.Key.{IsKeyOver}
use Rattle.lb_masks.proofs.Looks.{of_kind, unmarked}
use Rattle.lb_masks.proofs.index.next_of_kind.Goals as goal

pub returns-then-not-has : goal.returns-then-not-has
returns-then-not-has c =
    unmarked c.args.ranks.now c.args.addr.now c.args.kind.now c.args.from c.in_ok-mark.mark c.in_ok-mark.ensures.some (λ has. absurd (cc (c.has.ensures.1 has, c.if-not-has.true)))

pub returns : goal.returns
returns c =
    let over = subst (λ (k : List ℕ). IsKeyOver c.args.kind.now.number c.args.addr.now k) (sym c.as_slice.ensures) c.in_ok-key.ensures.some in
    of_kind c.args.ranks.now c.args.addr.now c.args.kind.now c.args.from c.in_ok-mark.mark c.as_slice.result.now c.next_at.result c.in_ok-mark.ensures.some (c.has.ensures.0 c.if-not-has.false) over c.next_at.ensures
