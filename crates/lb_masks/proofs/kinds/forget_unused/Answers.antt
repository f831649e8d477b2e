use Rattle.std.proofs.Common.{◌≡◌, not, ◌==◌, nat_eq, filter, List, ℕ, ap, subst, sym, ◌∙◌}
use Rattle.std.specs.List.{IsDistinct}
use Rattle.lb_masks.specs.Kinds.{numbers, HasKind}
use Rattle.lb_masks.proofs.InUse.{forgot_unused, once_less}
use Rattle.lb_masks.proofs.Marked.{marks_left, numbers_left}
use Rattle.lb_masks.proofs.kinds.forget_unused.Goals as goal

pub returns-then-not-has_kind-clause-kinds : goal.returns-then-not-has_kind-clause-kinds
returns-then-not-has_kind-clause-kinds c =
    let left : numbers c.forget.new.kinds.items ≡ filter (λ k. not (k == c.args.number)) (numbers c.args.kinds.now.items) = ap numbers c.forget.ensures ∙ numbers_left c.args.number c.args.kinds.now.items in
    forgot_unused (numbers c.args.kinds.now.items) (numbers c.forget.new.kinds.items) c.args.ranks.now c.args.number c.has_kind.result left c.if-not-has_kind.true c.has_kind.ensures

pub returns-then-not-has_kind-clause-marked : goal.returns-then-not-has_kind-clause-marked
returns-then-not-has_kind-clause-marked c =
    let none = λ (has : HasKind c.args.ranks.now c.args.number). absurd (cc (c.has_kind.ensures.1 has, c.if-not-has_kind.true)) in
    marks_left c.args.kinds.now.items c.forget.new.kinds.items c.args.number c.args.ranks.now c.forget.ensures none

pub returns-then-not-has_kind-clause-once : goal.returns-then-not-has_kind-clause-once
returns-then-not-has_kind-clause-once c = λ once.
    let left : numbers c.forget.new.kinds.items ≡ filter (λ k. not (k == c.args.number)) (numbers c.args.kinds.now.items) = ap numbers c.forget.ensures ∙ numbers_left c.args.number c.args.kinds.now.items in
    subst (λ (ks : List ℕ). IsDistinct nat_eq ks) (sym left) (once_less (λ k. not (k == c.args.number)) (numbers c.args.kinds.now.items) once)
