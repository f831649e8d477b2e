use Rattle.std.proofs.Common.{◌≡◌, ◌∷◌, ◌+◌, List, ℕ, [], drop, Option, sym, ◌∙◌, ap, subst, option_copied, Some}
use Rattle.lb_index_ranks.specs.Least.{IsLeastFrom}
use Rattle.lb_index_ranks.specs.Filed.{IsFiledAt}
use Rattle.lb_suffix.specs.Over.{IsOver}
use Rattle.lb_suffix.proofs.Labels.{empty_of, first_is}
use Rattle.lb_suffix.proofs.Overs.{Looked, further, looked_all, looked_more}
use Rattle.lb_suffix.proofs.over.next_over.Goals as goal

pub returns-in_default : goal.returns-in_default
returns-in_default c = λ labels each is.
    let here = subst (λ (xs : List ℕ). IsLeastFrom (IsFiledAt c.args.ranks.now xs) c.args.from c.next_at.result) c.split_at.ensures.front c.next_at.ensures in
    let none : c.split_at.result.1.now ≡ [] = empty_of c.split_at.result.1.now (sym (ap option_copied c.in_default.is) ∙ c.first.ensures.value) in
    subst (λ (found : Option ℕ). IsLeastFrom (IsOver c.args.ranks.now [] labels) c.args.from found) (sym c.lesser-best.ensures)
    (looked_all c.args.ranks.now c.args.key.now labels c.args.from c.labels.at c.labels.best c.next_at.result (c.labels.invariant.1 labels each is) (sym c.split_at.ensures.back ∙ none) here)

pub labels-preserved : goal.labels-preserved
labels-preserved c =
    let here = subst (λ (xs : List ℕ). IsLeastFrom (IsFiledAt c.args.ranks.now xs) c.args.from c.next_at.result) c.split_at.ensures.front c.next_at.ensures in
    let first : c.split_at.result.1.now ≡ c.from.result ∷ drop 1 c.split_at.result.1.now = first_is c.split_at.result.1.now c.from.result (ap Some c.from.ensures ∙ sym (ap option_copied c.in-Some.is) ∙ c.first.ensures.value) in
    let own = c.requires in
    let looked = c.labels.invariant.1 own.0 own.1 own.2 in
    let go = further c.args.key.now c.labels.at c.from.result (drop 1 c.split_at.result.1.now) looked.rest c.labels.invariant.0 looked.left (sym c.split_at.ensures.back ∙ first) in (
      go.within,
      λ labels each is.
          subst (λ (found : Option ℕ). Looked c.args.ranks.now c.args.key.now labels c.args.from (c.labels.at + (c.from.result + 1)) found) (sym c.lesser-best.ensures)
          (looked_more c.args.ranks.now c.args.key.now labels c.args.from c.labels.at c.from.result (drop 1 c.split_at.result.1.now) c.labels.best c.next_at.result (c.labels.invariant.1 labels each is) c.labels.invariant.0 (sym c.split_at.ensures.back ∙ first) here),
    )
