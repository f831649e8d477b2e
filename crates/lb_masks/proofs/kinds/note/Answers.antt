use Rattle.std.proofs.Common.{◌≡◌, ◌++◌, ◌∷◌, [], ◌<◌, None, Some, List, ℕ, Contains, length, get_or, nat_eq, ap, subst, sym, ◌∙◌, rules}
use Rattle.std.specs.List.{position, IsDistinct}
use Rattle.lb_masks.specs.Kinds.{numbers, IsNoted}
use Rattle.lb_masks.specs.declared.kinds.MaskKind.{MaskKind}
use Rattle.lb_masks.specs.Marks.{HasMark}
use Rattle.lb_masks.proofs.InUse.{once_more}
use Rattle.lb_masks.proofs.Marked.{noted_new, noted_there}
use Rattle.lb_masks.proofs.Noted.{found_number, is_number, no_number, noted_more, noted_same, number_has, numbers_push, numbers_set}
use Rattle.lb_masks.proofs.kinds.note.Goals as goal

pub returns-in-Some-clause-ok : goal.returns-in-Some-clause-ok
returns-in-Some-clause-ok c =
    let kinds = c.args.kinds.now.items in
    let place = c.in-Some.place in
    let old : MaskKind = c.index.result.now in
    let here : old ≡ get_or kinds place old = search rules in
    let lt : place < length kinds = search rules in
    let is : position (is_number c.args.number) kinds ≡ Some place = search rules in
    let number : old.number ≡ c.args.number = ap (λ (k : MaskKind). k.number) here ∙ found_number kinds c.args.number place old is in
    let has : Contains kinds old = (place, lt, sym here) in
    noted_same (numbers kinds) _ c.args.number (numbers_set kinds place c.with.result old (c.with.ensures.number ∙ ap (λ (k : MaskKind). k.number) here))
    (subst (λ (n : ℕ). Contains (numbers kinds) n) number (number_has kinds old has))

pub returns-in-Some-clause-marked : goal.returns-in-Some-clause-marked
returns-in-Some-clause-marked c =
    let kinds = c.args.kinds.now.items in
    let place = c.in-Some.place in
    let old : MaskKind = c.index.result.now in
    let here : old ≡ get_or kinds place old = search rules in
    let lt : place < length kinds = search rules in
    let is : position (is_number c.args.number) kinds ≡ Some place = search rules in
    let number : (get_or kinds place old).number ≡ c.args.number = found_number kinds c.args.number place old is in
    let same = c.with.ensures.number ∙ ap (λ (k : MaskKind). k.number) here in
    noted_there kinds place c.args.number c.args.mark old c.with.result lt same (same ∙ number) c.with.ensures.own
    (λ m has. c.with.ensures.kept m (subst (λ (k : MaskKind). HasMark k.marks m) (sym here) has))

pub returns-in-Some-clause-once : goal.returns-in-Some-clause-once
returns-in-Some-clause-once c = λ once.
    let kinds = c.args.kinds.now.items in
    let place = c.in-Some.place in
    let old : MaskKind = c.index.result.now in
    let here : old ≡ get_or kinds place old = search rules in
    subst (λ (ks : List ℕ). IsDistinct nat_eq ks) (sym (numbers_set kinds place c.with.result old (c.with.ensures.number ∙ ap (λ (k : MaskKind). k.number) here))) once

pub returns-in_ok-push-in-None-clause-ok : goal.returns-in_ok-push-in-None-clause-ok
returns-in_ok-push-in-None-clause-ok c =
    let kinds = c.args.kinds.now.items in
    let more = c.push.new.self.items in
    let is : more ≡ kinds ++ c.with-in-None.result ∷ [] = c.in_ok-push-in-None.ensures.items in
    noted_more (numbers kinds) (numbers more) c.args.number (numbers_push kinds more c.with-in-None.result c.args.number is (c.with-in-None.ensures.number ∙ c.new.ensures))

pub returns-in_ok-push-in-None-clause-once : goal.returns-in_ok-push-in-None-clause-once
returns-in_ok-push-in-None-clause-once c =
    let kinds = c.args.kinds.now.items in
    let more = c.push.new.self.items in
    let is : more ≡ kinds ++ c.with-in-None.result ∷ [] = c.in_ok-push-in-None.ensures.items in
    let none : position (is_number c.args.number) kinds ≡ None = search rules in
    once_more (numbers kinds) (numbers more) c.args.number (numbers_push kinds more c.with-in-None.result c.args.number is (c.with-in-None.ensures.number ∙ c.new.ensures)) (no_number kinds c.args.number none)

pub returns-in_ok-push-in-None-clause-marked : goal.returns-in_ok-push-in-None-clause-marked
returns-in_ok-push-in-None-clause-marked c =
    let kinds = c.args.kinds.now.items in
    let more = c.push.new.self.items in
    let is : more ≡ kinds ++ c.with-in-None.result ∷ [] = c.in_ok-push-in-None.ensures.items in
    subst (λ (ks : List MaskKind). IsNoted kinds c.args.number c.args.mark ks) (sym is) (noted_new kinds c.args.number c.args.mark c.with-in-None.result (c.with-in-None.ensures.number ∙ c.new.ensures) c.with-in-None.ensures.own)
