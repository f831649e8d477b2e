use Rattle.std.proofs.Common.{◌≡◌, ◌∙◌, ◌<◌, refl, sym, ap, arith, set, get_or, not, length, Bool, true, List}
use Rattle.std.specs.Prelude.{vec_capacity}
use Rattle.std.specs.List.{filter}
use Rattle.std.proofs.lemmas.List.{get_or_default, length-set}
use Rattle.lb_cache.specs.declared.caches.Shelf.{Shelf}
use Rattle.lb_cache.specs.Caches.{is_old}
use Rattle.lb_cache.proofs.WithCache.{filter_set, same_old}
use Rattle.lb_cache.proofs.caches.put_aside.Goals.{then-is_old, else-is_old}
use Rattle.lb_cache.proofs.caches.put_aside.Goals as goal

pub all-preserved : goal.all-preserved
all-preserved c =
    let others : List Shelf → List Shelf = filter (λ s. not (is_old c.args.old s)) in
    elim c.if-is_old.branch [
      | then-is_old w ↦
          let shelves : List Shelf = c.all.shelves.items in
          let s : Shelf = c.index.result.now in
          let emptied : Shelf = record { id = w.index_mut.result.now.id; cache = w.take_all-count.new.self } in
          let within : c.all.at < length shelves = omega (arith, c.all-test.true, c.len-at-end.ensures, c.all.invariant.1) in
          let same : w.index_mut.result.now ≡ s = w.index_mut.ensures.value ∙ get_or_default shelves c.all.at w.index_mut.result.now s within ∙ sym c.index.ensures in
          let goes : is_old c.args.old s ≡ true = sym c.is_old.ensures ∙ w.if-is_old.true in
          let empty_goes : is_old c.args.old emptied ≡ true = same_old c.args.old emptied s (ap (λ (o : Shelf). o.id) same) ∙ goes in (
            ap (λ v. others v.items) w.shelves-is
                ∙ filter_set (λ s. not (is_old c.args.old s)) shelves c.all.at s emptied within c.index.ensures (ap not goes) (ap not empty_goes)
                ∙ c.all.invariant.0,
            ap (λ v. length v.items) w.shelves-is ∙ length-set shelves c.all.at emptied ∙ c.all.invariant.1,
            ap (λ v. vec_capacity v) w.shelves-is ∙ c.all.invariant.2,
          )
      | else-is_old w ↦ (ap (λ v. others v.items) w.shelves-is ∙ c.all.invariant.0, ap (λ v. length v.items) w.shelves-is ∙ c.all.invariant.1, ap (λ v. vec_capacity v) w.shelves-is ∙ c.all.invariant.2)
    ]
