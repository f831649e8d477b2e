use Rattle.std.proofs.Common.{◌∙◌, ◌<◌, false, true, ap, refl, sym, subst, List, length}
use Rattle.std.specs.List.{position}
use Rattle.std.specs.Prelude.{slice_set}
use Rattle.lb_step.specs.declared.check.Check.{Check}
use Rattle.lb_health.specs.declared.health.Changed.{Changed}
use Rattle.lb_health.specs.declared.health.Changed.TheVariants.{No, Up, Down}
use Rattle.lb_servers.specs.Park.{Backends}
use Rattle.lb_servers.specs.Server.{marked}
use Rattle.lb_step.specs.Upstream.{AreNumbered, IsUpstream, is_check}
use Rattle.lb_step.specs.Health.{with_change, with_check_at}
use Rattle.lb_step.proofs.AreNumbered.{changed_numbers}
use Rattle.lb_step.proofs.Checks.{mark_seen, result_seen}
use Rattle.lb_step.proofs.ChecksKeep.{check_keeps, mark_keeps, result_says}
use Rattle.lb_step.proofs.Tied.{seen_as}
use Rattle.lb_step.proofs.upstream.Upstream.take_result.Goals as goal

pub invariant_of-self : goal.invariant_of-self
invariant_of-self c =
    let checks = c.self.inside.checks.items in
    let check = c.index_mut.result.now in
    let after = record check { health = c.result-changed.new.self } in (
      check_keeps checks c.self.inside.table c.self.inside.park c.in_ok-at.at check after c.index_mut.ensures.value refl
          (result_says check.health c.result-changed.new.self c.args.ok c.result-changed.result No c.result-changed.ensures c.in-No.is)
          (subst (λ (cs : List Check). c.in_ok-at.at < length cs) c.as_slice.ensures.value c.in_ok-at.ensures.within) c.self.invariant.0,
      c.self.invariant.1,
    )

pub invariant_of-self-in-Up : goal.invariant_of-self-in-Up
invariant_of-self-in-Up c =
    let checks = c.self.inside.checks.items in
    let check = c.index_mut.result.now in
    let after = record check { health = c.result-changed.new.self } in
    subst (λ (p : Backends). IsUpstream p (slice_set checks c.in_ok-at.at after) c.self.inside.table × AreNumbered p.next_cache c.self.inside.caches.caches) (sym c.mark.ensures) (
      mark_keeps checks c.self.inside.table true c.self.inside.park c.args.server c.in_ok-at.at check after
          (c.in_ok-at.ensures.at ∙ ap (position (is_check c.args.server)) c.as_slice.ensures.value) c.index_mut.ensures.value refl
          (result_says check.health c.result-changed.new.self c.args.ok c.result-changed.result Up c.result-changed.ensures c.in-Up.is) c.self.invariant.0,
      changed_numbers c.self.inside.caches.caches (marked true) c.self.inside.park c.args.server c.self.invariant.1,
    )

pub invariant_of-self-in-Down : goal.invariant_of-self-in-Down
invariant_of-self-in-Down c =
    let checks = c.self.inside.checks.items in
    let check = c.index_mut.result.now in
    let after = record check { health = c.result-changed.new.self } in
    subst (λ (p : Backends). IsUpstream p (slice_set checks c.in_ok-at.at after) c.self.inside.table × AreNumbered p.next_cache c.self.inside.caches.caches) (sym c.mark-in-Down.ensures) (
      mark_keeps checks c.self.inside.table false c.self.inside.park c.args.server c.in_ok-at.at check after
          (c.in_ok-at.ensures.at ∙ ap (position (is_check c.args.server)) c.as_slice.ensures.value) c.index_mut.ensures.value refl
          (result_says check.health c.result-changed.new.self c.args.ok c.result-changed.result Down c.result-changed.ensures c.in-Down.is) c.self.invariant.0,
      changed_numbers c.self.inside.caches.caches (marked false) c.self.inside.park c.args.server c.self.invariant.1,
    )

pub returns-in-No : goal.returns-in-No
returns-in-No c =
    let checks = c.self.inside.checks.items in
    let ups = seen_as c.self.inside.timeout c.self.inside.caches checks c.self.inside.park c.self.inside.table in
    let after = record c.index_mut.result.now { health = c.result-changed.new.self } in
    rw (← c.self.view_is)
    (result_seen ups _ c.args.server c.args.ok c.in_ok-at.at c.index_mut.result.now c.result-changed.new.self c.result-changed.result
    (c.in_ok-at.ensures.at ∙ ap (position (is_check c.args.server)) c.as_slice.ensures.value) (subst (λ (cs : List Check). c.in_ok-at.at < length cs) c.as_slice.ensures.value c.in_ok-at.ensures.within) c.index_mut.ensures.value c.result-changed.ensures
    (ap (λ (change : Changed). with_change c.args.server change (with_check_at c.in_ok-at.at after ups)) (sym c.in-No.is)))

pub returns-in-Up : goal.returns-in-Up
returns-in-Up c =
    let checks = c.self.inside.checks.items in
    let ups = seen_as c.self.inside.timeout c.self.inside.caches checks c.self.inside.park c.self.inside.table in
    let after = record c.index_mut.result.now { health = c.result-changed.new.self } in
    rw (← c.self.view_is)
    (result_seen ups _ c.args.server c.args.ok c.in_ok-at.at c.index_mut.result.now c.result-changed.new.self c.result-changed.result
    (c.in_ok-at.ensures.at ∙ ap (position (is_check c.args.server)) c.as_slice.ensures.value) (subst (λ (cs : List Check). c.in_ok-at.at < length cs) c.as_slice.ensures.value c.in_ok-at.ensures.within) c.index_mut.ensures.value c.result-changed.ensures
    (mark_seen c.self.inside.timeout c.self.inside.caches (with_check_at c.in_ok-at.at after ups).checks c.self.inside.park c.mark.new.park c.self.inside.table true c.args.server c.self.invariant.0.tied c.mark.ensures
    ∙ ap (λ (change : Changed). with_change c.args.server change (with_check_at c.in_ok-at.at after ups)) (sym c.in-Up.is)))

pub returns-in-Down : goal.returns-in-Down
returns-in-Down c =
    let checks = c.self.inside.checks.items in
    let ups = seen_as c.self.inside.timeout c.self.inside.caches checks c.self.inside.park c.self.inside.table in
    let after = record c.index_mut.result.now { health = c.result-changed.new.self } in
    rw (← c.self.view_is)
    (result_seen ups _ c.args.server c.args.ok c.in_ok-at.at c.index_mut.result.now c.result-changed.new.self c.result-changed.result
    (c.in_ok-at.ensures.at ∙ ap (position (is_check c.args.server)) c.as_slice.ensures.value) (subst (λ (cs : List Check). c.in_ok-at.at < length cs) c.as_slice.ensures.value c.in_ok-at.ensures.within) c.index_mut.ensures.value c.result-changed.ensures
    (mark_seen c.self.inside.timeout c.self.inside.caches (with_check_at c.in_ok-at.at after ups).checks c.self.inside.park c.mark-in-Down.new.park c.self.inside.table false c.args.server c.self.invariant.0.tied c.mark-in-Down.ensures
    ∙ ap (λ (change : Changed). with_change c.args.server change (with_check_at c.in_ok-at.at after ups)) (sym c.in-Down.is)))
