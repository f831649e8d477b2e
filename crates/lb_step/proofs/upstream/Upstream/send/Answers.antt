use Rattle.std.proofs.Common.{◌≡◌, ◌<◌, ℕ, List, Some, None, ◌∙◌, ap, map, sym, subst}
use Rattle.lb_servers.specs.Park.{Backends}
use Rattle.lb_servers.specs.Server.{lanes_of}
use Rattle.lb_servers.specs.declared.pool.Pool.{Pool}
use Rattle.lb_servers.specs.declared.server.Loaded.{Loaded}
use Rattle.lb_table.specs.Place.{at_place}
use Rattle.lb_table.specs.Table.{FirstLane}
use Rattle.lb_table.specs.declared.entry.Waiting.{Waiting}
use Rattle.lb_step.specs.Upstream.{IsTied, IsUpstream, Upstreams, server_of, with_turn}
use Rattle.lb_step.specs.declared.check.Check.{Check}
use Rattle.lb_step.proofs.Tied.{counted_anew, same_servers, seen_as, sent_seen, sent_tied}
use Rattle.lb_step.proofs.AreNumbered.{numbers_still}
use Rattle.lb_step.proofs.ChecksKeep.{same_marks, sent_keeps}
use Rattle.lb_step.proofs.upstream.Upstream.send.Goals as goal

-- a query that is not entered changes the turn of its pool alone
turn_keeps : (park turned : Backends) (checks : List Check) (t new : List Waiting) (pools : List Pool) → turned ≡ record park { pools = pools } → new ≡ t → IsUpstream park checks t → IsUpstream turned checks new
turn_keeps park turned checks t new pools turn same is =
    same_marks park turned checks t new (ap (λ (p : Backends). map server_of p.servers) turn)
    (subst (λ (p : Backends). IsTied p new) (sym turn) (subst (λ (u : List Waiting). IsTied (record park { pools = pools }) u) (sym same) (same_servers t park pools is.tied))) is

pub invariant_of-self : goal.invariant_of-self
invariant_of-self c = (
  sent_keeps c.self.inside.park c.began.new.self c.count_turn.new.park c.self.inside.checks.items c.self.inside.table c.enter_by.new.self c.args.waiting.place.server _ c.began.ensures c.count_turn.ensures
      (sent_tied c.self.inside.park c.began.new.self c.count_turn.new.park c.self.inside.table c.enter_by.new.self (at_place c.args.waiting.place.server c.in-Ok.lane c.in-Ok.id) c.args.waiting.entry _
      c.self.invariant.0.tied (subst (λ (u : Upstreams). c.args.waiting.place.server.0 < u.next_server) (sym c.self.view_is) c.requires.given) c.requires.asked
      c.began.ensures c.count_turn.ensures c.in-Ok.ensures.enters.1)
      c.self.invariant.0,
  numbers_still c.self.inside.caches.caches c.self.inside.park c.count_turn.new.park (ap (λ (p : Backends). p.next_cache) c.count_turn.ensures ∙ ap (λ (p : Backends). p.next_cache) c.began.ensures) c.self.invariant.1,
)

pub invariant_of-self-in-LaneFull : goal.invariant_of-self-in-LaneFull
invariant_of-self-in-LaneFull c =
    let full = rw c.in-LaneFull.is at c.in-Err.ensures.enters in (
      turn_keeps c.self.inside.park c.count_turn-in-LaneFull.new.park c.self.inside.checks.items c.self.inside.table c.enter_by.new.self _ c.count_turn-in-LaneFull.ensures full.1 c.self.invariant.0,
      numbers_still c.self.inside.caches.caches c.self.inside.park c.count_turn-in-LaneFull.new.park (ap (λ (p : Backends). p.next_cache) c.count_turn-in-LaneFull.ensures) c.self.invariant.1,
    )

pub returns-in-Ok : goal.returns-in-Ok
returns-in-Ok c =
    let counted = c.lanes-lanes.ensures ∙ ap (λ (servers : List Loaded). lanes_of servers c.args.waiting.place.server) (sym (counted_anew c.self.inside.table c.self.inside.park.servers c.self.invariant.0.tied.loads)) in
    rw (← c.self.view_is) (
      (subst (λ (lanes : ℕ). FirstLane c.self.inside.table c.args.waiting.place.server c.args.kind lanes c.args.word (Some c.in-Ok.lane)) counted c.in-Ok.ensures.enters.0.0, c.in-Ok.ensures.enters.0.1),
      sent_seen c.self.inside.timeout c.self.inside.caches c.self.inside.checks.items c.self.inside.park c.began.new.self c.count_turn.new.park c.self.inside.table c.enter_by.new.self (at_place c.args.waiting.place.server c.in-Ok.lane c.in-Ok.id) c.args.waiting.entry c.args.pool
          c.began.ensures c.count_turn.ensures c.in-Ok.ensures.enters.1,
    )

pub returns-in-LaneFull : goal.returns-in-LaneFull
returns-in-LaneFull c =
    let full = rw c.in-LaneFull.is at c.in-Err.ensures.enters in
    let counted = c.lanes-lanes.ensures ∙ ap (λ (servers : List Loaded). lanes_of servers c.args.waiting.place.server) (sym (counted_anew c.self.inside.table c.self.inside.park.servers c.self.invariant.0.tied.loads)) in
    rw (c.in-LaneFull.is, ← c.self.view_is) (
      subst (λ (lanes : ℕ). FirstLane c.self.inside.table c.args.waiting.place.server c.args.kind lanes c.args.word None) counted full.0,
      ap (λ (p : Backends). seen_as c.self.inside.timeout c.self.inside.caches c.self.inside.checks.items p c.enter_by.new.self) c.count_turn-in-LaneFull.ensures
          ∙ ap (λ (t : List Waiting). with_turn c.args.pool (seen_as c.self.inside.timeout c.self.inside.caches c.self.inside.checks.items c.self.inside.park t)) full.1,
    )
