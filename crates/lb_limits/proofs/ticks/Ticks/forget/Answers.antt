use Rattle.std.proofs.Common.{◌≡◌, ◌-◌, List, length, drop, subst, ap, arith}
use Rattle.std.specs.List.{filter}
use Rattle.lb_limits.specs.declared.ticks.LastPasses.{LastPasses}
use Rattle.lb_limits.specs.Moments.{is_recent}
use Rattle.lb_limits.proofs.Tallies.{forgot_tally, forgot_recent, forgot_past, forgot_live, turned}
use Rattle.lb_limits.proofs.ticks.Ticks.forget.Goals as goal

pub returns-clause-tally : goal.returns-clause-tally
returns-clause-tally c =
    let is : c.truncate.new.self.items ≡ filter (λ (t : LastPasses). is_recent c.args.now t.moment) c.args.self.now.list.items =
    turned c.args.now c.recent_from-place.result (c.len.result - c.recent_from-place.result) c.args.self.now.list.items c.rotate_left.new.self.items c.truncate.new.self.items
    (omega (arith, c.recent_from-place.ensures.within, c.len.ensures, c.as_slice.ensures.len, ap (λ (ts : List LastPasses). length ts) c.as_slice.ensures.value)) c.rotate_left.ensures.items c.truncate.ensures.items
    (subst (λ (ts : List LastPasses). drop c.recent_from-place.result ts ≡ filter (λ (t : LastPasses). is_recent c.args.now t.moment) ts) c.as_slice.ensures.value c.recent_from-place.ensures.rest) in
    forgot_tally c.args.now c.args.self.now (record { list = c.truncate.new.self; total = c.live-self.result }) c.requires is c.live-self.ensures

pub returns-clause-recent : goal.returns-clause-recent
returns-clause-recent c =
    let is : c.truncate.new.self.items ≡ filter (λ (t : LastPasses). is_recent c.args.now t.moment) c.args.self.now.list.items =
    turned c.args.now c.recent_from-place.result (c.len.result - c.recent_from-place.result) c.args.self.now.list.items c.rotate_left.new.self.items c.truncate.new.self.items
    (omega (arith, c.recent_from-place.ensures.within, c.len.ensures, c.as_slice.ensures.len, ap (λ (ts : List LastPasses). length ts) c.as_slice.ensures.value)) c.rotate_left.ensures.items c.truncate.ensures.items
    (subst (λ (ts : List LastPasses). drop c.recent_from-place.result ts ≡ filter (λ (t : LastPasses). is_recent c.args.now t.moment) ts) c.as_slice.ensures.value c.recent_from-place.ensures.rest) in
    forgot_recent c.args.now c.args.self.now.list.items c.truncate.new.self.items is

pub returns-clause-past : goal.returns-clause-past
returns-clause-past c = λ most past.
    let is : c.truncate.new.self.items ≡ filter (λ (t : LastPasses). is_recent c.args.now t.moment) c.args.self.now.list.items =
    turned c.args.now c.recent_from-place.result (c.len.result - c.recent_from-place.result) c.args.self.now.list.items c.rotate_left.new.self.items c.truncate.new.self.items
    (omega (arith, c.recent_from-place.ensures.within, c.len.ensures, c.as_slice.ensures.len, ap (λ (ts : List LastPasses). length ts) c.as_slice.ensures.value)) c.rotate_left.ensures.items c.truncate.ensures.items
    (subst (λ (ts : List LastPasses). drop c.recent_from-place.result ts ≡ filter (λ (t : LastPasses). is_recent c.args.now t.moment) ts) c.as_slice.ensures.value c.recent_from-place.ensures.rest) in
    forgot_past c.args.now most c.args.self.now.list.items c.truncate.new.self.items is past

pub returns-clause-live : goal.returns-clause-live
returns-clause-live c = λ later le.
    let is : c.truncate.new.self.items ≡ filter (λ (t : LastPasses). is_recent c.args.now t.moment) c.args.self.now.list.items =
    turned c.args.now c.recent_from-place.result (c.len.result - c.recent_from-place.result) c.args.self.now.list.items c.rotate_left.new.self.items c.truncate.new.self.items
    (omega (arith, c.recent_from-place.ensures.within, c.len.ensures, c.as_slice.ensures.len, ap (λ (ts : List LastPasses). length ts) c.as_slice.ensures.value)) c.rotate_left.ensures.items c.truncate.ensures.items
    (subst (λ (ts : List LastPasses). drop c.recent_from-place.result ts ≡ filter (λ (t : LastPasses). is_recent c.args.now t.moment) ts) c.as_slice.ensures.value c.recent_from-place.ensures.rest) in
    forgot_live c.args.now later c.args.self.now.list.items c.truncate.new.self.items le is
