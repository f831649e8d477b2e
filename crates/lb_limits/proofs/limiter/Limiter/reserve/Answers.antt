use Rattle.std.proofs.Common.{◌≡◌, List, ◌+◌, ◌≤◌, Contains, length, subst, sym, arith}
use Rattle.lb_wire.specs.declared.addr.Addr.{Addr}
use Rattle.lb_limits.specs.declared.bucket.Bucket.{Bucket}
use Rattle.lb_limits.specs.Window.{Limits, reserved_at}
use Rattle.lb_limits.specs.Buckets.{Keeps, Leaves, held_at, many}
use Rattle.lb_limits.specs.Limiter.{IsLimiter}
use Rattle.lb_limits.proofs.PutKey.{put_contains}
use Rattle.lb_limits.proofs.Limiters.{view_of, live_few, left_limiter, early_limiter, refused_limiter, reserved_limiter, reserved_is, keeps_then}
use Rattle.lb_limits.proofs.limiter.Limiter.reserve.Goals as goal

pub give_up-self-inside-requires-clause-crowd : goal.give_up-self-inside-requires-clause-crowd
give_up-self-inside-requires-clause-crowd c =
    let i = c.self.inside in
    live_few i.moment i.moment i.ticks i.buckets.items c.self.invariant.ends (omega arith)

pub make_room-requires-2-clause-rated : goal.make_room-requires-2-clause-rated
make_room-requires-2-clause-rated c = c.give_up-self-inside.ensures.left.rated c.self.inside.qps c.self.invariant.rated

pub invariant_of-self : goal.invariant_of-self
invariant_of-self c =
    let i = c.self.inside in
    let bs : List Bucket = c.give_up-self-inside.new.buckets.items in
    let left : Leaves i.reserved.items i.moment i.buckets.items bs = subst (λ (keys : List Addr). Leaves keys i.moment i.buckets.items bs) c.as_slice-reserved.ensures.value c.give_up-self-inside.ensures.left in
    let few : length bs ≤ many + length i.reserved.items = subst (λ (keys : List Addr). length bs ≤ many + length keys) c.as_slice-reserved.ensures.value c.give_up-self-inside.ensures.few in
    let is : IsLimiter i.qps i.v4 i.v6 i.moment bs i.ticks i.reserved.items = left_limiter i.qps i.v4 i.v6 i.moment i.buckets.items bs i.ticks i.reserved.items c.self.invariant left in
    early_limiter i.qps i.v4 i.v6 i.moment bs bs i.ticks c.make_room.new.self i.reserved.items is few c.make_room.ensures.list c.make_room.ensures.total c.make_room.ensures.more

pub invariant_of-self-in_err-make_room-2 : goal.invariant_of-self-in_err-make_room-2
invariant_of-self-in_err-make_room-2 c =
    let i = c.self.inside in
    let bs : List Bucket = c.give_up-self-inside.new.buckets.items in
    let left : Leaves i.reserved.items i.moment i.buckets.items bs = subst (λ (keys : List Addr). Leaves keys i.moment i.buckets.items bs) c.as_slice-reserved.ensures.value c.give_up-self-inside.ensures.left in
    let few : length bs ≤ many + length i.reserved.items = subst (λ (keys : List Addr). length bs ≤ many + length keys) c.as_slice-reserved.ensures.value c.give_up-self-inside.ensures.few in
    let is : IsLimiter i.qps i.v4 i.v6 i.moment bs i.ticks i.reserved.items = left_limiter i.qps i.v4 i.v6 i.moment i.buckets.items bs i.ticks i.reserved.items c.self.invariant left in
    refused_limiter i.qps i.v4 i.v6 i.moment bs c.make_room-2.new.buckets.items i.ticks c.make_room.new.self i.reserved.items is few c.make_room.ensures.list c.make_room.ensures.total c.make_room.ensures.more
    c.make_room-2.ensures.keeps c.make_room-2.ensures.rated c.make_room-2.ensures.few c.make_room-2.ensures.rooms

pub invariant_of-self-in_err-put_key : goal.invariant_of-self-in_err-put_key
invariant_of-self-in_err-put_key c =
    let i = c.self.inside in
    let bs : List Bucket = c.give_up-self-inside.new.buckets.items in
    let left : Leaves i.reserved.items i.moment i.buckets.items bs = subst (λ (keys : List Addr). Leaves keys i.moment i.buckets.items bs) c.as_slice-reserved.ensures.value c.give_up-self-inside.ensures.left in
    let few : length bs ≤ many + length i.reserved.items = subst (λ (keys : List Addr). length bs ≤ many + length keys) c.as_slice-reserved.ensures.value c.give_up-self-inside.ensures.few in
    let is : IsLimiter i.qps i.v4 i.v6 i.moment bs i.ticks i.reserved.items = left_limiter i.qps i.v4 i.v6 i.moment i.buckets.items bs i.ticks i.reserved.items c.self.invariant left in
    subst (λ (keys : List Addr). IsLimiter i.qps i.v4 i.v6 i.moment c.make_room-2.new.buckets.items c.make_room.new.self keys) (sym c.in_err-put_key.ensures.err)
    (refused_limiter i.qps i.v4 i.v6 i.moment bs c.make_room-2.new.buckets.items i.ticks c.make_room.new.self i.reserved.items is few c.make_room.ensures.list c.make_room.ensures.total c.make_room.ensures.more
    c.make_room-2.ensures.keeps c.make_room-2.ensures.rated c.make_room-2.ensures.few c.make_room-2.ensures.rooms)

pub invariant_of-self-2 : goal.invariant_of-self-2
invariant_of-self-2 c =
    let i = c.self.inside in
    let bs : List Bucket = c.give_up-self-inside.new.buckets.items in
    let left : Leaves i.reserved.items i.moment i.buckets.items bs = subst (λ (keys : List Addr). Leaves keys i.moment i.buckets.items bs) c.as_slice-reserved.ensures.value c.give_up-self-inside.ensures.left in
    let few : length bs ≤ many + length i.reserved.items = subst (λ (keys : List Addr). length bs ≤ many + length keys) c.as_slice-reserved.ensures.value c.give_up-self-inside.ensures.few in
    let is : IsLimiter i.qps i.v4 i.v6 i.moment bs i.ticks i.reserved.items = left_limiter i.qps i.v4 i.v6 i.moment i.buckets.items bs i.ticks i.reserved.items c.self.invariant left in
    let le : i.moment ≤ c.args.now = subst (λ (l : Limits). l.moment ≤ c.args.now) (sym c.self.view_is) c.requires in
    reserved_limiter i.qps i.v4 i.v6 i.moment bs c.make_room-2.new.buckets.items i.ticks c.make_room.new.self i.reserved.items is few c.make_room.ensures.list c.make_room.ensures.total c.make_room.ensures.more
    c.make_room-2.ensures.keeps c.make_room-2.ensures.rated c.make_room-2.ensures.few c.make_room-2.ensures.rooms
    c.args.now c.masked-key.result c.put_key.new.keys.items le c.in_ok-make_room.ensures.room c.in_ok-make_room-2.ensures.room c.in_ok-put_key.ensures.ok

pub returns-clause-ok : goal.returns-clause-ok
returns-clause-ok c =
    let i = c.self.inside in
    let bs : List Bucket = c.give_up-self-inside.new.buckets.items in
    let left : Leaves i.reserved.items i.moment i.buckets.items bs = subst (λ (keys : List Addr). Leaves keys i.moment i.buckets.items bs) c.as_slice-reserved.ensures.value c.give_up-self-inside.ensures.left in
    let le : i.moment ≤ c.args.now = subst (λ (l : Limits). l.moment ≤ c.args.now) (sym c.self.view_is) c.requires in
    let keeps : Keeps i.moment i.buckets.items c.make_room-2.new.buckets.items = keeps_then i.moment i.buckets.items bs c.make_room-2.new.buckets.items left.keeps c.make_room-2.ensures.keeps in
    subst (λ (l : Limits). view_of i.qps i.v4 i.v6 c.args.now (held_at c.args.now c.make_room-2.new.buckets.items) c.put_key.new.keys.items ≡ reserved_at l c.args.addr.now c.args.now) c.self.view_is
    (reserved_is i.qps i.v4 i.v6 i.moment c.args.now i.buckets.items c.make_room-2.new.buckets.items c.args.addr.now c.masked-key.result i.reserved.items c.put_key.new.keys.items le c.masked-key.ensures.value keeps c.in_ok-put_key.ensures.ok)

pub returns-clause-reserved : goal.returns-clause-reserved
returns-clause-reserved c =
    let i = c.self.inside in
    subst (λ (key : Addr). Contains c.put_key.new.keys.items key) c.masked-key.ensures.value
    (subst (λ (keys : List Addr). Contains keys c.masked-key.result) (sym c.in_ok-put_key.ensures.ok) (put_contains c.masked-key.result i.reserved.items))
