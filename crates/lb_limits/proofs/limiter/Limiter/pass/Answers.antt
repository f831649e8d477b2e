use Rattle.std.proofs.Common.{◌≡◌, ◌≤◌, ◌+◌, List, length, refl, subst, sym, ◌∙◌, arith}
use Rattle.lb_wire.specs.declared.addr.Addr.{Addr}
use Rattle.lb_limits.specs.declared.bucket.Bucket.{Bucket}
use Rattle.lb_limits.specs.Window.{Limits, passed_at}
use Rattle.lb_limits.specs.Buckets.{Leaves, held_at, many}
use Rattle.lb_limits.specs.Limiter.{IsLatest}
use Rattle.lb_limits.proofs.Limiters.{view_of, crowd_few, latest_pass, live_few, passed_is, passed_limiter}
use Rattle.lb_limits.proofs.Rated.{rated_later}
use Rattle.lb_limits.proofs.Matches.{allowed}
use Rattle.lb_limits.proofs.limiter.Limiter.pass.Goals as goal

pub pass-requires-clause-crowd : goal.pass-requires-clause-crowd
pass-requires-clause-crowd c =
    let i = c.self.inside in
    let bs : List Bucket = i.buckets.items in
    let le : i.moment ≤ c.args.now = subst (λ (l : Limits). l.moment ≤ c.args.now) (sym c.self.view_is) c.requires.moment in
    let may = allowed c.args.self.now (view_of i.qps i.v4 i.v6 i.moment (held_at i.moment bs) i.reserved.items) bs i.ticks c.args.addr.now c.masked-key.result c.args.now c.self.view_is refl c.requires.moment c.self.invariant.passes c.self.invariant.ends c.masked-key.ensures.value c.requires.within in
    crowd_few i.moment c.args.now _ c.add_pass-last.result i.ticks bs c.self.invariant.ends c.add_pass-last.ensures.first may.1

pub sweep_many-requires-clause-crowd : goal.sweep_many-requires-clause-crowd
sweep_many-requires-clause-crowd c =
    let i = c.self.inside in
    let bs : List Bucket = i.buckets.items in
    let le : i.moment ≤ c.args.now = subst (λ (l : Limits). l.moment ≤ c.args.now) (sym c.self.view_is) c.requires.moment in
    let ends : IsLatest c.args.now c.pass.new.self c.add_pass-last.new.buckets.items = latest_pass i.moment c.args.now c.add_pass-last.result i.ticks c.pass.new.self bs c.add_pass-last.new.buckets.items c.self.invariant.ends le c.pass.ensures.tally c.pass.ensures.past c.pass.ensures.live c.add_pass-last.ensures.live in
    live_few c.args.now c.args.now c.pass.new.self c.add_pass-last.new.buckets.items ends (omega arith)

pub invariant_of-self : goal.invariant_of-self
invariant_of-self c =
    let i = c.self.inside in
    let bs : List Bucket = i.buckets.items in
    let le : i.moment ≤ c.args.now = subst (λ (l : Limits). l.moment ≤ c.args.now) (sym c.self.view_is) c.requires.moment in
    let may = allowed c.args.self.now (view_of i.qps i.v4 i.v6 i.moment (held_at i.moment bs) i.reserved.items) bs i.ticks c.args.addr.now c.masked-key.result c.args.now c.self.view_is refl c.requires.moment c.self.invariant.passes c.self.invariant.ends c.masked-key.ensures.value c.requires.within in
    let ends : IsLatest c.args.now c.pass.new.self c.add_pass-last.new.buckets.items = latest_pass i.moment c.args.now c.add_pass-last.result i.ticks c.pass.new.self bs c.add_pass-last.new.buckets.items c.self.invariant.ends le c.pass.ensures.tally c.pass.ensures.past c.pass.ensures.live c.add_pass-last.ensures.live in
    let cs : List Bucket = c.add_pass-last.new.buckets.items in
    let ds : List Bucket = c.sweep_many.new.buckets.items in
    let left : Leaves c.clear.new.self.items c.args.now cs ds = subst (λ (keys : List Addr). Leaves keys c.args.now cs ds) c.as_slice.ensures.value c.sweep_many.ensures.left in
    let few : length ds ≤ many + length c.clear.new.self.items = subst (λ (keys : List Addr). length ds ≤ many + length keys) c.as_slice.ensures.value c.sweep_many.ensures.few in
    passed_limiter i.qps i.v4 i.v6 c.args.now cs ds c.pass.new.self c.clear.new.self.items c.self.invariant.rate c.self.invariant.ipv4 c.self.invariant.ipv6
    (c.add_pass-last.ensures.rated i.qps may.0 (rated_later i.qps i.moment c.args.now bs le c.self.invariant.rated)) ends left few c.clear.ensures.items

pub returns : goal.returns
returns c =
    let i = c.self.inside in
    let bs : List Bucket = i.buckets.items in
    let le : i.moment ≤ c.args.now = subst (λ (l : Limits). l.moment ≤ c.args.now) (sym c.self.view_is) c.requires.moment in
    let ds : List Bucket = c.sweep_many.new.buckets.items in
    subst (λ (l : Limits). view_of i.qps i.v4 i.v6 c.args.now (held_at c.args.now ds) c.clear.new.self.items ≡ passed_at l c.args.addr.now c.args.now) c.self.view_is
    (passed_is i.qps i.v4 i.v6 i.moment c.args.now bs ds c.args.addr.now c.masked-key.result i.reserved.items c.clear.new.self.items le c.masked-key.ensures.value (c.sweep_many.ensures.left.keeps.passes c.args.now (omega arith) ∙ c.add_pass-last.ensures.passes) c.clear.ensures.items)
