use Rattle.std.proofs.Common.{◌+◌, cond, subst, sym, ap, ◌∙◌, List, [], ◌∷◌, ◌++◌, length, ◌<◌, set, rules}
use Rattle.circular_buffer.specs.Buffer.{last_item}
use Rattle.lb_limits.specs.declared.bucket.Bucket.{Bucket}
use Rattle.lb_limits.specs.Moments.{ends_recent}
use Rattle.lb_limits.specs.Buckets.{live_count}
use Rattle.lb_limits.proofs.Places.{room_at, room_found, room_within}
use Rattle.lb_limits.proofs.Keeps.{added_held, added_live}
use Rattle.lb_limits.proofs.Added.{added_passes, first_none, last_drops}
use Rattle.lb_limits.proofs.Rated.{added_rated}
use Rattle.lb_limits.proofs.buckets.add_at.Goals as goal

pub index_mut-requires : goal.index_mut-requires
index_mut-requires c =
    let lt : c.args.place < length c.args.buckets.now.items = room_within c.args.key.now c.args.buckets.now.items c.args.place c.requires.held.order c.requires.place c.requires.room in
    search rules

pub add-requires : goal.add-requires
add-requires c =
    subst (λ (b : Bucket). length b.moments.items < b.moments.capacity) (sym c.index_mut.ensures.value)
    (room_at c.args.key.now c.args.buckets.now.items c.args.place c.index_mut.result.now c.requires.held.order c.requires.place c.requires.room)

pub returns-clause-held : goal.returns-clause-held
returns-clause-held c =
    let bs : List Bucket = c.args.buckets.now.items in
    added_held c.args.now c.args.place bs c.add.new.self c.index_mut.result.now c.requires.held (room_within c.args.key.now bs c.args.place c.requires.held.order c.requires.place c.requires.room)
    (c.add.ensures.source ∙ ap (λ (b : Bucket). b.source) c.index_mut.ensures.value)
    (c.add.ensures.moments ∙ ap (λ (b : Bucket). b.moments.items ++ c.args.now ∷ []) c.index_mut.ensures.value)
    (c.add.ensures.places ∙ ap (λ (b : Bucket). b.moments.capacity) c.index_mut.ensures.value)
    (room_at c.args.key.now bs c.args.place c.index_mut.result.now c.requires.held.order c.requires.place c.requires.room)

pub returns-clause-passes : goal.returns-clause-passes
returns-clause-passes c =
    added_passes c.args.now c.args.key.now c.args.place c.args.buckets.now.items c.add.new.self c.index_mut.result.now c.requires.held c.requires.place c.requires.room
    (c.add.ensures.source ∙ ap (λ (b : Bucket). b.source) c.index_mut.ensures.value)
    (c.add.ensures.moments ∙ ap (λ (b : Bucket). b.moments.items ++ c.args.now ∷ []) c.index_mut.ensures.value)

pub returns-clause-live : goal.returns-clause-live
returns-clause-live c = λ later.
    let bs : List Bucket = c.args.buckets.now.items in
    let last = c.add.ensures.last ∙ ap (λ (b : Bucket). last_item b.moments.items) c.index_mut.ensures.value in
    ap (λ r. live_count later (set bs c.args.place c.add.new.self) + cond (ends_recent later r) 1 0) last
    ∙ added_live c.args.now c.args.place bs c.add.new.self c.index_mut.result.now c.requires.held (room_within c.args.key.now bs c.args.place c.requires.held.order c.requires.place c.requires.room)
    (c.add.ensures.source ∙ ap (λ (b : Bucket). b.source) c.index_mut.ensures.value)
    (c.add.ensures.moments ∙ ap (λ (b : Bucket). b.moments.items ++ c.args.now ∷ []) c.index_mut.ensures.value)
    (c.add.ensures.places ∙ ap (λ (b : Bucket). b.moments.capacity) c.index_mut.ensures.value)
    later

pub returns-clause-last : goal.returns-clause-last
returns-clause-last c =
    let bs : List Bucket = c.args.buckets.now.items in
    last_drops c.args.now c.args.place bs c.index_mut.result.now c.add.result c.requires.held (room_within c.args.key.now bs c.args.place c.requires.held.order c.requires.place c.requires.room)
    (c.add.ensures.last ∙ ap (λ (b : Bucket). last_item b.moments.items) c.index_mut.ensures.value)

pub returns-clause-rated : goal.returns-clause-rated
returns-clause-rated c = λ qps fewer all.
    let bs : List Bucket = c.args.buckets.now.items in
    added_rated qps c.args.now c.args.key.now c.args.place bs c.add.new.self c.index_mut.result.now c.requires.held.order c.requires.place (room_within c.args.key.now bs c.args.place c.requires.held.order c.requires.place c.requires.room)
    (room_found c.args.key.now bs c.args.place c.requires.held.order c.requires.place c.requires.room)
    (c.add.ensures.moments ∙ ap (λ (b : Bucket). b.moments.items ++ c.args.now ∷ []) c.index_mut.ensures.value)
    (c.add.ensures.places ∙ ap (λ (b : Bucket). b.moments.capacity) c.index_mut.ensures.value) fewer all

pub returns-clause-first : goal.returns-clause-first
returns-clause-first c = λ out.
    first_none c.args.now c.args.key.now c.args.place c.args.buckets.now.items c.index_mut.result.now c.add.result c.requires.held c.requires.place c.requires.room
    (c.add.ensures.last ∙ ap (λ (b : Bucket). last_item b.moments.items) c.index_mut.ensures.value) out
