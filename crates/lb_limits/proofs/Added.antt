-- A pass that is added to the bucket of its address.
use Rattle.std.proofs.Common.{◌≡◌, true, false, ℕ, ◌+◌, ◌<◌, List, [], ◌∷◌, ◌++◌, length, get_or, set, take, drop, sym, ◌∙◌, ap, arith, subst}
use Rattle.std.specs.List.{All}
use Rattle.std.specs.Option.{IfSome}
use Rattle.std.specs.Ordering.{is_lt}
use Rattle.std.specs.declared.option.Option.{Option}
use Rattle.std.specs.declared.option.Option.TheVariants.{None, Some}
use Rattle.std.proofs.lemmas.Bool.Decides.{nat_tests}
use Rattle.std.proofs.lemmas.List.Elements.{All-get_or}
use Rattle.circular_buffer.specs.Buffer.{last_item}
use Rattle.lb_wire.specs.declared.addr.Addr.{Addr}
use Rattle.lb_limits.specs.declared.bucket.Bucket.{Bucket}
use Rattle.lb_limits.specs.Order.{cmp_addr}
use Rattle.lb_limits.specs.Window.{put_pass}
use Rattle.lb_limits.specs.Moments.{is_recent, recent_of, ends_recent}
use Rattle.lb_limits.specs.Buckets.{IsBucket, IsHeld, IsPlace, begins, free_of, held_at, live_count, pass_of, window_count}
use Rattle.lb_limits.proofs.Places.{Stands, stands_at, parts_of, set_parts, room_found, room_within, window_there}
use Rattle.lb_limits.proofs.PutPass.{put_held}
use Rattle.lb_limits.proofs.Keeps.{live_drops, no_length}
use Rattle.lb_limits.proofs.Recent.{ends_tell}

pub added_passes : (now : ℕ) (key : Addr) (place : ℕ) (bs : List Bucket) (b d : Bucket) → IsHeld now bs → IsPlace key place bs → 0 < free_of key bs → b.source ≡ (get_or bs place d).source → b.moments.items ≡ (get_or bs place d).moments.items ++ now ∷ [] → held_at now (set bs place b) ≡ put_pass (pass_of key now) (held_at now bs)
added_passes now key place bs b d held at room source items =
    let old : Bucket = get_or bs place d in
    let front : List Bucket = take place bs in
    let back : List Bucket = drop (place + 1) bs in
    let found : begins key (drop place bs) ≡ true = room_found key bs place held.order at room in
    let lt : place < length bs = room_within key bs place held.order at room in
    let is : IsBucket now old = All-get_or (IsBucket now) bs place d lt held.each in
    let stands : Stands key front old back = stands_at key bs place d held.order at lt found in
    let here : is_recent now now ≡ true = grind (arith, nat_tests) in
    let put : held_at now (front ++ b ∷ back) ≡ put_pass (pass_of old.source now) (held_at now (front ++ old ∷ back)) =
    put_held now front old b back is.past source items here
    (subst (λ (s : Addr). All (λ a. is_lt (cmp_addr a.source s) ≡ true) front) stands.same stands.below)
    (subst (λ (s : Addr). All (λ a. is_lt (cmp_addr s a.source) ≡ true) back) stands.same stands.above) in
    ap (held_at now) (set_parts bs place b lt)
    ∙ put
    ∙ ap (λ (s : Addr). put_pass (pass_of s now) (held_at now (front ++ old ∷ back))) (sym stands.same)
    ∙ ap (λ (cs : List Bucket). put_pass (pass_of key now) (held_at now cs)) (sym (parts_of bs place d lt))

pub last_drops : (now : ℕ) (place : ℕ) (bs : List Bucket) (d : Bucket) (last : Option ℕ) → IsHeld now bs → place < length bs → last ≡ last_item (get_or bs place d).moments.items → IfSome last (λ m. live_count (m + 1000) bs < live_count (m + 999) bs)
last_drops now place bs d None held lt is = tt
last_drops now place bs d (Some m) held lt is = live_drops now place bs d m held lt (sym is)

-- where the last pass of an address does not count, none does
pub first_none : (now : ℕ) (key : Addr) (place : ℕ) (bs : List Bucket) (d : Bucket) (last : Option ℕ) → IsHeld now bs → IsPlace key place bs → 0 < free_of key bs → last ≡ last_item (get_or bs place d).moments.items → ends_recent now last ≡ false → window_count key now bs ≡ 0
first_none now key place bs d last held at room is out =
    let old : Bucket = get_or bs place d in
    let found : begins key (drop place bs) ≡ true = room_found key bs place held.order at room in
    let lt : place < length bs = room_within key bs place held.order at room in
    let bucket : IsBucket now old = All-get_or (IsBucket now) bs place d lt held.each in
    let none : recent_of now old.moments.items ≡ [] = no_length (recent_of now old.moments.items) (sym (ends_tell now old.moments.items bucket.order) ∙ ap (ends_recent now) (sym is) ∙ out) in
    window_there key now bs place d held.order at lt found ∙ ap (λ (ms : List ℕ). length ms) none
