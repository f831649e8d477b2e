-- What a query asks of a cache, and where it waits: two of which the tests say that they are the same are equal.
use Rattle.std.proofs.Common.{inl, inr, ◌≡◌, ℕ, ◌≤◌, ◌+◌, ◌*◌, Bool, true, false, ◌==◌, ◌&&◌, List, bytes_eq, refl, ◌∙◌, ap, arith}
use Rattle.std.specs.Cmp.Lexicographic.{bytes_decides}
use Rattle.std.proofs.lemmas.Bool.{both_ways, cases_Bool, and_parts, and_from, eqb-true, eq-eqb, ltb-true, lt-ltb}
use Rattle.lb_wire.specs.declared.ids.CacheId.{CacheId}
use Rattle.lb_wire.specs.declared.key.Key.{Key}
use Rattle.lb_wire.specs.declared.transport.Kind.{Kind}
use Rattle.lb_wire.specs.declared.transport.Kind.TheVariants.{Datagram, Stream}
use Rattle.lb_table.specs.declared.place.Place.{Place}
use Rattle.lb_table.specs.Place.{same_kind, same_lane, same_place}
use Rattle.lb_cache.specs.Reply.{kind_number, lives, same_key}
use Rattle.lb_cache.specs.declared.cached.KeptReply.{KeptReply}
use Rattle.lb_cache.specs.declared.reply.CachedReply.{CachedReply}

-- what a reply is kept for
abbrev pub ask_for : KeptReply → CacheId × Key
ask_for k = (k.cache, k.reply.key)

-- whether two ask one cache for one key
abbrev pub same_ask : CacheId × Key → CacheId × Key → Bool
same_ask a b = a.0.0 == b.0.0 && same_key a.1 b.1

false_true : {P : Type 0} → false ≡ true → P
false_true is = absurd (grind (arith, is))

numbered_kinds : (a b : Kind) → (kind_number a == kind_number b) ≡ true → a ≡ b
numbered_kinds Datagram Datagram is = refl
numbered_kinds Stream Stream is = refl
numbered_kinds Datagram Stream is = false_true is
numbered_kinds Stream Datagram is = false_true is

same_kinds : (a b : Kind) → same_kind a b ≡ true → a ≡ b
same_kinds Datagram Datagram is = refl
same_kinds Stream Stream is = refl
same_kinds Datagram Stream is = false_true is
same_kinds Stream Datagram is = false_true is

kind_itself : (a : Kind) → same_kind a a ≡ true
kind_itself Datagram = refl
kind_itself Stream = refl

abbrev ask_from : ℕ → Kind → List ℕ → CacheId × Key
ask_from cache kind octets = (record { 0 = cache }, record { kind = kind; octets = octets })

-- asks that are the same are equal
pub same_asks : (a b : CacheId × Key) → same_ask a b ≡ true → a ≡ b
same_asks a b is =
    let parts = and_parts (a.0.0 == b.0.0) (same_key a.1 b.1) is in
    let key = and_parts (kind_number a.1.kind == kind_number b.1.kind) (bytes_eq a.1.octets b.1.octets) parts.1 in
    ap (λ (n : ℕ). ask_from n a.1.kind a.1.octets) (eqb-true a.0.0 b.0.0 parts.0)
    ∙ ap (λ (k : Kind). ask_from b.0.0 k a.1.octets) (numbered_kinds a.1.kind b.1.kind key.0)
    ∙ ap (ask_from b.0.0 b.1.kind) ((bytes_decides a.1.octets b.1.octets).0 key.1)

pub ask_itself : (a : CacheId × Key) → same_ask a a ≡ true
ask_itself a = and_from (a.0.0 == a.0.0) (same_key a.1 a.1) (eq-eqb a.0.0 a.0.0 refl)
    (and_from (kind_number a.1.kind == kind_number a.1.kind) (bytes_eq a.1.octets a.1.octets) (eq-eqb (kind_number a.1.kind) (kind_number a.1.kind) refl) ((bytes_decides a.1.octets a.1.octets).1 refl))

-- what lives at a moment lived before
pub lived : (m now : ℕ) (reply : CachedReply) → m ≤ now → lives now reply ≡ true → lives m reply ≡ true
lived m now reply before is =
    let lt = ltb-true now (reply.moment + 1000 * reply.life) is in
    lt-ltb m (reply.moment + 1000 * reply.life) (omega (arith, before, lt))

pub place_itself : (a : Place) → same_place a a ≡ true
place_itself a = and_from (a.server.0 == a.server.0) _ (eq-eqb a.server.0 a.server.0 refl)
    (and_from (same_lane a.lane a.lane) (a.id == a.id)
    (and_from (same_kind a.lane.kind a.lane.kind) _ (kind_itself a.lane.kind) (eq-eqb a.lane.number a.lane.number refl))
    (eq-eqb a.id a.id refl))

abbrev place_from : ℕ → Kind → ℕ → ℕ → Place
place_from server kind number id = record { server = record { 0 = server }; lane = record { kind = kind; number = number }; id = id }

-- places that are the same are equal
pub same_places : (a b : Place) → same_place a b ≡ true → a ≡ b
same_places a b is =
    let server = and_parts (a.server.0 == b.server.0) (same_lane a.lane b.lane && a.id == b.id) is in
    let id = and_parts (same_lane a.lane b.lane) (a.id == b.id) server.1 in
    let lane = and_parts (same_kind a.lane.kind b.lane.kind) (a.lane.number == b.lane.number) id.0 in
    ap (λ (n : ℕ). place_from n a.lane.kind a.lane.number a.id) (eqb-true a.server.0 b.server.0 server.0)
    ∙ ap (λ (k : Kind). place_from b.server.0 k a.lane.number a.id) (same_kinds a.lane.kind b.lane.kind lane.0)
    ∙ ap (λ (n : ℕ). place_from b.server.0 b.lane.kind n a.id) (eqb-true a.lane.number b.lane.number lane.1)
    ∙ ap (place_from b.server.0 b.lane.kind b.lane.number) (eqb-true a.id b.id id.1)

-- where one is not the other, the other is not the one
pub apart : (a b : Place) → same_place b a ≡ false → same_place a b ≡ false
apart a b none = elim (cases_Bool (same_place a b)) [
  | inl same ↦ absurd (both_ways (same_place b a) none (ap (λ (z : Place). same_place b z) (same_places a b same) ∙ place_itself b))
  | inr other ↦ other
]
