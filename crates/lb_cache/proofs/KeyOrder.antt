-- The order of keys.
use Rattle.std.proofs.Common.{◌≡◌, Bool, true, false, ◌==◌, ◌&&◌, bytes_eq, refl, ap, ◌∙◌}
use Rattle.std.specs.Cmp.{IsTotalOrder, tied_then, unsigned_ties}
use Rattle.std.specs.Cmp.Lexicographic.{nat_list_cmp_total, slice_cmp, texts_ties}
use Rattle.std.specs.Ordering.{is_lt, is_eq, nat_cmp}
use Rattle.std.specs.declared.cmp.Ordering.{Ordering}
use Rattle.std.specs.declared.cmp.Ordering.TheVariants.{Less, Equal, Greater}
use Rattle.std.proofs.lemmas.Bool.Decides.{Decides-and, Decides-eqb}
use Rattle.std.proofs.lemmas.Cmp.{nat_cmp_total, on_total, then_total}
use Rattle.std.proofs.lemmas.Slice.Eq.{bytes_eq-Decides}
use Rattle.lb_wire.specs.declared.key.Key.{Key}
use Rattle.lb_wire.specs.declared.transport.Kind.{Kind}
use Rattle.lb_wire.specs.declared.transport.Kind.TheVariants.{Datagram, Stream}
use Rattle.lb_cache.specs.Reply.{before_key, cmp_key, kind_number, same_key}

pub key_total : IsTotalOrder cmp_key
key_total = then_total (on_total (λ (k : Key). kind_number k.kind) nat_cmp_total) (on_total (λ (k : Key). k.octets) nat_list_cmp_total)

-- keys that the order does not tell apart are the same
pub key_ties : (a b : Key) → same_key a b ≡ is_eq (cmp_key a b)
key_ties a b =
    ap (λ (x : Bool). x && bytes_eq a.octets b.octets) (unsigned_ties (kind_number a.kind) (kind_number b.kind))
    ∙ ap (λ (x : Bool). is_eq (nat_cmp (kind_number a.kind) (kind_number b.kind)) && x) (texts_ties a.octets b.octets)
    ∙ tied_then (nat_cmp (kind_number a.kind) (kind_number b.kind)) (slice_cmp nat_cmp a.octets b.octets)

one_kind : (a b : Kind) → kind_number a ≡ kind_number b → a ≡ b
one_kind Datagram Datagram is = refl
one_kind Datagram Stream is = absurd (cc)
one_kind Stream Datagram is = absurd (cc)
one_kind Stream Stream is = refl

-- keys that are the same are equal
pub same_is : (a b : Key) → same_key a b ≡ true → a ≡ b
same_is a b same =
    let parts = (Decides-and (kind_number a.kind == kind_number b.kind) (bytes_eq a.octets b.octets) (Decides-eqb (kind_number a.kind) (kind_number b.kind)) (bytes_eq-Decides a.octets b.octets)).0 same in
    ap (λ (k : Kind). record a { kind = k }) (one_kind a.kind b.kind parts.0) ∙ ap (λ (o : _). record b { octets = o }) parts.1

pub is_same : (a b : Key) → a ≡ b → same_key a b ≡ true
is_same a b is =
    let kinds : kind_number a.kind ≡ kind_number b.kind = ap (λ (k : Key). kind_number k.kind) is in
    (Decides-and (kind_number a.kind == kind_number b.kind) (bytes_eq a.octets b.octets) (Decides-eqb (kind_number a.kind) (kind_number b.kind)) (bytes_eq-Decides a.octets b.octets)).1 (kinds, ap (λ (k : Key). k.octets) is)

less_is : (o : Ordering) → is_lt o ≡ true → o ≡ Less
less_is Less is = refl
less_is Equal is = absurd (cc)
less_is Greater is = absurd (cc)

less_not_equal : (o : Ordering) → is_lt o ≡ true → is_eq o ≡ false
less_not_equal Less is = refl
less_not_equal Equal is = absurd (cc)
less_not_equal Greater is = absurd (cc)

-- a key before another one is not the same
pub before_differs : (a b : Key) → before_key a b ≡ true → same_key a b ≡ false
before_differs a b before = key_ties a b ∙ less_not_equal (cmp_key a b) before

pub before_trans : (a b c : Key) → before_key a b ≡ true → before_key b c ≡ true → before_key a c ≡ true
before_trans a b c p q = ap is_lt (key_total.trans a b c (less_is (cmp_key a b) p) (less_is (cmp_key b c) q))
