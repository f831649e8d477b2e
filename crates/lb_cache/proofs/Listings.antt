-- Filed pairs as keys with their slots.
use Rattle.std.proofs.Common.{◌≡◌, ◌⊎◌, ◌<◌, ℕ, true, false, T, List, [], ◌∷◌, ◌++◌, map, None, Some, Contains, ◌↔◌, inl, inr, refl, sym, ap, subst, ◌∙◌, arith}
use Rattle.std.specs.List.{AllByRecursion}
use Rattle.std.specs.FinMap.Entries.{below_all, find, is_sorted, put}
use Rattle.std.specs.Ordering.{is_lt, nat_cmp, ordering_then}
use Rattle.std.specs.Cmp.Lexicographic.{slice_cmp}
use Rattle.std.specs.declared.cmp.Ordering.{Ordering}
use Rattle.std.specs.declared.cmp.Ordering.TheVariants.{Less, Equal, Greater}
use Rattle.std.proofs.lemmas.Cmp.{nat_cmp_total, ranked, tied_itself}
use Rattle.std.proofs.lemmas.List.Elements.{Contains-append_cases, Contains-append_left, Contains-append_right}
use Rattle.std.proofs.lemmas.Map.Lookups.{exact_bytes}
use Rattle.lb_wire.specs.declared.key.Key.{Key}
use Rattle.lb_wire.specs.declared.transport.Kind.{Kind}
use Rattle.lb_wire.specs.declared.transport.Kind.TheVariants.{Datagram, Stream}
use Rattle.lb_index_ranks.specs.declared.filed.Filed.{Filed}
use Rattle.lb_index_ranks.specs.Filed.{filed_at, filed_cmp, is_before, AreInOrder, HasBesides, IsFrom}
use Rattle.lb_cache.proofs.Members.{cons_cases, cons_here, cons_there, none_there, order_head, order_tail}
use Rattle.lb_cache.specs.Keys.{slots_of}
use Rattle.lb_cache.specs.Listing.{listed, listed_in}
use Rattle.lb_cache.specs.Reply.{cmp_key}
use Rattle.lb_cache.proofs.Entries.{both, first, found, put_is, second, some_is, Besides}

-- the key of a transport
abbrev key_at : Kind → List ℕ → Key
key_at kind octets = record { kind = kind; octets = octets }

-- the pairs of a transport
abbrev side : Kind → List Filed → List Filed → List Filed
side Datagram d s = d
side Stream d s = s

same_kind : (a b : Kind) → (a ≡ b) ⊎ (a ≡ b → ⊥)
same_kind Datagram Datagram = inl refl
same_kind Datagram Stream = inr (λ is. absurd (cc is))
same_kind Stream Datagram = inr (λ is. absurd (cc is))
same_kind Stream Stream = inl refl

-- what is in the list of a transport
from_map : (kind : Kind) (items : List Filed) (e : Key × ℕ) → Contains (map (listed kind) items) e → (e.0.kind ≡ kind) × Contains items (filed_at e.0.octets e.1)
from_map kind [] e has = absurd (none_there e has)
from_map kind (f ∷ items) e has =
    elim (cons_cases (listed kind f) (map (listed kind) items) e has) [
      | inl same ↦ (
        sym (ap (λ (x : Key × ℕ). x.0.kind) same),
        subst (λ (x : Key × ℕ). Contains (f ∷ items) (filed_at x.0.octets x.1)) same (cons_here f items),
      )
      | inr later ↦ (let there = from_map kind items e later in (there.0, cons_there f items (filed_at e.0.octets e.1) there.1))
    ]

to_map : (kind : Kind) (items : List Filed) (f : Filed) → Contains items f → Contains (map (listed kind) items) (listed kind f)
to_map kind [] f has = absurd (none_there f has)
to_map kind (g ∷ items) f has =
    elim (cons_cases g items f has) [
      | inl same ↦ subst (λ (x : Filed). Contains (map (listed kind) (g ∷ items)) (listed kind x)) same (cons_here (listed kind g) (map (listed kind) items))
      | inr later ↦ cons_there (listed kind g) (map (listed kind) items) (listed kind f) (to_map kind items f later)
    ]

-- an entry is there where its pair is filed at its transport
from_entries : (d s : List Filed) (kind : Kind) (octets : List ℕ) (v : ℕ) → Contains (listed_in d s) (key_at kind octets, v) → Contains (side kind d s) (filed_at octets v)
from_entries d s Datagram octets v has =
    elim (Contains-append_cases (map (listed Datagram) d) (map (listed Stream) s) (key_at Datagram octets, v) has) [
      | inl here ↦ (from_map Datagram d (key_at Datagram octets, v) here).1
      | inr there ↦ (let kinds : Datagram ≡ Stream = (from_map Stream s (key_at Datagram octets, v) there).0 in absurd (cc kinds))
    ]
from_entries d s Stream octets v has =
    elim (Contains-append_cases (map (listed Datagram) d) (map (listed Stream) s) (key_at Stream octets, v) has) [
      | inl here ↦ (let kinds : Stream ≡ Datagram = (from_map Datagram d (key_at Stream octets, v) here).0 in absurd (cc kinds))
      | inr there ↦ (from_map Stream s (key_at Stream octets, v) there).1
    ]

to_entries : (d s : List Filed) (kind : Kind) (octets : List ℕ) (v : ℕ) → Contains (side kind d s) (filed_at octets v) → Contains (listed_in d s) (key_at kind octets, v)
to_entries d s Datagram octets v has = Contains-append_left (map (listed Datagram) d) (map (listed Stream) s) (key_at Datagram octets, v) (to_map Datagram d (filed_at octets v) has)
to_entries d s Stream octets v has = Contains-append_right (map (listed Datagram) d) (map (listed Stream) s) (key_at Stream octets, v) (to_map Stream s (filed_at octets v) has)

-- lists in order, one after the other
below_append : (k : Key) (es fs : List (Key × ℕ)) → T (below_all cmp_key k es) → T (below_all cmp_key k fs) → T (below_all cmp_key k (es ++ fs))
below_append k [] fs a b = b
below_append k (e ∷ es) fs a b =
    both (is_lt (cmp_key k e.0)) (below_all cmp_key k (es ++ fs)) (first (is_lt (cmp_key k e.0)) (below_all cmp_key k es) a)
    (below_append k es fs (second (is_lt (cmp_key k e.0)) (below_all cmp_key k es) a) b)

below_front : (k : Key) (es fs : List (Key × ℕ)) → T (below_all cmp_key k (es ++ fs)) → T (below_all cmp_key k es)
below_front k [] fs a = tt
below_front k (e ∷ es) fs a =
    both (is_lt (cmp_key k e.0)) (below_all cmp_key k es) (first (is_lt (cmp_key k e.0)) (below_all cmp_key k (es ++ fs)) a)
    (below_front k es fs (second (is_lt (cmp_key k e.0)) (below_all cmp_key k (es ++ fs)) a))

-- datagrams stand before streams
below_streams : (octets : List ℕ) (s : List Filed) → T (below_all cmp_key (key_at Datagram octets) (map (listed Stream) s))
below_streams octets [] = tt
below_streams octets (f ∷ s) = below_streams octets s

sorted_both : (d s : List Filed) → T (is_sorted cmp_key (map (listed Datagram) d)) → T (is_sorted cmp_key (map (listed Stream) s)) → T (is_sorted cmp_key (listed_in d s))
sorted_both [] s a b = b
sorted_both (f ∷ d) s a b =
    let k : Key = key_at Datagram f.key in
    let ds : List (Key × ℕ) = map (listed Datagram) d in
    both (below_all cmp_key k (listed_in d s)) (is_sorted cmp_key (listed_in d s))
    (below_append k ds (map (listed Stream) s) (first (below_all cmp_key k ds) (is_sorted cmp_key ds) a) (below_streams f.key s))
    (sorted_both d s (second (below_all cmp_key k ds) (is_sorted cmp_key ds) a) b)

sorted_datagrams : (d s : List Filed) → T (is_sorted cmp_key (listed_in d s)) → T (is_sorted cmp_key (map (listed Datagram) d))
sorted_datagrams [] s a = tt
sorted_datagrams (f ∷ d) s a =
    let k : Key = key_at Datagram f.key in
    let ds : List (Key × ℕ) = map (listed Datagram) d in
    both (below_all cmp_key k ds) (is_sorted cmp_key ds)
    (below_front k ds (map (listed Stream) s) (first (below_all cmp_key k (listed_in d s)) (is_sorted cmp_key (listed_in d s)) a))
    (sorted_datagrams d s (second (below_all cmp_key k (listed_in d s)) (is_sorted cmp_key (listed_in d s)) a))

sorted_streams : (d s : List Filed) → T (is_sorted cmp_key (listed_in d s)) → T (is_sorted cmp_key (map (listed Stream) s))
sorted_streams [] s a = a
sorted_streams (f ∷ d) s a = sorted_streams d s (second (below_all cmp_key (key_at Datagram f.key) (listed_in d s)) (is_sorted cmp_key (listed_in d s)) a)

-- the entries are in order where those of each transport are
sorted_sides : (d s : List Filed) → ((kind : Kind) → T (is_sorted cmp_key (map (listed kind) (side kind d s)))) → T (is_sorted cmp_key (listed_in d s))
sorted_sides d s each = sorted_both d s (each Datagram) (each Stream)

sorted_side : (d s : List Filed) → T (is_sorted cmp_key (listed_in d s)) → (kind : Kind) → T (is_sorted cmp_key (map (listed kind) (side kind d s)))
sorted_side d s sorted Datagram = sorted_datagrams d s sorted
sorted_side d s sorted Stream = sorted_streams d s sorted

-- no key has two ranks
abbrev HasOnes : List Filed → Type 0
HasOnes items = (f g : Filed) → Contains items f → Contains items g → f.key ≡ g.key → f.rank ≡ g.rank

less_key : (a b : List ℕ) (r s : ℕ) (o : Ordering) → o ≡ slice_cmp nat_cmp a b → ordering_then o (nat_cmp r s) ≡ Less → (a ≡ b → r ≡ s) → o ≡ Less
less_key a b r s Less e before one = refl
less_key a b r s Equal e before one =
    let same : r ≡ s = one (exact_bytes a b (sym e)) in
    let own : nat_cmp r s ≡ Equal = subst (λ (n : ℕ). nat_cmp r n ≡ Equal) same (tied_itself nat_cmp_total r) in
    absurd (cc (own, before))
less_key a b r s Greater e before one = absurd (cc before)

key_order : (kind : Kind) (a b : List ℕ) → cmp_key (key_at kind a) (key_at kind b) ≡ slice_cmp nat_cmp a b
key_order Datagram a b = refl
key_order Stream a b = refl

below_side : (kind : Kind) (f : Filed) (items : List Filed) → AllByRecursion (λ (g : Filed). filed_cmp f g ≡ Less) items → ((g : Filed) → Contains items g → f.key ≡ g.key → f.rank ≡ g.rank) → T (below_all cmp_key (key_at kind f.key) (map (listed kind) items))
below_side kind f [] before one = tt
below_side kind f (g ∷ items) before one =
    let less : cmp_key (key_at kind f.key) (key_at kind g.key) ≡ Less = key_order kind f.key g.key ∙ less_key f.key g.key f.rank g.rank (slice_cmp nat_cmp f.key g.key) refl before.0 (one g (cons_here g items)) in
    both (is_lt (cmp_key (key_at kind f.key) (key_at kind g.key))) (below_all cmp_key (key_at kind f.key) (map (listed kind) items)) (subst (λ (o : Ordering). T (is_lt o)) (sym less) tt)
    (below_side kind f items before.1 (λ h has. one h (cons_there g items h has)))

-- pairs in order, no key twice, are entries in order
in_order : (kind : Kind) (items : List Filed) → AreInOrder items → HasOnes items → T (is_sorted cmp_key (map (listed kind) items))
in_order kind [] order ones = tt
in_order kind (f ∷ items) order ones =
    both (below_all cmp_key (key_at kind f.key) (map (listed kind) items)) (is_sorted cmp_key (map (listed kind) items))
    (below_side kind f items (order_head f items order) (λ g has. ones f g (cons_here f items) (cons_there f items g has)))
    (in_order kind items (order_tail f items order) (λ g h a b. ones g h (cons_there f items g a) (cons_there f items h b)))

side_ones : (d s : List Filed) → T (is_sorted cmp_key (listed_in d s)) → (kind : Kind) → HasOnes (side kind d s)
side_ones d s sorted kind f g a b same =
    some_is f.rank g.rank
    (sym (found (listed_in d s) (key_at kind f.key, f.rank) sorted (to_entries d s kind f.key f.rank a))
    ∙ ap (λ (o : List ℕ). find cmp_key (key_at kind o) (listed_in d s)) same
    ∙ found (listed_in d s) (key_at kind g.key, g.rank) sorted (to_entries d s kind g.key g.rank b))

-- the pairs of each other transport are as they were
abbrev OthersStay : Kind → List Filed → List Filed → List Filed → List Filed → Type 0
OthersStay kind d s d2 s2 = (other : Kind) → (other ≡ kind → ⊥) → side other d2 s2 ≡ side other d s

-- a change of the pairs of one transport keeps the order
changed_order : (d s d2 s2 : List Filed) (kind : Kind) → T (is_sorted cmp_key (listed_in d s)) → OthersStay kind d s d2 s2 → T (is_sorted cmp_key (map (listed kind) (side kind d2 s2))) → T (is_sorted cmp_key (listed_in d2 s2))
changed_order d s d2 s2 kind sorted others changed =
    sorted_sides d2 s2
    (λ k.
    elim (same_kind k kind) [
      | inl same ↦ subst (λ (x : Kind). T (is_sorted cmp_key (map (listed x) (side x d2 s2)))) (sym same) changed
      | inr other ↦ subst (λ (items : List Filed). T (is_sorted cmp_key (map (listed k) items))) (sym (others k other)) (sorted_side d s sorted k)
    ])

no_filed : (d s : List Filed) (key : Key) → T (is_sorted cmp_key (listed_in d s)) → find cmp_key key (listed_in d s) ≡ None → (f : Filed) → Contains (side key.kind d s) f → f.key ≡ key.octets → ⊥
no_filed d s key sorted none f has same =
    let is : find cmp_key key (listed_in d s) ≡ Some f.rank = ap (λ (o : List ℕ). find cmp_key (key_at key.kind o) (listed_in d s)) (sym same) ∙ found (listed_in d s) (key_at key.kind f.key, f.rank) sorted (to_entries d s key.kind f.key f.rank has) in
    absurd (cc (is, none))

besides_ones : (old new : List Filed) (octets : List ℕ) (v : ℕ) → HasOnes old → ((f : Filed) → Contains old f → f.key ≡ octets → ⊥) → HasBesides old (filed_at octets v) new → HasOnes new
besides_ones old new octets v ones none besides f g a b same =
    elim ((besides f).0 a) [
      | inl f_is ↦ elim ((besides g).0 b) [
        | inl g_is ↦ ap (λ (x : Filed). x.rank) (f_is ∙ sym g_is)
        | inr g_was ↦ absurd (none g g_was (sym same ∙ ap (λ (x : Filed). x.key) f_is))
      ]
      | inr f_was ↦ elim ((besides g).0 b) [
        | inl g_is ↦ absurd (none f f_was (same ∙ ap (λ (x : Filed). x.key) g_is))
        | inr g_was ↦ ones f g f_was g_was same
      ]
    ]

entry_is : (kind : Kind) (octets other : List ℕ) (v w : ℕ) → filed_at octets v ≡ filed_at other w → listed kind (filed_at octets v) ≡ listed kind (filed_at other w)
entry_is kind octets other v w is = ap (λ (f : Filed). listed kind f) is

filed_is : (kind k : Kind) (octets other : List ℕ) (v w : ℕ) → listed kind (filed_at octets v) ≡ listed k (filed_at other w) → filed_at octets v ≡ filed_at other w
filed_is kind k octets other v w is = ap (λ (e : Key × ℕ). filed_at e.0.octets e.1) is

-- the same of the entries
besides_same : (d s d2 s2 : List Filed) (key : Key) (v : ℕ) → HasBesides (side key.kind d s) (filed_at key.octets v) (side key.kind d2 s2) → (octets : List ℕ) (w : ℕ) → Contains (listed_in d2 s2) (key_at key.kind octets, w) ↔ ((listed key.kind (filed_at octets w) ≡ (key, v)) ⊎ Contains (listed_in d s) (key_at key.kind octets, w))
besides_same d s d2 s2 key v besides octets w = (
  λ has.
      elim ((besides (filed_at octets w)).0 (from_entries d2 s2 key.kind octets w has)) [
        | inl same ↦ inl (entry_is key.kind octets key.octets w v same)
        | inr was ↦ inr (to_entries d s key.kind octets w was)
      ],
  λ has.
      elim has [
        | inl same ↦ to_entries d2 s2 key.kind octets w ((besides (filed_at octets w)).1 (inl (filed_is key.kind key.kind octets key.octets w v same)))
        | inr was ↦ to_entries d2 s2 key.kind octets w ((besides (filed_at octets w)).1 (inr (from_entries d s key.kind octets w was)))
      ],
)

stay : (d s d2 s2 : List Filed) (kind : Kind) (e : Key × ℕ) → OthersStay kind d s d2 s2 → (e.0.kind ≡ kind → ⊥) → Contains (listed_in d2 s2) e ↔ Contains (listed_in d s) e
stay d s d2 s2 kind e others other = (
  λ has. to_entries d s e.0.kind e.0.octets e.1 (subst (λ (items : List Filed). Contains items (filed_at e.0.octets e.1)) (others e.0.kind other) (from_entries d2 s2 e.0.kind e.0.octets e.1 has)),
  λ has. to_entries d2 s2 e.0.kind e.0.octets e.1 (subst (λ (items : List Filed). Contains items (filed_at e.0.octets e.1)) (sym (others e.0.kind other)) (from_entries d s e.0.kind e.0.octets e.1 has)),
)

besides_all : (d s d2 s2 : List Filed) (key : Key) (v : ℕ) → OthersStay key.kind d s d2 s2 → HasBesides (side key.kind d s) (filed_at key.octets v) (side key.kind d2 s2) → Besides (listed_in d s) (key, v) (listed_in d2 s2)
besides_all d s d2 s2 key v others besides e =
    elim (same_kind e.0.kind key.kind) [
      | inl same ↦
          subst (λ (k : Kind). Contains (listed_in d2 s2) (key_at k e.0.octets, e.1) ↔ ((listed k (filed_at e.0.octets e.1) ≡ (key, v)) ⊎ Contains (listed_in d s) (key_at k e.0.octets, e.1))) (sym same)
          (besides_same d s d2 s2 key v besides e.0.octets e.1)
      | inr other ↦
          let same = stay d s d2 s2 key.kind e others other in (
            λ has. inr (same.0 has),
            λ has. elim has [ inl is ↦ absurd (other (ap (λ (x : Key × ℕ). x.0.kind) is)) | inr was ↦ same.1 was ],
          )
    ]

put_entries : (d s d2 s2 : List Filed) (key : Key) (v : ℕ) → T (is_sorted cmp_key (listed_in d s)) → find cmp_key key (listed_in d s) ≡ None → OthersStay key.kind d s d2 s2 → AreInOrder (side key.kind d2 s2) → HasBesides (side key.kind d s) (filed_at key.octets v) (side key.kind d2 s2) → T (is_sorted cmp_key (listed_in d2 s2)) × (listed_in d2 s2 ≡ put cmp_key key v (listed_in d s))
put_entries d s d2 s2 key v sorted none others order besides =
    let ones : HasOnes (side key.kind d2 s2) = besides_ones (side key.kind d s) (side key.kind d2 s2) key.octets v (side_ones d s sorted key.kind) (no_filed d s key sorted none) besides in
    let now : T (is_sorted cmp_key (listed_in d2 s2)) = changed_order d s d2 s2 key.kind sorted others (in_order key.kind (side key.kind d2 s2) order ones) in
    (now, put_is key v (listed_in d s) (listed_in d2 s2) sorted now (besides_all d s d2 s2 key v others besides))

streams_stay : (d s d2 : List Filed) (kind : Kind) → kind ≡ Datagram → OthersStay kind d s d2 s
streams_stay d s d2 kind is Datagram other = absurd (other (sym is))
streams_stay d s d2 kind is Stream other = refl

datagrams_stay : (d s s2 : List Filed) (kind : Kind) → kind ≡ Stream → OthersStay kind d s d s2
datagrams_stay d s s2 kind is Datagram other = refl
datagrams_stay d s s2 kind is Stream other = absurd (other (sym is))

-- a slot filed at datagrams, and one at streams
pub put_datagram : (d s d2 : List Filed) (key : Key) (v : ℕ) → key.kind ≡ Datagram → T (is_sorted cmp_key (listed_in d s)) → find cmp_key key (listed_in d s) ≡ None → AreInOrder d2 → HasBesides d (filed_at key.octets v) d2 → T (is_sorted cmp_key (listed_in d2 s)) × (listed_in d2 s ≡ put cmp_key key v (listed_in d s))
put_datagram d s d2 key v kind sorted none order besides =
    put_entries d s d2 s key v sorted none (streams_stay d s d2 key.kind kind) (subst (λ (k : Kind). AreInOrder (side k d2 s)) (sym kind) order)
    (subst (λ (k : Kind). HasBesides (side k d s) (filed_at key.octets v) (side k d2 s)) (sym kind) besides)

pub put_stream : (d s s2 : List Filed) (key : Key) (v : ℕ) → key.kind ≡ Stream → T (is_sorted cmp_key (listed_in d s)) → find cmp_key key (listed_in d s) ≡ None → AreInOrder s2 → HasBesides s (filed_at key.octets v) s2 → T (is_sorted cmp_key (listed_in d s2)) × (listed_in d s2 ≡ put cmp_key key v (listed_in d s))
put_stream d s s2 key v kind sorted none order besides =
    put_entries d s d s2 key v sorted none (datagrams_stay d s s2 key.kind kind) (subst (λ (k : Kind). AreInOrder (side k d s2)) (sym kind) order)
    (subst (λ (k : Kind). HasBesides (side k d s) (filed_at key.octets v) (side k d s2)) (sym kind) besides)

-- nothing stands before the empty key with rank 0
not_under_0 : (r : ℕ) (o : Ordering) → o ≡ nat_cmp r 0 → is_lt o ≡ false
not_under_0 r Less e = let less : r < 0 = ranked r 0 Less e in absurd (omega (arith, less))
not_under_0 r Equal e = refl
not_under_0 r Greater e = refl

none_before_by : (octets : List ℕ) (r : ℕ) → is_before (filed_at [] 0) (filed_at octets r) ≡ false
none_before_by [] r = not_under_0 r (nat_cmp r 0) refl
none_before_by (x ∷ octets) r = refl

none_before : (f : Filed) → is_before (filed_at [] 0) f ≡ false
none_before f = none_before_by f.key f.rank

whole_by : (front rest : List Filed) → AllByRecursion (λ (f : Filed). is_before (filed_at [] 0) f ≡ true) front → rest ≡ front ++ rest
whole_by [] rest before = refl
whole_by (f ∷ front) rest before = let none : is_before (filed_at [] 0) f ≡ false = none_before f in let some : is_before (filed_at [] 0) f ≡ true = before.0 in absurd (cc (none, some))

-- so that a walk from there is of all pairs
pub whole_walk : (items rest : List Filed) → IsFrom (filed_at [] 0) items rest → rest ≡ items
whole_walk items rest from = whole_by from.front rest from.cut.before ∙ sym from.whole

slots_side : (kind : Kind) (items : List Filed) → map (λ (f : Filed). f.rank) items ≡ slots_of (map (listed kind) items)
slots_side kind [] = refl
slots_side kind (f ∷ items) = ap (λ (list : List ℕ). f.rank ∷ list) (slots_side kind items)

-- the slots of both transports are those of the entries
pub slots_are : (d s : List Filed) → map (λ (f : Filed). f.rank) d ++ map (λ (f : Filed). f.rank) s ≡ slots_of (listed_in d s)
slots_are [] s = slots_side Stream s
slots_are (f ∷ d) s = ap (λ (list : List ℕ). f.rank ∷ list) (slots_are d s)
