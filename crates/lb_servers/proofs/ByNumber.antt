-- Servers by number: each is found at one place.
use Rattle.std.proofs.Common.{◌≡◌, ℕ, zero, suc, ◌+◌, ◌<◌, ◌≤◌, ◌⊎◌, ◌==◌, Bool, true, false, not, cond, nat_lt, List, [], ◌∷◌, length, get_or, set, Option, Some, None, inl, inr, refl, sym, ap, ◌∙◌, arith}
use Rattle.std.specs.Prelude.{is_some, slice_get}
use Rattle.std.specs.List.{AllByRecursion, filter, list_any, position, position_or_len, remove}
use Rattle.std.specs.List.Sorted.{IsNonDecreasingBy, IsPartitionedBy, IsPartitionPoint}
use Rattle.std.proofs.lemmas.Bool.{cases_Bool, cases_lt, eqb-true, or_parts}
use Rattle.std.proofs.lemmas.Bool.Decides.{nat_tests}
use Rattle.std.proofs.lemmas.List.Sorted.{IsPartitionedBy-ltb}
use Rattle.std.proofs.lemmas.List.{set-get_or}
use Rattle.std.proofs.lemmas.List.Quantifiers.{position-Some}
use Rattle.std.proofs.lemmas.Option.{get_or_from_slice_get, slice_get_within}
use Rattle.lb_wire.specs.declared.ids.ServerId.{ServerId}
use Rattle.lb_servers.specs.declared.server.Loaded.{Loaded}
use Rattle.lb_servers.specs.Server.{ByNumber, IsPlaceOf, change_server, is_server, marked, place_if}

-- what holds of each holds of the one at a place
pub each_at : {X : Type 0} (P : X → Type 0) (xs : List X) (i : ℕ) (d : X) → i < length xs → AllByRecursion P xs → P (get_or xs i d)
each_at P [] i d lt all = absurd (omega (arith, lt))
each_at P (x ∷ xs) zero d lt all = all.0
each_at P (x ∷ xs) (suc i) d lt all = each_at P xs i d (omega (arith, lt)) all.1

-- numbers rise
rises : (ls : List Loaded) → ByNumber ls → IsNonDecreasingBy (λ l. l.server.id.0) ls
rises [] by i j d le lt = absurd (omega (arith, lt))
rises (l ∷ ls) by zero zero d le lt = omega arith
rises (l ∷ ls) by zero (suc j) d le lt = omega (arith, each_at (λ o. l.server.id.0 < o.server.id.0) ls j d (omega (arith, lt)) by.0)
rises (l ∷ ls) by (suc i) zero d le lt = absurd (omega (arith, le))
rises (l ∷ ls) by (suc i) (suc j) d le lt = rises ls by.1 i j d (omega (arith, le)) (omega (arith, lt))

pub parted : (id : ServerId) (ls : List Loaded) → ByNumber ls → IsPartitionedBy (λ l. nat_lt l.server.id.0 id.0) ls
parted id ls by = IsPartitionedBy-ltb (λ l. l.server.id.0) ls id.0 (rises ls by)

-- the first place that passes a test
first_at : (p : Loaded → Bool) (ls : List Loaded) (at : ℕ) (d : Loaded) → at < length ls → p (get_or ls at d) ≡ true → ((k : ℕ) → k < at → p (get_or ls k d) ≡ false) → position_or_len p ls ≡ at
first_at p [] at d lt here before = absurd (omega (arith, lt))
first_at p (l ∷ ls) zero d lt here before = rw here refl
first_at p (l ∷ ls) (suc at) d lt here before = rw (before 0 (omega arith), first_at p ls at d (omega (arith, lt)) here (λ k less. before (suc k) (omega (arith, less)))) (omega arith)

none_at : (p : Loaded → Bool) (ls : List Loaded) → ((k : ℕ) (d : Loaded) → k < length ls → p (get_or ls k d) ≡ false) → position_or_len p ls ≡ length ls
none_at p [] fails = refl
none_at p (l ∷ ls) fails = rw (fails 0 l (omega arith), none_at p ls (λ k d lt. fails (suc k) d (omega (arith, lt)))) (omega arith)

is_below : (a b : ℕ) → a < b → nat_lt a b ≡ true
is_below a b lt = grind (arith, nat_tests, lt)

not_below : (a b : ℕ) → b ≤ a → nat_lt a b ≡ false
not_below a b le = grind (arith, nat_tests, le)

position_some : (p : Loaded → Bool) (ls : List Loaded) (at : ℕ) → position_or_len p ls ≡ at → at < length ls → position p ls ≡ Some at
position_some p ls at is lt = rw (is, is_below at (length ls) lt) refl

position_none : (p : Loaded → Bool) (ls : List Loaded) → position_or_len p ls ≡ length ls → position p ls ≡ None
position_none p ls is = rw (is, not_below (length ls) (length ls) (omega arith)) refl

less_is_other : (a b : ℕ) → nat_lt a b ≡ true → (a == b) ≡ false
less_is_other a b lt = grind (arith, nat_tests, lt)

more_is_other : (a b c : ℕ) → nat_lt a b ≡ false → (a == b) ≡ false → a < c → (c == b) ≡ false
more_is_other a b c le other lt = grind (arith, nat_tests, le, other, lt)

past : {X : Type 0} (xs : List X) (i : ℕ) → slice_get xs i ≡ None → length xs ≤ i
past [] i is = omega arith
past (x ∷ xs) zero is = absurd (cc is)
past (x ∷ xs) (suc i) is = omega (arith, past xs i is)

higher : (ls : List Loaded) (i j : ℕ) (d : Loaded) → ByNumber ls → i < j → j < length ls → (get_or ls i d).server.id.0 < (get_or ls j d).server.id.0
higher [] i j d by less lt = absurd (omega (arith, lt))
higher (l ∷ ls) zero zero d by less lt = absurd (omega (arith, less))
higher (l ∷ ls) zero (suc j) d by less lt = each_at (λ o. l.server.id.0 < o.server.id.0) ls j d (omega (arith, lt)) by.0
higher (l ∷ ls) (suc i) zero d by less lt = absurd (omega (arith, less))
higher (l ∷ ls) (suc i) (suc j) d by less lt = higher ls i j d by.1 (omega (arith, less)) (omega (arith, lt))

same_or_more : (i j : ℕ) → j ≤ i → (j ≡ i) ⊎ (j < i)
same_or_more i j le = grind arith

-- what a search by halving finds
pub place_is : (id : ServerId) (ls : List Loaded) (at : ℕ) (o : Option Loaded) → ByNumber ls → IsPartitionPoint (λ l. nat_lt l.server.id.0 id.0 ≡ true) (λ l. nat_lt l.server.id.0 id.0 ≡ false) ls at → slice_get ls at ≡ o → place_if id at o ≡ position (is_server id) ls
place_is id ls at None by point is = sym (position_none (is_server id) ls (none_at (is_server id) ls (λ k d lt. less_is_other _ _ (point.0 k d (omega arith) (omega (arith, past ls at is, lt))))))
place_is id ls at (Some l) by point is =
    let within : at < length ls = slice_get_within ls at l is in
    let here : get_or ls at l ≡ l = get_or_from_slice_get ls at l l is in
    elim (cases_Bool (is_server id l)) [
      | inl same ↦ rw same (sym (position_some (is_server id) ls at (first_at (is_server id) ls at l within (ap (is_server id) here ∙ same) (λ k less. less_is_other _ _ (point.0 k l (omega arith) less))) within))
      | inr other ↦ rw other (sym (position_none (is_server id) ls (none_at (is_server id) ls (λ k d lt. elim (cases_lt k at) [
        | inl low ↦ less_is_other _ _ (point.0 k d (omega arith) low)
        | inr high ↦
            let it : get_or ls at d ≡ l = get_or_from_slice_get ls at l d is in
            elim (same_or_more k at high) [
              | inl there ↦ ap (λ (i : ℕ). is_server id (get_or ls i d)) (sym there) ∙ ap (is_server id) it ∙ other
              | inr behind ↦ more_is_other (get_or ls at d).server.id.0 id.0 (get_or ls k d).server.id.0 (point.1 at d (omega arith) within) (ap (is_server id) it ∙ other) (higher ls at k d by behind lt)
            ]
      ]))))
    ]

one_less : (a b : ℕ) → nat_lt (1 + a) (suc b) ≡ nat_lt a b
one_less a b = elim (cases_lt a b) [
  | inl lt ↦ is_below (1 + a) (suc b) (omega (arith, lt)) ∙ sym (is_below a b lt)
  | inr ge ↦ not_below (1 + a) (suc b) (omega (arith, ge)) ∙ sym (not_below a b ge)
]

within_any : (p : Loaded → Bool) (ls : List Loaded) → nat_lt (position_or_len p ls) (length ls) ≡ list_any p ls
within_any p [] = refl
within_any p (l ∷ ls) = elim (cases_Bool (p l)) [
  | inl passes ↦ rw passes (is_below 0 (length (l ∷ ls)) (omega arith))
  | inr fails ↦ rw fails (one_less (position_or_len p ls) (length ls) ∙ within_any p ls)
]

is_some_if : (b : Bool) (at : ℕ) → is_some (cond b (Some at) None) ≡ b
is_some_if true at = refl
is_some_if false at = refl

-- there is a place where one passes
pub some_place : (p : Loaded → Bool) (ls : List Loaded) → is_some (position p ls) ≡ list_any p ls
some_place p ls = is_some_if (nat_lt (position_or_len p ls) (length ls)) (position_or_len p ls) ∙ within_any p ls

-- where none has the number, all stay
pub unchanged : (id : ServerId) (f : Loaded → Loaded) (ls : List Loaded) → list_any (is_server id) ls ≡ false → change_server id f ls ≡ ls
unchanged id f [] none = refl
unchanged id f (l ∷ ls) none =
    let parts = or_parts (is_server id l) (list_any (is_server id) ls) none in
    rw (parts.0, unchanged id f ls parts.1) refl

all_kept : (id : ServerId) (ls : List Loaded) → list_any (is_server id) ls ≡ false → filter (λ l. not (is_server id l)) ls ≡ ls
all_kept id [] none = refl
all_kept id (l ∷ ls) none =
    let parts = or_parts (is_server id l) (list_any (is_server id) ls) none in
    rw (parts.0, all_kept id ls parts.1) refl

over : (a b c : ℕ) → a ≤ b → b < c → (c == a) ≡ false
over a b c le lt = grind (arith, nat_tests, le, lt)

under : (a b c : ℕ) → a < b → (b == c) ≡ true → (a == c) ≡ false
under a b c lt is = grind (arith, nat_tests, lt, is)

none_above : (n : ℕ) (id : ServerId) (ls : List Loaded) → AllByRecursion (λ o. n < o.server.id.0) ls → id.0 ≤ n → list_any (is_server id) ls ≡ false
none_above n id [] all le = refl
none_above n id (l ∷ ls) all le = rw (over id.0 n l.server.id.0 le all.0) (none_above n id ls all.1 le)

others : (id : ServerId) (l : Loaded) (ls : List Loaded) → ByNumber (l ∷ ls) → is_server id l ≡ true → list_any (is_server id) ls ≡ false
others id l ls by here = none_above l.server.id.0 id ls by.0 (omega (arith, eqb-true _ _ here))

changed_at : (id : ServerId) (f : Loaded → Loaded) (ls : List Loaded) (at : ℕ) (d : Loaded) → ByNumber ls → at < length ls → is_server id (get_or ls at d) ≡ true → set ls at (f (get_or ls at d)) ≡ change_server id f ls
changed_at id f [] at d by lt here = absurd (omega (arith, lt))
changed_at id f (l ∷ ls) zero d by lt here = rw (here, unchanged id f ls (others id l ls by here)) refl
changed_at id f (l ∷ ls) (suc at) d by lt here =
    let less : l.server.id.0 < (get_or ls at d).server.id.0 = each_at (λ o. l.server.id.0 < o.server.id.0) ls at d (omega (arith, lt)) by.0 in
    rw (under _ _ id.0 less here, changed_at id f ls at d by.1 (omega (arith, lt)) here) refl

removed_at : (id : ServerId) (ls : List Loaded) (at : ℕ) (d : Loaded) → ByNumber ls → at < length ls → is_server id (get_or ls at d) ≡ true → remove ls at ≡ filter (λ l. not (is_server id l)) ls
removed_at id [] at d by lt here = absurd (omega (arith, lt))
removed_at id (l ∷ ls) zero d by lt here = rw (here, all_kept id ls (others id l ls by here)) refl
removed_at id (l ∷ ls) (suc at) d by lt here =
    let less : l.server.id.0 < (get_or ls at d).server.id.0 = each_at (λ o. l.server.id.0 < o.server.id.0) ls at d (omega (arith, lt)) by.0 in
    rw (under _ _ id.0 less here) (ap (λ (rest : List Loaded). l ∷ rest) (removed_at id ls at d by.1 (omega (arith, lt)) here))

-- the server at its place changed, or taken out
pub place_changed : (id : ServerId) (f : Loaded → Loaded) (ls : List Loaded) (at : ℕ) (d : Loaded) → IsPlaceOf id ls at → set ls at (f (get_or ls at d)) ≡ change_server id f ls
place_changed id f ls at d is =
    let there = position-Some (is_server id) ls at d is.1 in
    changed_at id f ls at d is.0 there.0 there.1

has_one : (ls : List Loaded) (at : ℕ) → at < length ls → Loaded
has_one [] at lt = absurd (omega (arith, lt))
has_one (l ∷ ls) at lt = l

pub place_removed : (id : ServerId) (ls : List Loaded) (at : ℕ) → at < length ls → IsPlaceOf id ls at → remove ls at ≡ filter (λ l. not (is_server id l)) ls
place_removed id ls at lt is =
    let there = position-Some (is_server id) ls at (has_one ls at lt) is.1 in
    removed_at id ls at (has_one ls at lt) is.0 lt there.1

-- a mark that a server has
pub same_mark : (id : ServerId) (up : Bool) (ls : List Loaded) (at : ℕ) (d : Loaded) → IsPlaceOf id ls at → (get_or ls at d).server.marked_up ≡ up → change_server id (marked up) ls ≡ ls
same_mark id up ls at d is same = sym (place_changed id (marked up) ls at d is) ∙ ap (λ (b : Bool). set ls at (marked b (get_or ls at d))) (sym same) ∙ set-get_or ls at d
