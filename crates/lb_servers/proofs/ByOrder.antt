-- Servers sorted by order.
use Rattle.std.proofs.Common.{◌≡◌, ℕ, ◌+◌, ◌<◌, ◌≤◌, Bool, ltb, List, [], ◌∷◌, length, map, take, drop, inl, inr, refl, ap, ◌∙◌, arith}
use Rattle.std.specs.List.{fold, insert, position, position_or_len}
use Rattle.std.specs.Option.{unwrap_or}
use Rattle.std.proofs.lemmas.Bool.{ltb-true, cases_Bool}
use Rattle.std.proofs.lemmas.List.{drop-map, length-map, map-append, take-map}
use Rattle.std.proofs.lemmas.List.Edits.{length-insert}
use Rattle.std.proofs.lemmas.List.Folds.{fold-map, fold_along}
use Rattle.lb_servers.specs.declared.server.Loaded.{Loaded}
use Rattle.lb_servers.specs.Ranks.{by_order, is_behind, put_by_order}

-- the first place that passes, or the end
abbrev pub place_or_end : {X : Type 0} → (X → Bool) → List X → ℕ
place_or_end p xs = unwrap_or (position p xs) (length xs)

place_within : {X : Type 0} (p : X → Bool) (xs : List X) → place_or_end p xs ≤ length xs
place_within p xs = elim (cases_Bool (ltb (position_or_len p xs) (length xs))) [
  | inl within ↦ let lt : position_or_len p xs < length xs = ltb-true _ _ within in rw within (omega arith)
  | inr past ↦ rw past (omega arith)
]

prefix_map : {X Y : Type 0} (f : X → Y) (p : Y → Bool) (q : X → Bool) → ((x : X) → p (f x) ≡ q x) → (xs : List X) → position_or_len p (map f xs) ≡ position_or_len q xs
prefix_map f p q same [] = refl
prefix_map f p q same (x ∷ xs) = rw (same x, prefix_map f p q same xs) refl

-- the first place in a list that is made of another
pub place_map : {X Y : Type 0} (f : X → Y) (p : Y → Bool) (q : X → Bool) → ((x : X) → p (f x) ≡ q x) → (xs : List X) → place_or_end p (map f xs) ≡ place_or_end q xs
place_map f p q same xs = rw (prefix_map f p q same xs, length-map xs f) refl

-- an element put into such a list
pub insert_map : {X Y : Type 0} (f : X → Y) (xs : List X) (i : ℕ) (x : X) → insert (map f xs) i (f x) ≡ map f (insert xs i x)
insert_map f xs i x = rw (take-map f i xs, drop-map f i xs, map-append f (take i xs) (x ∷ drop i xs)) refl

sorted_long : (sorted servers : List Loaded) → length (fold put_by_order sorted servers) ≡ length sorted + length servers
sorted_long sorted [] = omega arith
sorted_long sorted (l ∷ servers) =
    let more : length (put_by_order sorted l) ≡ length sorted + 1 = length-insert sorted (place_or_end (is_behind l.server.order) sorted) l (place_within (is_behind l.server.order) sorted) in
    sorted_long (put_by_order sorted l) servers ∙ omega arith

-- none is lost
pub by_order_long : (servers : List Loaded) → length (by_order servers) ≡ length servers
by_order_long servers = sorted_long [] servers ∙ omega arith

put_map : (f : Loaded → Loaded) → ((l : Loaded) → (f l).server.order ≡ l.server.order) → (sorted : List Loaded) (l : Loaded) → put_by_order (map f sorted) (f l) ≡ map f (put_by_order sorted l)
put_map f keeps sorted l =
    let same : (m : Loaded) → is_behind (f l).server.order (f m) ≡ is_behind l.server.order m = λ m. rw (keeps l, keeps m) refl in
    rw (place_map f (is_behind (f l).server.order) (is_behind l.server.order) same sorted) (insert_map f sorted (place_or_end (is_behind l.server.order) sorted) l)

-- a change that leaves the orders leaves the places
pub by_order_map : (f : Loaded → Loaded) → ((l : Loaded) → (f l).server.order ≡ l.server.order) → (servers : List Loaded) → by_order (map f servers) ≡ map f (by_order servers)
by_order_map f keeps servers =
    fold-map put_by_order f [] servers
    ∙ fold_along (λ b l. put_by_order b (f l)) put_by_order (λ b c. b ≡ map f c) (λ b c l is. ap (λ (ls : List Loaded). put_by_order ls (f l)) is ∙ put_map f keeps c l) [] [] servers refl
