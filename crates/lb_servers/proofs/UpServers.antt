-- The up servers of pools, by their places.
use Rattle.std.proofs.Common.{◌≡◌, ℕ, zero, suc, ◌+◌, ◌%◌, ◌<◌, ◌≤◌, ◌⊎◌, Bool, true, false, cond, List, [], ◌∷◌, ◌++◌, length, get_or, map, set, take, Option, Some, None, option_map, inl, inr, refl, sym, ap, subst, ◌∙◌, arith}
use Rattle.std.specs.Prelude.{◌||◌, ◌==◌}
use Rattle.std.specs.List.{cons_option, filter, filter_map, list_any, reduce, slice_get}
use Rattle.std.specs.Option.{option_and_then}
use Rattle.std.proofs.lemmas.Bool.{cases_Bool, cases_lt, eqb-true}
use Rattle.std.proofs.lemmas.Bool.Decides.{nat_tests}
use Rattle.std.proofs.lemmas.List.Folds.{list_any_more}
use Rattle.std.proofs.lemmas.List.{append-nil, length-take-le, take_more}
use Rattle.std.proofs.lemmas.List.Elements.{filter-append}
use Rattle.std.proofs.lemmas.List.Sums.{fold-append}
use Rattle.std.proofs.lemmas.Option.{slice_get-map}
use Rattle.lb_wire.specs.declared.ids.PoolId.{PoolId}
use Rattle.lb_servers.specs.declared.server.Loaded.{Loaded}
use Rattle.lb_servers.specs.Pool.{same_pool}
use Rattle.lb_servers.specs.Ranks.{StandAt, by_order}
use Rattle.lb_servers.specs.Server.{is_up_in}
use Rattle.lb_servers.specs.Pick.{AreRemade, AreUps, IsRemade, best_of, is_up_at, less_loaded, server_at, servers_at, up_places, up_servers}
use Rattle.lb_servers.proofs.ByOrder.{by_order_map}
use Rattle.lb_servers.proofs.IsPark.{fewer}
use Rattle.lb_servers.proofs.Places.{gets_map, somes_map, stand_long}
use Rattle.lb_servers.proofs.Taken.{taken_more}

map_filter : {X Y : Type 0} (f : X → Y) (q : Y → Bool) (xs : List X) → map f (filter (λ x. q (f x)) xs) ≡ filter q (map f xs)
map_filter f q [] = refl
map_filter f q (x ∷ xs) = elim (cases_Bool (q (f x))) [
  | inl passes ↦ rw (passes, map_filter f q xs) refl
  | inr fails ↦ rw (fails, map_filter f q xs) refl
]

-- of the places of the servers by order those of the up servers of a pool
pub stand_up : (pool : PoolId) (servers : List Loaded) (places : List ℕ) → StandAt servers places (by_order servers) → StandAt servers (up_places pool servers places) (up_servers pool servers)
stand_up pool servers places stand = map_filter (slice_get servers) (is_up_at pool) places ∙ ap (filter (is_up_at pool)) stand ∙ sym (map_filter Some (is_up_at pool) (by_order servers))

-- one place more
pub place_up : (pool : PoolId) (servers : List Loaded) (places : List ℕ) (i d : ℕ) → i < length places → up_places pool servers (take (i + 1) places) ≡ up_places pool servers (take i places) ++ cond (is_up_at pool (slice_get servers (get_or places i d))) (get_or places i d ∷ []) []
place_up pool servers places i d lt = ap (up_places pool servers) (take_more places i d lt) ∙ filter-append (λ at. is_up_at pool (slice_get servers at)) (take i places) (get_or places i d ∷ [])

-- no more than there are places
pub few_up : (pool : PoolId) (servers : List Loaded) (places : List ℕ) (i : ℕ) → i < length places → length (up_places pool servers (take i places)) ≤ i
few_up pool servers places i lt = omega (arith, fewer (λ at. is_up_at pool (slice_get servers at)) (take i places), length-take-le i places (omega (arith, lt)))

mapped_filter : {X : Type 0} (f : X → X) (p : X → Bool) → ((x : X) → p (f x) ≡ p x) → (xs : List X) → filter p (map f xs) ≡ map f (filter p xs)
mapped_filter f p same [] = refl
mapped_filter f p same (x ∷ xs) = elim (cases_Bool (p x)) [
  | inl passes ↦ rw (same x, passes, mapped_filter f p same xs) refl
  | inr fails ↦ rw (same x, fails, mapped_filter f p same xs) refl
]

-- a change that leaves the orders and which servers are up leaves the places
pub ups_kept : (f : Loaded → Loaded) → ((l : Loaded) → (f l).server.order ≡ l.server.order) → (pool : PoolId) → ((l : Loaded) → is_up_in pool (f l) ≡ is_up_in pool l) → (servers : List Loaded) (places : List ℕ) → StandAt servers places (up_servers pool servers) → StandAt (map f servers) places (up_servers pool (map f servers))
ups_kept f keeps pool same servers places stand =
    gets_map f servers places
    ∙ ap (map (option_map f)) stand
    ∙ somes_map f (up_servers pool servers)
    ∙ ap (map Some) (sym (ap (filter (is_up_in pool)) (by_order_map f keeps servers) ∙ mapped_filter f (is_up_in pool) same (by_order servers)))

some_is : {X : Type 0} (x y : X) → Some x ≡ Some y → x ≡ y
some_is x y is = cc is

-- no server is there
pub ups_none : AreUps [] ([] ∷ [])
ups_none zero places is = ap (λ (ps : List ℕ). map (slice_get []) ps) (sym (some_is [] places is))
ups_none (suc number) places is = absurd (cc is)

-- the servers at their places
option_twice : (o : Option Loaded) (p : Option (Option Loaded)) → p ≡ option_map Some o → option_and_then (λ x. x) p ≡ o
option_twice None p is = rw is refl
option_twice (Some l) p is = rw is refl

then_map : {X : Type 0} (f : X → Option Loaded) (o : Option X) → option_and_then f o ≡ option_and_then (λ x. x) (option_map f o)
then_map f None = refl
then_map f (Some x) = refl

taken_map : {X : Type 0} (f : X → Option Loaded) (xs : List X) → filter_map f xs ≡ filter_map (λ o. o) (map f xs)
taken_map f [] = refl
taken_map f (x ∷ xs) = rw (taken_map f xs) refl

somes_taken : (ls : List Loaded) → filter_map (λ o. o) (map Some ls) ≡ ls
somes_taken [] = refl
somes_taken (l ∷ ls) = rw (somes_taken ls) refl

pub nth_at : (servers : List Loaded) (places : List ℕ) (those : List Loaded) (n : ℕ) → StandAt servers places those → server_at servers (slice_get places n) ≡ slice_get those n
nth_at servers places those n stand =
    then_map (slice_get servers) (slice_get places n)
    ∙ option_twice (slice_get those n) (option_map (slice_get servers) (slice_get places n)) (sym (slice_get-map (slice_get servers) places n) ∙ ap (λ (os : List (Option Loaded)). slice_get os n) stand ∙ slice_get-map Some those n)

pub all_at : (servers : List Loaded) (places : List ℕ) (those : List Loaded) → StandAt servers places those → servers_at servers places ≡ those
all_at servers places those stand = taken_map (slice_get servers) places ∙ ap (filter_map (λ o. o)) stand ∙ somes_taken those

-- the one that a turn gives
pub turn_at : (servers : List Loaded) (places : List ℕ) (those : List Loaded) (turn : ℕ) → StandAt servers places those → server_at servers (slice_get places (turn % length places)) ≡ slice_get those (turn % length those)
turn_at servers places those turn stand = nth_at servers places those (turn % length places) stand ∙ ap (λ (k : ℕ). slice_get those (turn % k)) (stand_long servers places those stand)

reduce_more : (ls : List Loaded) (next : Option Loaded) → reduce less_loaded (ls ++ cons_option next []) ≡ best_of (reduce less_loaded ls) next
reduce_more [] None = refl
reduce_more [] (Some l) = refl
reduce_more (m ∷ ls) None = ap (λ (ms : List Loaded). reduce less_loaded (m ∷ ms)) (append-nil ls)
reduce_more (m ∷ ls) (Some l) = ap Some (fold-append less_loaded m ls (l ∷ []))

-- the best of one place more
pub best_more : (servers : List Loaded) (places : List ℕ) (i d : ℕ) → i < length places → reduce less_loaded (servers_at servers (take (i + 1) places)) ≡ best_of (reduce less_loaded (servers_at servers (take i places))) (slice_get servers (get_or places i d))
best_more servers places i d lt = ap (reduce less_loaded) (taken_more (slice_get servers) places i d lt) ∙ reduce_more (servers_at servers (take i places)) (slice_get servers (get_or places i d))

-- the places of one pool written
get_set_other : {X : Type 0} (xs : List X) (i j : ℕ) (x : X) → (j ≡ i → ⊥) → slice_get (set xs i x) j ≡ slice_get xs j
get_set_other [] i j x apart = refl
get_set_other (y ∷ ys) zero zero x apart = absurd (apart refl)
get_set_other (y ∷ ys) zero (suc j) x apart = refl
get_set_other (y ∷ ys) (suc i) zero x apart = refl
get_set_other (y ∷ ys) (suc i) (suc j) x apart = get_set_other ys i j x (λ e. apart (ap suc e))

get_set_same : {X : Type 0} (xs : List X) (i : ℕ) (x : X) → i < length xs → slice_get (set xs i x) i ≡ Some x
get_set_same [] i x lt = absurd (omega (arith, lt))
get_set_same (y ∷ ys) zero x lt = refl
get_set_same (y ∷ ys) (suc i) x lt = get_set_same ys i x (omega (arith, lt))

-- the same of the pools below a number
abbrev pub AreUpsBelow : ℕ → List Loaded → List (List ℕ) → Type 0
AreUpsBelow bound servers ups = (number : ℕ) (places : List ℕ) → number < bound → slice_get ups number ≡ Some places → StandAt servers places (up_servers (record { 0 = number }) servers)

pub ups_set : (servers : List Loaded) (ups : List (List ℕ)) (at : ℕ) (made : List ℕ) → at < length ups → AreUpsBelow at servers ups → StandAt servers made (up_servers (record { 0 = at }) servers) → AreUpsBelow (at + 1) servers (set ups at made)
ups_set servers ups at made within below stand number places lt is = elim (cases_lt number at) [
  | inl low ↦ below number places low (sym (get_set_other ups at number made (λ e. absurd (omega (arith, low, e)))) ∙ is)
  | inr high ↦
      let here : number ≡ at = omega (arith, lt, high) in
      let same : made ≡ places = some_is made places (sym (get_set_same ups at made within) ∙ ap (λ (k : ℕ). slice_get (set ups at made) k) (sym here) ∙ is) in
      subst (λ (k : ℕ). StandAt servers places (up_servers (record { 0 = k }) servers)) (sym here) (subst (λ (ps : List ℕ). StandAt servers ps (up_servers (record { 0 = at }) servers)) same stand)
]

get_push : {X : Type 0} (xs : List X) (y x : X) (j : ℕ) → slice_get (xs ++ y ∷ []) j ≡ Some x → (slice_get xs j ≡ Some x) ⊎ ((j ≡ length xs) × (y ≡ x))
get_push [] y x zero is = inr (refl, cc is)
get_push [] y x (suc j) is = absurd (cc is)
get_push (z ∷ zs) y x zero is = inl is
get_push (z ∷ zs) y x (suc j) is = elim (get_push zs y x j is) [
  | inl there ↦ inl there
  | inr last ↦ inr (ap suc last.0, last.1)
]

-- those of a pool more
pub ups_pushed : (servers : List Loaded) (ups : List (List ℕ)) (made : List ℕ) → AreUps servers ups → StandAt servers made (up_servers (record { 0 = length ups }) servers) → AreUps servers (ups ++ made ∷ [])
ups_pushed servers ups made are stand number places is = elim (get_push ups made places number is) [
  | inl there ↦ are number places there
  | inr last ↦ subst (λ (k : ℕ). StandAt servers places (up_servers (record { 0 = k }) servers)) (sym last.0) (subst (λ (ps : List ℕ). StandAt servers ps (up_servers (record { 0 = length ups }) servers)) last.1 stand)
]

-- those of one of some pools found anew
remade_now : (a b : Bool) (pool : PoolId) (servers : List Loaded) (was : Option (List ℕ)) (places : List ℕ) → b ≡ true → StandAt servers places (up_servers pool servers) → IsRemade (a || b) pool servers was places
remade_now true b pool servers was places is stand = stand
remade_now false b pool servers was places is stand = subst (λ (d : Bool). IsRemade d pool servers was places) (sym is) stand

remade_before : (a b : Bool) (pool : PoolId) (servers : List Loaded) (was : Option (List ℕ)) (places : List ℕ) → b ≡ false → IsRemade a pool servers was places → IsRemade (a || b) pool servers was places
remade_before true b pool servers was places is stand = stand
remade_before false b pool servers was places is same = subst (λ (d : Bool). IsRemade d pool servers was places) (sym is) same

not_same : (a b : ℕ) → (a == b) ≡ false → a ≡ b → ⊥
not_same a b other is = grind (arith, nat_tests, other, is)

pub remade_more : (pools : List PoolId) (i : ℕ) (d : PoolId) (servers : List Loaded) (was ups : List (List ℕ)) (made : List ℕ) → i < length pools → (get_or pools i d).0 < length ups → AreRemade (take i pools) servers was ups → StandAt servers made (up_servers (get_or pools i d) servers) → AreRemade (take (i + 1) pools) servers was (set ups (get_or pools i d).0 made)
remade_more pools i d servers was ups made lt within remade stand number places is =
    let pool : PoolId = get_or pools i d in
    let this : PoolId = record { 0 = number } in
    subst (λ (b : Bool). IsRemade b this servers (slice_get was number) places) (sym (list_any_more (same_pool this) pools i d lt)) (elim (cases_Bool (same_pool this pool)) [
      | inl same ↦
          let here : number ≡ pool.0 = eqb-true number pool.0 same in
          let it : made ≡ places = some_is made places (sym (get_set_same ups pool.0 made within) ∙ ap (λ (k : ℕ). slice_get (set ups pool.0 made) k) (sym here) ∙ is) in
          remade_now (list_any (same_pool this) (take i pools)) (same_pool this pool) this servers (slice_get was number) places same
          (subst (λ (k : ℕ). StandAt servers places (up_servers (record { 0 = k }) servers)) (sym here) (subst (λ (ps : List ℕ). StandAt servers ps (up_servers pool servers)) it stand))
      | inr apart ↦ remade_before (list_any (same_pool this) (take i pools)) (same_pool this pool) this servers (slice_get was number) places apart
          (remade number places (sym (get_set_other ups pool.0 number made (not_same number pool.0 apart)) ∙ is))
    ])
