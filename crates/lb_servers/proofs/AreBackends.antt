-- What the lists of servers and pools keep true, through each edit.
use Rattle.std.proofs.Common.{◌≡◌, ℕ, zero, suc, ◌+◌, ◌<◌, ◌≤◌, ◌==◌, Bool, true, false, not, cond, List, [], ◌∷◌, ◌++◌, length, get_or, set, map, Option, None, Some, Ok, inl, inr, refl, sym, ap, subst, ◌∙◌, arith}
use Rattle.std.specs.Prelude.{bytes_eq, is_some, is_none, nat_lt, option_map, slice_get}
use Rattle.std.specs.List.{AllByRecursion, cons_option, count_by, filter, filter_map, find, fold, list_any, position, position_or_len}
use Rattle.std.proofs.lemmas.Bool.{cases_Bool, eqb-true, ltb-true, or_parts}
use Rattle.std.proofs.lemmas.List.{length-map, length_push, with_items_is}
use Rattle.std.specs.Vec.{with_items}
use Rattle.std.specs.declared.vec.Vec.{Vec}
use Rattle.std.proofs.lemmas.List.Sums.{sum_by-cons}
use Rattle.std.proofs.lemmas.Bool.Decides.{nat_tests}
use Rattle.std.proofs.lemmas.Slice.Eq.{bytes_eq-Decides}
use Rattle.lb_wire.specs.declared.ids.CacheId.{CacheId}
use Rattle.lb_wire.specs.declared.ids.PoolId.{PoolId}
use Rattle.lb_wire.specs.declared.ids.ServerId.{ServerId}
use Rattle.lb_servers.specs.declared.fault.ParkFault.{ParkFault}
use Rattle.lb_servers.specs.declared.fault.ParkFault.TheVariants as faults
use Rattle.lb_servers.specs.declared.pool.PoolName.{PoolName}
use Rattle.lb_servers.specs.declared.pool.PoolName.TheVariants.{Default, Named}
use Rattle.lb_servers.specs.declared.pool.Pool.{Pool}
use Rattle.lb_servers.specs.declared.server.Loaded.{Loaded}
use Rattle.lb_servers.specs.declared.spec.ServerSpec.{ServerSpec}
use Rattle.lb_servers.specs.Park.{AreBackends, AreServers, Backends, IsPark, IsGiven, StandsIn, has_cache, changed_server, has_name, is_cache, no_backends, server_fault}
use Rattle.lb_servers.specs.Pool.{change_at, is_named, new_pool, pool_named, same_name, same_pool, with_cache}
use Rattle.lb_servers.specs.Pick.{AreRemade, AreUps, IsRemade, up_servers}
use Rattle.lb_servers.specs.Ranks.{StandAt, by_order}
use Rattle.lb_servers.specs.Server.{ByNumber, IsPlaceOf, change_if, change_server, is_in, is_server, is_up_in, marked, server_named}
use Rattle.lb_servers.specs.Spec.{joined, lacks_pool, new_server, pools_named, stated_pools}
use Rattle.lb_servers.proofs.ByNumber.{each_at, place_changed}
use Rattle.lb_servers.proofs.IsPark.{fewer, park_changed, keeps_if}
use Rattle.lb_servers.proofs.Places.{stand_changed}
use Rattle.lb_servers.proofs.UpServers.{ups_kept, ups_pushed}

-- what holds of each element, through the changes of a list
each_map : {X Y : Type 0} (P : X → Type 0) (Q : Y → Type 0) (f : X → Y) → ((x : X) → P x → Q (f x)) → (xs : List X) → AllByRecursion P xs → AllByRecursion Q (map f xs)
each_map P Q f says [] all = tt
each_map P Q f says (x ∷ xs) all = (says x all.0, each_map P Q f says xs all.1)

each_weaker : {X : Type 0} (P Q : X → Type 0) (xs : List X) → ((x : X) → P x → Q x) → AllByRecursion P xs → AllByRecursion Q xs
each_weaker P Q [] says all = tt
each_weaker P Q (x ∷ xs) says all = (says x all.0, each_weaker P Q xs says all.1)

each_push : {X : Type 0} (P : X → Type 0) (xs : List X) (y : X) → AllByRecursion P xs → P y → AllByRecursion P (xs ++ y ∷ [])
each_push P [] y all one = (one, tt)
each_push P (x ∷ xs) y all one = (all.0, each_push P xs y all.1 one)

each_if : {X : Type 0} (P : X → Type 0) (keeps : Bool) (x : X) (xs : List X) → P x → AllByRecursion P xs → AllByRecursion P (cond keeps (x ∷ xs) xs)
each_if P true x xs one all = (one, all)
each_if P false x xs one all = all

each_filter : {X : Type 0} (P : X → Type 0) (keeps : X → Bool) (xs : List X) → AllByRecursion P xs → AllByRecursion P (filter keeps xs)
each_filter P keeps [] all = tt
each_filter P keeps (x ∷ xs) all = each_if P (keeps x) x (filter keeps xs) all.0 (each_filter P keeps xs all.1)

-- how many pass a test
abbrev one_if : Bool → ℕ
one_if b = cond b 1 0

count_cons : {X : Type 0} (p : X → Bool) (x : X) (xs : List X) → count_by p (x ∷ xs) ≡ one_if (p x) + count_by p xs
count_cons p x xs = sum_by-cons (λ y. one_if (p y)) x xs

count_push : {X : Type 0} (p : X → Bool) (xs : List X) (y : X) → count_by p (xs ++ y ∷ []) ≡ count_by p xs + one_if (p y)
count_push p [] y = omega (arith, count_cons p y [])
count_push p (x ∷ xs) y = omega (arith, count_cons p x (xs ++ y ∷ []), count_cons p x xs, count_push p xs y)

count_map : {X : Type 0} (p : X → Bool) (f : X → X) → ((x : X) → p (f x) ≡ p x) → (xs : List X) → count_by p (map f xs) ≡ count_by p xs
count_map p f same [] = refl
count_map p f same (x ∷ xs) = omega (arith, count_cons p (f x) (map f xs), count_cons p x xs, ap one_if (same x), count_map p f same xs)

count_if : {X : Type 0} (p : X → Bool) (keeps : Bool) (x : X) (xs : List X) → count_by p (cond keeps (x ∷ xs) xs) ≤ one_if (p x) + count_by p xs
count_if p true x xs = omega (arith, count_cons p x xs)
count_if p false x xs = omega arith

count_filter : {X : Type 0} (p keeps : X → Bool) (xs : List X) → count_by p (filter keeps xs) ≤ count_by p xs
count_filter p keeps [] = omega arith
count_filter p keeps (x ∷ xs) = omega (arith, count_if p (keeps x) x (filter keeps xs), count_cons p x xs, count_filter p keeps xs)

count_none : {X : Type 0} (p : X → Bool) (xs : List X) → list_any p xs ≡ false → count_by p xs ≡ 0
count_none p [] is = refl
count_none p (x ∷ xs) is =
    let parts = or_parts (p x) (list_any p xs) is in
    omega (arith, count_cons p x xs, ap one_if parts.0, count_none p xs parts.1)

count_each : {X : Type 0} (p : X → Bool) (xs : List X) → AllByRecursion (λ x. p x ≡ false) xs → count_by p xs ≡ 0
count_each p [] all = refl
count_each p (x ∷ xs) all = omega (arith, count_cons p x xs, ap one_if all.0, count_each p xs all.1)

-- servers by number, through each change
order_map : (f : Loaded → Loaded) → ((l : Loaded) → (f l).server.id ≡ l.server.id) → (ls : List Loaded) → ByNumber ls → ByNumber (map f ls)
order_map f same [] by = tt
order_map f same (l ∷ ls) by = (
  each_map (λ o. l.server.id.0 < o.server.id.0) (λ o. (f l).server.id.0 < o.server.id.0) f
      (λ o lt. subst (λ (id : ServerId). id.0 < (f o).server.id.0) (sym (same l)) (subst (λ (id : ServerId). l.server.id.0 < id.0) (sym (same o)) lt)) ls by.0,
  order_map f same ls by.1,
)

order_if : (keeps : Bool) (l : Loaded) (ls : List Loaded) → AllByRecursion (λ o. l.server.id.0 < o.server.id.0) ls → ByNumber ls → ByNumber (cond keeps (l ∷ ls) ls)
order_if true l ls above by = (above, by)
order_if false l ls above by = by

order_filter : (keeps : Loaded → Bool) (ls : List Loaded) → ByNumber ls → ByNumber (filter keeps ls)
order_filter keeps [] by = tt
order_filter keeps (l ∷ ls) by = order_if (keeps l) l (filter keeps ls) (each_filter (λ o. l.server.id.0 < o.server.id.0) keeps ls by.0) (order_filter keeps ls by.1)

order_push : (ls : List Loaded) (l : Loaded) → AllByRecursion (λ o. o.server.id.0 < l.server.id.0) ls → ByNumber ls → ByNumber (ls ++ l ∷ [])
order_push [] l below by = (tt, tt)
order_push (o ∷ ls) l below by = (each_push (λ x. o.server.id.0 < x.server.id.0) ls l by.0 below.0, order_push ls l below.1 by.1)

-- a server's number, name and pools
abbrev pub Shape : Type 0
Shape = ServerId × List ℕ × List PoolId

abbrev pub shape : Loaded → Shape
shape l = (l.server.id, l.server.name, l.server.pools)

-- a change that leaves them
servers_changed : (f : Loaded → Loaded) → ((l : Loaded) → shape (f l) ≡ shape l) → (park : Backends) → AreServers park → AreServers (record park { servers = map f park.servers })
servers_changed f same park are = record {
  order = order_map f (λ l. ap (λ (s : Shape). s.0) (same l)) park.servers are.order;
  below = each_map (λ l. l.server.id.0 < park.next) (λ l. l.server.id.0 < park.next) f (λ l lt. subst (λ (id : ServerId). id.0 < park.next) (sym (ap (λ (s : Shape). s.0) (same l))) lt) park.servers are.below;
  once = λ name. omega (arith, count_map (has_name name) f (λ l. ap (λ (s : Shape). bytes_eq s.1 name) (same l)) park.servers, are.once name);
  few = omega (arith, length-map park.servers f, are.few);
  stand = each_map (λ l. StandsIn (length park.pools) l.server.pools) (λ l. StandsIn (length park.pools) l.server.pools) f
      (λ l in_them. subst (StandsIn (length park.pools)) (sym (ap (λ (s : Shape). s.2) (same l))) in_them) park.servers are.stand;
}

same_if : (b : Bool) (change : Loaded → Loaded) → ((l : Loaded) → shape (change l) ≡ shape l) → (l : Loaded) → shape (change_if b change l) ≡ shape l
same_if true change same l = same l
same_if false change same l = refl

pub server_changed : (id : ServerId) (change : Loaded → Loaded) → ((l : Loaded) → shape (change l) ≡ shape l) → (park : Backends) → AreBackends park → AreBackends (record park { servers = change_server id change park.servers })
server_changed id change same park are = record {
  servers = servers_changed (λ l. change_if (is_server id l) change l) (λ l. same_if (is_server id l) change same l) park are.servers;
  pools = record { first = are.pools.first; once = are.pools.once; few = are.pools.few; caches = are.pools.caches; given = are.pools.given };
}

-- a server taken out
pub server_removed : (keeps : Loaded → Bool) (park : Backends) → AreBackends park → AreBackends (record park { servers = filter keeps park.servers })
server_removed keeps park are = record {
  servers = record {
    order = order_filter keeps park.servers are.servers.order;
    below = each_filter (λ l. l.server.id.0 < park.next) keeps park.servers are.servers.below;
    once = λ name. omega (arith, count_filter (has_name name) keeps park.servers, are.servers.once name);
    few = omega (arith, fewer keeps park.servers, are.servers.few);
    stand = each_filter (λ l. StandsIn (length park.pools) l.server.pools) keeps park.servers are.servers.stand;
  };
  pools = record { first = are.pools.first; once = are.pools.once; few = are.pools.few; caches = are.pools.caches; given = are.pools.given };
}

-- the pools of a new server: each of them is there
position_in : {X : Type 0} (p : X → Bool) (xs : List X) (b : Bool) (at : ℕ) → nat_lt (position_or_len p xs) (length xs) ≡ b → cond b (Some (position_or_len p xs)) None ≡ Some at → at < length xs
position_in p xs true at within is = let same : position_or_len p xs ≡ at = cc in omega (arith, ltb-true _ _ within, same)
position_in p xs false at past is = absurd (cc is)

-- the number of a pool that was found
abbrev number_or : Option PoolId → ℕ
number_or None = 0
number_or (Some pool) = pool.0

named_in : (pools : List Pool) (name : PoolName) (found : Option ℕ) (pool : PoolId) → position (is_named name) pools ≡ found → option_map (λ (at : ℕ). record { 0 = at }) found ≡ Some pool → pool.0 < length pools
named_in pools name None pool place is = absurd (cc is)
named_in pools name (Some at) pool place is =
    let same : at ≡ pool.0 = ap number_or is in
    omega (arith, same, position_in (is_named name) pools (nat_lt (position_or_len (is_named name) pools) (length pools)) at refl place)

found_in : (pools : List Pool) (found : Option PoolId) (name : PoolName) (rest : List PoolId) → pool_named pools name ≡ found → AllByRecursion (λ id. id.0 < length pools) rest → AllByRecursion (λ id. id.0 < length pools) (cons_option found rest)
found_in pools None name rest is all = all
found_in pools (Some pool) name rest is all = (named_in pools name (position (is_named name) pools) pool refl is, all)

all_in : (pools : List Pool) (names : List PoolName) → AllByRecursion (λ id. id.0 < length pools) (filter_map (pool_named pools) names)
all_in pools [] = tt
all_in pools (name ∷ names) = found_in pools (pool_named pools name) name (filter_map (pool_named pools) names) refl (all_in pools names)

-- what holds where each is put after the others unless it is among them
join_keeps : (P : PoolId → Type 0) (b : Bool) (ids : List PoolId) (pool : PoolId) → AllByRecursion P ids → P pool → AllByRecursion P (cond b ids (ids ++ pool ∷ []))
join_keeps P true ids pool all one = all
join_keeps P false ids pool all one = each_push P ids pool all one

joins_keep : (P : PoolId → Type 0) (ids pools : List PoolId) → AllByRecursion P ids → AllByRecursion P pools → AllByRecursion P (fold joined ids pools)
joins_keep P ids [] all each = all
joins_keep P ids (pool ∷ pools) all each = joins_keep P (joined ids pool) pools (join_keeps P (list_any (same_pool pool) ids) ids pool all each.0) each.1

abbrev OnceIn : List PoolId → Type 0
OnceIn ids = (pool : PoolId) → count_by (same_pool pool) ids ≤ 1

number_same : (a b c : ℕ) → (a == b) ≡ true → (a == c) ≡ (b == c)
number_same a b c is = ap (λ (n : ℕ). n == c) (eqb-true a b is)

join_once : (ids : List PoolId) (pool : PoolId) (b : Bool) → list_any (same_pool pool) ids ≡ b → OnceIn ids → OnceIn (cond b ids (ids ++ pool ∷ []))
join_once ids pool true is once = once
join_once ids pool false is once = λ other. elim (cases_Bool (same_pool other pool)) [
  | inl same ↦
      let none : count_by (same_pool other) ids ≡ 0 = ap (λ (n : ℕ). count_by (same_pool (record { 0 = n })) ids) (eqb-true other.0 pool.0 same) ∙ count_none (same_pool pool) ids is in
      omega (arith, count_push (same_pool other) ids pool, ap one_if same, none)
  | inr apart ↦ omega (arith, count_push (same_pool other) ids pool, ap one_if apart, once other)
]

joins_once : (ids pools : List PoolId) → OnceIn ids → OnceIn (fold joined ids pools)
joins_once ids [] once = once
joins_once ids (pool ∷ pools) once = joins_once (joined ids pool) pools (join_once ids pool (list_any (same_pool pool) ids) refl once)

join_long : (b : Bool) (ids : List PoolId) (pool : PoolId) → (length (cond b ids (ids ++ pool ∷ [])) ≤ length ids + 1) × (length ids ≤ length (cond b ids (ids ++ pool ∷ [])))
join_long true ids pool = (omega arith, omega arith)
join_long false ids pool = (omega (arith, length_push ids pool), omega (arith, length_push ids pool))

joins_long : (ids pools : List PoolId) → (length (fold joined ids pools) ≤ length ids + length pools) × (length ids ≤ length (fold joined ids pools))
joins_long ids [] = (omega arith, omega arith)
joins_long ids (pool ∷ pools) =
    let one = join_long (list_any (same_pool pool) ids) ids pool in
    let rest = joins_long (joined ids pool) pools in
    (omega (arith, one.0, rest.0), omega (arith, one.1, rest.1))

found_long : (found : Option PoolId) (rest : List PoolId) → length (cons_option found rest) ≤ length rest + 1
found_long None rest = omega arith
found_long (Some pool) rest = omega arith

all_long : (pools : List Pool) (names : List PoolName) → length (filter_map (pool_named pools) names) ≤ length names
all_long pools [] = omega arith
all_long pools (name ∷ names) = omega (arith, found_long (pool_named pools name) (filter_map (pool_named pools) names), all_long pools names)

first_long : (found : Option PoolId) (rest : List PoolId) → is_none found ≡ false → 0 < length (fold joined [] (cons_option found rest))
first_long None rest there = absurd (cc there)
first_long (Some pool) rest there = omega (arith, (joins_long (pool ∷ []) rest).1)

some_stand : (pools : List Pool) (names : List PoolName) → 0 < length names → lacks_pool pools names ≡ false → 0 < length (pools_named pools names)
some_stand pools [] some there = absurd (omega (arith, some))
some_stand pools (name ∷ names) some there = first_long (pool_named pools name) (filter_map (pool_named pools) names) (or_parts (is_none (pool_named pools name)) (lacks_pool pools names) there).0

stands : (pools : List Pool) (names : List PoolName) → 0 < length names → length names ≤ 8 → lacks_pool pools names ≡ false → StandsIn (length pools) (pools_named pools names)
stands pools names some few there = record {
  some = some_stand pools names some there;
  few = omega (arith, (joins_long [] (filter_map (pool_named pools) names)).0, all_long pools names, few);
  there = joins_keep (λ id. id.0 < length pools) [] (filter_map (pool_named pools) names) tt (all_in pools names);
  once = joins_once [] (filter_map (pool_named pools) names) (λ pool. omega arith);
}

stated_some : (names : List PoolName) → length names ≤ 8 → (0 < length (stated_pools names)) × (length (stated_pools names) ≤ 8)
stated_some [] few = (omega arith, omega arith)
stated_some (name ∷ names) few = (omega arith, omega (arith, few))

-- no server has a name that is not found
none_found : {Y : Type 0} (p : Loaded → Bool) (f : Loaded → Y) (ls : List Loaded) → is_some (option_map f (find p ls)) ≡ false → count_by p ls ≡ 0
none_found p f [] is = refl
none_found p f (l ∷ ls) is = elim (cases_Bool (p l)) [
  | inl passes ↦ absurd (let wrong : true ≡ false = rw passes at is in cc)
  | inr fails ↦ let rest : is_some (option_map f (find p ls)) ≡ false = rw fails at is in omega (arith, count_cons p l ls, ap one_if fails, none_found p f ls rest)
]

named_once : (ls : List Loaded) (l : Loaded) → is_some (server_named ls l.server.name) ≡ false → ((name : List ℕ) → count_by (has_name name) ls ≤ 1) → (name : List ℕ) → count_by (has_name name) (ls ++ l ∷ []) ≤ 1
named_once ls l free once name = elim (cases_Bool (has_name name l)) [
  | inl same ↦
      let is : l.server.name ≡ name = (bytes_eq-Decides l.server.name name).0 same in
      let none : count_by (has_name name) ls ≡ 0 = subst (λ (n : List ℕ). count_by (has_name n) ls ≡ 0) is (none_found (has_name l.server.name) (λ o. o.server.id) ls free) in
      omega (arith, count_push (has_name name) ls l, ap one_if same, none)
  | inr other ↦ omega (arith, count_push (has_name name) ls l, ap one_if other, once name)
]

-- a server added
pub server_added : (park : Backends) (spec : ServerSpec) → AreBackends park → lacks_pool park.pools (stated_pools spec.pools) ≡ false → length spec.pools ≤ 8 → is_some (server_named park.servers spec.name) ≡ false → length park.servers < 256 →
    AreBackends (record park { next = park.next + 1; servers = park.servers ++ new_server park.next park.pools spec ∷ [] })
server_added park spec are there short free few =
    let l : Loaded = new_server park.next park.pools spec in
    let stated = stated_some spec.pools short in
    record {
      servers = record {
        order = order_push park.servers l are.servers.below are.servers.order;
        below = each_push (λ o. o.server.id.0 < park.next + 1) park.servers l (each_weaker (λ o. o.server.id.0 < park.next) (λ o. o.server.id.0 < park.next + 1) park.servers (λ o lt. omega (arith, lt)) are.servers.below) (omega arith);
        once = named_once park.servers l free are.servers.once;
        few = omega (arith, length_push park.servers l, few);
        stand = each_push (λ o. StandsIn (length park.pools) o.server.pools) park.servers l are.servers.stand (stands park.pools (stated_pools spec.pools) stated.0 stated.1 there);
      };
      pools = record { first = are.pools.first; once = are.pools.once; few = are.pools.few; caches = are.pools.caches; given = are.pools.given };
    }

-- the pool at a place changed
changed_long : (change : Pool → Pool) (at : ℕ) (pools : List Pool) → length (change_at change at pools) ≡ length pools
changed_long change at [] = refl
changed_long change zero (pool ∷ pools) = refl
changed_long change (suc at) (pool ∷ pools) = ap suc (changed_long change at pools)

changed_count : (p : Pool → Bool) (change : Pool → Pool) → ((pool : Pool) → p (change pool) ≡ p pool) → (at : ℕ) (pools : List Pool) → count_by p (change_at change at pools) ≡ count_by p pools
changed_count p change same at [] = refl
changed_count p change same zero (pool ∷ pools) = omega (arith, count_cons p (change pool) pools, count_cons p pool pools, ap one_if (same pool))
changed_count p change same (suc at) (pool ∷ pools) = omega (arith, count_cons p pool (change_at change at pools), count_cons p pool pools, changed_count p change same at pools)

changed_most : (p : Pool → Bool) (change : Pool → Pool) (b : Bool) → ((pool : Pool) → p (change pool) ≡ b) → (at : ℕ) (pools : List Pool) → count_by p (change_at change at pools) ≤ count_by p pools + one_if b
changed_most p change b same at [] = omega arith
changed_most p change b same zero (pool ∷ pools) = omega (arith, count_cons p (change pool) pools, count_cons p pool pools, ap one_if (same pool))
changed_most p change b same (suc at) (pool ∷ pools) = omega (arith, count_cons p pool (change_at change at pools), count_cons p pool pools, changed_most p change b same at pools)

changed_first : (change : Pool → Pool) → ((pool : Pool) → (change pool).name ≡ pool.name) → (at : ℕ) (pools : List Pool) → option_map (λ (p : Pool). p.name) (slice_get (change_at change at pools) 0) ≡ option_map (λ (p : Pool). p.name) (slice_get pools 0)
changed_first change same at [] = refl
changed_first change same zero (pool ∷ pools) = ap Some (same pool)
changed_first change same (suc at) (pool ∷ pools) = refl

changed_each : (P : Pool → Type 0) (change : Pool → Pool) → ((pool : Pool) → P pool → P (change pool)) → (at : ℕ) (pools : List Pool) → AllByRecursion P pools → AllByRecursion P (change_at change at pools)
changed_each P change says at [] all = tt
changed_each P change says zero (pool ∷ pools) all = (says pool all.0, all.1)
changed_each P change says (suc at) (pool ∷ pools) all = (all.0, changed_each P change says at pools all.1)

-- the servers stand in pools that are there, where there are as many or more
still_stand : (park : Backends) (pools : List Pool) (next_cache : ℕ) → length park.pools ≤ length pools → AreServers park → AreServers (record park { next_cache = next_cache; pools = pools })
still_stand park pools next_cache more are = record {
  order = are.order;
  below = are.below;
  once = are.once;
  few = are.few;
  stand = each_weaker (λ l. StandsIn (length park.pools) l.server.pools) (λ l. StandsIn (length pools) l.server.pools) park.servers (λ l in_them. record {
    some = in_them.some;
    few = in_them.few;
    there = each_weaker (λ id. id.0 < length park.pools) (λ id. id.0 < length pools) l.server.pools (λ id lt. omega (arith, lt, more)) in_them.there;
    once = in_them.once;
  }) are.stand;
}

-- a pool changed, but in its name and cache
pub pool_changed : (change : Pool → Pool) → ((pool : Pool) → (change pool).name ≡ pool.name) → ((pool : Pool) → (change pool).cache ≡ pool.cache) → (at : ℕ) (park : Backends) → AreBackends park → AreBackends (record park { pools = change_at change at park.pools })
pool_changed change named cached at park are = record {
  servers = still_stand park (change_at change at park.pools) park.next_cache (omega (arith, changed_long change at park.pools)) are.servers;
  pools = record {
    first = changed_first change named at park.pools ∙ are.pools.first;
    once = λ name. omega (arith, changed_count (is_named name) change (λ pool. ap (λ (n : PoolName). same_name n name) (named pool)) at park.pools, are.pools.once name);
    few = omega (arith, changed_long change at park.pools, are.pools.few);
    caches = λ id. omega (arith, changed_count (has_cache id) change (λ pool. ap (is_cache id) (cached pool)) at park.pools, are.pools.caches id);
    given = changed_each (λ pool. IsGiven park.next_cache pool.cache) change (λ pool given. subst (IsGiven park.next_cache) (sym (cached pool)) given) at park.pools are.pools.given;
  };
}

-- a pool without its cache
pub pool_detached : (at : ℕ) (park : Backends) → AreBackends park → AreBackends (record park { pools = change_at (with_cache None) at park.pools })
pool_detached at park are = record {
  servers = still_stand park (change_at (with_cache None) at park.pools) park.next_cache (omega (arith, changed_long (with_cache None) at park.pools)) are.servers;
  pools = record {
    first = changed_first (with_cache None) (λ pool. refl) at park.pools ∙ are.pools.first;
    once = λ name. omega (arith, changed_count (is_named name) (with_cache None) (λ pool. refl) at park.pools, are.pools.once name);
    few = omega (arith, changed_long (with_cache None) at park.pools, are.pools.few);
    caches = λ id. omega (arith, changed_most (has_cache id) (with_cache None) false (λ pool. refl) at park.pools, are.pools.caches id);
    given = changed_each (λ pool. IsGiven park.next_cache pool.cache) (with_cache None) (λ pool given. tt) at park.pools are.pools.given;
  };
}

-- a pool with a new cache
given_more : (next : ℕ) (cache : Option CacheId) → IsGiven next cache → IsGiven (next + 1) cache
given_more next None given = tt
given_more next (Some cache) given = omega (arith, given)

not_given : (next : ℕ) (id : CacheId) (cache : Option CacheId) → next ≡ id.0 → IsGiven next cache → is_cache id cache ≡ false
not_given next id None is given = refl
not_given next id (Some cache) is given = grind (arith, nat_tests, is, given)

new_cache_once : (id : CacheId) (next at : ℕ) (pools : List Pool) → AllByRecursion (λ pool. IsGiven next pool.cache) pools → count_by (has_cache id) pools ≤ 1 → count_by (has_cache id) (change_at (with_cache (Some (record { 0 = next }))) at pools) ≤ 1
new_cache_once id next at pools given once =
    let change = with_cache (Some (record { 0 = next })) in
    elim (cases_Bool (next == id.0)) [
      | inl same ↦
          let none : count_by (has_cache id) pools ≡ 0 =
          count_each (has_cache id) pools (each_weaker (λ pool. IsGiven next pool.cache) (λ pool. has_cache id pool ≡ false) pools (λ pool is. not_given next id pool.cache (eqb-true next id.0 same) is) given) in
          omega (arith, changed_most (has_cache id) change true (λ pool. same) at pools, none)
      | inr other ↦ omega (arith, changed_most (has_cache id) change false (λ pool. other) at pools, once)
    ]

pub pool_attached : (at : ℕ) (park : Backends) → AreBackends park → AreBackends (record park { next_cache = park.next_cache + 1; pools = change_at (with_cache (Some (record { 0 = park.next_cache }))) at park.pools })
pool_attached at park are =
    let change = with_cache (Some (record { 0 = park.next_cache })) in
    record {
      servers = still_stand park (change_at change at park.pools) (park.next_cache + 1) (omega (arith, changed_long change at park.pools)) are.servers;
      pools = record {
        first = changed_first change (λ pool. refl) at park.pools ∙ are.pools.first;
        once = λ name. omega (arith, changed_count (is_named name) change (λ pool. refl) at park.pools, are.pools.once name);
        few = omega (arith, changed_long change at park.pools, are.pools.few);
        caches = λ id. new_cache_once id park.next_cache at park.pools are.pools.given (are.pools.caches id);
        given = changed_each (λ pool. IsGiven (park.next_cache + 1) pool.cache) change (λ pool given. omega arith) at park.pools
            (each_weaker (λ pool. IsGiven park.next_cache pool.cache) (λ pool. IsGiven (park.next_cache + 1) pool.cache) park.pools (λ pool given. given_more park.next_cache pool.cache given) are.pools.given);
      };
    }

-- a pool added
named_same : (a b : PoolName) → same_name a b ≡ true → a ≡ b
named_same Default Default is = refl
named_same Default (Named b) is = absurd (cc is)
named_same (Named a) Default is = absurd (cc is)
named_same (Named a) (Named b) is = ap Named ((bytes_eq-Decides a b).0 is)

pools_once : (name : PoolName) (pools : List Pool) → list_any (is_named name) pools ≡ false → ((n : PoolName) → count_by (is_named n) pools ≤ 1) → (n : PoolName) → count_by (is_named n) (pools ++ new_pool name ∷ []) ≤ 1
pools_once name pools free once n = elim (cases_Bool (same_name name n)) [
  | inl same ↦
      let none : count_by (is_named n) pools ≡ 0 = subst (λ (m : PoolName). count_by (is_named m) pools ≡ 0) (named_same name n same) (count_none (is_named name) pools free) in
      omega (arith, count_push (is_named n) pools (new_pool name), ap one_if same, none)
  | inr other ↦ omega (arith, count_push (is_named n) pools (new_pool name), ap one_if other, once n)
]

first_still : (pools : List Pool) (pool : Pool) → option_map (λ (p : Pool). p.name) (slice_get pools 0) ≡ Some Default → option_map (λ (p : Pool). p.name) (slice_get (pools ++ pool ∷ []) 0) ≡ Some Default
first_still [] pool is = absurd (cc is)
first_still (p ∷ pools) pool is = is

pub pool_added : (name : PoolName) (park : Backends) → AreBackends park → list_any (is_named name) park.pools ≡ false → length park.pools < 64 → AreBackends (record park { pools = park.pools ++ new_pool name ∷ [] })
pool_added name park are free few = record {
  servers = still_stand park (park.pools ++ new_pool name ∷ []) park.next_cache (omega (arith, length_push park.pools (new_pool name))) are.servers;
  pools = record {
    first = first_still park.pools (new_pool name) are.pools.first;
    once = pools_once name park.pools free are.pools.once;
    few = omega (arith, length_push park.pools (new_pool name), few);
    caches = λ id. omega (arith, count_push (has_cache id) park.pools (new_pool name), are.pools.caches id);
    given = each_push (λ pool. IsGiven park.next_cache pool.cache) park.pools (new_pool name) are.pools.given tt;
  };
}

count_most : {X : Type 0} (p : X → Bool) (x : X) → count_by p (x ∷ []) ≤ 1
count_most p x = elim (cases_Bool (p x)) [
  | inl passes ↦ omega (arith, count_cons p x [], ap one_if passes)
  | inr fails ↦ omega (arith, count_cons p x [], ap one_if fails)
]

-- at first
pub at_first : AreBackends no_backends
at_first = record {
  servers = record { order = tt; below = tt; once = λ name. omega arith; few = omega arith; stand = tt };
  pools = record {
    first = refl;
    once = λ name. omega (arith, count_most (is_named name) (new_pool Default));
    few = omega arith;
    caches = λ id. omega (arith, count_cons (has_cache id) (new_pool Default) []);
    given = (tt, tt);
  };
}

-- what a park keeps true of its lists, with the places of its servers, and of the up ones of each pool
abbrev pub Whole : ℕ → ℕ → List Loaded → List Pool → List ℕ → List (List ℕ) → Type 0
Whole next next_cache servers pools ranks ups = IsPark servers pools ranks ups × AreBackends (record { next = next; next_cache = next_cache; servers = servers; pools = pools })

-- a list that is written back in place
back : {X Z : Type 0} (P : List X → Type 0) (v : Vec X Z) (new wanted : List X) → new ≡ wanted → length wanted ≡ length v.items → P wanted → P (with_items v new).items
back P v new wanted is long holds = subst P (sym (with_items_is v new (ap length is ∙ long ∙ sym v.ok.0) ∙ is)) holds

up_if : (b : Bool) (change : Loaded → Loaded) (pool : PoolId) → ((l : Loaded) → is_up_in pool (change l) ≡ is_up_in pool l) → (l : Loaded) → is_up_in pool (change_if b change l) ≡ is_up_in pool l
up_if true change pool same l = same l
up_if false change pool same l = refl

-- a change of one server that leaves its number, name, pools, order and whether it is up
pub servers_back : (id : ServerId) (change : Loaded → Loaded) → ((l : Loaded) → (change l).server.order ≡ l.server.order) → ((l : Loaded) → shape (change l) ≡ shape l) → ((pool : PoolId) (l : Loaded) → is_up_in pool (change l) ≡ is_up_in pool l) →
    {Z : Type 0} (servers : Vec Loaded Z) (new : List Loaded) (next next_cache : ℕ) (pools : List Pool) (ranks : List ℕ) (ups : List (List ℕ)) → new ≡ change_server id change servers.items →
    Whole next next_cache servers.items pools ranks ups → Whole next next_cache (with_items servers new).items pools ranks ups
servers_back id change ordered same up servers new next next_cache pools ranks ups is whole =
    let f : Loaded → Loaded = λ l. change_if (is_server id l) change l in
    let keeps : (l : Loaded) → (f l).server.order ≡ l.server.order = λ l. keeps_if (is_server id l) change ordered l in
    back (λ (ls : List Loaded). Whole next next_cache ls pools ranks ups) servers new (change_server id change servers.items) is (length-map servers.items f) (
      park_changed f keeps servers.items pools ranks ups ups whole.0 refl (λ number places there. ups_kept f keeps (record { 0 = number }) (λ l. up_if (is_server id l) change (record { 0 = number }) (up (record { 0 = number })) l) servers.items places (whole.0.up number places there)),
      server_changed id change same (record { next = next; next_cache = next_cache; servers = servers.items; pools = pools }) whole.1,
    )

-- the up servers found anew
pub with_ups : {Y : Type 0} (next next_cache : ℕ) (servers : List Loaded) (pools : List Pool) (ranks : List ℕ) (ups : Vec (List ℕ) Y) (made : List (List ℕ)) → length made ≡ length ups.items → Whole next next_cache servers pools ranks made → Whole next next_cache servers pools ranks (with_items ups made).items
with_ups next next_cache servers pools ranks ups made each whole = back (λ (us : List (List ℕ)). Whole next next_cache servers pools ranks us) ups made made refl each whole

-- a change of one server that leaves its number, name, pools and order, through which the up servers are found anew
changed_back : (id : ServerId) (change : Loaded → Loaded) {Z : Type 0} (servers : Vec Loaded Z) (new : List Loaded) → new ≡ change_server id change servers.items → (with_items servers new).items ≡ change_server id change servers.items
changed_back id change servers new is = with_items_is servers new (ap length is ∙ length-map servers.items (λ l. change_if (is_server id l) change l) ∙ sym servers.ok.0) ∙ is

pub still_ranked : (id : ServerId) (change : Loaded → Loaded) → ((l : Loaded) → (change l).server.order ≡ l.server.order) →
    {Z : Type 0} (servers : Vec Loaded Z) (new seen : List Loaded) (ranks : List ℕ) → new ≡ change_server id change servers.items → seen ≡ (with_items servers new).items → StandAt servers.items ranks (by_order servers.items) → StandAt seen ranks (by_order seen)
still_ranked id change ordered servers new seen ranks is sight stand =
    subst (λ (ls : List Loaded). StandAt ls ranks (by_order ls)) (sym (sight ∙ changed_back id change servers new is)) (stand_changed (λ l. change_if (is_server id l) change l) (λ l. keeps_if (is_server id l) change ordered l) servers.items ranks stand)

-- the places of the up servers of a pool that the changed server does not stand in
in_none : (b : Bool) (change : Loaded → Loaded) (pool : PoolId) (l : Loaded) → is_in pool l.server ≡ b → shape (change l) ≡ shape l → is_up_in pool (change_if (not b) change l) ≡ is_up_in pool l
in_none true change pool l is same = refl
in_none false change pool l is same =
    let still : is_in pool (change l).server ≡ false = ap (λ (s : Shape). list_any (same_pool pool) s.2) same ∙ is in
    rw (still, is) refl

order_unless : (b : Bool) (change : Loaded → Loaded) (l : Loaded) → (change l).server.order ≡ l.server.order → (change_if b change l).server.order ≡ l.server.order
order_unless true change l ordered = ordered
order_unless false change l ordered = refl

other_pool : (id : ServerId) (change : Loaded → Loaded) → ((l : Loaded) → (change l).server.order ≡ l.server.order) → ((l : Loaded) → shape (change l) ≡ shape l) →
    (pool : PoolId) (ls : List Loaded) (at : ℕ) (d : Loaded) (places : List ℕ) → IsPlaceOf id ls at → is_in pool (get_or ls at d).server ≡ false → StandAt ls places (up_servers pool ls) → StandAt (change_server id change ls) places (up_servers pool (change_server id change ls))
other_pool id change ordered same pool ls at d places placed out stand =
    let there : Loaded → Loaded = λ l. change_if (not (is_in pool l.server)) change l in
    let alike : change_server id there ls ≡ change_server id change ls = sym (place_changed id there ls at d placed) ∙ ap (λ (b : Bool). set ls at (change_if (not b) change (get_or ls at d))) out ∙ place_changed id change ls at d placed in
    subst (λ (os : List Loaded). StandAt os places (up_servers pool os)) alike
    (ups_kept (λ l. change_if (is_server id l) there l) (λ l. order_unless (is_server id l) there l (order_unless (not (is_in pool l.server)) change l (ordered l))) pool
    (λ l. up_if (is_server id l) there pool (λ o. in_none (is_in pool o.server) change pool o refl (same o)) l) ls places stand)

one_pool : (id : ServerId) (change : Loaded → Loaded) → ((l : Loaded) → (change l).server.order ≡ l.server.order) → ((l : Loaded) → shape (change l) ≡ shape l) →
    (b : Bool) (pool : PoolId) (ls seen : List Loaded) (at : ℕ) (d : Loaded) (was : Option (List ℕ)) (places : List ℕ) → IsPlaceOf id ls at → is_in pool (get_or ls at d).server ≡ b → seen ≡ change_server id change ls → (was ≡ Some places → StandAt ls places (up_servers pool ls)) → IsRemade b pool seen was places → StandAt seen places (up_servers pool seen)
one_pool id change ordered same true pool ls seen at d was places placed is sight are remade = remade
one_pool id change ordered same false pool ls seen at d was places placed is sight are remade =
    subst (λ (os : List Loaded). StandAt os places (up_servers pool os)) (sym sight) (other_pool id change ordered same pool ls at d places placed is (are remade))

pub servers_made : (id : ServerId) (change : Loaded → Loaded) → ((l : Loaded) → (change l).server.order ≡ l.server.order) → ((l : Loaded) → shape (change l) ≡ shape l) →
    {Y Z : Type 0} (servers : Vec Loaded Z) (new seen : List Loaded) (next next_cache : ℕ) (pools : List Pool) (ranks : List ℕ) (ups : Vec (List ℕ) Y) (lent made : List (List ℕ)) (at : ℕ) (d : Loaded) (ids : List PoolId) → IsPlaceOf id servers.items at → ids ≡ (get_or servers.items at d).server.pools →
    new ≡ change_server id change servers.items → seen ≡ (with_items servers new).items → lent ≡ ups.items → length made ≡ length lent → AreRemade ids seen lent made →
    Whole next next_cache servers.items pools ranks ups.items → Whole next next_cache (with_items servers new).items pools ranks (with_items ups made).items
servers_made id change ordered same servers new seen next next_cache pools ranks ups lent made at d ids placed stood is sight loan each remade whole =
    let f : Loaded → Loaded = λ l. change_if (is_server id l) change l in
    let there : (with_items servers new).items ≡ change_server id change servers.items = changed_back id change servers new is in
    let size : length made ≡ length ups.items = each ∙ ap length loan in
    let up : AreUps seen made = λ number places has. one_pool id change ordered same (list_any (same_pool (record { 0 = number })) ids) (record { 0 = number }) servers.items seen at d (slice_get lent number) places placed
    (ap (list_any (same_pool (record { 0 = number }))) (sym stood)) (sight ∙ there) (λ was. whole.0.up number places (ap (λ (us : List (List ℕ)). slice_get us number) (sym loan) ∙ was)) (remade number places has) in
    with_ups next next_cache (with_items servers new).items pools ranks ups made size (subst (λ (ls : List Loaded). Whole next next_cache ls pools ranks made) (sym there) (
      park_changed f (λ l. keeps_if (is_server id l) change ordered l) servers.items pools ranks ups.items made whole.0 size (subst (λ (ls : List Loaded). AreUps ls made) (sight ∙ there) up),
      server_changed id change same (record { next = next; next_cache = next_cache; servers = servers.items; pools = pools }) whole.1,
    ))

-- a mark that the server has changes nothing
pub mark_stays : (park : Backends) (id : ServerId) (up : Bool) → list_any (is_server id) park.servers ≡ true → change_server id (marked up) park.servers ≡ park.servers → (park, Ok tt) ≡ changed_server (marked up) park id
mark_stays park id up there same = rw (there, same) refl

-- the pools of a server are there, each with its up servers
pub pools_there : (next next_cache : ℕ) (servers : List Loaded) (pools : List Pool) (ranks : List ℕ) (ups lent : List (List ℕ)) (at : ℕ) (d : Loaded) (ids : List PoolId) → Whole next next_cache servers pools ranks ups → at < length servers → ids ≡ (get_or servers at d).server.pools → lent ≡ ups → AllByRecursion (λ id. id.0 < length lent) ids
pools_there next next_cache servers pools ranks ups lent at d ids whole lt stood loan =
    let size : length pools ≡ length lent = sym (ap length loan ∙ whole.0.ups_each) in
    let in_them : StandsIn (length pools) (get_or servers at d).server.pools = each_at (λ l. StandsIn (length pools) l.server.pools) servers at d lt whole.1.servers.stand in
    subst (λ (n : ℕ). AllByRecursion (λ id. id.0 < n) ids) size (subst (λ (xs : List PoolId). AllByRecursion (λ id. id.0 < length pools) xs) (sym stood) in_them.there)

-- a change of one pool
pub pools_back : (change : Pool → Pool) (at : ℕ) {Z : Type 0} (pools : Vec Pool Z) (new : List Pool) (next next_cache given : ℕ) (servers : List Loaded) (ranks : List ℕ) (ups : List (List ℕ)) → new ≡ change_at change at pools.items →
    (AreBackends (record { next = next; next_cache = next_cache; servers = servers; pools = pools.items }) → AreBackends (record { next = next; next_cache = given; servers = servers; pools = change_at change at pools.items })) →
    Whole next next_cache servers pools.items ranks ups → Whole next given servers (with_items pools new).items ranks ups
pools_back change at pools new next next_cache given servers ranks ups is made whole =
    back (λ (ps : List Pool). Whole next given servers ps ranks ups) pools new (change_at change at pools.items) is (changed_long change at pools.items) (
      record { servers_few = whole.0.servers_few; pools_few = omega (arith, changed_long change at pools.items, whole.0.pools_few); ranked = whole.0.ranked; ups_each = whole.0.ups_each ∙ sym (changed_long change at pools.items); up = whole.0.up },
      made whole.1,
    )

-- a pool put after the others, with its up servers
pub pool_pushed : (name : PoolName) (next next_cache : ℕ) (servers : List Loaded) (pools new : List Pool) (ranks : List ℕ) (ups made : List (List ℕ)) (places : List ℕ) → new ≡ pools ++ new_pool name ∷ [] → made ≡ ups ++ places ∷ [] → StandAt servers places (up_servers (record { 0 = length pools }) servers) →
    list_any (is_named name) pools ≡ false → length pools < 64 → Whole next next_cache servers pools ranks ups → Whole next next_cache servers new ranks made
pool_pushed name next next_cache servers pools new ranks ups made places is more stand free few whole =
    subst (λ (ps : List Pool). Whole next next_cache servers ps ranks made) (sym is) (subst (λ (us : List (List ℕ)). Whole next next_cache servers (pools ++ new_pool name ∷ []) ranks us) (sym more) (
      record {
        servers_few = whole.0.servers_few;
        pools_few = omega (arith, length_push pools (new_pool name), few);
        ranked = whole.0.ranked;
        ups_each = omega (arith, length_push pools (new_pool name), length_push ups places, whole.0.ups_each);
        up = ups_pushed servers ups places whole.0.up (subst (λ (k : ℕ). StandAt servers places (up_servers (record { 0 = k }) servers)) (sym whole.0.ups_each) stand);
      },
      pool_added name (record { next = next; next_cache = next_cache; servers = servers; pools = pools }) whole.1 free few,
    ))

-- where no refusal applies
none_if : (b : Bool) (fault : ParkFault) (rest : Option ParkFault) → None ≡ cond b (Some fault) rest → (b ≡ false) × (None ≡ rest)
none_if true fault rest is = absurd (cc is)
none_if false fault rest is = (refl, is)

-- a server put after the others
pub server_pushed : (park : Backends) (spec : ServerSpec) (l : Loaded) (new : List Loaded) → None ≡ server_fault park spec → length spec.pools ≤ 8 → length park.servers < 256 → l ≡ new_server park.next park.pools spec → new ≡ park.servers ++ l ∷ [] → AreBackends park →
    AreBackends (record park { next = park.next + 1; servers = new })
server_pushed park spec l new none short few is made are =
    let there = none_if (lacks_pool park.pools (stated_pools spec.pools)) faults.NoSuchPool _ none in
    let free = none_if (is_some (server_named park.servers spec.name)) faults.NameTaken _ there.1 in
    subst (λ (ls : List Loaded). AreBackends (record park { next = park.next + 1; servers = ls })) (sym (made ∙ ap (λ (o : Loaded). park.servers ++ o ∷ []) is)) (server_added park spec are there.0 short free.0 few)
