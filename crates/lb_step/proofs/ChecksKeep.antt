-- Each server keeps one health check, with its number, and a mark that is what its health says, through each change of the
-- servers and of the checks.
use Rattle.std.proofs.Common.{◌≡◌, ℕ, zero, suc, ◌+◌, ◌<◌, ◌^◌, ◌==◌, ◌||◌, Bool, true, false, not, List, [], ◌∷◌, ◌++◌, length, map, get_or, Option, Some, Result, Ok, Err, cond, refl, sym, ◌∙◌, ap, subst, arith, nat_le}
use Rattle.std.specs.Prelude.{if◌then◌else◌, is_some, slice_get, slice_set}
use Rattle.std.specs.Bool.{beq}
use Rattle.std.specs.List.{AllByRecursion, filter, list_any, position}
use Rattle.std.proofs.lemmas.Bool.Decides.{nat_tests}
use Rattle.std.proofs.lemmas.List.Quantifiers.{position-Some}
use Rattle.lb_wire.specs.declared.ids.CacheId.{CacheId}
use Rattle.lb_wire.specs.declared.ids.ServerId.{ServerId}
use Rattle.lb_wire.specs.declared.ids.PoolId.{PoolId}
use Rattle.lb_health.specs.Health.{Standing, needed, result_of, turned}
use Rattle.lb_health.specs.declared.health.Changed.{Changed}
use Rattle.lb_health.specs.declared.health.Changed.TheVariants as changes
use Rattle.lb_servers.specs.declared.fault.ParkFault.{ParkFault}
use Rattle.lb_servers.specs.declared.fault.ParkFault.TheVariants as faults
use Rattle.lb_servers.specs.declared.pool.Pool.{Pool}
use Rattle.lb_servers.specs.declared.pool.PoolName.{PoolName}
use Rattle.lb_servers.specs.declared.server.Loaded.{Loaded}
use Rattle.lb_servers.specs.declared.server.Mode.{Mode}
use Rattle.lb_servers.specs.declared.server.Server.{Server}
use Rattle.lb_servers.specs.declared.spec.ServerSpec.{ServerSpec}
use Rattle.lb_servers.specs.Park.{Backends, added_pool, added_server, attached, changed_pool, changed_server, detached, lacks, max_pools, max_servers, removed_server, with_server}
use Rattle.lb_servers.specs.Pool.{change_at, is_named, new_pool}
use Rattle.lb_servers.specs.Server.{change_if, change_server, is_server, marked, server_named, with_mode, with_one_less, with_one_more}
use Rattle.lb_servers.specs.Spec.{lacks_pool, new_server, stated_pools}
use Rattle.lb_table.specs.declared.entry.Waiting.{Waiting}
use Rattle.lb_step.specs.declared.check.Check.{Check}
use Rattle.lb_step.specs.declared.check.CheckSpec.{CheckSpec}
use Rattle.lb_step.specs.Upstream.{ByNumber, IsChecked, IsTied, IsUpstream, Upstreams, is_check, new_check, server_of}
use Rattle.lb_step.proofs.Tied.{eq_numbers, left_by, same_number, still_servers, tied_mark, tied_mode, tied_policy, tied_pool, tied_removed, tied_server}

-- what holds of both arms holds of the choice
pub one_of : {X : Type 0} (P : X → Type 0) (b : Bool) (x y : X) → P x → P y → P (if b then x else y)
one_of P true x y first second = first
one_of P false x y first second = second

-- what is seen of servers and their health checks: the next number, the servers, and their checks
abbrev pub Shown : Type 0
Shown = ℕ × List Server × List Check

abbrev pub shown : Upstreams → Shown
shown ups = (ups.next_server, ups.servers, ups.checks)

-- what the servers and their checks keep true
abbrev pub Marks : List Loaded → List Check → Type 0
Marks ls cs = ByNumber (map server_of ls) × IsChecked (map server_of ls) cs

marks_of : (checks : List Check) (t : List Waiting) (park : Backends) → IsUpstream park checks t → Marks park.servers checks
marks_of checks t park is = (is.by_number, is.checked)

with_tie : (park : Backends) (checks : List Check) (t : List Waiting) → IsTied park t → Marks park.servers checks → IsUpstream park checks t
with_tie park checks t tied marks = record { tied = tied; by_number = marks.0; checked = marks.1 }

-- where the servers change in their loads alone, these stay
pub same_marks : (park after : Backends) (checks : List Check) (t new : List Waiting) → map server_of after.servers ≡ map server_of park.servers → IsTied after new →
    IsUpstream park checks t → IsUpstream after checks new
same_marks park after checks t new same tied is =
    with_tie after checks new tied (subst (λ (ss : List Server). ByNumber ss × IsChecked ss checks) (sym same) (marks_of checks t park is))

-- a query that is sent, with the turn of its pool, and one that goes
pub sent_keeps : (park after turned : Backends) (checks : List Check) (t new : List Waiting) (server : ServerId) (pools : List Pool) →
    after ≡ with_server with_one_more server park → turned ≡ record after { pools = pools } → IsTied turned new → IsUpstream park checks t → IsUpstream turned checks new
sent_keeps park after turned checks t new server pools began turn tied is =
    let servers : Backends → List Server = λ p. map server_of p.servers in
    same_marks park turned checks t new (ap servers turn ∙ ap servers began ∙ still_servers with_one_more server park.servers (λ l. refl)) tied is

pub ended_keeps : (park after : Backends) (checks : List Check) (t new : List Waiting) (server : ServerId) →
    after ≡ with_server with_one_less server park → IsTied after new → IsUpstream park checks t → IsUpstream after checks new
ended_keeps park after checks t new server ended tied is =
    let servers : Backends → List Server = λ p. map server_of p.servers in
    same_marks park after checks t new (ap servers ended ∙ still_servers with_one_less server park.servers (λ l. refl)) tied is

-- what an edit leaves goes with these checks
abbrev pub Kept : {A : Type 0} → List Check → Backends × A → Type 0
Kept {A} checks done = Marks done.0.servers checks

-- edits of the pools leave the servers
pub pool_keeps : (checks : List Check) (t : List Waiting) (lacking : Bool) (park : Backends) (name : PoolName) → IsUpstream park checks t → IsUpstream (added_pool lacking park name).0 checks t
pool_keeps checks t lacking park name is =
    let marks = marks_of checks t park is in
    with_tie (added_pool lacking park name).0 checks t (tied_pool t lacking park name is.tied)
    (one_of {X = Backends × Result PoolId ParkFault} (Kept checks) (list_any (is_named name) park.pools) (park, Err faults.NameTaken) _ marks
    (one_of {X = Backends × Result PoolId ParkFault} (Kept checks) (nat_le max_pools (length park.pools)) (park, Err faults.TooMany) _ marks
    (one_of {X = Backends × Result PoolId ParkFault} (Kept checks) lacking (park, Err faults.NoMemory) (record park { pools = park.pools ++ new_pool name ∷ [] }, Ok (record { 0 = length park.pools })) marks marks)))

pub policy_keeps : (checks : List Check) (t : List Waiting) (change : Pool → Pool) (park : Backends) (pool : PoolId) → IsUpstream park checks t → IsUpstream (changed_pool change park pool).0 checks t
policy_keeps checks t change park pool is =
    let marks = marks_of checks t park is in
    with_tie (changed_pool change park pool).0 checks t (tied_policy t change park pool is.tied)
    (one_of {X = Backends × Result (Unit {0}) ParkFault} (Kept checks) (is_some (slice_get park.pools pool.0)) (record park { pools = change_at change pool.0 park.pools }, Ok tt) (park, Err faults.NoSuchPool) marks marks)

-- so do the cache that a pool is given, and the one that is taken off it
pub attached_keeps : (checks : List Check) (t : List Waiting) (park new : Backends) (pool : PoolId) (given : CacheId) → (new, given) ≡ attached park pool → IsUpstream park checks t → IsUpstream new checks t
attached_keeps checks t park new pool given done is =
    let tied : IsTied (attached park pool).0 t = record { loads = is.tied.loads; given = is.tied.given; sent = is.tied.sent; asked = is.tied.asked } in
    subst (λ (p : Backends). IsUpstream p checks t) (sym (left_by new given _ done)) (with_tie (attached park pool).0 checks t tied (marks_of checks t park is))

pub detached_keeps : (checks : List Check) (t : List Waiting) (park new : Backends) (pool : PoolId) (given : Option CacheId) → (new, given) ≡ detached park pool → IsUpstream park checks t → IsUpstream new checks t
detached_keeps checks t park new pool given done is =
    let tied : IsTied (detached park pool).0 t = record { loads = is.tied.loads; given = is.tied.given; sent = is.tied.sent; asked = is.tied.asked } in
    subst (λ (p : Backends). IsUpstream p checks t) (sym (left_by new given _ done)) (with_tie (detached park pool).0 checks t tied (marks_of checks t park is))

-- the servers' numbers are above this one
abbrev Above : ℕ → List Loaded → Type 0
Above n ls = AllByRecursion (λ s. n < s.id.0) (map server_of ls)

-- servers stand by number, one of a greater number after them too
above_more : (n : ℕ) (ls : List Loaded) (l : Loaded) → Above n ls → n < l.server.id.0 → Above n (ls ++ l ∷ [])
above_more n [] l all lt = (lt, tt)
above_more n (x ∷ ls) l all lt = (all.0, above_more n ls l all.1 lt)

by_number_more : (ls : List Loaded) (l : Loaded) → AllByRecursion (λ x. x.server.id.0 < l.server.id.0) ls → ByNumber (map server_of ls) → ByNumber (map server_of (ls ++ l ∷ []))
by_number_more [] l below all = (tt, tt)
by_number_more (x ∷ ls) l below all = (above_more x.server.id.0 ls l all.0 below.0, by_number_more ls l below.1 all.1)

-- a server and its check, after the others
checked_more : (ls : List Loaded) (cs : List Check) (l : Loaded) (c : Check) → c.server ≡ l.server.id → c.health.up ≡ l.server.marked_up →
    IsChecked (map server_of ls) cs → IsChecked (map server_of (ls ++ l ∷ [])) (cs ++ c ∷ [])
checked_more [] [] l c is mark all = (is, mark, tt)
checked_more [] (d ∷ cs) l c is mark all = absurd all
checked_more (x ∷ ls) [] l c is mark all = absurd all
checked_more (x ∷ ls) (d ∷ cs) l c is mark all = (all.0, all.1, checked_more ls cs l c is mark all.2)

-- the checks after a server was added, or refused
abbrev pub checks_with : CheckSpec → List Check → Result ServerId ParkFault → List Check
checks_with check checks (Ok server) = checks ++ new_check server check ∷ []
checks_with check checks (Err fault) = checks

abbrev pub KeptWith : CheckSpec → List Check → Backends × Result ServerId ParkFault → Type 0
KeptWith check checks done = Marks done.0.servers (checks_with check checks done.1)

-- a server added with its check
pub more_marks : (check : CheckSpec) (checks : List Check) (park : Backends) (spec : ServerSpec) → AllByRecursion (λ l. l.server.id.0 < park.next) park.servers → Marks park.servers checks →
    Marks (park.servers ++ new_server park.next park.pools spec ∷ []) (checks ++ new_check (record { 0 = park.next }) check ∷ [])
more_marks check checks park spec given marks =
    let l : Loaded = new_server park.next park.pools spec in
    (by_number_more park.servers l given marks.0, checked_more park.servers checks l (new_check (record { 0 = park.next }) check) refl refl marks.1)

-- or refused
added_marks : (check : CheckSpec) (checks : List Check) (lacking : Bool) (park : Backends) (spec : ServerSpec) → AllByRecursion (λ l. l.server.id.0 < park.next) park.servers →
    Marks park.servers checks → KeptWith check checks (added_server lacking park spec)
added_marks check checks lacking park spec given marks =
    let l : Loaded = new_server park.next park.pools spec in
    let more : Marks (park.servers ++ l ∷ []) (checks ++ new_check (record { 0 = park.next }) check ∷ []) = more_marks check checks park spec given marks in
    one_of (KeptWith check checks) (lacks_pool park.pools (stated_pools spec.pools)) (park, Err faults.NoSuchPool) _ marks
    (one_of (KeptWith check checks) (is_some (server_named park.servers spec.name)) (park, Err faults.NameTaken) _ marks
    (one_of (KeptWith check checks) (nat_le max_servers (length park.servers)) (park, Err faults.TooMany) _ marks
    (one_of (KeptWith check checks) (park.next == 2 ^ 64) (park, Err faults.NoMoreIds) _ marks
    (one_of (KeptWith check checks) lacking (park, Err faults.NoMemory) (record park { next = park.next + 1; servers = park.servers ++ l ∷ [] }, Ok (record { 0 = park.next })) marks more))))

pub added_keeps : (check : CheckSpec) (checks : List Check) (t : List Waiting) (park new : Backends) (spec : ServerSpec) (given : Result ServerId ParkFault) →
    (new, given) ≡ added_server (lacks given) park spec → IsUpstream park checks t → IsUpstream new (checks_with check checks given) t
added_keeps check checks t park new spec given done is =
    with_tie new (checks_with check checks given) t (subst (λ (p : Backends). IsTied p t) (sym (left_by new given _ done)) (tied_server t (lacks given) park spec is.tied))
    (subst (KeptWith check checks) (sym done) (added_marks check checks (lacks given) park spec is.tied.given (marks_of checks t park is)))

-- servers that are left stand by number
above_if : (n : ℕ) (keeps : Bool) (l : Loaded) (ls : List Loaded) → n < l.server.id.0 → Above n ls → Above n (cond keeps (l ∷ ls) ls)
above_if n true l ls lt all = (lt, all)
above_if n false l ls lt all = all

above_left : (n : ℕ) (keeps : Loaded → Bool) (ls : List Loaded) → Above n ls → Above n (filter keeps ls)
above_left n keeps [] all = tt
above_left n keeps (l ∷ ls) all = above_if n (keeps l) l (filter keeps ls) all.0 (above_left n keeps ls all.1)

by_number_if : (keeps : Bool) (l : Loaded) (ls : List Loaded) → Above l.server.id.0 ls → ByNumber (map server_of ls) → ByNumber (map server_of (cond keeps (l ∷ ls) ls))
by_number_if true l ls above all = (above, all)
by_number_if false l ls above all = all

by_number_left : (keeps : Loaded → Bool) (ls : List Loaded) → ByNumber (map server_of ls) → ByNumber (map server_of (filter keeps ls))
by_number_left keeps [] all = tt
by_number_left keeps (l ∷ ls) all = by_number_if (keeps l) l (filter keeps ls) (above_left l.server.id.0 keeps ls all.0) (by_number_left keeps ls all.1)

-- a server and its check stay both, or go both
checked_if : (a b : Bool) (l : Loaded) (c : Check) (ls : List Loaded) (cs : List Check) → a ≡ b → c.server ≡ l.server.id → c.health.up ≡ l.server.marked_up →
    IsChecked (map server_of ls) cs → IsChecked (map server_of (cond a (l ∷ ls) ls)) (cond b (c ∷ cs) cs)
checked_if true true l c ls cs same is mark all = (is, mark, all)
checked_if false false l c ls cs same is mark all = all
checked_if true false l c ls cs same is mark all = absurd (cc same)
checked_if false true l c ls cs same is mark all = absurd (cc same)

checked_left : (id : ServerId) (ls : List Loaded) (cs : List Check) → IsChecked (map server_of ls) cs →
    IsChecked (map server_of (filter (λ l. not (is_server id l)) ls)) (filter (λ c. not (is_check id c)) cs)
checked_left id [] [] all = tt
checked_left id [] (c ∷ cs) all = absurd all
checked_left id (l ∷ ls) [] all = absurd all
checked_left id (l ∷ ls) (c ∷ cs) all =
    checked_if (not (is_server id l)) (not (is_check id c)) l c _ _ (ap (λ (s : ServerId). not (s.0 == id.0)) (sym all.0)) all.0 all.1 (checked_left id ls cs all.2)

-- the checks after a server was taken out, or was not there
abbrev pub checks_without : ServerId → List Check → Result (Unit {0}) ParkFault → List Check
checks_without id checks (Ok done) = filter (λ c. not (is_check id c)) checks
checks_without id checks (Err fault) = checks

abbrev KeptWithout : ServerId → List Check → Backends × Result (Unit {0}) ParkFault → Type 0
KeptWithout id checks done = Marks done.0.servers (checks_without id checks done.1)

-- a server taken out with its check, or not there
pub left_marks : (checks : List Check) (park : Backends) (id : ServerId) → Marks park.servers checks → Marks (filter (λ l. not (is_server id l)) park.servers) (filter (λ c. not (is_check id c)) checks)
left_marks checks park id marks = (by_number_left _ park.servers marks.0, checked_left id park.servers checks marks.1)

removed_marks : (checks : List Check) (park : Backends) (id : ServerId) → Marks park.servers checks → KeptWithout id checks (removed_server park id)
removed_marks checks park id marks =
    one_of (KeptWithout id checks) (list_any (is_server id) park.servers) (record park { servers = filter (λ l. not (is_server id l)) park.servers }, Ok tt) (park, Err faults.NoSuchServer)
    (left_marks checks park id marks) marks

pub removed_keeps : (checks : List Check) (t : List Waiting) (park new : Backends) (id : ServerId) (given : Result (Unit {0}) ParkFault) →
    (new, given) ≡ removed_server park id → IsUpstream park checks t → IsUpstream new (checks_without id checks given) t
removed_keeps checks t park new id given done is =
    with_tie new (checks_without id checks given) t (subst (λ (p : Backends). IsTied p t) (sym (left_by new given _ done)) (tied_removed t park id is.tied))
    (subst (KeptWithout id checks) (sym done) (removed_marks checks park id (marks_of checks t park is)))

-- servers that are changed, but not in their numbers, stand by number
above_still : (n : ℕ) (change : Loaded → Loaded) (id : ServerId) (ls : List Loaded) → ((l : Loaded) → (change l).server.id ≡ l.server.id) → Above n ls → Above n (change_server id change ls)
above_still n change id [] keeps all = tt
above_still n change id (l ∷ ls) keeps all = (subst (λ (s : ServerId). n < s.0) (sym (same_number change (is_server id l) l (keeps l))) all.0, above_still n change id ls keeps all.1)

by_number_still : (change : Loaded → Loaded) (id : ServerId) (ls : List Loaded) → ((l : Loaded) → (change l).server.id ≡ l.server.id) →
    ByNumber (map server_of ls) → ByNumber (map server_of (change_server id change ls))
by_number_still change id [] keeps all = tt
by_number_still change id (l ∷ ls) keeps all =
    (subst (λ (s : ServerId). Above s.0 (change_server id change ls)) (sym (same_number change (is_server id l) l (keeps l))) (above_still l.server.id.0 change id ls keeps all.0), by_number_still change id ls keeps all.1)

-- a mode is no mark
same_mark : (mode : Mode) (b : Bool) (l : Loaded) → (change_if b (with_mode mode) l).server.marked_up ≡ l.server.marked_up
same_mark mode true l = refl
same_mark mode false l = refl

checked_mode : (mode : Mode) (id : ServerId) (ls : List Loaded) (cs : List Check) → IsChecked (map server_of ls) cs → IsChecked (map server_of (change_server id (with_mode mode) ls)) cs
checked_mode mode id [] [] all = tt
checked_mode mode id [] (c ∷ cs) all = absurd all
checked_mode mode id (l ∷ ls) [] all = absurd all
checked_mode mode id (l ∷ ls) (c ∷ cs) all =
    (all.0 ∙ sym (same_number (with_mode mode) (is_server id l) l refl), all.1 ∙ sym (same_mark mode (is_server id l) l), checked_mode mode id ls cs all.2)

-- a server put into a mode, or not there
pub put_marks : (checks : List Check) (mode : Mode) (park : Backends) (id : ServerId) → Marks park.servers checks → Marks (change_server id (with_mode mode) park.servers) checks
put_marks checks mode park id marks = (by_number_still (with_mode mode) id park.servers (λ l. refl) marks.0, checked_mode mode id park.servers checks marks.1)

mode_marks : (checks : List Check) (mode : Mode) (park : Backends) (id : ServerId) → Marks park.servers checks → Kept checks (changed_server (with_mode mode) park id)
mode_marks checks mode park id marks =
    one_of {X = Backends × Result (Unit {0}) ParkFault} (Kept checks) (list_any (is_server id) park.servers) (record park { servers = change_server id (with_mode mode) park.servers }, Ok tt) (park, Err faults.NoSuchServer)
    (put_marks checks mode park id marks) marks

pub mode_keeps : (checks : List Check) (t : List Waiting) (mode : Mode) (park : Backends) (id : ServerId) → IsUpstream park checks t → IsUpstream (changed_server (with_mode mode) park id).0 checks t
mode_keeps checks t mode park id is = with_tie (changed_server (with_mode mode) park id).0 checks t (tied_mode t mode park id is.tied) (mode_marks checks mode park id (marks_of checks t park is))

-- the health after a change
abbrev pub up_after : Changed → Bool → Bool
up_after changes.No up = up
up_after changes.Up up = true
up_after changes.Down up = false

turned_up : (up : Bool) → not up ≡ up_after (if up then changes.Down else changes.Up) up
turned_up true = refl
turned_up false = refl

-- a result leaves the health that its change says
pub result_says : (h new : Standing) (ok : Bool) (change kind : Changed) → (new, change) ≡ result_of h ok → change ≡ kind → new.up ≡ up_after kind h.up
result_says h new ok change kind is this =
    let Says : Standing × Changed → Type 0 = λ r. r.0.up ≡ up_after r.1 h.up in
    let says : Says (result_of h ok) =
    one_of Says (beq ok h.up) (record h { against = 0 }, changes.No) _ refl
    (one_of Says (h.against + 1 == needed h) (record h { up = not h.up; against = 0 }, turned h) (record h { against = h.against + 1 }, changes.No) (turned_up h.up) refl) in
    subst Says (sym is) says ∙ ap (λ (c : Changed). up_after c h.up) this

-- a check that is changed, but not in its number and in whether it is up
checked_set : (ls : List Loaded) (cs : List Check) (at : ℕ) (check after : Check) → get_or cs at check ≡ check → after.server ≡ check.server → after.health.up ≡ check.health.up → at < length cs →
    IsChecked (map server_of ls) cs → IsChecked (map server_of ls) (slice_set cs at after)
checked_set ls [] at check after here same up lt all = absurd (omega (arith, lt))
checked_set [] (c ∷ cs) at check after here same up lt all = absurd all
checked_set (l ∷ ls) (c ∷ cs) zero check after here same up lt all = (same ∙ ap (λ (x : Check). x.server) (sym here) ∙ all.0, up ∙ ap (λ (x : Check). x.health.up) (sym here) ∙ all.1, all.2)
checked_set (l ∷ ls) (c ∷ cs) (suc at) check after here same up lt all = (all.0, all.1, checked_set ls cs at check after here same up (omega (arith, lt)) all.2)

pub check_marks : (checks : List Check) (ls : List Loaded) (at : ℕ) (check after : Check) → check ≡ get_or checks at check → after.server ≡ check.server → after.health.up ≡ check.health.up →
    at < length checks → Marks ls checks → Marks ls (slice_set checks at after)
check_marks checks ls at check after here same now lt marks = (marks.0, checked_set ls checks at check after (sym here) same now lt marks.1)

pub check_keeps : (checks : List Check) (t : List Waiting) (park : Backends) (at : ℕ) (check after : Check) →
    check ≡ get_or checks at check → after.server ≡ check.server → after.health.up ≡ check.health.up → at < length checks →
    IsUpstream park checks t → IsUpstream park (slice_set checks at after) t
check_keeps checks t park at check after here same now lt is =
    with_tie park (slice_set checks at after) t is.tied (check_marks checks park.servers at check after here same now lt (marks_of checks t park is))

-- a server is marked, or stays
marked_one : (up : Bool) (b : Bool) (l : Loaded) → b ≡ true → up ≡ (change_if b (marked up) l).server.marked_up
marked_one up true l is = refl
marked_one up false l is = absurd (cc is)

unmarked_one : (up : Bool) (b : Bool) (l : Loaded) → b ≡ false → change_if b (marked up) l ≡ l
unmarked_one up true l is = absurd (cc is)
unmarked_one up false l is = refl

-- servers of greater numbers stay
unmarked : (up : Bool) (server : ServerId) (n : ℕ) (ls : List Loaded) → n ≡ server.0 → Above n ls → change_server server (marked up) ls ≡ ls
unmarked up server n [] is all = refl
unmarked up server n (l ∷ ls) is all =
    let lt : n < l.server.id.0 = all.0 in
    let other : is_server server l ≡ false = grind (arith, nat_tests, is, lt) in
    ap (λ (x : Loaded). x ∷ change_server server (marked up) ls) (unmarked_one up (is_server server l) l other)
    ∙ ap (λ (xs : List Loaded). l ∷ xs) (unmarked up server n ls is all.1)

-- the checks of servers of greater numbers have greater numbers
above_at : (n : ℕ) (ls : List Loaded) (cs : List Check) (at : ℕ) (d : Check) → Above n ls → at < length cs → IsChecked (map server_of ls) cs → n < (get_or cs at d).server.0
above_at n ls [] at d above lt all = absurd (omega (arith, lt))
above_at n [] (c ∷ cs) at d above lt all = absurd all
above_at n (l ∷ ls) (c ∷ cs) zero d above lt all = subst (λ (s : ServerId). n < s.0) (sym all.0) above.0
above_at n (l ∷ ls) (c ∷ cs) (suc at) d above lt all = above_at n ls cs at d above.1 (omega (arith, lt)) all.2

-- the server of the changed check is marked, and no other one
checked_mark : (up : Bool) (server : ServerId) (ls : List Loaded) (cs : List Check) (at : ℕ) (check after : Check) → get_or cs at check ≡ check → check.server.0 ≡ server.0 → after.server ≡ check.server → after.health.up ≡ up →
    at < length cs → ByNumber (map server_of ls) → IsChecked (map server_of ls) cs → IsChecked (map server_of (change_server server (marked up) ls)) (slice_set cs at after)
checked_mark up server ls [] at check after here its same is lt numbers all = absurd (omega (arith, lt))
checked_mark up server [] (c ∷ cs) at check after here its same is lt numbers all = absurd all
checked_mark up server (l ∷ ls) (c ∷ cs) zero check after here its same is lt numbers all =
    let number : l.server.id ≡ check.server = sym all.0 ∙ ap (λ (x : Check). x.server) here in
    let place : l.server.id.0 ≡ server.0 = ap (λ (s : ServerId). s.0) number ∙ its in
    let this : is_server server l ≡ true = grind (arith, nat_tests, place) in (
      same ∙ sym number ∙ sym (same_number (marked up) (is_server server l) l refl),
      is ∙ marked_one up (is_server server l) l this,
      subst (λ (xs : List Loaded). IsChecked (map server_of xs) cs) (sym (unmarked up server l.server.id.0 ls place numbers.0)) all.2,
    )
checked_mark up server (l ∷ ls) (c ∷ cs) (suc at) check after here its same is lt numbers all =
    let above : l.server.id.0 < (get_or cs at check).server.0 = above_at l.server.id.0 ls cs at check numbers.0 (omega (arith, lt)) all.2 in
    let less : l.server.id.0 < server.0 = subst (λ (n : ℕ). l.server.id.0 < n) its (subst (λ (x : Check). l.server.id.0 < x.server.0) here above) in
    let other : is_server server l ≡ false = grind (arith, nat_tests, less) in
    let stays = unmarked_one up (is_server server l) l other in (
      all.0 ∙ ap (λ (x : Loaded). x.server.id) (sym stays),
      all.1 ∙ ap (λ (x : Loaded). x.server.marked_up) (sym stays),
      checked_mark up server ls cs at check after here its same is (omega (arith, lt)) numbers.1 all.2,
    )

-- a test holds of one or of the rest
this_or : (a b : Bool) → a ≡ true → (a || b) ≡ true
this_or true b is = refl
this_or false b is = absurd (cc is)

or_that : (a b : Bool) → b ≡ true → (a || b) ≡ true
or_that true b is = refl
or_that false b is = is

-- the server of a check is there
is_there : (server : ServerId) (ls : List Loaded) (cs : List Check) (at : ℕ) (d : Check) → at < length cs → (get_or cs at d).server.0 ≡ server.0 → IsChecked (map server_of ls) cs → list_any (is_server server) ls ≡ true
is_there server ls [] at d lt its all = absurd (omega (arith, lt))
is_there server [] (c ∷ cs) at d lt its all = absurd all
is_there server (l ∷ ls) (c ∷ cs) zero d lt its all =
    let place : l.server.id.0 ≡ server.0 = ap (λ (s : ServerId). s.0) (sym all.0) ∙ its in
    let this : is_server server l ≡ true = grind (arith, nat_tests, place) in
    this_or (is_server server l) (list_any (is_server server) ls) this
is_there server (l ∷ ls) (c ∷ cs) (suc at) d lt its all =
    or_that (is_server server l) (list_any (is_server server) ls) (is_there server ls cs at d (omega (arith, lt)) its all.2)

-- what holds of the first arm holds of the choice where the test holds
first_of : {X : Type 0} (P : X → Type 0) (b : Bool) (x y : X) → b ≡ true → P x → P (if b then x else y)
first_of P true x y is first = first
first_of P false x y is first = absurd (cc is)

-- the check of a server changed to this health, and the server marked so
pub mark_marks : (checks : List Check) (up : Bool) (park : Backends) (server : ServerId) (at : ℕ) (check after : Check) →
    Some at ≡ position (is_check server) checks → check ≡ get_or checks at check → after.server ≡ check.server → after.health.up ≡ up →
    Marks park.servers checks → Kept (slice_set checks at after) (changed_server (marked up) park server)
mark_marks checks up park server at check after place here same now marks =
    let found = position-Some (is_check server) checks at check (sym place) in
    let its : (get_or checks at check).server.0 ≡ server.0 = eq_numbers _ _ found.1 in
    let own : check.server.0 ≡ server.0 = ap (λ (x : Check). x.server.0) here ∙ its in
    first_of {X = Backends × Result (Unit {0}) ParkFault} (Kept (slice_set checks at after)) (list_any (is_server server) park.servers) (record park { servers = change_server server (marked up) park.servers }, Ok tt) (park, Err faults.NoSuchServer)
    (is_there server park.servers checks at check found.0 its marks.1)
    (by_number_still (marked up) server park.servers (λ l. refl) marks.0, checked_mark up server park.servers checks at check after (sym here) own same now found.0 marks.0 marks.1)

pub mark_keeps : (checks : List Check) (t : List Waiting) (up : Bool) (park : Backends) (server : ServerId) (at : ℕ) (check after : Check) →
    Some at ≡ position (is_check server) checks → check ≡ get_or checks at check → after.server ≡ check.server → after.health.up ≡ up →
    IsUpstream park checks t → IsUpstream (changed_server (marked up) park server).0 (slice_set checks at after) t
mark_keeps checks t up park server at check after place here same now is =
    with_tie (changed_server (marked up) park server).0 (slice_set checks at after) t (tied_mark t up park server is.tied) (mark_marks checks up park server at check after place here same now (marks_of checks t park is))
