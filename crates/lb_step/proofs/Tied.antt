-- Each server's count is the number of its outstanding queries, through each change of the table of servers and of the
-- outstanding list.
use Rattle.std.proofs.Common.{◌≡◌, ℕ, ◌+◌, ◌<◌, ◌^◌, ◌==◌, ◌&&◌, Bool, true, false, not, IsTrue, List, [], ◌∷◌, ◌++◌, length, map, get_or, Option, Some, None, cond, inl, inr, refl, sym, ◌∙◌, ap, subst, arith, nat_le, Ok, Err}
use Rattle.std.specs.Prelude.{if◌then◌else◌, is_some, slice_get, option_map}
use Rattle.std.specs.List.{AllByRecursion, All, count_by, filter, find, insert, list_any, position, position_or_len, remove}
use Rattle.std.proofs.lemmas.Bool.Decides.{nat_tests}
use Rattle.std.proofs.lemmas.Bool.{le-ltb, lt-ltb, cond-true, cond-false}
use Rattle.std.proofs.lemmas.List.Folds.{find_at}
use Rattle.std.proofs.lemmas.List.Sums.{sum_by-insert, sum_by-remove, sum_by-cons, count_by-le-length, passes_at_first}
use Rattle.std.proofs.lemmas.Option.{slice_get_cases}
use Rattle.lb_wire.specs.declared.ids.ServerId.{ServerId}
use Rattle.lb_wire.specs.declared.ids.PoolId.{PoolId}
use Rattle.lb_servers.specs.declared.fault.ParkFault.TheVariants as faults
use Rattle.lb_servers.specs.declared.pool.Pool.{Pool}
use Rattle.lb_servers.specs.declared.pool.PoolName.{PoolName}
use Rattle.lb_servers.specs.declared.server.Mode.{Mode}
use Rattle.lb_servers.specs.declared.server.Server.{Server}
use Rattle.lb_servers.specs.declared.server.Loaded.{Loaded}
use Rattle.lb_servers.specs.declared.spec.ServerSpec.{ServerSpec}
use Rattle.lb_servers.specs.Park.{Backends, added_pool, added_server, changed_pool, changed_server, max_pools, max_servers, removed_server, with_server}
use Rattle.lb_servers.specs.Pool.{change_at, is_named, new_pool}
use Rattle.lb_servers.specs.Server.{change_if, change_server, is_server, marked, server_named, with_mode, with_one_less, with_one_more}
use Rattle.lb_servers.specs.Spec.{lacks_pool, new_server, stated_pools}
use Rattle.lb_table.specs.declared.place.Place.{Place}
use Rattle.lb_table.specs.declared.entry.Entry.{Entry}
use Rattle.lb_table.specs.declared.entry.Waiting.{Waiting}
use Rattle.lb_table.specs.Table.{due, entered, entry_at, is_at, is_due, is_for, taken_at, waits_at, without_due}
use Rattle.lb_step.specs.Upstream.{Upstreams, IsAsked, IsTied, backends_of, loaded_by, on_backends, server_of, turned_if, with_backends, with_entry, with_turn}
use Rattle.lb_cache.specs.Caches.{CacheLists}
use Rattle.lb_step.specs.declared.check.Check.{Check}
use Rattle.lb_step.specs.Expiry.{without_expired}
use Rattle.lb_step.specs.Reply.{without}
use Rattle.lb_step.proofs.Each.{each_append, each_at, each_filter, each_insert, each_remove, each_weaker, all_of_each}

-- a server's count is right
abbrev pub Counts : List Waiting → Loaded → Type 0
Counts t l = l.outstanding ≡ count_by (is_for l.server.id) t

-- counted anew, the servers are those that the table has
pub counted_anew : (t : List Waiting) (servers : List Loaded) → AllByRecursion (Counts t) servers → map (loaded_by t) (map server_of servers) ≡ servers
counted_anew t [] all = refl
counted_anew t (l ∷ servers) all =
    ap (λ (n : ℕ). record l { outstanding = n } ∷ map (loaded_by t) (map server_of servers)) (sym all.0)
    ∙ ap (λ (ls : List Loaded). l ∷ ls) (counted_anew t servers all.1)

-- an edit of the table of servers is that edit of the servers with their loads counted anew
pub on_tied : {A : Type 0} (ups : Upstreams) (park new : Backends) (given : A) (edit : Backends → Backends × A) →
    backends_of ups ≡ park → (new, given) ≡ edit park → (with_backends new ups, given) ≡ on_backends ups (edit (backends_of ups))
on_tied ups park new given edit tied is = ap (on_backends ups) is ∙ ap (λ (p : Backends). on_backends ups (edit p)) (sym tied)

-- what a table of servers, a list of queries and caches are together
abbrev pub seen_as : ℕ → CacheLists → List Check → Backends → List Waiting → Upstreams
seen_as timeout caches checks park t = record { timeout = timeout; next_server = park.next; next_cache = park.next_cache; servers = map server_of park.servers; checks = checks; pools = park.pools; caches = caches.caches; outstanding = t; kept = caches.kept }

-- the table of servers with their loads counted anew is the table
pub counted_tied : (timeout : ℕ) (caches : CacheLists) (checks : List Check) (park : Backends) (t : List Waiting) → IsTied park t → backends_of (seen_as timeout caches checks park t) ≡ park
counted_tied timeout caches checks park t tied = ap (λ (servers : List Loaded). record park { servers = servers }) (counted_anew t park.servers tied.loads)

-- what an edit leaves
pub left_by : {A : Type 0} (new : Backends) (given : A) (done : Backends × A) → (new, given) ≡ done → new ≡ done.0
left_by {A} new given done is = ap (λ (d : Backends × A). d.0) is

-- whether one number is another, asked the other way round
eq_round : (a b : ℕ) → (a == b) ≡ (b == a)
eq_round a b = grind (arith, nat_tests)

pub eq_numbers : (a b : ℕ) → (a == b) ≡ true → a ≡ b
eq_numbers a b is = grind (arith, nat_tests, is)

-- a count with one more query
counted_in : (t : List Waiting) (at : ℕ) (w : Waiting) (id : ServerId) (here : Bool) → (w.place.server.0 == id.0) ≡ here → count_by (is_for id) (insert t at w) ≡ count_by (is_for id) t + cond here 1 0
counted_in t at w id here is = sum_by-insert (λ x. cond (is_for id x) 1 0) t at w ∙ ap (λ (b : Bool). count_by (is_for id) t + cond b 1 0) is

one_more : (t : List Waiting) (at : ℕ) (w : Waiting) (server : ServerId) (l : Loaded) (here : Bool) →
    w.place.server ≡ server → is_server server l ≡ here → Counts t l → Counts (insert t at w) (change_if here with_one_more l)
one_more t at w server l true place is counts =
    ap (λ (n : ℕ). n + 1) counts ∙ sym (counted_in t at w l.server.id true (ap (λ (s : ServerId). s.0 == l.server.id.0) place ∙ eq_round server.0 l.server.id.0 ∙ is))
one_more t at w server l false place is counts =
    counts ∙ sym (counted_in t at w l.server.id false (ap (λ (s : ServerId). s.0 == l.server.id.0) place ∙ eq_round server.0 l.server.id.0 ∙ is) ∙ omega (arith))

all_one_more : (t : List Waiting) (at : ℕ) (w : Waiting) (server : ServerId) (servers : List Loaded) →
    w.place.server ≡ server → AllByRecursion (Counts t) servers → AllByRecursion (Counts (insert t at w)) (change_server server with_one_more servers)
all_one_more t at w server [] place all = tt
all_one_more t at w server (l ∷ servers) place all = (one_more t at w server l (is_server server l) place refl all.0, all_one_more t at w server servers place all.1)

-- a changed server keeps its number
pub same_number : (change : Loaded → Loaded) (b : Bool) (l : Loaded) → (change l).server.id ≡ l.server.id → (change_if b change l).server.id ≡ l.server.id
same_number change true l is = is
same_number change false l is = refl

pub given_still : (next : ℕ) (change : Loaded → Loaded) (id : ServerId) (servers : List Loaded) → ((l : Loaded) → (change l).server.id ≡ l.server.id) →
    AllByRecursion (λ l. l.server.id.0 < next) servers → AllByRecursion (λ l. l.server.id.0 < next) (change_server id change servers)
given_still next change id [] keeps all = tt
given_still next change id (l ∷ servers) keeps all =
    (subst (λ (s : ServerId). s.0 < next) (sym (same_number change (is_server id l) l (keeps l))) all.0, given_still next change id servers keeps all.1)

-- a query that is sent to a server, and counted there
pub tied_in : (park : Backends) (t : List Waiting) (place : Place) (entry : Entry) → IsTied park t → place.server.0 < park.next → IsAsked entry →
    IsTied (with_server with_one_more place.server park) (entered t place entry)
tied_in park t place entry tied given asked =
    record {
      loads = all_one_more t _ (record { place = place; entry = entry }) place.server park.servers refl tied.loads;
      given = given_still park.next with_one_more place.server park.servers (λ l. refl) tied.given;
      sent = each_insert (λ w. w.place.server.0 < park.next) t _ _ tied.sent given;
      asked = each_insert (λ w. IsAsked w.entry) t _ _ tied.asked asked;
    }

-- no count reaches the end of a number
pub room_to_count : (park : Backends) (t : List Waiting) (server : ServerId) → IsTied park t → length t + 1 < 2 ^ 64 → All (λ l. IsTrue (is_server server l) → l.outstanding + 1 < 2 ^ 64) park.servers
room_to_count park t server tied short =
    let Room : Loaded → Type 0 = λ l. IsTrue (is_server server l) → l.outstanding + 1 < 2 ^ 64 in
    let room : (l : Loaded) → Counts t l → Room l = λ l counts is. omega (arith, counts, short, count_by-le-length (is_for l.server.id) t) in
    all_of_each Room park.servers (each_weaker (Counts t) Room park.servers room tied.loads)

-- what is found in a list: where it stands, and that it passes
pub record FoundAt {X Y : Type 0} (p : X → Bool) (f : X → Y) (xs : List X) (y : Y) : Type 0 where
  pub at : ℕ
  pub x : X
  pub where_is : position p xs ≡ Some at
  pub within : at < length xs
  pub here : get_or xs at x ≡ x
  pub passes : p x ≡ true
  pub gives : f x ≡ y

pub none_some : {X : Type 0} (x : X) → None ≡ Some x → ⊥
none_some x is = cc is

pub some_same : {X : Type 0} (x y : X) → Some x ≡ Some y → x ≡ y
some_same x y is = cc is

-- what is found stands at the first place that passes
pub found_at : {X Y : Type 0} (p : X → Bool) (f : X → Y) (xs : List X) (y : Y) → option_map f (find p xs) ≡ Some y → FoundAt p f xs y
found_at {X} {Y} p f xs y is =
    let n = position_or_len p xs in
    elim ((slice_get_cases xs n).1) [
      | inl h ↦
          let x : X = h.0 in
          let lt : n < length xs = h.1 in
          let found : find p xs ≡ Some x = find_at p xs ∙ h.2 in
          record {
            at = n;
            x = x;
            where_is = cond-true _ _ _ (lt-ltb n (length xs) lt);
            within = lt;
            here = h.3;
            passes = subst (λ (z : X). p z ≡ true) h.3 (passes_at_first p xs x lt);
            gives = some_same (f x) y (sym (ap (option_map f) found) ∙ is);
          }
      | inr h ↦ absurd (none_some y (sym (ap (option_map f) (find_at p xs ∙ h.1)) ∙ is))
    ]

-- where none is found, none goes
some_none : {Y : Type 0} (y : Y) → Some y ≡ None → ⊥
some_none y is = cc is

pub none_goes : (t : List Waiting) (place : Place) → entry_at t place ≡ None → taken_at t (waits_at place t) ≡ t
none_goes t place is =
    let n = position_or_len (is_at place) t in
    elim ((slice_get_cases t n).1) [
      | inl h ↦ absurd (some_none h.0.entry (sym (ap (option_map (λ w. w.entry)) (find_at (is_at place) t ∙ h.2)) ∙ is))
      | inr h ↦ ap (taken_at t) (cond-false _ _ _ (le-ltb n (length t) h.0))
    ]

first_true : (a b : Bool) → (a && b) ≡ true → a ≡ true
first_true true b is = refl
first_true false b is = absurd (cc is)

-- a count with one query less
counted_out : (t : List Waiting) (at : ℕ) (w : Waiting) (id : ServerId) (here : Bool) → at < length t → get_or t at w ≡ w → (w.place.server.0 == id.0) ≡ here →
    count_by (is_for id) (remove t at) + cond here 1 0 ≡ count_by (is_for id) t
counted_out t at w id here lt there is =
    sym (ap (λ (b : Bool). count_by (is_for id) (remove t at) + cond b 1 0) is)
    ∙ sym (ap (λ (x : Waiting). count_by (is_for id) (remove t at) + cond (is_for id x) 1 0) there)
    ∙ sum_by-remove (λ x. cond (is_for id x) 1 0) t at w lt

one_less : (t : List Waiting) (at : ℕ) (w : Waiting) (server : ServerId) (l : Loaded) (here : Bool) → at < length t → get_or t at w ≡ w →
    w.place.server.0 ≡ server.0 → is_server server l ≡ here → Counts t l → Counts (remove t at) (change_if here with_one_less l)
one_less t at w server l true lt there place is counts =
    let out = counted_out t at w l.server.id true lt there (ap (λ (n : ℕ). n == l.server.id.0) place ∙ eq_round server.0 l.server.id.0 ∙ is) in
    omega (arith, counts, out)
one_less t at w server l false lt there place is counts =
    let out = counted_out t at w l.server.id false lt there (ap (λ (n : ℕ). n == l.server.id.0) place ∙ eq_round server.0 l.server.id.0 ∙ is) in
    omega (arith, counts, out)

all_one_less : (t : List Waiting) (at : ℕ) (w : Waiting) (server : ServerId) (servers : List Loaded) → at < length t → get_or t at w ≡ w →
    w.place.server.0 ≡ server.0 → AllByRecursion (Counts t) servers → AllByRecursion (Counts (remove t at)) (change_server server with_one_less servers)
all_one_less t at w server [] lt there place all = tt
all_one_less t at w server (l ∷ servers) lt there place all =
    (one_less t at w server l (is_server server l) lt there place refl all.0, all_one_less t at w server servers lt there place all.1)

-- a query that is taken out, and counted out at its server
tied_less : (park : Backends) (t : List Waiting) (at : ℕ) (w : Waiting) (server : ServerId) → at < length t → get_or t at w ≡ w → w.place.server.0 ≡ server.0 → IsTied park t →
    IsTied (with_server with_one_less server park) (remove t at)
tied_less park t at w server lt there place tied = record {
  loads = all_one_less t at w server park.servers lt there place tied.loads;
  given = given_still park.next with_one_less server park.servers (λ l. refl) tied.given;
  sent = each_remove (λ w. w.place.server.0 < park.next) t at tied.sent;
  asked = each_remove (λ w. IsAsked w.entry) t at tied.asked;
}

pub tied_out : (park : Backends) (t : List Waiting) (place : Place) (entry : Entry) → IsTied park t → entry_at t place ≡ Some entry →
    IsTied (with_server with_one_less place.server park) (taken_at t (waits_at place t))
tied_out park t place entry tied is =
    let f = found_at (is_at place) (λ w. w.entry) t entry is in
    let server : f.x.place.server.0 ≡ place.server.0 = eq_numbers f.x.place.server.0 place.server.0 (first_true _ _ f.passes) in
    subst (λ (at : Option ℕ). IsTied (with_server with_one_less place.server park) (taken_at t at)) (sym f.where_is) (tied_less park t f.at f.x place.server f.within f.here server tied)

-- the query that is given up first, taken out
tied_due : (park : Backends) (t : List Waiting) (now : ℕ) (w : Waiting) → IsTied park t → due now t ≡ Some w → IsTied (with_server with_one_less w.place.server park) (without_due now t)
tied_due park t now w tied is =
    let f = found_at (is_due now) (λ w. w) t w (ap (option_map (λ w. w)) is) in
    let server : f.x.place.server.0 ≡ w.place.server.0 = ap (λ (w : Waiting). w.place.server.0) f.gives in
    subst (λ (at : Option ℕ). IsTied (with_server with_one_less w.place.server park) (taken_at t at)) (sym f.where_is) (tied_less park t f.at f.x w.place.server f.within f.here server tied)

-- where none is, none goes
pub none_due : (t : List Waiting) (now : ℕ) → due now t ≡ None → without_due now t ≡ t
none_due t now is =
    let n = position_or_len (is_due now) t in
    elim ((slice_get_cases t n).1) [
      | inl h ↦ absurd (some_none h.0 (sym (find_at (is_due now) t ∙ h.2) ∙ is))
      | inr h ↦ ap (taken_at t) (cond-false _ _ _ (le-ltb n (length t) h.0))
    ]

-- a query that is taken out reads
pub asked_out : (park : Backends) (t : List Waiting) (place : Place) (entry : Entry) → IsTied park t → entry_at t place ≡ Some entry → IsAsked entry
asked_out park t place entry tied is =
    let f = found_at (is_at place) (λ w. w.entry) t entry is in
    let one : IsAsked f.x.entry = subst (λ (w : Waiting). IsAsked w.entry) f.here (each_at (λ w. IsAsked w.entry) t f.at f.x tied.asked f.within) in
    subst IsAsked f.gives one

pub asked_due : (park : Backends) (t : List Waiting) (now : ℕ) (w : Waiting) → IsTied park t → due now t ≡ Some w → IsAsked w.entry
asked_due park t now w tied is =
    let f = found_at (is_due now) (λ w. w) t w (ap (option_map (λ w. w)) is) in
    let one : IsAsked f.x.entry = subst (λ (w : Waiting). IsAsked w.entry) f.here (each_at (λ w. IsAsked w.entry) t f.at f.x tied.asked f.within) in
    subst (λ (w : Waiting). IsAsked w.entry) f.gives one

-- edits of the table of servers

ties_if : {A : Type 0} (t : List Waiting) (b : Bool) (x y : Backends × A) → IsTied x.0 t → IsTied y.0 t → IsTied (if b then x else y).0 t
ties_if t true x y first second = first
ties_if t false x y first second = second

-- other pools
pub same_servers : (t : List Waiting) (park : Backends) (pools : List Pool) → IsTied park t → IsTied (record park { pools = pools }) t
same_servers t park pools tied = record { loads = tied.loads; given = tied.given; sent = tied.sent; asked = tied.asked }

pub tied_pool : (t : List Waiting) (lacking : Bool) (park : Backends) (name : PoolName) → IsTied park t → IsTied (added_pool lacking park name).0 t
tied_pool t lacking park name tied =
    ties_if t (list_any (is_named name) park.pools) (park, Err faults.NameTaken) _ tied
    (ties_if t (nat_le max_pools (length park.pools)) (park, Err faults.TooMany) _ tied
    (ties_if t lacking (park, Err faults.NoMemory) (record park { pools = park.pools ++ new_pool name ∷ [] }, Ok (record { 0 = length park.pools })) tied (same_servers t park (park.pools ++ new_pool name ∷ []) tied)))

pub tied_policy : (t : List Waiting) (change : Pool → Pool) (park : Backends) (pool : PoolId) → IsTied park t → IsTied (changed_pool change park pool).0 t
tied_policy t change park pool tied =
    ties_if t (is_some (slice_get park.pools pool.0)) (record park { pools = change_at change pool.0 park.pools }, Ok tt) (park, Err faults.NoSuchPool) (same_servers t park (change_at change pool.0 park.pools) tied) tied

-- no query waits for a server whose number was not given
none_waits : (next : ℕ) (t : List Waiting) → AllByRecursion (λ w. w.place.server.0 < next) t → count_by (is_for (record { 0 = next })) t ≡ 0
none_waits next [] all = refl
none_waits next (w ∷ t) all =
    let other : (w.place.server.0 == next) ≡ false = grind (arith, nat_tests, all.0) in
    sum_by-cons (λ x. cond (is_for (record { 0 = next }) x) 1 0) w t
    ∙ ap (λ (b : Bool). cond b 1 0 + count_by (is_for (record { 0 = next })) t) other
    ∙ ap (λ (n : ℕ). 0 + n) (none_waits next t all.1)

with_new : (t : List Waiting) (park : Backends) (spec : ServerSpec) → IsTied park t →
    IsTied (record park { next = park.next + 1; servers = park.servers ++ new_server park.next park.pools spec ∷ [] }) t
with_new t park spec tied = record {
  loads = each_append (Counts t) park.servers (new_server park.next park.pools spec ∷ []) tied.loads (sym (none_waits park.next t tied.sent), tt);
  given = each_append (λ l. l.server.id.0 < park.next + 1) park.servers (new_server park.next park.pools spec ∷ []) (each_weaker (λ l. l.server.id.0 < park.next) _ park.servers (λ l lt. omega (arith, lt)) tied.given) (omega (arith), tt);
  sent = each_weaker (λ w. w.place.server.0 < park.next) _ t (λ w lt. omega (arith, lt)) tied.sent;
  asked = tied.asked;
}

pub tied_server : (t : List Waiting) (lacking : Bool) (park : Backends) (spec : ServerSpec) → IsTied park t → IsTied (added_server lacking park spec).0 t
tied_server t lacking park spec tied =
    ties_if t (lacks_pool park.pools (stated_pools spec.pools)) (park, Err faults.NoSuchPool) _ tied
    (ties_if t (is_some (server_named park.servers spec.name)) (park, Err faults.NameTaken) _ tied
    (ties_if t (nat_le max_servers (length park.servers)) (park, Err faults.TooMany) _ tied
    (ties_if t (park.next == 2 ^ 64) (park, Err faults.NoMoreIds) _ tied
    (ties_if t lacking (park, Err faults.NoMemory) (record park { next = park.next + 1; servers = park.servers ++ new_server park.next park.pools spec ∷ [] }, Ok (record { 0 = park.next })) tied (with_new t park spec tied)))))

pub tied_removed : (t : List Waiting) (park : Backends) (id : ServerId) → IsTied park t → IsTied (removed_server park id).0 t
tied_removed t park id tied =
    let without : IsTied (record park { servers = filter (λ l. not (is_server id l)) park.servers }) t = record {
      loads = each_filter (Counts t) _ park.servers tied.loads;
      given = each_filter (λ l. l.server.id.0 < park.next) _ park.servers tied.given;
      sent = tied.sent;
      asked = tied.asked;
    } in
    ties_if t (list_any (is_server id) park.servers) (record park { servers = filter (λ l. not (is_server id l)) park.servers }, Ok tt) (park, Err faults.NoSuchServer) without tied

-- a server that is changed, but not in its number and its count
counts_still : (t : List Waiting) (change : Loaded → Loaded) (b : Bool) (l : Loaded) → ((l : Loaded) → Counts t l → Counts t (change l)) → Counts t l → Counts t (change_if b change l)
counts_still t change true l keeps counts = keeps l counts
counts_still t change false l keeps counts = counts

all_count_still : (t : List Waiting) (change : Loaded → Loaded) (id : ServerId) (servers : List Loaded) → ((l : Loaded) → Counts t l → Counts t (change l)) →
    AllByRecursion (Counts t) servers → AllByRecursion (Counts t) (change_server id change servers)
all_count_still t change id [] keeps all = tt
all_count_still t change id (l ∷ servers) keeps all = (counts_still t change (is_server id l) l keeps all.0, all_count_still t change id servers keeps all.1)

tied_changed : (t : List Waiting) (change : Loaded → Loaded) (park : Backends) (id : ServerId) → ((l : Loaded) → Counts t l → Counts t (change l)) → ((l : Loaded) → (change l).server.id ≡ l.server.id) →
    IsTied park t → IsTied (changed_server change park id).0 t
tied_changed t change park id counts keeps tied =
    let put : IsTied (record park { servers = change_server id change park.servers }) t = record {
      loads = all_count_still t change id park.servers counts tied.loads;
      given = given_still park.next change id park.servers keeps tied.given;
      sent = tied.sent;
      asked = tied.asked;
    } in
    ties_if t (list_any (is_server id) park.servers) (record park { servers = change_server id change park.servers }, Ok tt) (park, Err faults.NoSuchServer) put tied

pub tied_mode : (t : List Waiting) (mode : Mode) (park : Backends) (id : ServerId) → IsTied park t → IsTied (changed_server (with_mode mode) park id).0 t
tied_mode t mode park id tied = tied_changed t (with_mode mode) park id (λ l counts. counts) (λ l. refl) tied

pub tied_mark : (t : List Waiting) (up : Bool) (park : Backends) (id : ServerId) → IsTied park t → IsTied (changed_server (marked up) park id).0 t
tied_mark t up park id tied = tied_changed t (marked up) park id (λ l counts. counts) (λ l. refl) tied

-- a server that is changed in its count alone
one_server : (change : Loaded → Loaded) (b : Bool) (l : Loaded) → (change l).server ≡ l.server → (change_if b change l).server ≡ l.server
one_server change true l is = is
one_server change false l is = refl

pub still_servers : (change : Loaded → Loaded) (id : ServerId) (servers : List Loaded) → ((l : Loaded) → (change l).server ≡ l.server) →
    map server_of (change_server id change servers) ≡ map server_of servers
still_servers change id [] keeps = refl
still_servers change id (l ∷ servers) keeps =
    ap (λ (s : Server). s ∷ map server_of (change_server id change servers)) (one_server change (is_server id l) l (keeps l))
    ∙ ap (λ (ss : List Server). l.server ∷ ss) (still_servers change id servers keeps)

-- a query that is sent, with the turn of its pool
pub sent_tied : (park after turned : Backends) (t new : List Waiting) (place : Place) (entry : Entry) (pools : List Pool) → IsTied park t → place.server.0 < park.next → IsAsked entry →
    after ≡ with_server with_one_more place.server park → turned ≡ record after { pools = pools } → new ≡ entered t place entry → IsTied turned new
sent_tied park after turned t new place entry pools tied given asked began turn is =
    let one : IsTied after new = subst (λ (n : List Waiting). IsTied after n) (sym is) (subst (λ (p : Backends). IsTied p (entered t place entry)) (sym began) (tied_in park t place entry tied given asked)) in
    subst (λ (p : Backends). IsTied p new) (sym turn) (same_servers new after pools one)

pub sent_seen : (timeout : ℕ) (caches : CacheLists) (checks : List Check) (park after turned : Backends) (t new : List Waiting) (place : Place) (entry : Entry) (pool : PoolId) →
    after ≡ with_server with_one_more place.server park → turned ≡ record after { pools = change_at turned_if pool.0 after.pools } → new ≡ entered t place entry →
    seen_as timeout caches checks turned new ≡ with_entry place entry (with_turn pool (seen_as timeout caches checks park t))
sent_seen timeout caches checks park after turned t new place entry pool began turn is =
    let whole : turned ≡ record (with_server with_one_more place.server park) { pools = change_at turned_if pool.0 park.pools } = turn ∙ ap (λ (p : Backends). record p { pools = change_at turned_if pool.0 p.pools }) began in
    ap (λ (p : Backends). seen_as timeout caches checks p new) whole
    ∙ ap (λ (n : List Waiting). seen_as timeout caches checks (record (with_server with_one_more place.server park) { pools = change_at turned_if pool.0 park.pools }) n) is
    ∙ ap (λ (ss : List Server). record (with_entry place entry (with_turn pool (seen_as timeout caches checks park t))) { servers = ss }) (still_servers with_one_more place.server park.servers (λ l. refl))

-- a query that goes
pub taken_tied : (park after : Backends) (t new : List Waiting) (place : Place) (entry : Entry) → IsTied park t → entry_at t place ≡ Some entry →
    after ≡ with_server with_one_less place.server park → new ≡ taken_at t (waits_at place t) → IsTied after new
taken_tied park after t new place entry tied found ended is =
    subst (λ (n : List Waiting). IsTied after n) (sym is) (subst (λ (p : Backends). IsTied p (taken_at t (waits_at place t))) (sym ended) (tied_out park t place entry tied found))

pub taken_seen : (timeout : ℕ) (caches : CacheLists) (checks : List Check) (park after : Backends) (t new : List Waiting) (place : Place) →
    after ≡ with_server with_one_less place.server park → new ≡ taken_at t (waits_at place t) → seen_as timeout caches checks after new ≡ without place (seen_as timeout caches checks park t)
taken_seen timeout caches checks park after t new place ended is =
    ap (λ (p : Backends). seen_as timeout caches checks p new) ended
    ∙ ap (λ (n : List Waiting). seen_as timeout caches checks (with_server with_one_less place.server park) n) is
    ∙ ap (λ (ss : List Server). record (without place (seen_as timeout caches checks park t)) { servers = ss }) (still_servers with_one_less place.server park.servers (λ l. refl))

-- the query that is given up first goes
pub due_tied : (park after : Backends) (t new : List Waiting) (now : ℕ) (w : Waiting) → IsTied park t → due now t ≡ Some w →
    after ≡ with_server with_one_less w.place.server park → new ≡ without_due now t → IsTied after new
due_tied park after t new now w tied found ended is =
    subst (λ (n : List Waiting). IsTied after n) (sym is) (subst (λ (p : Backends). IsTied p (without_due now t)) (sym ended) (tied_due park t now w tied found))

pub due_seen : (timeout : ℕ) (caches : CacheLists) (checks : List Check) (park after : Backends) (t new : List Waiting) (now : ℕ) (server : ServerId) →
    after ≡ with_server with_one_less server park → new ≡ without_due now t → seen_as timeout caches checks after new ≡ without_expired now (seen_as timeout caches checks park t)
due_seen timeout caches checks park after t new now server ended is =
    ap (λ (p : Backends). seen_as timeout caches checks p new) ended
    ∙ ap (λ (n : List Waiting). seen_as timeout caches checks (with_server with_one_less server park) n) is
    ∙ ap (λ (ss : List Server). record (without_expired now (seen_as timeout caches checks park t)) { servers = ss }) (still_servers with_one_less server park.servers (λ l. refl))
