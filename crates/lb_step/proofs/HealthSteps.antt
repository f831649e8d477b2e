-- What is told of a server's health over one event, which leaves what it tells of it, and tells each change at its result.
use Rattle.std.proofs.Common.{◌≡◌, ℕ, zero, suc, ◌+◌, ◌<◌, ◌≤◌, ◌^◌, ◌==◌, Bool, true, false, not, List, [], ◌∷◌, ◌++◌, length, map, get_or, nat_le, ltb, Option, None, Some, Result, Ok, Err, inl, inr, refl, sym, ◌∙◌, ap, subst, arith}
use Rattle.std.specs.Prelude.{cond, if◌then◌else◌, is_some, option_map, slice_get, slice_set}
use Rattle.std.specs.List.{AllByRecursion, filter, find, list_any, position, position_or_len}
use Rattle.std.proofs.lemmas.Bool.{cases_Bool, cond-true, ltb-false}
use Rattle.std.proofs.lemmas.List.{append-nil}
use Rattle.std.proofs.lemmas.List.Folds.{find_at}
use Rattle.std.proofs.lemmas.List.Quantifiers.{position-Some}
use Rattle.std.proofs.lemmas.List.Sums.{fold-append}
use Rattle.std.proofs.lemmas.Option.{get_or_from_slice_get, slice_get-get_or, slice_get_past}
use Rattle.lb_wire.specs.declared.ids.CacheId.{CacheId}
use Rattle.lb_wire.specs.declared.ids.PoolId.{PoolId}
use Rattle.lb_wire.specs.declared.ids.ServerId.{ServerId}
use Rattle.lb_chain.specs.declared.fault.ChainFault.{ChainFault}
use Rattle.lb_chain.specs.declared.rule.Rule.{Rule}
use Rattle.lb_chain.specs.Edits.{added, moved, removed}
use Rattle.lb_servers.specs.declared.fault.ParkFault.{ParkFault}
use Rattle.lb_servers.specs.declared.fault.ParkFault.TheVariants as park_faults
use Rattle.lb_servers.specs.declared.pool.Pool.{Pool}
use Rattle.lb_servers.specs.declared.pool.PoolName.{PoolName}
use Rattle.lb_servers.specs.declared.server.Loaded.{Loaded}
use Rattle.lb_servers.specs.declared.server.Mode.{Mode}
use Rattle.lb_servers.specs.declared.server.Server.{Server}
use Rattle.lb_servers.specs.declared.spec.ServerSpec.{ServerSpec}
use Rattle.lb_servers.specs.Park.{Backends, added_pool, added_server, cache_ready_of, changed_pool, changed_server, max_pools, max_servers}
use Rattle.lb_servers.specs.Pool.{cache_at, change_at, is_named, new_pool, pool_named, with_policy}
use Rattle.lb_servers.specs.Server.{change_server, is_server, marked as marked_as, server_named, with_mode}
use Rattle.lb_servers.specs.Spec.{lacks_pool, new_server, stated_pools}
use Rattle.lb_cache.specs.declared.cached.Covered.{Covered}
use Rattle.lb_health.specs.Health.{AtTheLast, IsStanding, LastOfARowFrom, Standing, result_of, row_against, since}
use Rattle.lb_health.specs.declared.health.Changed.{Changed}
use Rattle.lb_health.specs.declared.health.Changed.TheVariants as changes
use Rattle.lb_table.specs.Table.{due}
use Rattle.lb_step.specs.declared.answer.Answer.{Answer}
use Rattle.lb_step.specs.declared.answer.Answer.TheVariants.{Edited, Ignored}
use Rattle.lb_step.specs.declared.answer.IgnoreReason.TheVariants as ignores
use Rattle.lb_step.specs.declared.answer.Note.{Note}
use Rattle.lb_step.specs.declared.answer.Note.TheVariants as notes
use Rattle.lb_step.specs.declared.asked.Asked.{Asked}
use Rattle.lb_step.specs.declared.check.Check.{Check}
use Rattle.lb_step.specs.declared.check.CheckSpec.{CheckSpec}
use Rattle.lb_step.specs.declared.command.Command.{Command}
use Rattle.lb_step.specs.declared.command.StatedRule.{StatedRule}
use Rattle.lb_step.specs.declared.command.Command.TheVariants.{RuleAdd, RuleRemove, RuleMove, ServerAdd, ServerRemove, ServerMode, PoolAdd, PoolPolicy, CacheAttach, CacheDetach, Expunge, SetTimeout, Show}
use Rattle.lb_step.specs.declared.event.Event.{Event}
use Rattle.lb_step.specs.declared.event.Event.TheVariants.{Query, Reply, Tick, HealthResult, Edit}
use Rattle.lb_step.specs.Answer.{change_told, marked}
use Rattle.lb_step.specs.Edit.{attached_to, cache_told, detached_from, edit_of, expunged_from, expunged_of, place_or_end, pool_edited, rule_added, rule_by, rules_told, server_by, server_edited, servers_told, upstream_changed}
use Rattle.lb_step.specs.Health.{after_result, result_at, result_by, result_step, result_told, with_change, with_check_at}
use Rattle.lb_step.specs.Plain.{Plain, at_plain, chain_of, upstreams_of}
use Rattle.lb_step.specs.Query.{QuerySteps, ReadSteps, WalkedSteps, is_transfer, walked_of}
use Rattle.lb_step.specs.Reading.{Reading, OfNone, OfQuery, OfReply, moment_of, viewed}
use Rattle.lb_step.specs.Results.{BeginsAt, Goes, GoesBy, HealthFollows, IsTold, Results, Tells, TellsIf, TellsResult, health_by, health_of, of_new, result_in, told_after, with_result}
use Rattle.lb_step.specs.Step.{StepsAt, asked_at}
use Rattle.lb_step.specs.Upstream.{ByNumber, IsChecked, Upstreams, attached_if, backends_of, detached_if, is_check, loaded_by, new_check, put_into, removed_checked, server_of, with_backends, with_check, without_check}
use Rattle.lb_step.proofs.ChecksKeep.{KeptWith, Marks, Shown, check_marks, left_marks, mark_marks, more_marks, one_of, put_marks, result_says, shown}
use Rattle.lb_step.proofs.Each.{each_append, each_filter, each_map, each_weaker}
use Rattle.lb_step.proofs.Following.{Seen, end_names, reply_pools, tick_pools}
use Rattle.lb_step.proofs.Forwards.{ended_plain}
use Rattle.lb_step.proofs.Refusals.{left_of, taken_reply, taken_tick, told_of, uncounted}
use Rattle.lb_step.proofs.Tied.{eq_numbers, given_still, none_some, some_same}
use Rattle.lb_wire.specs.declared.query.QueryView.{QueryView}
use Rattle.lb_wire.specs.declared.query.QueryFault.{QueryFault}
use Rattle.lb_wire.specs.declared.query.QueryFault.TheVariants as query_faults
use Rattle.std.proofs.lemmas.Bool.Decides.{nat_tests}

-- what is known of a server's health, and of the servers beside it
record Known (server : ServerId) (told : Option Results) (s : Shown) : Type 0 where
  pub below : AllByRecursion (λ x. x.id.0 < s.0) s.1
  pub numbers : ByNumber s.1
  pub checks : IsChecked s.1 s.2
  pub begins : BeginsAt told
  pub health : health_of server s.2 ≡ option_map health_by told

-- an event with its answer, between what is seen before and after it
record Turn (server : ServerId) (told : Option Results) (old : Shown) (event : Event) (answer : Answer) (new : Shown) : Type 0 where
  pub known : Known server (told_after server told event answer) new
  pub tells : Tells server told event answer
  pub next : old.0 ≤ new.0
  pub goes : server.0 < old.0 → Goes server told event (told_after server told event answer)

goes_still : (server : ServerId) (told : Option Results) (event : Event) → result_in server event ≡ [] → Goes server told event told
goes_still server None event none = refl
goes_still server (Some told) event none = inr (ap (λ (given : List Bool). Some (record told { given = given })) (sym (ap (λ (more : List Bool). told.given ++ more) none ∙ append-nil told.given)))

-- an event that changes nothing of it
quiet : (server : ServerId) (told : Option Results) (old new : Shown) (event : Event) (answer : Answer) → Known server told old → new ≡ old →
    told_after server told event answer ≡ told → result_in server event ≡ [] → Tells server told event answer → Turn server told old event answer new
quiet server told old new event answer known same still none tells = record {
  known = subst (λ (t : Option Results). Known server t new) (sym still) (subst (Known server told) (sym same) known);
  tells = tells;
  next = omega (arith, ap (λ (s : Shown). s.0) same);
  goes = λ lt. subst (Goes server told event) (sym still) (goes_still server told event none);
}

-- the servers with their loads, and back
uncounted_shown : (ups : Upstreams) → shown (with_backends (backends_of ups) ups) ≡ shown ups
uncounted_shown ups = ap (λ (servers : List Server). (ups.next_server, servers, ups.checks)) (uncounted ups.outstanding ups.servers)

marks_of : (ups : Upstreams) → ByNumber ups.servers → IsChecked ups.servers ups.checks → Marks (backends_of ups).servers ups.checks
marks_of ups numbers checks = subst (λ (ss : List Server). ByNumber ss × IsChecked ss ups.checks) (sym (uncounted ups.outstanding ups.servers)) (numbers, checks)

below_of : (ups : Upstreams) → AllByRecursion (λ s. s.id.0 < ups.next_server) ups.servers → AllByRecursion (λ l. l.server.id.0 < ups.next_server) (backends_of ups).servers
below_of ups below = each_map (λ l. l.server.id.0 < ups.next_server) (loaded_by ups.outstanding) ups.servers below

below_back : (next : ℕ) (ls : List Loaded) → AllByRecursion (λ l. l.server.id.0 < next) ls → AllByRecursion (λ s. s.id.0 < next) (map server_of ls)
below_back next ls below = each_map (λ s. s.id.0 < next) server_of ls below

-- an edit of the rules
rules_tell : {A : Type 0} (server : ServerId) (note : A → Note) → ((x : A) → change_told server (Edited (note x)) ≡ changes.No) → (r : Result A ChainFault) → change_told server (rules_told note r) ≡ changes.No
rules_tell server note never (Ok x) = never x
rules_tell server note never (Err fault) = refl

servers_tell : {A : Type 0} (server : ServerId) (note : A → Note) → ((x : A) → change_told server (Edited (note x)) ≡ changes.No) → (r : Result A ParkFault) → change_told server (servers_told note r) ≡ changes.No
servers_tell server note never (Ok x) = never x
servers_tell server note never (Err fault) = refl

rule_turn : (server : ServerId) (told : Option Results) (mark : Bool) (p : Plain) (now : ℕ) (place : Option ℕ) (stated : StatedRule) (rule : Option Rule) → Known server told (shown (upstreams_of p)) →
    Turn server told (shown (upstreams_of p)) (Edit now (RuleAdd place stated)) (rule_added mark p place rule).1 (shown (upstreams_of (rule_added mark p place rule).0))
rule_turn server told mark p now place stated None known = quiet server told (shown (upstreams_of p)) _ (Edit now (RuleAdd place stated)) _ known refl refl refl refl
rule_turn server told mark p now place stated (Some rule) known =
    quiet server told (shown (upstreams_of p)) _ (Edit now (RuleAdd place stated)) _ known refl refl refl (rules_tell server notes.RuleAdded (λ x. refl) (added mark (chain_of p) (place_or_end place p.rules) rule).1)

-- an edit of the pools leaves the servers
abbrev Same : {A : Type 0} → Upstreams → Backends × A → Type 0
Same {A} ups x = shown (with_backends x.0 ups) ≡ shown ups

pool_same : (ups : Upstreams) (lacking : Bool) (name : PoolName) → Same ups (added_pool lacking (backends_of ups) name)
pool_same ups lacking name =
    let park = backends_of ups in
    let same = uncounted_shown ups in
    one_of {X = Backends × Result PoolId ParkFault} (Same ups) (list_any (is_named name) park.pools) (park, Err park_faults.NameTaken) _ same
    (one_of {X = Backends × Result PoolId ParkFault} (Same ups) (nat_le max_pools (length park.pools)) (park, Err park_faults.TooMany) _ same
    (one_of {X = Backends × Result PoolId ParkFault} (Same ups) lacking (park, Err park_faults.NoMemory) (record park { pools = park.pools ++ new_pool name ∷ [] }, Ok (record { 0 = length park.pools })) same same))

policy_same : (ups : Upstreams) (change : Pool → Pool) (pool : PoolId) → Same ups (changed_pool change (backends_of ups) pool)
policy_same ups change pool =
    let park = backends_of ups in
    let same = uncounted_shown ups in
    one_of {X = Backends × Result (Unit {0}) ParkFault} (Same ups) (is_some (slice_get park.pools pool.0)) (record park { pools = change_at change pool.0 park.pools }, Ok tt) (park, Err park_faults.NoSuchPool) same same

policy_turn : (server : ServerId) (told : Option Results) (ups : Upstreams) (now : ℕ) (command : Command) (note : Note) (change : Pool → Pool) (pool : Option PoolId) → Known server told (shown ups) →
    ((a : Answer) → told_after server told (Edit now command) a ≡ told) → change_told server (Edited note) ≡ changes.No →
    Turn server told (shown ups) (Edit now command) (pool_edited note (changed_pool change) ups pool).1 (shown (pool_edited note (changed_pool change) ups pool).0)
policy_turn server told ups now command note change None known still never = quiet server told (shown ups) _ (Edit now command) _ known refl (still _) refl refl
policy_turn server told ups now command note change (Some pool) known still never =
    quiet server told (shown ups) _ (Edit now command) _ known (policy_same ups change pool) (still _) refl (servers_tell server (λ _. note) (λ _. never) (changed_pool change (backends_of ups) pool).1)

-- nor does an edit of a cache change any
attached_same : (mark : Bool) (ups : Upstreams) (pool : PoolId) (max max_ttl : ℕ) (skips : List ℕ) (ready : Result (Unit {0}) ParkFault) → shown (attached_if mark ups pool max max_ttl skips ready).0 ≡ shown ups
attached_same mark ups pool max max_ttl skips (Err fault) = refl
attached_same true ups pool max max_ttl skips (Ok ready) = refl
attached_same false ups pool max max_ttl skips (Ok ready) = uncounted_shown ups

attached_turn : (server : ServerId) (told : Option Results) (mark : Bool) (ups : Upstreams) (now : ℕ) (name : PoolName) (max shards max_ttl : ℕ) (skips : List ℕ) (pool : Option PoolId) → Known server told (shown ups) →
    Turn server told (shown ups) (Edit now (CacheAttach name max shards max_ttl skips)) (attached_to mark ups max max_ttl skips pool).1 (shown (attached_to mark ups max max_ttl skips pool).0)
attached_turn server told mark ups now name max shards max_ttl skips None known = quiet server told (shown ups) _ (Edit now (CacheAttach name max shards max_ttl skips)) _ known refl refl refl refl
attached_turn server told mark ups now name max shards max_ttl skips (Some pool) known =
    let ready = cache_ready_of (backends_of ups) pool in
    quiet server told (shown ups) _ (Edit now (CacheAttach name max shards max_ttl skips)) _ known (attached_same mark ups pool max max_ttl skips ready) refl refl (servers_tell server notes.CacheAttached (λ x. refl) (attached_if mark ups pool max max_ttl skips ready).1)

taken_same : (ups : Upstreams) (pool : PoolId) (cache : Option CacheId) → shown (detached_if ups pool cache).0 ≡ shown ups
taken_same ups pool None = refl
taken_same ups pool (Some id) = uncounted_shown ups

cache_tells : (server : ServerId) (cache : Option CacheId) → change_told server (cache_told notes.CacheDetached cache) ≡ changes.No
cache_tells server None = refl
cache_tells server (Some id) = refl

detached_turn : (server : ServerId) (told : Option Results) (ups : Upstreams) (now : ℕ) (name : PoolName) (pool : Option PoolId) → Known server told (shown ups) →
    Turn server told (shown ups) (Edit now (CacheDetach name)) (detached_from ups pool).1 (shown (detached_from ups pool).0)
detached_turn server told ups now name None known = quiet server told (shown ups) _ (Edit now (CacheDetach name)) _ known refl refl refl refl
detached_turn server told ups now name (Some pool) known =
    let cache = cache_at ups.pools pool.0 in
    quiet server told (shown ups) _ (Edit now (CacheDetach name)) _ known (taken_same ups pool cache) refl refl (cache_tells server (detached_if ups pool cache).1)

emptied_turn : (server : ServerId) (told : Option Results) (ups : Upstreams) (now : ℕ) (name : PoolName) (covered : Covered) (cache : Option CacheId) → Known server told (shown ups) →
    Turn server told (shown ups) (Edit now (Expunge name covered)) (expunged_of ups covered cache).1 (shown (expunged_of ups covered cache).0)
emptied_turn server told ups now name covered None known = quiet server told (shown ups) _ (Edit now (Expunge name covered)) _ known refl refl refl refl
emptied_turn server told ups now name covered (Some id) known = quiet server told (shown ups) _ (Edit now (Expunge name covered)) _ known refl refl refl refl

expunged_turn : (server : ServerId) (told : Option Results) (ups : Upstreams) (now : ℕ) (name : PoolName) (covered : Covered) (pool : Option PoolId) → Known server told (shown ups) →
    Turn server told (shown ups) (Edit now (Expunge name covered)) (expunged_from ups covered pool).1 (shown (expunged_from ups covered pool).0)
expunged_turn server told ups now name covered None known = quiet server told (shown ups) _ (Edit now (Expunge name covered)) _ known refl refl refl refl
expunged_turn server told ups now name covered (Some pool) known = emptied_turn server told ups now name covered (cache_at ups.pools pool.0) known

-- the first that passes, of a list with one more after it, of one that some are taken out of, and of one that is changed at a
-- place
find_last : {X : Type 0} (p : X → Bool) (xs : List X) (x : X) → AllByRecursion (λ y. p y ≡ false) xs → p x ≡ true → find p (xs ++ x ∷ []) ≡ Some x
find_last p [] x none is = rw is refl
find_last p (y ∷ xs) x none is = rw none.0 (find_last p xs x none.1 is)

find_before : {X : Type 0} (p : X → Bool) (xs : List X) (x : X) → p x ≡ false → find p (xs ++ x ∷ []) ≡ find p xs
find_before p [] x is = rw is refl
find_before {X} p (y ∷ xs) x is = ap (λ (o : Option X). cond (p y) (Some y) o) (find_before p xs x is)

find_out : {X : Type 0} (p keeps : X → Bool) (xs : List X) → ((x : X) → keeps x ≡ true → p x ≡ false) → find p (filter keeps xs) ≡ None
find_out p keeps [] fails = refl
find_out p keeps (x ∷ xs) fails = elim (cases_Bool (keeps x)) [
  | inl stays ↦ rw (stays, fails x stays) (find_out p keeps xs fails)
  | inr goes ↦ rw goes (find_out p keeps xs fails)
]

find_kept : {X : Type 0} (p keeps : X → Bool) (xs : List X) → ((x : X) → keeps x ≡ false → p x ≡ false) → find p (filter keeps xs) ≡ find p xs
find_kept p keeps [] fails = refl
find_kept {X} p keeps (x ∷ xs) fails = elim (cases_Bool (keeps x)) [
  | inl stays ↦ rw stays (ap (λ (o : Option X). cond (p x) (Some x) o) (find_kept p keeps xs fails))
  | inr goes ↦ rw (goes, fails x goes) (find_kept p keeps xs fails)
]

find_there : {X : Type 0} (p : X → Bool) (xs : List X) (at : ℕ) (y d : X) → at < length xs → ((k : ℕ) → k < at → p (get_or xs k d) ≡ false) → p y ≡ true → find p (slice_set xs at y) ≡ Some y
find_there p [] at y d lt before is = absurd (omega (arith, lt))
find_there p (x ∷ xs) zero y d lt before is = rw is refl
find_there p (x ∷ xs) (suc at) y d lt before is =
    let first : p x ≡ false = before 0 (omega arith) in
    rw first (find_there p xs at y d (omega (arith, lt)) (λ k less. before (suc k) (omega (arith, less))) is)

find_other : {X : Type 0} (p : X → Bool) (xs : List X) (at : ℕ) (y d : X) → at < length xs → p (get_or xs at d) ≡ false → p y ≡ false → find p (slice_set xs at y) ≡ find p xs
find_other p [] at y d lt was is = absurd (omega (arith, lt))
find_other p (x ∷ xs) zero y d lt was is = rw (is, was) refl
find_other {X} p (x ∷ xs) (suc at) y d lt was is = ap (λ (o : Option X). cond (p x) (Some x) o) (find_other p xs at y d (omega (arith, lt)) was is)

-- numbers
same_numbers : (a b : ℕ) → a ≡ b → (a == b) ≡ true
same_numbers a b is = grind (arith, nat_tests, is)

apart : (a b : ℕ) → (a < b) → (a == b) ≡ false
apart a b lt = grind (arith, nat_tests, lt)

other_number : (a b c : ℕ) → (a == b) ≡ false → c ≡ a → (c == b) ≡ false
other_number a b c differs is = grind (arith, nat_tests, differs, is)

-- the checks have numbers below the next, as the servers have
checks_below : (next : ℕ) (ss : List Server) (cs : List Check) → AllByRecursion (λ s. s.id.0 < next) ss → IsChecked ss cs → AllByRecursion (λ c. c.server.0 < next) cs
checks_below next [] [] below all = tt
checks_below next [] (c ∷ cs) below all = absurd all
checks_below next (s ∷ ss) [] below all = absurd all
checks_below next (s ∷ ss) (c ∷ cs) below all = (subst (λ (id : ServerId). id.0 < next) (sym all.0) below.0, checks_below next ss cs below.1 all.2)

-- a server that is added
new_begins : (spec : CheckSpec) → IsStanding (of_new spec).first
new_begins spec = record { fall = spec.fall.ok; rise = spec.rise.ok; few = spec.fall.ok }

not_out : (b : Bool) → not b ≡ true → b ≡ false
not_out true is = absurd (cc is)
not_out false is = refl

not_in : (b : Bool) → not b ≡ false → b ≡ true
not_in true is = refl
not_in false is = absurd (cc is)

gone : (server : ServerId) (told : Option Results) (event : Event) → Goes server told event None
gone server None event = refl
gone server (Some told) event = inl refl

abbrev AddedSo : ServerId → Option Results → Upstreams → ℕ → ServerSpec → CheckSpec → Backends × Result ServerId ParkFault → Type 0
AddedSo server told ups now spec check x = Turn server told (shown ups) (Edit now (ServerAdd spec check)) (servers_told notes.ServerAdded x.1) (shown (with_check check x.1 (with_backends x.0 ups)))

module _ (server : ServerId) (told : Option Results) (ups : Upstreams) (known : Known server told (shown ups)) (now : ℕ) where
  refused_so : (spec : ServerSpec) (check : CheckSpec) (fault : ParkFault) → AddedSo server told ups now spec check (backends_of ups, Err fault)
  refused_so spec check fault = quiet server told (shown ups) _ (Edit now (ServerAdd spec check)) _ known (uncounted_shown ups) refl refl refl

  -- the server with the next number, which may be the one that is told of
  added_health : (b : Bool) (check : CheckSpec) → (ups.next_server == server.0) ≡ b →
      health_of server (ups.checks ++ new_check (record { 0 = ups.next_server }) check ∷ []) ≡ option_map health_by (if b then Some (of_new check) else told)
  added_health true check is =
      let next : ups.next_server ≡ server.0 = eq_numbers ups.next_server server.0 is in
      let others : AllByRecursion (λ c. is_check server c ≡ false) ups.checks =
      each_weaker (λ c. c.server.0 < ups.next_server) (λ c. is_check server c ≡ false) ups.checks (λ c lt. apart c.server.0 server.0 (omega (arith, lt, next))) (checks_below ups.next_server ups.servers ups.checks known.below known.checks) in
      ap (option_map (λ (c : Check). c.health)) (find_last (is_check server) ups.checks (new_check (record { 0 = ups.next_server }) check) others is)
  added_health false check is = ap (option_map (λ (c : Check). c.health)) (find_before (is_check server) ups.checks (new_check (record { 0 = ups.next_server }) check) is) ∙ known.health

  added_begins : (b : Bool) (check : CheckSpec) → BeginsAt (if b then Some (of_new check) else told)
  added_begins true check = new_begins check
  added_begins false check = known.begins

  added_goes : (b : Bool) (spec : ServerSpec) (check : CheckSpec) → (ups.next_server == server.0) ≡ b → server.0 < ups.next_server → Goes server told (Edit now (ServerAdd spec check)) (if b then Some (of_new check) else told)
  added_goes true spec check is lt = absurd (omega (arith, lt, eq_numbers ups.next_server server.0 is))
  added_goes false spec check is lt = goes_still server told (Edit now (ServerAdd spec check)) refl

  done_so : (spec : ServerSpec) (check : CheckSpec) → (let park = backends_of ups in KeptWith check ups.checks (record park { next = park.next + 1; servers = park.servers ++ new_server park.next park.pools spec ∷ [] }, Ok (record { 0 = park.next }))) →
      (let park = backends_of ups in AddedSo server told ups now spec check (record park { next = park.next + 1; servers = park.servers ++ new_server park.next park.pools spec ∷ [] }, Ok (record { 0 = park.next })))
  done_so spec check marks =
      let park = backends_of ups in
      let b = ups.next_server == server.0 in
      let more : AllByRecursion (λ l. l.server.id.0 < park.next + 1) (park.servers ++ new_server park.next park.pools spec ∷ []) =
      each_append (λ l. l.server.id.0 < park.next + 1) park.servers (new_server park.next park.pools spec ∷ [])
      (each_weaker (λ l. l.server.id.0 < park.next) (λ l. l.server.id.0 < park.next + 1) park.servers (λ l lt. omega (arith, lt)) (below_of ups known.below)) (omega arith, tt) in
      record {
        known = record {
          below = below_back (park.next + 1) (park.servers ++ new_server park.next park.pools spec ∷ []) more;
          numbers = marks.0;
          checks = marks.1;
          begins = added_begins b check;
          health = added_health b check refl;
        };
        tells = refl;
        next = omega arith;
        goes = added_goes b spec check refl;
      }

  added_turn : (mark : Bool) (spec : ServerSpec) (check : CheckSpec) → AddedSo server told ups now spec check (added_server mark (backends_of ups) spec)
  added_turn mark spec check =
      let park = backends_of ups in
      let l : Loaded = new_server park.next park.pools spec in
      let So : Backends × Result ServerId ParkFault → Type 0 = AddedSo server told ups now spec check in
      let refuse : (fault : ParkFault) → So (park, Err fault) = refused_so spec check in
      let marks : KeptWith check ups.checks (record park { next = park.next + 1; servers = park.servers ++ l ∷ [] }, Ok (record { 0 = park.next })) =
      more_marks check ups.checks park spec (below_of ups known.below) (marks_of ups known.numbers known.checks) in
      one_of So (lacks_pool park.pools (stated_pools spec.pools)) (park, Err park_faults.NoSuchPool) _ (refuse park_faults.NoSuchPool)
      (one_of So (is_some (server_named park.servers spec.name)) (park, Err park_faults.NameTaken) _ (refuse park_faults.NameTaken)
      (one_of So (nat_le max_servers (length park.servers)) (park, Err park_faults.TooMany) _ (refuse park_faults.TooMany)
      (one_of So (park.next == 2 ^ 64) (park, Err park_faults.NoMoreIds) _ (refuse park_faults.NoMoreIds)
      (one_of So mark (park, Err park_faults.NoMemory) (record park { next = park.next + 1; servers = park.servers ++ l ∷ [] }, Ok (record { 0 = park.next })) (refuse park_faults.NoMemory) (done_so spec check marks)))))

  -- a server that is taken out, which may be the one that is told of
  out_health : (b : Bool) (id : ServerId) → (id.0 == server.0) ≡ b → health_of server (filter (λ c. not (is_check id c)) ups.checks) ≡ option_map health_by (if b then None else told)
  out_health true id is =
      let same : id.0 ≡ server.0 = eq_numbers id.0 server.0 is in
      ap (option_map (λ (c : Check). c.health)) (find_out (is_check server) (λ c. not (is_check id c)) ups.checks (λ c stays. subst (λ (n : ℕ). (c.server.0 == n) ≡ false) same (not_out (is_check id c) stays)))
  out_health false id is =
      ap (option_map (λ (c : Check). c.health)) (find_kept (is_check server) (λ c. not (is_check id c)) ups.checks (λ c goes. other_number id.0 server.0 c.server.0 is (eq_numbers c.server.0 id.0 (not_in (is_check id c) goes))))
      ∙ known.health

  out_begins : (b : Bool) → BeginsAt (if b then None else told)
  out_begins true = tt
  out_begins false = known.begins

  out_goes : (b : Bool) (name : List ℕ) → Goes server told (Edit now (ServerRemove name)) (if b then None else told)
  out_goes true name = gone server told (Edit now (ServerRemove name))
  out_goes false name = goes_still server told (Edit now (ServerRemove name)) refl

  removed_turn : (name : List ℕ) (id : Option ServerId) → Turn server told (shown ups) (Edit now (ServerRemove name)) (server_edited notes.ServerRemoved removed_checked ups id).1 (shown (server_edited notes.ServerRemoved removed_checked ups id).0)
  removed_turn name None = quiet server told (shown ups) _ (Edit now (ServerRemove name)) _ known refl refl refl refl
  removed_turn name (Some id) =
      let park = backends_of ups in
      let b = id.0 == server.0 in
      let left = filter (λ l. not (is_server id l)) park.servers in
      let So : Backends × Result (Unit {0}) ParkFault → Type 0 =
      λ x. Turn server told (shown ups) (Edit now (ServerRemove name)) (servers_told (λ _. notes.ServerRemoved id) x.1) (shown (without_check id x.1 (with_backends x.0 ups))) in
      let marks : Marks left (filter (λ c. not (is_check id c)) ups.checks) = left_marks ups.checks park id (marks_of ups known.numbers known.checks) in
      one_of So (list_any (is_server id) park.servers) (record park { servers = left }, Ok tt) (park, Err park_faults.NoSuchServer)
      (record {
        known = record {
          below = below_back park.next left (each_filter (λ l. l.server.id.0 < park.next) (λ l. not (is_server id l)) park.servers (below_of ups known.below));
          numbers = marks.0;
          checks = marks.1;
          begins = out_begins b;
          health = out_health b id refl;
        };
        tells = refl;
        next = omega arith;
        goes = λ lt. out_goes b name;
      })
      (quiet server told (shown ups) _ (Edit now (ServerRemove name)) _ known (uncounted_shown ups) refl refl refl)

  -- a server that is put into a mode
  mode_turn : (name : List ℕ) (mode : Mode) (id : Option ServerId) →
      Turn server told (shown ups) (Edit now (ServerMode name mode)) (server_edited (λ id. notes.ServerMode id mode) (put_into mode) ups id).1 (shown (server_edited (λ id. notes.ServerMode id mode) (put_into mode) ups id).0)
  mode_turn name mode None = quiet server told (shown ups) _ (Edit now (ServerMode name mode)) _ known refl refl refl refl
  mode_turn name mode (Some id) =
      let park = backends_of ups in
      let put = change_server id (with_mode mode) park.servers in
      let So : Backends × Result (Unit {0}) ParkFault → Type 0 =
      λ x. Turn server told (shown ups) (Edit now (ServerMode name mode)) (servers_told (λ _. notes.ServerMode id mode) x.1) (shown (with_backends x.0 ups)) in
      let marks : Marks put ups.checks = put_marks ups.checks mode park id (marks_of ups known.numbers known.checks) in
      one_of So (list_any (is_server id) park.servers) (record park { servers = put }, Ok tt) (park, Err park_faults.NoSuchServer)
      (record {
        known = record {
          below = below_back park.next put (given_still park.next (with_mode mode) id park.servers (λ l. refl) (below_of ups known.below));
          numbers = marks.0;
          checks = marks.1;
          begins = known.begins;
          health = known.health;
        };
        tells = refl;
        next = omega arith;
        goes = λ lt. goes_still server told (Edit now (ServerMode name mode)) refl;
      })
      (quiet server told (shown ups) _ (Edit now (ServerMode name mode)) _ known (uncounted_shown ups) refl refl refl)

-- a command
edit_turn : (server : ServerId) (told : Option Results) (mark : Bool) (p : Plain) (now : ℕ) (command : Command) → Known server told (shown (upstreams_of p)) →
    Turn server told (shown (upstreams_of p)) (Edit now command) (edit_of mark p command).1 (shown (upstreams_of (edit_of mark p command).0))
edit_turn server told mark p now (RuleAdd place stated) known = rule_turn server told mark p now place stated (rule_by (pool_named p.pools) stated) known
edit_turn server told mark p now (RuleRemove id) known = quiet server told (shown (upstreams_of p)) _ (Edit now (RuleRemove id)) _ known refl refl refl (rules_tell server (λ _. notes.RuleRemoved id) (λ x. refl) (removed (chain_of p) id).1)
edit_turn server told mark p now (RuleMove id place) known = quiet server told (shown (upstreams_of p)) _ (Edit now (RuleMove id place)) _ known refl refl refl (rules_tell server (λ _. notes.RuleMoved id) (λ x. refl) (moved mark (chain_of p) id place).1)
edit_turn server told mark p now (ServerAdd spec check) known = added_turn server told (upstreams_of p) known now mark spec check
edit_turn server told mark p now (ServerRemove name) known = removed_turn server told (upstreams_of p) known now name (server_by (upstreams_of p) name)
edit_turn server told mark p now (ServerMode name mode) known = mode_turn server told (upstreams_of p) known now name mode (server_by (upstreams_of p) name)
edit_turn server told mark p now (PoolAdd name) known =
    let ups = upstreams_of p in
    quiet server told (shown ups) _ (Edit now (PoolAdd name)) _ known (pool_same ups mark name) refl refl (servers_tell server (λ (_ : PoolId). notes.PoolAdded name) (λ x. refl) (added_pool mark (backends_of ups) name).1)
edit_turn server told mark p now (PoolPolicy name policy) known = policy_turn server told (upstreams_of p) now (PoolPolicy name policy) (notes.PoolPolicy name policy) (with_policy policy) (pool_named p.pools name) known (λ a. refl) refl
edit_turn server told mark p now (CacheAttach name max shards max_ttl skips) known = attached_turn server told mark (upstreams_of p) now name max shards max_ttl skips (pool_named p.pools name) known
edit_turn server told mark p now (CacheDetach name) known = detached_turn server told (upstreams_of p) now name (pool_named p.pools name) known
edit_turn server told mark p now (Expunge name covered) known = expunged_turn server told (upstreams_of p) now name covered (pool_named p.pools name) known
edit_turn server told mark p now Show known = quiet server told (shown (upstreams_of p)) _ (Edit now Show) _ known refl refl refl refl
edit_turn server told mark p now (SetTimeout timeout) known = quiet server told (shown (upstreams_of p)) _ (Edit now (SetTimeout timeout)) _ known refl refl refl refl

-- what is told of a server with a result more
result_goes : (b ok : Bool) (told : Option Results) → GoesBy told (if b then ok ∷ [] else []) (if b then option_map (with_result ok) told else told)
result_goes true ok None = refl
result_goes false ok None = refl
result_goes true ok (Some told) = inr refl
result_goes false ok (Some told) = inr (ap (λ (given : List Bool). Some (record told { given = given })) (sym (append-nil told.given)))

after_more : (told : Results) (ok : Bool) → health_by (with_result ok told) ≡ (result_of (health_by told) ok).0
after_more told ok = fold-append (λ s ok. (result_of s ok).0) told.first told.given (ok ∷ [])

-- a server that is not there is not told of, and one that is there is
told_none : (told : Option Results) → None ≡ option_map health_by told → told ≡ None
told_none None is = refl
told_none (Some told) is = absurd (none_some (health_by told) is)

record ToldSo (told : Option Results) (h : Standing) : Type 0 where
  pub results : Results
  pub is : told ≡ Some results
  pub leaves : h ≡ health_by results

told_so : (told : Option Results) (h : Standing) → Some h ≡ option_map health_by told → ToldSo told h
told_so None h is = absurd (none_some h (sym is))
told_so (Some told) h is = record { results = told; is = refl; leaves = some_same h (health_by told) is }

none_still : (b ok : Bool) (told : Option Results) → (b ≡ true → told ≡ None) → (if b then option_map (with_result ok) told else told) ≡ told
none_still true ok told none = ap (option_map (with_result ok)) (none refl) ∙ sym (none refl)
none_still false ok told none = refl

none_tells : (b ok : Bool) (server : ServerId) (told : Option Results) → (b ≡ true → told ≡ None) → TellsIf b server told ok (Ignored ignores.NoServer)
none_tells true ok server told none = subst (λ (t : Option Results). TellsResult server t ok (Ignored ignores.NoServer)) (sym (none refl)) refl
none_tells false ok server told none = refl

-- the first that passes, by its place
find_here : {X : Type 0} (p : X → Bool) (xs : List X) (at : ℕ) (d : X) → at < length xs → ((k : ℕ) → k < at → p (get_or xs k d) ≡ false) → p (get_or xs at d) ≡ true → find p xs ≡ Some (get_or xs at d)
find_here p [] at d lt before is = absurd (omega (arith, lt))
find_here p (x ∷ xs) zero d lt before is = rw is refl
find_here p (x ∷ xs) (suc at) d lt before is =
    let first : p x ≡ false = before 0 (omega arith) in
    rw first (find_here p xs at d (omega (arith, lt)) (λ k less. before (suc k) (omega (arith, less))) is)

find_none : {X : Type 0} (p : X → Bool) (xs : List X) → position p xs ≡ None → find p xs ≡ None
find_none {X} p xs is = elim (cases_Bool (ltb (position_or_len p xs) (length xs))) [
  | inl within ↦ absurd (none_some (position_or_len p xs) (sym is ∙ cond-true _ _ _ within))
  | inr past ↦ find_at p xs ∙ slice_get_past xs (position_or_len p xs) (ltb-false _ _ past)
]

-- the check that stands at the first place of its number
record StandsAt (of : ServerId) (checks : List Check) (at : ℕ) : Type 0 where
  pub check : Check
  pub read : slice_get checks at ≡ Some check

stands_at : (of : ServerId) (checks : List Check) (at : ℕ) → position (is_check of) checks ≡ Some at → StandsAt of checks at
stands_at of [] at is = absurd (none_some at is)
stands_at of (c ∷ checks) at is =
    let found = position-Some (is_check of) (c ∷ checks) at c is in
    record { check = get_or (c ∷ checks) at c; read = slice_get-get_or (c ∷ checks) at c found.0 }

-- what is told of the server of a result
told_change : (server of : ServerId) (change : Changed) → (of.0 == server.0) ≡ true → change_told server (result_told of (Some change)) ≡ change
told_change server of changes.No is = refl
told_change server of changes.Up is = rw is refl
told_change server of changes.Down is = rw is refl

told_other : (server of : ServerId) (change : Changed) → (of.0 == server.0) ≡ false → change_told server (result_told of (Some change)) ≡ changes.No
told_other server of changes.No is = refl
told_other server of changes.Up is = rw is refl
told_other server of changes.Down is = rw is refl

-- the mark of a server leaves the numbers
abbrev Numbered : ℕ → Backends × Result (Unit {0}) ParkFault → Type 0
Numbered next x = (x.0.next ≡ next) × AllByRecursion (λ l. l.server.id.0 < next) x.0.servers

mark_numbered : (up : Bool) (park : Backends) (of : ServerId) → AllByRecursion (λ l. l.server.id.0 < park.next) park.servers → Numbered park.next (changed_server (marked_as up) park of)
mark_numbered up park of below =
    one_of (Numbered park.next) (list_any (is_server of) park.servers) (record park { servers = change_server of (marked_as up) park.servers }, Ok tt) (park, Err park_faults.NoSuchServer)
    (refl, given_still park.next (marked_as up) of park.servers (λ l. refl) below) (refl, below)

module _ (law : LastOfARowFrom) (server : ServerId) (told : Option Results) (ups : Upstreams) (known : Known server told (shown ups)) (now : ℕ) (of : ServerId) (ok : Bool) where
  -- no server has the number
  ignored : position (is_check of) ups.checks ≡ None → Turn server told (shown ups) (HealthResult now of ok) (Ignored ignores.NoServer) (shown ups)
  ignored is =
      let none : (of.0 == server.0) ≡ true → told ≡ None =
      λ same. told_none told (sym (ap (option_map (λ (c : Check). c.health)) (subst (λ (n : ℕ). find (λ (c : Check). c.server.0 == n) ups.checks ≡ None) (eq_numbers of.0 server.0 same) (find_none (is_check of) ups.checks is))) ∙ known.health) in
      record {
        known = subst (λ (t : Option Results). Known server t (shown ups)) (sym (none_still (of.0 == server.0) ok told none)) known;
        tells = none_tells (of.0 == server.0) ok server told none;
        next = omega arith;
        goes = λ lt. result_goes (of.0 == server.0) ok told;
      }

  module _ (at : ℕ) (check : Check) (place : position (is_check of) ups.checks ≡ Some at) (read : slice_get ups.checks at ≡ Some check) where
    here : get_or ups.checks at check ≡ check
    here = get_or_from_slice_get ups.checks at check check read

    within : at < length ups.checks
    within = (position-Some (is_check of) ups.checks at check place).0

    its : check.server.0 ≡ of.0
    its = ap (λ (c : Check). c.server.0) (sym here) ∙ eq_numbers _ _ (position-Some (is_check of) ups.checks at check place).1

    before : (k : ℕ) → k < at → is_check of (get_or ups.checks k check) ≡ false
    before = (position-Some (is_check of) ups.checks at check place).2

    -- the server of the check is told of
    this_told : (of.0 == server.0) ≡ true → ToldSo told check.health
    this_told same =
        let number : of.0 ≡ server.0 = eq_numbers of.0 server.0 same in
        let found : find (is_check server) ups.checks ≡ Some (get_or ups.checks at check) =
        find_here (is_check server) ups.checks at check within (λ k less. subst (λ (n : ℕ). ((get_or ups.checks k check).server.0 == n) ≡ false) number (before k less))
        (same_numbers _ _ (ap (λ (c : Check). c.server.0) here ∙ its ∙ number)) in
        told_so told check.health (ap (λ (c : Check). Some c.health) (sym here) ∙ ap (option_map (λ (c : Check). c.health)) (sym found) ∙ known.health)

    changed_health : (b : Bool) → (of.0 == server.0) ≡ b → health_of server (slice_set ups.checks at (after_result ok check)) ≡ option_map health_by (if b then option_map (with_result ok) told else told)
    changed_health true same =
        let number : of.0 ≡ server.0 = eq_numbers of.0 server.0 same in
        let t = this_told same in
        let found : find (is_check server) (slice_set ups.checks at (after_result ok check)) ≡ Some (after_result ok check) =
        find_there (is_check server) ups.checks at (after_result ok check) check within (λ k less. subst (λ (n : ℕ). ((get_or ups.checks k check).server.0 == n) ≡ false) number (before k less)) (same_numbers _ _ (its ∙ number)) in
        ap (option_map (λ (c : Check). c.health)) found
        ∙ ap (λ (h : Standing). Some (result_of h ok).0) t.leaves
        ∙ ap Some (sym (after_more t.results ok))
        ∙ ap (λ (o : Option Results). option_map health_by (option_map (with_result ok) o)) (sym t.is)
    changed_health false other =
        let apart_from : (check.server.0 == server.0) ≡ false = other_number of.0 server.0 check.server.0 other its in
        ap (option_map (λ (c : Check). c.health)) (find_other (is_check server) ups.checks at (after_result ok check) check within (ap (is_check server) here ∙ apart_from) apart_from)
        ∙ known.health

    changed_begins : (b : Bool) (t : Option Results) → BeginsAt t → BeginsAt (if b then option_map (with_result ok) t else t)
    changed_begins true None begins = tt
    changed_begins true (Some t) begins = begins
    changed_begins false t begins = begins

    changed_tells : (b : Bool) → (of.0 == server.0) ≡ b → TellsIf b server told ok (result_told of (Some (result_of check.health ok).1))
    changed_tells true same =
        let t = this_told same in
        let change : (result_of (health_by t.results) ok).1 ≡ change_told server (result_told of (Some (result_of check.health ok).1)) =
        ap (λ (h : Standing). (result_of h ok).1) (sym t.leaves) ∙ sym (told_change server of (result_of check.health ok).1 same) in
        let seen = since t.results.first (row_against t.results.first) t.results.given in
        let last : AtTheLast (health_by t.results) seen ok (result_of (health_by t.results) ok).1 = law t.results.first (subst BeginsAt t.is known.begins) t.results.given ok in
        subst (λ (o : Option Results). TellsResult server o ok (result_told of (Some (result_of check.health ok).1))) (sym t.is) (subst (AtTheLast (health_by t.results) seen ok) change last)
    changed_tells false other = told_other server of (result_of check.health ok).1 other

    abbrev ups_after : Upstreams
    ups_after = with_check_at at (after_result ok check) ups

    -- the servers with the changed check, marked or not
    known_by : (park : Backends) → park.next ≡ ups.next_server → AllByRecursion (λ l. l.server.id.0 < ups.next_server) park.servers → Marks park.servers (slice_set ups.checks at (after_result ok check)) →
        Known server (if of.0 == server.0 then option_map (with_result ok) told else told) (shown (with_backends park ups_after))
    known_by park next below marks = record {
      below = below_back park.next park.servers (subst (λ (n : ℕ). AllByRecursion (λ l. l.server.id.0 < n) park.servers) (sym next) below);
      numbers = marks.0;
      checks = marks.1;
      begins = changed_begins (of.0 == server.0) told known.begins;
      health = changed_health (of.0 == server.0) refl;
    }

    marked_by : (up : Bool) → (result_of check.health ok).0.up ≡ up →
        Known server (if of.0 == server.0 then option_map (with_result ok) told else told) (shown (with_backends (changed_server (marked_as up) (backends_of ups) of).0 ups_after))
    marked_by up is =
        let park = backends_of ups in
        let numbered = mark_numbered up park of (below_of ups known.below) in
        known_by (changed_server (marked_as up) park of).0 numbered.0 numbered.1
        (mark_marks ups.checks up park of at check (after_result ok check) (sym place) (sym here) refl is (marks_of ups known.numbers known.checks))

    known_after : (kind : Changed) → (result_of check.health ok).1 ≡ kind → Known server (if of.0 == server.0 then option_map (with_result ok) told else told) (shown (with_change of kind ups_after))
    known_after changes.No is =
        subst (Known server (if of.0 == server.0 then option_map (with_result ok) told else told)) (uncounted_shown ups_after)
        (known_by (backends_of ups_after) refl (below_of ups known.below)
        (check_marks ups.checks (backends_of ups).servers at check (after_result ok check) (sym here) refl (result_says check.health (result_of check.health ok).0 ok (result_of check.health ok).1 changes.No refl is) within (marks_of ups known.numbers known.checks)))
    known_after changes.Up is = marked_by true (result_says check.health (result_of check.health ok).0 ok (result_of check.health ok).1 changes.Up refl is)
    known_after changes.Down is = marked_by false (result_says check.health (result_of check.health ok).0 ok (result_of check.health ok).1 changes.Down refl is)

    next_after : (kind : Changed) → (with_change of kind ups_after).next_server ≡ ups.next_server
    next_after changes.No = refl
    next_after changes.Up = (mark_numbered true (backends_of ups) of (below_of ups known.below)).0
    next_after changes.Down = (mark_numbered false (backends_of ups) of (below_of ups known.below)).0

    taken : Turn server told (shown ups) (HealthResult now of ok) (result_told of (result_by ups of ok at (Some check)).1) (shown (result_by ups of ok at (Some check)).0)
    taken = record {
      known = known_after (result_of check.health ok).1 refl;
      tells = changed_tells (of.0 == server.0) refl;
      next = omega (arith, next_after (result_of check.health ok).1);
      goes = λ lt. result_goes (of.0 == server.0) ok told;
    }

  result_turn : (o : Option ℕ) → position (is_check of) ups.checks ≡ o → Turn server told (shown ups) (HealthResult now of ok) (result_told of (result_at ups of ok o).1) (shown (result_at ups of ok o).0)
  result_turn None is = ignored is
  result_turn (Some at) is =
      let s = stands_at of ups.checks at is in
      subst (λ (c : Option Check). Turn server told (shown ups) (HealthResult now of ok) (result_told of (result_by ups of ok at c).1) (shown (result_by ups of ok at c).0)) (sym s.read) (taken at s.check is s.read)

-- a query
walk_turn : (server : ServerId) (told : Option Results) (mark : Bool) (p new : Plain) (asked : Asked) (bytes : List ℕ) (view : QueryView) (answer : Answer) →
    WalkedSteps mark p asked bytes view (walked_of p asked view) answer new → (shown (upstreams_of new) ≡ shown (upstreams_of p)) × (change_told server answer ≡ changes.No)
walk_turn server told true p new asked bytes view answer step = (ap (λ (q : Plain). shown (upstreams_of q)) (left_of new answer _ step), ap (change_told server) (told_of new answer _ step))
walk_turn server told false p new asked bytes view answer step =
    let walked = walked_of p asked view in (
      ap (λ (q : Plain). shown (upstreams_of q)) step.2 ∙ ap (λ (w : Seen × Shown). w.1) (end_names (upstreams_of p) step.0 asked bytes view walked walked.rule answer step.1),
      (ended_plain (upstreams_of p) step.0 asked bytes view walked walked.rule answer step.1).2 server,
    )

read_turn : (server : ServerId) (told : Option Results) (transfer mark : Bool) (p new : Plain) (asked : Asked) (bytes : List ℕ) (view : QueryView) (answer : Answer) →
    ReadSteps transfer mark p asked bytes view answer new → (shown (upstreams_of new) ≡ shown (upstreams_of p)) × (change_told server answer ≡ changes.No)
read_turn server told true mark p new asked bytes view answer step = (ap (λ (q : Plain). shown (upstreams_of q)) (left_of new answer _ step), ap (change_told server) (told_of new answer _ step))
read_turn server told false mark p new asked bytes view answer step = walk_turn server told mark p new asked bytes view answer step

query_turn : (server : ServerId) (told : Option Results) (mark : Bool) (p new : Plain) (asked : Asked) (bytes : List ℕ) (reading : Result QueryView QueryFault) (answer : Answer) →
    QuerySteps mark p asked bytes reading answer new → (shown (upstreams_of new) ≡ shown (upstreams_of p)) × (change_told server answer ≡ changes.No)
query_turn server told mark p new asked bytes (Err query_faults.Short) answer step = (ap (λ (q : Plain). shown (upstreams_of q)) (left_of new answer _ step), ap (change_told server) (told_of new answer _ step))
query_turn server told mark p new asked bytes (Err query_faults.NotQuery) answer step = (ap (λ (q : Plain). shown (upstreams_of q)) (left_of new answer _ step), ap (change_told server) (told_of new answer _ step))
query_turn server told mark p new asked bytes (Err query_faults.Malformed) answer step = (ap (λ (q : Plain). shown (upstreams_of q)) (left_of new answer _ step), ap (change_told server) (told_of new answer _ step))
query_turn server told mark p new asked bytes (Ok view) answer step = read_turn server told (is_transfer view.qtype.0) mark p new asked bytes view answer step

-- each event
abbrev TurnOf : ServerId → Option Results → Plain → Event → Answer → Plain → Type 0
TurnOf server told p event answer new = Turn server told (shown (upstreams_of p)) event answer (shown (upstreams_of new))

step_turn : LastOfARowFrom → (server : ServerId) (told : Option Results) (p new : Plain) (event : Event) (reading : Reading) (answer : Answer) → Known server told (shown (upstreams_of p)) →
    StepsAt p event reading answer new → TurnOf server told p event answer new
step_turn law server told p new (Query now origin kind word bytes) (OfQuery reading) answer known step =
    let done = query_turn server told (marked answer) p new (asked_at p.moment origin kind word) bytes (viewed reading) answer step in
    quiet server told (shown (upstreams_of p)) (shown (upstreams_of new)) (Query now origin kind word bytes) answer known done.0 refl refl done.1
step_turn law server told p new (Query now origin kind word bytes) (OfReply reading) answer known step = absurd step
step_turn law server told p new (Query now origin kind word bytes) OfNone answer known step = absurd step
step_turn law server told p new (Reply now from lane bytes) (OfReply reading) answer known step =
    quiet server told (shown (upstreams_of p)) (shown (upstreams_of new)) (Reply now from lane bytes) answer known
    (ap (λ (q : Plain). shown (upstreams_of q)) step.2 ∙ ap (λ (w : Seen × Shown). w.1) (reply_pools (marked answer) (upstreams_of p) step.0 from lane p.moment bytes reading answer step.1))
    refl refl ((taken_reply (marked answer) (upstreams_of p) step.0 from lane p.moment bytes reading answer step.1).1 server)
step_turn law server told p new (Reply now from lane bytes) (OfQuery reading) answer known step = absurd step
step_turn law server told p new (Reply now from lane bytes) OfNone answer known step = absurd step
step_turn law server told p new (Tick now) OfNone answer known step =
    quiet server told (shown (upstreams_of p)) (shown (upstreams_of new)) (Tick now) answer known
    (ap (λ (q : Plain). shown (upstreams_of q)) step.2 ∙ ap (λ (w : Seen × Shown). w.1) (tick_pools (upstreams_of p) step.0 p.moment (due p.moment p.outstanding) answer step.1))
    refl refl ((taken_tick (upstreams_of p) step.0 p.moment (due p.moment p.outstanding) answer step.1).1 server)
step_turn law server told p new (Tick now) (OfQuery reading) answer known step = absurd step
step_turn law server told p new (Tick now) (OfReply reading) answer known step = absurd step
step_turn law server told p new (HealthResult now of ok) OfNone answer known step =
    let ups = upstreams_of p in
    let done = upstream_changed p (result_step ups of ok) in
    subst (λ (d : Plain × Answer). TurnOf server told p (HealthResult now of ok) d.1 d.0) (sym step) (result_turn law server told ups known now of ok (position (is_check of) ups.checks) refl)
step_turn law server told p new (HealthResult now of ok) (OfQuery reading) answer known step = absurd step
step_turn law server told p new (HealthResult now of ok) (OfReply reading) answer known step = absurd step
step_turn law server told p new (Edit now command) OfNone answer known step =
    subst (λ (d : Plain × Answer). TurnOf server told p (Edit now command) d.1 d.0) (sym step) (edit_turn server told (marked answer) p now command known)
step_turn law server told p new (Edit now command) (OfQuery reading) answer known step = absurd step
step_turn law server told p new (Edit now command) (OfReply reading) answer known step = absurd step

-- and so what is told of the plain state
told_shown : (server : ServerId) (told : Option Results) (p : Plain) → IsTold server told p → Known server told (shown (upstreams_of p))
told_shown server told p is = record { below = is.marked.below; numbers = is.marked.numbers; checks = is.marked.checks; begins = is.begins; health = is.health }

shown_told : (server : ServerId) (told : Option Results) (p : Plain) → Known server told (shown (upstreams_of p)) → IsTold server told p
shown_told server told p known = record {
  marked = record { numbers = known.numbers; below = known.below; checks = known.checks };
  begins = known.begins;
  health = known.health;
}

pub health_follows : LastOfARowFrom → HealthFollows
health_follows law server told old new event reading answer is step =
    let turn : TurnOf server told (at_plain (moment_of event) old) event answer new = step_turn law server told (at_plain (moment_of event) old) new event reading answer (told_shown server told old is) step in
    record { is_told = shown_told server (told_after server told event answer) new turn.known; tells = turn.tells; numbers = turn.next; goes = turn.goes }
