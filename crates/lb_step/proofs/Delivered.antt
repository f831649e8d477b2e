-- A reply that belongs to the query which waits for it is kept, and delivered.
use Rattle.std.proofs.Common.{◌≡◌, ℕ, ◌≤◌, ◌++◌, ◌&&◌, Bool, true, false, IsTrue, List, drop, Option, Some, None, Ok, not, refl, sym, ◌∙◌, ap, subst, arith, nat_lt}
use Rattle.std.specs.Prelude.{IfSome, if◌then◌else◌, option_map}
use Rattle.std.specs.List.{AllByRecursion, count_by, filter, list_any}
use Rattle.std.proofs.lemmas.List.{append_assoc}
use Rattle.lb_name.specs.Name.{labels_of, lower_name, wire_of}
use Rattle.lb_name.specs.Laws.{SplitsBack}
use Rattle.lb_wire.specs.Aging.{LeastIsOutlived, NoneIsOutlived, Outlives}
use Rattle.lb_wire.specs.Belongs.{AsksSame, belongs}
use Rattle.lb_wire.specs.BigEndian.{number_at, two_octets}
use Rattle.lb_wire.specs.Message.{Message, Lays, message_octets}
use Rattle.lb_wire.specs.Opt.{least_ttl}
use Rattle.lb_wire.specs.Question.{Asks}
use Rattle.lb_wire.specs.Reply.{Repeats, Replies, ReadsReply}
use Rattle.lb_wire.specs.declared.ids.CacheId.{CacheId}
use Rattle.lb_wire.specs.declared.ids.ServerId.{ServerId}
use Rattle.lb_wire.specs.declared.kept.Kept.{Kept}
use Rattle.lb_wire.specs.declared.kept.Kept.TheVariants as kept
use Rattle.lb_wire.specs.declared.key.Key.{Key}
use Rattle.lb_wire.specs.declared.question.Question.{Question}
use Rattle.lb_wire.specs.declared.rcode.Rcode.{Rcode}
use Rattle.lb_wire.specs.declared.rcode.Rcode.TheVariants as rcodes
use Rattle.lb_wire.specs.declared.reply.ReplyView.{ReplyView}
use Rattle.lb_wire.specs.declared.transport.Lane.{Lane}
use Rattle.lb_cache.specs.declared.cached.AttachedCache.{AttachedCache}
use Rattle.lb_cache.specs.declared.cached.KeptReply.{KeptReply}
use Rattle.lb_cache.specs.Caches.{CacheLists, IsKeepable, cache_with, has_id, is_dead_in, is_of, is_under, kept_in, name_of_key, put_unless}
use Rattle.lb_table.specs.declared.entry.Entry.{Entry}
use Rattle.lb_table.specs.Place.{at_place}
use Rattle.lb_table.specs.Table.{entry_at}
use Rattle.lb_step.specs.declared.answer.Answer.{Answer}
use Rattle.lb_step.specs.declared.answer.Answer.TheVariants.{Deliver}
use Rattle.lb_step.specs.Answer.{is_unkept, marked}
use Rattle.lb_step.specs.Lifetime.{HasParts, is_keepable, is_negative, least_of, life_by, life_of, longest_by, max_failure}
use Rattle.lb_wire.specs.Options.{carries_of}
use Rattle.lb_step.specs.Reply.{BelongsOrNot, HeldAgainst, IsLeft, Keeps, KeepsAt, MayKeep, ReplySteps, delivered_octets, kept_for, only_caches, without}
use Rattle.lb_step.specs.Upstream.{IsKeyFor, Upstreams, caches_of, with_caches}
use Rattle.lb_step.proofs.ChainEdits.{false_true}
use Rattle.lb_step.proofs.HitOctets.{behind, question_of}
use Rattle.lb_step.proofs.Tied.{eq_numbers, found_at}

-- the name of a question that octets begin with is there
name_there : SplitsBack → (octets : List ℕ) (q : Question) (rest : List ℕ) → Asks octets q rest → labels_of octets ≡ q.name
name_there splits octets q rest asks =
    let after = two_octets q.qtype.0 ++ two_octets q.qclass.0 in
    ap labels_of (asks.parts ∙ append_assoc (wire_of q.name) after rest) ∙ splits q.name (after ++ rest) asks.name.each

-- a message begins with its question after the header
asks_there : (octets : List ℕ) (m : Message) → Lays octets m → Asks (drop 12 octets) (question_of m) (behind m)
asks_there octets m lays = record { name = lays.name; qtype = lays.qtype; qclass = lays.qclass; parts = ap (drop 12) lays.parts }

one_question : (octets : List ℕ) (m : Message) → Lays octets m → number_at octets 4 ≡ 1
one_question octets m lays =
    ap (λ (b : List ℕ). number_at b 4) lays.parts
    ∙ ap (λ (n : ℕ). number_at (message_octets (record m { header = record m.header { questions = n } })) 4) lays.questions

asked_name : SplitsBack → (octets : List ℕ) (m : Message) (questions : ℕ) (question : Option Question) (name : List (List ℕ)) → Lays octets m →
    Repeats (drop 12 octets) questions question → AsksSame question name → lower_name m.name ≡ lower_name name
asked_name splits octets m questions None name lays repeats same = absurd same
asked_name splits octets m questions (Some q) name lays repeats same =
    ap lower_name (sym (name_there splits (drop 12 octets) (question_of m) (behind m) (asks_there octets m lays)) ∙ name_there splits (drop 12 octets) q repeats.1.0 repeats.1.1)
    ∙ same

-- a reply that repeats the question of a query has the name of its key
pub named_as_key : SplitsBack → (octets : List ℕ) (view : ReplyView) (entry : Entry) (ask : Option (CacheId × Key)) → Replies octets view → (view.questions ≡ 1 → AsksSame view.question entry.name) → IsKeyFor entry ask →
    IfSome ask (λ ask. (m : Message) → Lays octets m → lower_name m.name ≡ name_of_key ask.1)
named_as_key splits octets view entry None replies same key = tt
named_as_key splits octets view entry (Some ask) replies same key = λ m lays.
    asked_name splits octets m view.questions view.question entry.name lays replies.question (same (replies.questions ∙ one_question octets m lays)) ∙ sym key

-- a life is no longer than the least TTL
no_longer : (most missing ttl : ℕ) → least_of most missing (Some ttl) ≤ ttl
no_longer most missing ttl = omega (arith)

no_longer_by : (max_ttl answers : ℕ) (rcode : Rcode) (ttl : ℕ) → life_by max_ttl answers rcode (Some ttl) ≤ ttl
no_longer_by max_ttl answers rcodes.NoError ttl = no_longer (longest_by max_ttl (is_negative rcodes.NoError answers)) 0 ttl
no_longer_by max_ttl answers rcodes.NXDomain ttl = no_longer (longest_by max_ttl (is_negative rcodes.NXDomain answers)) 0 ttl
no_longer_by max_ttl answers rcodes.ServFail ttl = no_longer max_failure max_failure ttl
no_longer_by max_ttl answers rcodes.Refused ttl = no_longer max_failure max_failure ttl
no_longer_by max_ttl answers _ ttl = omega arith

no_longer_if : (keepable : Bool) (life ttl : ℕ) → life ≤ ttl → (if keepable then life else 0) ≤ ttl
no_longer_if true life ttl le = le
no_longer_if false life ttl le = omega arith

no_longer_of : (max_ttl : ℕ) (skips : List ℕ) (view : ReplyView) (m : Message) (ttl life : ℕ) → least_ttl m.records ≡ Some ttl → life ≡ life_of max_ttl skips view (Some m) → life ≤ ttl
no_longer_of max_ttl skips view m ttl life least is =
    let kept : Bool = is_keepable view && not (carries_of skips m) in
    let given : life ≡ (if kept then life_by max_ttl m.header.answers view.rcode (Some ttl) else 0) = is ∙ ap (λ (l : Option ℕ). if kept then life_by max_ttl m.header.answers view.rcode l else 0) least in
    subst (λ (n : ℕ). n ≤ ttl) (sym given) (no_longer_if kept (life_by max_ttl m.header.answers view.rcode (Some ttl)) ttl (no_longer_by max_ttl m.header.answers view.rcode ttl))

outlived : LeastIsOutlived → NoneIsOutlived → (max_ttl : ℕ) (skips : List ℕ) (view : ReplyView) (m : Message) (least : Option ℕ) (life : ℕ) → least_ttl m.records ≡ least →
    life ≡ life_of max_ttl skips view (Some m) → AllByRecursion (Outlives life) m.records
outlived least_law none_law max_ttl skips view m None life there is = none_law life m.records there
outlived least_law none_law max_ttl skips view m (Some ttl) life there is = least_law life ttl m.records there (no_longer_of max_ttl skips view m ttl life there is)

-- a reply that lives may be kept
pub keepable : LeastIsOutlived → NoneIsOutlived → (max_ttl : ℕ) (skips octets : List ℕ) (view : ReplyView) (key : Key) (life : ℕ) (parts : Option Message) → HasParts octets parts → life ≡ life_of max_ttl skips view parts → (life ≡ 0 → ⊥) →
    ((m : Message) → Lays octets m → lower_name m.name ≡ name_of_key key) → IsKeepable key octets life
keepable least_law none_law max_ttl skips octets view key life None there is lives named = absurd (lives is)
keepable least_law none_law max_ttl skips octets view key life (Some m) there is lives named =
    (m, there, named m there, outlived least_law none_law max_ttl skips view m (least_ttl m.records) life refl is)

-- an attached cache that is found has the number that was looked for
pub found_cache : (id : CacheId) (caches : List AttachedCache) (cache : AttachedCache) → cache_with id caches ≡ Some cache → cache.id ≡ id
found_cache id caches cache is =
    let f = found_at (has_id id) (λ c. c) caches cache (ap (option_map (λ c. c)) is) in
    let same : cache.id.0 ≡ id.0 = ap (λ (c : AttachedCache). c.id.0) (sym f.gives) ∙ eq_numbers f.x.id.0 id.0 f.passes in
    ap (λ (n : ℕ). record { 0 = n }) same

-- what keeps a reply if memory is lacking keeps it where it is not
would_if : (b : Bool) (x y with_x with_y : List KeptReply × Kept) → (x.1 ≡ kept.NoMemory → with_x.1 ≡ kept.Yes) → (y.1 ≡ kept.NoMemory → with_y.1 ≡ kept.Yes) →
    (if b then x else y).1 ≡ kept.NoMemory → (if b then with_x else with_y).1 ≡ kept.Yes
would_if true x y with_x with_y first second is = first is
would_if false x y with_x with_y first second is = second is

no_room : kept.NoRoom ≡ kept.NoMemory → kept.NoRoom ≡ kept.Yes
no_room is = absurd (false_true (ap is_unkept is))

not_kept : kept.No ≡ kept.NoMemory → kept.No ≡ kept.Yes
not_kept is = absurd (false_true (ap is_unkept is))

would_keep : (max : ℕ) (list : List KeptReply) (k : KeptReply) (now : ℕ) → (kept_in true max list k now).1 ≡ kept.NoMemory → (kept_in false max list k now).1 ≡ kept.Yes
would_keep max list k now is =
    let put : Bool → (KeptReply → Bool) → List KeptReply × Kept = λ mark stays. put_unless mark list k (filter stays list) in
    let other : KeptReply → Bool = λ o. not (is_under k.cache k.reply.key o) in
    let living : KeptReply → Bool = λ o. not (is_dead_in k.cache now o) in
    would_if (list_any (is_under k.cache k.reply.key) list) (put true other) _ (put false other) _ (λ _. refl)
    (would_if (nat_lt (count_by (is_of k.cache) list) max) (put_unless true list k list) _ (put_unless false list k list) _ (λ _. refl)
    (would_if (list_any (is_dead_in k.cache now) list) (put true living) (list, kept.NoRoom) (put false living) (list, kept.NoRoom) (λ _. refl) no_room)) is

would_keep_for : (ups : Upstreams) (moment : ℕ) (octets : List ℕ) (cache : AttachedCache) (key : Key) (life : ℕ) →
    (kept_for true ups moment octets cache key life).1 ≡ kept.NoMemory → (kept_for false ups moment octets cache key life).1 ≡ kept.Yes
would_keep_for ups moment octets cache key life is =
    let k : KeptReply = record { cache = cache.id; reply = record { key = key; bytes = octets; moment = moment; life = life } } in
    would_if (nat_lt 0 life) (kept_in true cache.max ups.kept k moment) (ups.kept, kept.No) (kept_in false cache.max ups.kept k moment) (ups.kept, kept.No) (would_keep cache.max ups.kept k moment) not_kept is

-- a reply would be kept in a list
abbrev WouldKeep : Upstreams → ℕ → List ℕ → ReplyView → Option (CacheId × Key) → Type 0
WouldKeep ups moment octets view ask = (list : List KeptReply) × Keeps false ups moment octets view ask kept.Yes list

told_second : (list : List KeptReply) (told : Kept) (done : List KeptReply × Kept) → IsLeft list told done → told ≡ done.1
told_second list told done is = ap (λ (d : List KeptReply × Kept). d.1) is

would_at : (ups : Upstreams) (moment : ℕ) (octets : List ℕ) (view : ReplyView) (key : Key) (cache : Option AttachedCache) (list : List KeptReply) →
    KeepsAt true ups moment octets view key cache kept.NoMemory list → (after : List KeptReply) × KeepsAt false ups moment octets view key cache kept.Yes after
would_at ups moment octets view key None list is = absurd (false_true (sym (ap is_unkept (told_second list kept.NoMemory _ is))))
would_at ups moment octets view key (Some cache) list is =
    let done = kept_for false ups moment octets cache key is.0 in
    let yes : done.1 ≡ kept.Yes = would_keep_for ups moment octets cache key is.0 (sym (told_second list kept.NoMemory (kept_for true ups moment octets cache key is.0) is.2)) in
    (done.0, (is.0, is.1, ap (λ (told : Kept). (done.0, told)) (sym yes)))

would : (ups : Upstreams) (moment : ℕ) (octets : List ℕ) (view : ReplyView) (ask : Option (CacheId × Key)) (list : List KeptReply) →
    Keeps true ups moment octets view ask kept.NoMemory list → WouldKeep ups moment octets view ask
would ups moment octets view None list is = absurd (false_true (sym (ap is_unkept (told_second list kept.NoMemory _ is))))
would ups moment octets view (Some ask) list is = would_at ups moment octets view ask.1 (cache_with ask.0 ups.caches) list is

-- what becomes of a reply at caches, whatever else stands upstream
over_at : (lacking : Bool) (ups : Upstreams) (lists : CacheLists) (moment : ℕ) (octets : List ℕ) (view : ReplyView) (key : Key) (cache : Option AttachedCache) (told : Kept) (list : List KeptReply) →
    KeepsAt lacking (only_caches lists) moment octets view key cache told list → KeepsAt lacking (with_caches lists ups) moment octets view key cache told list
over_at lacking ups lists moment octets view key None told list keeps = keeps
over_at lacking ups lists moment octets view key (Some cache) told list keeps = keeps

pub keeps_over : (lacking : Bool) (ups : Upstreams) (lists : CacheLists) (moment : ℕ) (octets : List ℕ) (view : ReplyView) (ask : Option (CacheId × Key)) (told : Kept) (list : List KeptReply) →
    Keeps lacking (only_caches lists) moment octets view ask told list → Keeps lacking (with_caches lists ups) moment octets view ask told list
keeps_over lacking ups lists moment octets view None told list keeps = keeps
keeps_over lacking ups lists moment octets view (Some ask) told list keeps = over_at lacking ups lists moment octets view ask.1 (cache_with ask.0 lists.caches) told list keeps

-- caches of which one keeps a reply more have their numbers still
pub lists_left : (old new : CacheLists) (list : List KeptReply) → only_caches new ≡ record (only_caches old) { kept = list } → new ≡ record old { kept = list }
lists_left old new list is = ap caches_of is

-- what is left of a reply that was kept, or not, and delivered
abbrev pub IsDelivered : Upstreams → Upstreams → ℕ → List ℕ → ReplyView → Entry → Answer → Type 0
IsDelivered ups after moment octets view entry answer =
    (told : Kept) × (list : List KeptReply) × Keeps (marked answer) ups moment octets view entry.cache told list × (after ≡ record ups { kept = list }) × (answer ≡ Deliver entry.origin (delivered_octets view entry octets) told)

some_same : (a b : Entry) → Some a ≡ Some b → a ≡ b
some_same a b is = cc is

-- the query that a reply belongs to waits at its place
fitting : (ups : Upstreams) (server : ServerId) (lane : Lane) (view : ReplyView) (waiting entry : Entry) (fits : Bool) →
    Some waiting ≡ entry_at ups.outstanding (at_place server lane view.id) → fits ≡ belongs view waiting.name waiting.qtype waiting.qclass → fits ≡ true →
    Some entry ≡ entry_at ups.outstanding (at_place server lane view.id) → belongs view entry.name entry.qtype entry.qclass ≡ true
fitting ups server lane view waiting entry fits found is_fit fit taken =
    sym (ap (λ (e : Entry). belongs view e.name e.qtype e.qclass) (some_same waiting entry (found ∙ sym taken))) ∙ sym is_fit ∙ fit

pub delivered : (ups mid after : Upstreams) (server : ServerId) (lane : Lane) (moment : ℕ) (bytes own : List ℕ) (view : ReplyView) (waiting entry : Entry) (fits : Bool) (answer : Answer) →
    Some waiting ≡ entry_at ups.outstanding (at_place server lane view.id) → fits ≡ belongs view waiting.name waiting.qtype waiting.qclass → fits ≡ true →
    Some entry ≡ entry_at ups.outstanding (at_place server lane view.id) → mid ≡ without (at_place server lane view.id) ups → own ≡ bytes →
    IsDelivered mid after moment own view entry answer → ReplySteps (marked answer) ups server lane moment bytes (Ok view) answer after
delivered ups mid after server lane moment bytes own view waiting entry fits answer found is_fit fit taken left is_own done =
    let place = at_place server lane view.id in
    let d = subst (λ (b : List ℕ). IsDelivered (without place ups) after moment b view entry answer) is_own (subst (λ (u : Upstreams). IsDelivered u after moment own view entry answer) left done) in
    let pair : (after, answer) ≡ (record (without place ups) { kept = d.1 }, Deliver entry.origin (delivered_octets view entry bytes) d.0) =
    ap (λ (u : Upstreams). (u, answer)) d.3 ∙ ap (λ (a : Answer). (record (without place ups) { kept = d.1 }, a)) d.4 in
    subst (λ (e : Option Entry). HeldAgainst (marked answer) ups place moment bytes view e answer after) taken
    (subst (λ (b : Bool). BelongsOrNot b (marked answer) ups place moment bytes view entry answer after) (sym (fitting ups server lane view waiting entry fits found is_fit fit taken)) (d.0, d.1, d.2, pair))

-- what is told of a reply where memory was lacking
wanting_told : (ups : Upstreams) (moment : ℕ) (octets : List ℕ) (view : ReplyView) (ask : Option (CacheId × Key)) (mark : Bool) (told : Kept) (list : List KeptReply) → Keeps mark ups moment octets view ask told list → mark ≡ is_unkept told → mark ≡ true →
    WouldKeep ups moment octets view ask
wanting_told ups moment octets view ask mark kept.NoMemory list keeps same is = would ups moment octets view ask list (subst (λ (b : Bool). Keeps b ups moment octets view ask kept.NoMemory list) is keeps)
wanting_told ups moment octets view ask mark kept.Yes list keeps same is = absurd (false_true (sym same ∙ is))
wanting_told ups moment octets view ask mark kept.No list keeps same is = absurd (false_true (sym same ∙ is))
wanting_told ups moment octets view ask mark kept.NoRoom list keeps same is = absurd (false_true (sym same ∙ is))

pub may_keep : (ups mid after : Upstreams) (server : ServerId) (lane : Lane) (moment : ℕ) (bytes own : List ℕ) (view : ReplyView) (waiting entry : Entry) (fits : Bool) (answer : Answer) → ReadsReply bytes (Ok view) →
    Some waiting ≡ entry_at ups.outstanding (at_place server lane view.id) → fits ≡ belongs view waiting.name waiting.qtype waiting.qclass → fits ≡ true →
    Some entry ≡ entry_at ups.outstanding (at_place server lane view.id) → mid ≡ without (at_place server lane view.id) ups → own ≡ bytes →
    IsDelivered mid after moment own view entry answer → IsTrue (marked answer) → MayKeep ups server lane moment bytes
may_keep ups mid after server lane moment bytes own view waiting entry fits answer reads found is_fit fit taken left is_own done mark =
    let place = at_place server lane view.id in
    let d = subst (λ (b : List ℕ). IsDelivered (without place ups) after moment b view entry answer) is_own (subst (λ (u : Upstreams). IsDelivered u after moment own view entry answer) left done) in
    let kept_then = wanting_told (without place ups) moment bytes view entry.cache (marked answer) d.0 d.1 d.2 (ap marked d.4) mark in
    record {
      view = view;
      reads = reads;
      entry = entry;
      waits = sym taken;
      fits = fitting ups server lane view waiting entry fits found is_fit fit taken;
      list = kept_then.0;
      keeps = kept_then.1;
    }
