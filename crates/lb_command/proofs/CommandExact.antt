-- Commands, against the grammar.
use Rattle.std.proofs.Common.{◌≡◌, ℕ, ◌≤◌, false, Option, Some, None, Result, Ok, List, [], length, subst, refl, sym, ap, ◌∙◌, arith, inl, inr, ◌∷◌}
use Rattle.std.proofs.lemmas.Bool.{cases_Bool}
use Rattle.std.specs.Prelude.{codes}
use Rattle.lb_wire.specs.declared.ids.RuleId.{RuleId}
use Rattle.lb_wire.specs.declared.record_type.RecordType.{RecordType}
use Rattle.lb_terms.specs.Selector.{Selector}
use Rattle.lb_terms.specs.Selector as sel
use Rattle.lb_terms.specs.Check.{IsChecked}
use Rattle.lb_servers.specs.declared.pool.PoolName.{PoolName}
use Rattle.lb_servers.specs.declared.pool.Policy.{Policy}
use Rattle.lb_servers.specs.declared.server.Mode.{Mode}
use Rattle.lb_servers.specs.declared.spec.ServerSpec.{ServerSpec}
use Rattle.lb_cache.specs.declared.cached.Covered.{Covered}
use Rattle.lb_cache.specs.declared.cached.Covered.TheVariants as covereds
use Rattle.lb_step.specs.declared.check.CheckSpec.{CheckSpec}
use Rattle.lb_step.specs.declared.command.Command.{Command}
use Rattle.lb_step.specs.declared.command.Command.TheVariants.{RuleAdd, RuleRemove, RuleMove, ServerAdd, ServerRemove, ServerMode, PoolAdd, PoolPolicy, CacheAttach, CacheDetach, Expunge, SetTimeout, Show}
use Rattle.lb_step.specs.declared.command.StatedRule.{StatedRule}
use Rattle.lb_command.specs.Line.{Left, behind_first, first_of}
use Rattle.lb_command.specs.Reading.{◌>>=◌, due, optional, or_left_out, taken}
use Rattle.lb_command.specs.Values.{addr_of, ident_of, in_range, looked_up, mode_of, name_of, number_of, policy_of, pool_of, port_of, type_of}
use Rattle.lb_command.specs.Terms.{checked_at}
use Rattle.lb_command.specs.Actions.{action_at}
use Rattle.lb_command.specs.Skips.{skips_at}
use Rattle.lb_command.specs.Commands.{Stated, behind_cache_verb, behind_extent, behind_pool_verb, behind_rule_verb, behind_server_verb, behind_verb, by_name_at, by_suffix_at, cache_at, cache_attach_at, cache_detach_at, cache_verb_words, check_of, command_at, expunge_at, extent_words, nothing_stated, options_at, place_at, pool_add_at, pool_at, pool_policy_at, pool_verb_words, rule_add_at, rule_at, rule_id, rule_move_at, rule_remove_at, rule_verb_words, server_add_at, server_at, server_mode_at, server_remove_at, server_verb_words, spec_of, timeout_at, verb_words}
use Rattle.lb_command.specs.Grammar.{Allowed, AllowedAction, ◌▷◌, action, all_chosen, command, covered, number, optional_type, place, says, server, skips, term, word}
use Rattle.lb_command.specs.declared.fault.CommandFault.{CommandFault}
use Rattle.lb_command.specs.declared.fault.FaultKind.TheVariants as kinds
use Rattle.lb_command.specs.declared.commands.Verb.{Verb}
use Rattle.lb_command.specs.declared.commands.Verb.TheVariants as verbs
use Rattle.lb_command.specs.declared.commands.RuleVerb.{RuleVerb}
use Rattle.lb_command.specs.declared.commands.RuleVerb.TheVariants as rule_verbs
use Rattle.lb_command.specs.declared.commands.ServerVerb.{ServerVerb}
use Rattle.lb_command.specs.declared.commands.ServerVerb.TheVariants as server_verbs
use Rattle.lb_command.specs.declared.commands.PoolVerb.{PoolVerb}
use Rattle.lb_command.specs.declared.commands.PoolVerb.TheVariants as pool_verbs
use Rattle.lb_command.specs.declared.commands.CacheVerb.{CacheVerb}
use Rattle.lb_command.specs.declared.commands.CacheVerb.TheVariants as cache_verbs
use Rattle.lb_command.specs.declared.commands.Extent.{Extent}
use Rattle.lb_command.specs.declared.commands.Extent.TheVariants as extents
use Rattle.lb_command.proofs.Exact.{Finds, bind_ok, carried, says_again, says_step, step, table_again, table_step, taken_again, taken_found, taken_not}
use Rattle.lb_command.proofs.Keeping.{says_keeps, word_keeps}
use Rattle.lb_command.proofs.TermExact.{checked_again, checked_found, type_found}
use Rattle.lb_command.proofs.ActionExact.{Acts, action_again, action_found}
use Rattle.lb_command.proofs.OptionExact.{MakeAll, options_again, options_found}
use Rattle.lb_command.proofs.SkipExact.{skips_again, skips_found}

-- a command that the grammar allows
abbrev pub Commands : Command → Left → Left → Type 0
Commands c s t = command c s t × Allowed c

-- [at PLACE]
place_found : Finds place_at place
unfolding place_at
place_found s t p h =
    elim (cases_Bool (taken (codes "at") s).0) [
      | inl e ↦
          let given : (due kinds.BadNumber number_of (taken (codes "at") s).1 >>= λ x. Ok (Some x.0, x.1)) ≡ Ok (p, t) = rw e at h in
          let a = says_step kinds.BadNumber number_of (taken (codes "at") s).1 _ (p, t) refl given in
          carried (λ (z : Option ℕ) (u : Left). place z s u) (Some a.0) p a.1 t a.3 ((taken (codes "at") s).1, taken_found (codes "at") s refl e, a.2)
      | inr e ↦
          let not_given : ◌≡◌ {A = Result (Option ℕ × Left) CommandFault} (Ok (None, (taken (codes "at") s).1)) (Ok (p, t)) = rw e at h in
          carried (λ (z : Option ℕ) (u : Left). place z s u) None p (taken (codes "at") s).1 t not_given (sym (taken_not (codes "at") s e))
    ]

-- rule add [at PLACE] TERM ACTION
rule_add_found : (line inner s t : Left) (y : Command) → word (codes "rule") line inner → word (codes "add") inner s → rule_add_at s ≡ Ok (y, t) → Commands y line t
unfolding rule_add_at
rule_add_found line inner s t y w v h =
    let p = step place_at place s _ (y, t) place_found h in
    let c = step checked_at (λ (x : Selector) s t. term x s t × IsChecked x) p.1 _ (y, t) checked_found p.3 in
    let a = step action_at Acts c.1 _ (y, t) action_found c.3 in
    let rule : StatedRule = record { term = c.0; action = a.0 } in
    carried (λ (z : Command) (u : Left). Commands z line u) (RuleAdd p.0 rule) y a.1 t a.3 ((inner, w, (s, v, (p.1, p.2, (c.1, c.2.0, a.2.0)))), (c.2.1, a.2.1))

-- rule remove ID
rule_remove_found : (line inner s t : Left) (y : Command) → word (codes "rule") line inner → word (codes "remove") inner s → rule_remove_at s ≡ Ok (y, t) → Commands y line t
unfolding rule_remove_at
rule_remove_found line inner s t y w v h =
    let a = says_step kinds.BadNumber number_of s _ (y, t) refl h in
    carried (λ (z : Command) (u : Left). Commands z line u) (RuleRemove (rule_id a.0)) y a.1 t a.3 ((inner, w, (s, v, a.2)), tt)

-- rule move ID PLACE
rule_move_found : (line inner s t : Left) (y : Command) → word (codes "rule") line inner → word (codes "move") inner s → rule_move_at s ≡ Ok (y, t) → Commands y line t
unfolding rule_move_at
rule_move_found line inner s t y w v h =
    let a = says_step kinds.BadNumber number_of s _ (y, t) refl h in
    let b = says_step kinds.BadNumber number_of a.1 _ (y, t) refl a.3 in
    carried (λ (z : Command) (u : Left). Commands z line u) (RuleMove (rule_id a.0) b.0) y b.1 t b.3 ((inner, w, (s, v, (a.1, a.2, b.2))), tt)

abbrev rule_text : RuleVerb → List ℕ
rule_text rule_verbs.Add = codes "add"
rule_text rule_verbs.Remove = codes "remove"
rule_text rule_verbs.Move = codes "move"

rule_case : (v : RuleVerb) (line inner s t : Left) (y : Command) → word (codes "rule") line inner → word (rule_text v) inner s → behind_rule_verb v s ≡ Ok (y, t) → Commands y line t
rule_case rule_verbs.Add line inner s t y w v h = rule_add_found line inner s t y w v h
rule_case rule_verbs.Remove line inner s t y w v h = rule_remove_found line inner s t y w v h
rule_case rule_verbs.Move line inner s t y w v h = rule_move_found line inner s t y w v h

rule_found : (line inner t : Left) (y : Command) → word (codes "rule") line inner → rule_at inner ≡ Ok (y, t) → Commands y line t
unfolding rule_at
rule_found line inner t y w h =
    let a = table_step kinds.UnknownWord rule_text rule_verb_words inner _ (y, t) (refl, (refl, (refl, tt))) refl h in
    rule_case a.0 line inner a.1 t y w a.2 a.3

-- server add SNAME ADDR PORT and its options
server_add_found : (line inner s t : Left) (y : Command) → word (codes "server") line inner → word (codes "add") inner s → server_add_at s ≡ Ok (y, t) → Commands y line t
unfolding server_add_at
server_add_found line inner s t y w v h =
    let a = says_step kinds.BadName ident_of s _ (y, t) refl h in
    let b = says_step kinds.BadAddress addr_of a.1 _ (y, t) refl a.3 in
    let c = says_step kinds.BadNumber port_of b.1 _ (y, t) refl b.3 in
    let o = step (options_at 300000 nothing_stated) (λ (new : Stated) s t. MakeAll nothing_stated s new t) c.1 _ (y, t) (λ s t new g. options_found 300000 nothing_stated new s t (omega arith) g) c.3 in
    let made : server (spec_of a.0 b.0 c.0 o.0) (check_of o.0) s o.1 = (o.2.0, ap (λ (z : Stated). spec_of a.0 b.0 c.0 z) o.2.1, ap check_of o.2.1, (a.1, a.2, (b.1, b.2, (c.1, c.2, o.2.2)))) in
    carried (λ (z : Command) (u : Left). Commands z line u) (ServerAdd (spec_of a.0 b.0 c.0 o.0) (check_of o.0)) y o.1 t o.3 ((inner, w, (s, v, made)), o.2.3)

-- server remove SNAME
server_remove_found : (line inner s t : Left) (y : Command) → word (codes "server") line inner → word (codes "remove") inner s → server_remove_at s ≡ Ok (y, t) → Commands y line t
unfolding server_remove_at
server_remove_found line inner s t y w v h =
    let a = says_step kinds.BadName ident_of s _ (y, t) refl h in
    carried (λ (z : Command) (u : Left). Commands z line u) (ServerRemove a.0) y a.1 t a.3 ((inner, w, (s, v, a.2)), tt)

-- server mode SNAME up|down|auto
server_mode_found : (line inner s t : Left) (y : Command) → word (codes "server") line inner → word (codes "mode") inner s → server_mode_at s ≡ Ok (y, t) → Commands y line t
unfolding server_mode_at
server_mode_found line inner s t y w v h =
    let a = says_step kinds.BadName ident_of s _ (y, t) refl h in
    let b = says_step kinds.UnknownWord mode_of a.1 _ (y, t) refl a.3 in
    carried (λ (z : Command) (u : Left). Commands z line u) (ServerMode a.0 b.0) y b.1 t b.3 ((inner, w, (s, v, (a.1, a.2, b.2))), tt)

abbrev server_text : ServerVerb → List ℕ
server_text server_verbs.Add = codes "add"
server_text server_verbs.Remove = codes "remove"
server_text server_verbs.Mode = codes "mode"

server_case : (v : ServerVerb) (line inner s t : Left) (y : Command) → word (codes "server") line inner → word (server_text v) inner s → behind_server_verb v s ≡ Ok (y, t) → Commands y line t
server_case server_verbs.Add line inner s t y w v h = server_add_found line inner s t y w v h
server_case server_verbs.Remove line inner s t y w v h = server_remove_found line inner s t y w v h
server_case server_verbs.Mode line inner s t y w v h = server_mode_found line inner s t y w v h

server_found : (line inner t : Left) (y : Command) → word (codes "server") line inner → server_at inner ≡ Ok (y, t) → Commands y line t
unfolding server_at
server_found line inner t y w h =
    let a = table_step kinds.UnknownWord server_text server_verb_words inner _ (y, t) (refl, (refl, (refl, tt))) refl h in
    server_case a.0 line inner a.1 t y w a.2 a.3

-- pool add PNAME
pool_add_found : (line inner s t : Left) (y : Command) → word (codes "pool") line inner → word (codes "add") inner s → pool_add_at s ≡ Ok (y, t) → Commands y line t
unfolding pool_add_at
pool_add_found line inner s t y w v h =
    let a = says_step kinds.BadName pool_of s _ (y, t) refl h in
    carried (λ (z : Command) (u : Left). Commands z line u) (PoolAdd a.0) y a.1 t a.3 ((inner, w, (s, v, a.2)), tt)

-- pool policy PNAME firstAvailable|leastOutstanding|roundrobin
pool_policy_found : (line inner s t : Left) (y : Command) → word (codes "pool") line inner → word (codes "policy") inner s → pool_policy_at s ≡ Ok (y, t) → Commands y line t
unfolding pool_policy_at
pool_policy_found line inner s t y w v h =
    let a = says_step kinds.BadName pool_of s _ (y, t) refl h in
    let b = says_step kinds.UnknownWord policy_of a.1 _ (y, t) refl a.3 in
    carried (λ (z : Command) (u : Left). Commands z line u) (PoolPolicy a.0 b.0) y b.1 t b.3 ((inner, w, (s, v, (a.1, a.2, b.2))), tt)

abbrev pool_text : PoolVerb → List ℕ
pool_text pool_verbs.Add = codes "add"
pool_text pool_verbs.Policy = codes "policy"

pool_case : (v : PoolVerb) (line inner s t : Left) (y : Command) → word (codes "pool") line inner → word (pool_text v) inner s → behind_pool_verb v s ≡ Ok (y, t) → Commands y line t
pool_case pool_verbs.Add line inner s t y w v h = pool_add_found line inner s t y w v h
pool_case pool_verbs.Policy line inner s t y w v h = pool_policy_found line inner s t y w v h

pool_found : (line inner t : Left) (y : Command) → word (codes "pool") line inner → pool_at inner ≡ Ok (y, t) → Commands y line t
unfolding pool_at
pool_found line inner t y w h =
    let a = table_step kinds.UnknownWord pool_text pool_verb_words inner _ (y, t) (refl, (refl, tt)) refl h in
    pool_case a.0 line inner a.1 t y w a.2 a.3

-- cache attach PNAME MAX SHARDS MAXTTL and its options
cache_attach_found : (line inner s t : Left) (y : Command) → word (codes "cache") line inner → word (codes "attach") inner s → cache_attach_at s ≡ Ok (y, t) → Commands y line t
unfolding cache_attach_at
cache_attach_found line inner s t y w v h =
    let a = says_step kinds.BadName pool_of s _ (y, t) refl h in
    let b = says_step kinds.BadNumber (in_range 1 1000000) a.1 _ (y, t) refl a.3 in
    let c = says_step kinds.BadNumber (in_range 1 64) b.1 _ (y, t) refl b.3 in
    let d = says_step kinds.BadNumber (in_range 1 604800) c.1 _ (y, t) refl c.3 in
    let e = step skips_at skips d.1 _ (y, t) skips_found d.3 in
    carried (λ (z : Command) (u : Left). Commands z line u) (CacheAttach a.0 b.0 c.0 d.0 e.0) y e.1 t e.3 ((inner, w, (s, v, (a.1, a.2, (b.1, b.2, (c.1, c.2, (d.1, d.2, e.2)))))), tt)

-- cache detach PNAME
cache_detach_found : (line inner s t : Left) (y : Command) → word (codes "cache") line inner → word (codes "detach") inner s → cache_detach_at s ≡ Ok (y, t) → Commands y line t
unfolding cache_detach_at
cache_detach_found line inner s t y w v h =
    let a = says_step kinds.BadName pool_of s _ (y, t) refl h in
    carried (λ (z : Command) (u : Left). Commands z line u) (CacheDetach a.0) y a.1 t a.3 ((inner, w, (s, v, a.2)), tt)

abbrev cache_text : CacheVerb → List ℕ
cache_text cache_verbs.Attach = codes "attach"
cache_text cache_verbs.Detach = codes "detach"

cache_case : (v : CacheVerb) (line inner s t : Left) (y : Command) → word (codes "cache") line inner → word (cache_text v) inner s → behind_cache_verb v s ≡ Ok (y, t) → Commands y line t
cache_case cache_verbs.Attach line inner s t y w v h = cache_attach_found line inner s t y w v h
cache_case cache_verbs.Detach line inner s t y w v h = cache_detach_found line inner s t y w v h

cache_found : (line inner t : Left) (y : Command) → word (codes "cache") line inner → cache_at inner ≡ Ok (y, t) → Commands y line t
unfolding cache_at
cache_found line inner t y w h =
    let a = table_step kinds.UnknownWord cache_text cache_verb_words inner _ (y, t) (refl, (refl, tt)) refl h in
    cache_case a.0 line inner a.1 t y w a.2 a.3

-- [TYPE]
left_out_found : (s t : Left) (q read : Option RecordType) → type_of (first_of s).text ≡ read → or_left_out read s ≡ Ok (q, t) → optional_type q s t
left_out_found s t q None e h = carried (λ (z : Option RecordType) (u : Left). optional_type z s u) None q s t h refl
left_out_found s t q (Some x) e h = carried (λ (z : Option RecordType) (u : Left). optional_type z s u) (Some x) q (behind_first s) t h (type_found s (behind_first s) x (rw e refl))

optional_found : Finds (optional type_of) optional_type
optional_found s t q h = left_out_found s t q (type_of (first_of s).text) refl h

-- name NAME [TYPE]
by_name_found : (line s t : Left) (x : Covered) → word (codes "name") line s → by_name_at s ≡ Ok (x, t) → covered x line t
unfolding by_name_at
by_name_found line s t x w h =
    let a = says_step kinds.BadName name_of s _ (x, t) refl h in
    let b = step (optional type_of) optional_type a.1 _ (x, t) optional_found a.3 in
    carried (λ (z : Covered) (u : Left). covered z line u) (covereds.Name a.0 b.0) x b.1 t b.3 (s, w, (a.1, a.2, b.2))

-- suffix NAME
by_suffix_found : (line s t : Left) (x : Covered) → word (codes "suffix") line s → by_suffix_at s ≡ Ok (x, t) → covered x line t
unfolding by_suffix_at
by_suffix_found line s t x w h =
    let a = says_step kinds.BadName name_of s _ (x, t) refl h in
    carried (λ (z : Covered) (u : Left). covered z line u) (covereds.Suffix a.0) x a.1 t a.3 (s, w, a.2)

abbrev extent_text : Extent → List ℕ
extent_text extents.Name = codes "name"
extent_text extents.Suffix = codes "suffix"
extent_text extents.All = codes "all"

extent_case : (v : Extent) (line s t : Left) (x : Covered) → word (extent_text v) line s → behind_extent v s ≡ Ok (x, t) → covered x line t
extent_case extents.Name line s t x w h = by_name_found line s t x w h
extent_case extents.Suffix line s t x w h = by_suffix_found line s t x w h
extent_case extents.All line s t x w h = carried (λ (z : Covered) (u : Left). covered z line u) covereds.All x s t h w

-- expunge PNAME and what it covers
expunge_found : (line s t : Left) (y : Command) → word (codes "expunge") line s → expunge_at s ≡ Ok (y, t) → Commands y line t
unfolding expunge_at
expunge_found line s t y w h =
    let a = says_step kinds.BadName pool_of s _ (y, t) refl h in
    let b = table_step kinds.UnknownWord extent_text extent_words a.1 _ (y, t) (refl, (refl, (refl, tt))) refl a.3 in
    let c = bind_ok (behind_extent b.0 b.1) _ (y, t) b.3 in
    carried (λ (z : Command) (u : Left). Commands z line u) (Expunge a.0 c.0.0) y c.0.1 t c.2 ((s, w, (a.1, a.2, extent_case b.0 a.1 b.1 c.0.1 c.0.0 b.2 c.1)), tt)

-- timeout MS
timeout_found : (line s t : Left) (y : Command) → word (codes "timeout") line s → timeout_at s ≡ Ok (y, t) → Commands y line t
unfolding timeout_at
timeout_found line s t y w h =
    let a = says_step kinds.BadNumber (in_range 1 60000) s _ (y, t) refl h in
    carried (λ (z : Command) (u : Left). Commands z line u) (SetTimeout a.0) y a.1 t a.3 ((s, w, a.2), tt)

abbrev verb_text : Verb → List ℕ
verb_text verbs.Rule = codes "rule"
verb_text verbs.Server = codes "server"
verb_text verbs.Pool = codes "pool"
verb_text verbs.Cache = codes "cache"
verb_text verbs.Expunge = codes "expunge"
verb_text verbs.Timeout = codes "timeout"
verb_text verbs.Show = codes "show"

verb_case : (v : Verb) (line s t : Left) (y : Command) → word (verb_text v) line s → behind_verb v s ≡ Ok (y, t) → Commands y line t
verb_case verbs.Rule line s t y w h = rule_found line s t y w h
verb_case verbs.Server line s t y w h = server_found line s t y w h
verb_case verbs.Pool line s t y w h = pool_found line s t y w h
verb_case verbs.Cache line s t y w h = cache_found line s t y w h
verb_case verbs.Expunge line s t y w h = expunge_found line s t y w h
verb_case verbs.Timeout line s t y w h = timeout_found line s t y w h
verb_case verbs.Show line s t y w h = carried (λ (z : Command) (u : Left). Commands z line u) Show y s t h (w, tt)

-- what is read as a command is one
pub command_part_found : Finds command_at Commands
unfolding command_at
command_part_found s t y h =
    let a = table_step kinds.UnknownWord verb_text verb_words s _ (y, t) (refl, (refl, (refl, (refl, (refl, (refl, (refl, tt))))))) refl h in
    verb_case a.0 s a.1 t y a.2 a.3

-- a term does not begin with `at`
no_place : (x : Selector) (s t : Left) → term x s t → taken (codes "at") s ≡ (false, s)
no_place sel.All s t h = rw h.1 refl
no_place (sel.Suffix names) s t h = rw h.1.1 refl
no_place (sel.Masks masks) s t h = rw h.1.1 refl
no_place (sel.Qtype qtype) s t h = rw h.1.1 refl
no_place (sel.And members) s t h = rw h.1.1 refl
no_place (sel.Or members) s t h = rw h.1.1 refl
no_place (sel.Not member) s t h = rw h.1.1 refl
no_place (sel.MaxQps qps v4 v6) s t h = rw h.1.1 refl

place_again : (s t : Left) (p : Option ℕ) → taken (codes "at") t ≡ (false, t) → place p s t → place_at s ≡ Ok (p, t)
unfolding place_at
place_again s t None stops h = rw (h, stops) refl
place_again s t (Some n) stops h = rw (taken_again (codes "at") s h.0 h.1, says_again kinds.BadNumber number_of h.0 t n h.2) refl

rule_add_again : (s t : Left) (p : Option ℕ) (rule : StatedRule) → (place p ▷ term rule.term ▷ action rule.action) s t → IsChecked rule.term → AllowedAction rule.action → rule_add_at s ≡ Ok (RuleAdd p rule, t)
unfolding rule_add_at
rule_add_again s t p rule h c few =
    rw (place_again s h.0 p (no_place rule.term h.0 h.2.0 h.2.1) h.1, checked_again h.0 h.2.0 rule.term h.2.1 c, action_again rule.action h.2.0 t (h.2.2, few)) refl

rule_remove_again : (s t : Left) (id : RuleId) → number id.0 s t → rule_remove_at s ≡ Ok (RuleRemove id, t)
unfolding rule_remove_at
rule_remove_again s t id h = rw (says_again kinds.BadNumber number_of s t id.0 h) refl

rule_move_again : (s t : Left) (id : RuleId) (to : ℕ) → (number id.0 ▷ number to) s t → rule_move_at s ≡ Ok (RuleMove id to, t)
unfolding rule_move_at
rule_move_again s t id to h = rw (says_again kinds.BadNumber number_of s h.0 id.0 h.1, says_again kinds.BadNumber number_of h.0 t to h.2) refl

behind_rule : (s t : Left) (v : RuleVerb) → looked_up rule_verb_words (rule_text v) ≡ Some v → word (rule_text v) s t → rule_at s ≡ behind_rule_verb v t
unfolding rule_at
behind_rule s t v known h = rw (table_again kinds.UnknownWord rule_verb_words (rule_text v) s t v known h) refl

server_add_again : (s t : Left) (spec : ServerSpec) (check : CheckSpec) → server spec check s t → length spec.pools ≤ 8 → length s.words ≤ 300000 → t.words ≡ [] → server_add_at s ≡ Ok (ServerAdd spec check, t)
unfolding server_add_at
server_add_again s t spec check h few enough none =
    let stated : Stated = all_chosen nothing_stated h.0 in
    let pools : length stated.pools ≤ 8 = subst (λ (z : ServerSpec). length z.pools ≤ 8) h.1 few in
    let a = (says_keeps ident_of spec.name s h.3.0 h.3.1).1 in
    let b = (says_keeps addr_of spec.addr h.3.0 h.3.2.0 h.3.2.1).1 in
    let c = (says_keeps port_of spec.port h.3.2.0 h.3.2.2.0 h.3.2.2.1).1 in
    let read = options_again h.0 300000 nothing_stated h.3.2.2.0 t h.3.2.2.2 none (omega (arith, a, b, c, enough)) pools in
    rw (says_again kinds.BadName ident_of s h.3.0 spec.name h.3.1, says_again kinds.BadAddress addr_of h.3.0 h.3.2.0 spec.addr h.3.2.1, says_again kinds.BadNumber port_of h.3.2.0 h.3.2.2.0 spec.port h.3.2.2.1, read)
    (ap (λ (z : ServerSpec). Ok (ServerAdd z (check_of stated), t)) (sym h.1) ∙ ap (λ (z : CheckSpec). Ok (ServerAdd spec z, t)) (sym h.2))

server_remove_again : (s t : Left) (name : List ℕ) → says ident_of name s t → server_remove_at s ≡ Ok (ServerRemove name, t)
unfolding server_remove_at
server_remove_again s t name h = rw (says_again kinds.BadName ident_of s t name h) refl

server_mode_again : (s t : Left) (name : List ℕ) (mode : Mode) → (says ident_of name ▷ says mode_of mode) s t → server_mode_at s ≡ Ok (ServerMode name mode, t)
unfolding server_mode_at
server_mode_again s t name mode h = rw (says_again kinds.BadName ident_of s h.0 name h.1, says_again kinds.UnknownWord mode_of h.0 t mode h.2) refl

behind_server : (s t : Left) (v : ServerVerb) → looked_up server_verb_words (server_text v) ≡ Some v → word (server_text v) s t → server_at s ≡ behind_server_verb v t
unfolding server_at
behind_server s t v known h = rw (table_again kinds.UnknownWord server_verb_words (server_text v) s t v known h) refl

pool_add_again : (s t : Left) (name : PoolName) → says pool_of name s t → pool_add_at s ≡ Ok (PoolAdd name, t)
unfolding pool_add_at
pool_add_again s t name h = rw (says_again kinds.BadName pool_of s t name h) refl

pool_policy_again : (s t : Left) (name : PoolName) (policy : Policy) → (says pool_of name ▷ says policy_of policy) s t → pool_policy_at s ≡ Ok (PoolPolicy name policy, t)
unfolding pool_policy_at
pool_policy_again s t name policy h = rw (says_again kinds.BadName pool_of s h.0 name h.1, says_again kinds.UnknownWord policy_of h.0 t policy h.2) refl

behind_pool : (s t : Left) (v : PoolVerb) → looked_up pool_verb_words (pool_text v) ≡ Some v → word (pool_text v) s t → pool_at s ≡ behind_pool_verb v t
unfolding pool_at
behind_pool s t v known h = rw (table_again kinds.UnknownWord pool_verb_words (pool_text v) s t v known h) refl

cache_attach_again : (s t : Left) (name : PoolName) (max shards max_ttl : ℕ) (listed : List ℕ) → t.words ≡ []
    → (says pool_of name ▷ says (in_range 1 1000000) max ▷ says (in_range 1 64) shards ▷ says (in_range 1 604800) max_ttl ▷ skips listed) s t → cache_attach_at s ≡ Ok (CacheAttach name max shards max_ttl listed, t)
unfolding cache_attach_at
cache_attach_again s t name max shards max_ttl listed none h =
    rw (says_again kinds.BadName pool_of s h.0 name h.1, says_again kinds.BadNumber (in_range 1 1000000) h.0 h.2.0 max h.2.1, says_again kinds.BadNumber (in_range 1 64) h.2.0 h.2.2.0 shards h.2.2.1, says_again kinds.BadNumber (in_range 1 604800) h.2.2.0 h.2.2.2.0 max_ttl h.2.2.2.1, skips_again listed h.2.2.2.0 t none h.2.2.2.2) refl

cache_detach_again : (s t : Left) (name : PoolName) → says pool_of name s t → cache_detach_at s ≡ Ok (CacheDetach name, t)
unfolding cache_detach_at
cache_detach_again s t name h = rw (says_again kinds.BadName pool_of s t name h) refl

behind_cache : (s t : Left) (v : CacheVerb) → looked_up cache_verb_words (cache_text v) ≡ Some v → word (cache_text v) s t → cache_at s ≡ behind_cache_verb v t
unfolding cache_at
behind_cache s t v known h = rw (table_again kinds.UnknownWord cache_verb_words (cache_text v) s t v known h) refl

-- a type is read where one stands, and none where the line ends
optional_again : (s t : Left) (q : Option RecordType) → t.words ≡ [] → optional_type q s t → optional type_of s ≡ Ok (q, t)
optional_again s t None none h = rw (h, none) refl
optional_again s t (Some q) none h = rw (h.2, h.1) refl

by_name_again : (s t : Left) (name : List (List ℕ)) (q : Option RecordType) → t.words ≡ [] → (says name_of name ▷ optional_type q) s t → by_name_at s ≡ Ok (covereds.Name name q, t)
unfolding by_name_at
by_name_again s t name q none h = rw (says_again kinds.BadName name_of s h.0 name h.1, optional_again h.0 t q none h.2) refl

by_suffix_again : (s t : Left) (name : List (List ℕ)) → says name_of name s t → by_suffix_at s ≡ Ok (covereds.Suffix name, t)
unfolding by_suffix_at
by_suffix_again s t name h = rw (says_again kinds.BadName name_of s t name h) refl

expunge_step : (s a b : Left) (name : PoolName) (v : Extent) (x : Covered) (t : Left) → says pool_of name s a → looked_up extent_words (extent_text v) ≡ Some v → word (extent_text v) a b → behind_extent v b ≡ Ok (x, t) → expunge_at s ≡ Ok (Expunge name x, t)
unfolding expunge_at
expunge_step s a b name v x t p known w read = rw (says_again kinds.BadName pool_of s a name p, table_again kinds.UnknownWord extent_words (extent_text v) a b v known w, read) refl

expunge_again : (s t : Left) (name : PoolName) (x : Covered) → t.words ≡ [] → (says pool_of name ▷ covered x) s t → expunge_at s ≡ Ok (Expunge name x, t)
expunge_again s t name (covereds.Name n q) none h = expunge_step s h.0 h.2.0 name extents.Name (covereds.Name n q) t h.1 refl h.2.1 (by_name_again h.2.0 t n q none h.2.2)
expunge_again s t name (covereds.Suffix n) none h = expunge_step s h.0 h.2.0 name extents.Suffix (covereds.Suffix n) t h.1 refl h.2.1 (by_suffix_again h.2.0 t n h.2.2)
expunge_again s t name covereds.All none h = expunge_step s h.0 t name extents.All covereds.All t h.1 refl h.2 refl

timeout_again : (s t : Left) (millis : ℕ) → says (in_range 1 60000) millis s t → timeout_at s ≡ Ok (SetTimeout millis, t)
unfolding timeout_at
timeout_again s t millis h = rw (says_again kinds.BadNumber (in_range 1 60000) s t millis h) refl

behind : (s t : Left) (v : Verb) → looked_up verb_words (verb_text v) ≡ Some v → word (verb_text v) s t → command_at s ≡ behind_verb v t
unfolding command_at
behind s t v known h = rw (table_again kinds.UnknownWord verb_words (verb_text v) s t v known h) refl

-- a command is read, where the line ends after it
pub command_part_again : (y : Command) (s t : Left) → Commands y s t → length s.words ≤ 300000 → t.words ≡ [] → command_at s ≡ Ok (y, t)
command_part_again (RuleAdd p rule) s t h enough none = behind s h.0.0 verbs.Rule refl h.0.1 ∙ behind_rule h.0.0 h.0.2.0 rule_verbs.Add refl h.0.2.1 ∙ rule_add_again h.0.2.0 t p rule h.0.2.2 h.1.0 h.1.1
command_part_again (RuleRemove id) s t h enough none = behind s h.0.0 verbs.Rule refl h.0.1 ∙ behind_rule h.0.0 h.0.2.0 rule_verbs.Remove refl h.0.2.1 ∙ rule_remove_again h.0.2.0 t id h.0.2.2
command_part_again (RuleMove id to) s t h enough none = behind s h.0.0 verbs.Rule refl h.0.1 ∙ behind_rule h.0.0 h.0.2.0 rule_verbs.Move refl h.0.2.1 ∙ rule_move_again h.0.2.0 t id to h.0.2.2
command_part_again (ServerAdd spec check) s t h enough none =
    let a = (word_keeps (codes "server") s h.0.0 h.0.1).1 in
    let b = (word_keeps (codes "add") h.0.0 h.0.2.0 h.0.2.1).1 in
    behind s h.0.0 verbs.Server refl h.0.1 ∙ behind_server h.0.0 h.0.2.0 server_verbs.Add refl h.0.2.1 ∙ server_add_again h.0.2.0 t spec check h.0.2.2 h.1 (omega (arith, a, b, enough)) none
command_part_again (ServerRemove name) s t h enough none = behind s h.0.0 verbs.Server refl h.0.1 ∙ behind_server h.0.0 h.0.2.0 server_verbs.Remove refl h.0.2.1 ∙ server_remove_again h.0.2.0 t name h.0.2.2
command_part_again (ServerMode name mode) s t h enough none = behind s h.0.0 verbs.Server refl h.0.1 ∙ behind_server h.0.0 h.0.2.0 server_verbs.Mode refl h.0.2.1 ∙ server_mode_again h.0.2.0 t name mode h.0.2.2
command_part_again (PoolAdd name) s t h enough none = behind s h.0.0 verbs.Pool refl h.0.1 ∙ behind_pool h.0.0 h.0.2.0 pool_verbs.Add refl h.0.2.1 ∙ pool_add_again h.0.2.0 t name h.0.2.2
command_part_again (PoolPolicy name policy) s t h enough none = behind s h.0.0 verbs.Pool refl h.0.1 ∙ behind_pool h.0.0 h.0.2.0 pool_verbs.Policy refl h.0.2.1 ∙ pool_policy_again h.0.2.0 t name policy h.0.2.2
command_part_again (CacheAttach name max shards max_ttl listed) s t h enough none = behind s h.0.0 verbs.Cache refl h.0.1 ∙ behind_cache h.0.0 h.0.2.0 cache_verbs.Attach refl h.0.2.1 ∙ cache_attach_again h.0.2.0 t name max shards max_ttl listed none h.0.2.2
command_part_again (CacheDetach name) s t h enough none = behind s h.0.0 verbs.Cache refl h.0.1 ∙ behind_cache h.0.0 h.0.2.0 cache_verbs.Detach refl h.0.2.1 ∙ cache_detach_again h.0.2.0 t name h.0.2.2
command_part_again (Expunge name x) s t h enough none = behind s h.0.0 verbs.Expunge refl h.0.1 ∙ expunge_again h.0.0 t name x none h.0.2
command_part_again (SetTimeout millis) s t h enough none = behind s h.0.0 verbs.Timeout refl h.0.1 ∙ timeout_again h.0.0 t millis h.0.2
command_part_again Show s t h enough none = behind s t verbs.Show refl h.0
