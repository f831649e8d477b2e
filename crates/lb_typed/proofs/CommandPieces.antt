-- Pieces of commands.
use Rattle.std.proofs.Common.{◌≡◌, ◌==◌, true, false, ℕ, ◌<◌, ◌≤◌, ◌^◌, length, append-nil, arith, inl, inr, List, [], ◌∷◌, ◌++◌, Option, None, Some, codes, refl, sym, ap, subst, ◌∙◌}
use Rattle.std.specs.Fmt.{decimal}
use Rattle.std.proofs.lemmas.Bool.{eqb-true}
use Rattle.std.proofs.lemmas.Bool.Decides.{nat_tests}
use Rattle.std.proofs.lemmas.List.{nil_from_length}
use Rattle.lb_wire.specs.declared.ids.RuleId.{RuleId}
use Rattle.lb_servers.specs.declared.pool.PoolName.{PoolName}
use Rattle.lb_servers.specs.declared.pool.Policy.{Policy}
use Rattle.lb_servers.specs.declared.server.Mode.{Mode}
use Rattle.lb_servers.specs.declared.spec.ServerSpec.{ServerSpec}
use Rattle.lb_step.specs.declared.check.CheckSpec.{CheckSpec}
use Rattle.lb_step.specs.declared.command.Command.TheVariants as commands
use Rattle.lb_step.specs.declared.command.StatedRule.{StatedRule}
use Rattle.lb_wire.specs.declared.record_type.RecordType.{RecordType}
use Rattle.lb_cache.specs.Skips.{cookie, each_once}
use Rattle.lb_cache.specs.declared.cached.Covered.{Covered}
use Rattle.lb_cache.specs.declared.cached.Covered.TheVariants as covereds
use Rattle.lb_command.specs.Line.{Left, Seen, left_of}
use Rattle.lb_command.specs.Reading.{max_line}
use Rattle.lb_command.specs.Commands.{Stated, check_of, nothing_stated, spec_of}
use Rattle.lb_command.specs.Grammar.{Part, Says, ◌▷◌, action, all_chosen, all_taken, comma_list, command, covered, number, optional_type, options, place, says, server, skips, term, word}
use Rattle.lb_command.specs.Values.{addr_of, ident_of, in_range, mode_of, name_of, number_of, policy_of, pool_of, port_of, type_of, word_number}
use Rattle.lb_typed.specs.Options.{choices_of}
use Rattle.lb_typed.specs.Pieces.{Follows, Spells}
use Rattle.lb_typed.specs.Typed.{AreLimits}
use Rattle.lb_typed.specs.Words.{Types}
use Rattle.lb_typed.proofs.Choices.{all_are}
use Rattle.lb_typed.proofs.Keywords as words
use Rattle.lb_typed.proofs.Lexed as lexed
use Rattle.lb_typed.proofs.Numbers as numbers
use Rattle.lb_typed.proofs.Spelled.{ended, followed, left_with, silent, spaced, value}

-- two words and what follows them
two : (p q r : Part) (a b c : List ℕ) → Spells p a → Spells q b → Spells r c → Spells (p ▷ q ▷ r) (a ++ 32 ∷ (b ++ 32 ∷ c))
two p q r a b c first second third = spaced p (q ▷ r) a (b ++ 32 ∷ c) first (spaced q r b c second third)

pub rule_add : (rule : StatedRule) (text : List ℕ) → Spells (term rule.term ▷ action rule.action) text → Spells (command (commands.RuleAdd None rule)) (codes "rule add" ++ 32 ∷ text)
rule_add rule text spells = two (word (codes "rule")) (word (codes "add")) (place None ▷ term rule.term ▷ action rule.action) (codes "rule") (codes "add") text words.rule_word words.add_word (silent (term rule.term ▷ action rule.action) text spells)

pub rule_add_at : (at : ℕ) (rule : StatedRule) (text : List ℕ) → at < 2 ^ 64 → Spells (term rule.term ▷ action rule.action) text → Spells (command (commands.RuleAdd (Some at) rule)) ((codes "rule add at" ++ 32 ∷ decimal at) ++ 32 ∷ text)
rule_add_at at rule text small spells =
    two (word (codes "rule")) (word (codes "add")) (place (Some at) ▷ term rule.term ▷ action rule.action) (codes "rule") (codes "add") ((codes "at" ++ 32 ∷ decimal at) ++ 32 ∷ text) words.rule_word words.add_word
    (spaced (place (Some at)) (term rule.term ▷ action rule.action) (codes "at" ++ 32 ∷ decimal at) text (spaced (word (codes "at")) (number at) (codes "at") (decimal at) words.at_word (value number_of at (decimal at) (numbers.number at small))) spells)

pub rule_remove : (id : RuleId) → id.0 < 2 ^ 64 → Spells (command (commands.RuleRemove id)) (codes "rule remove" ++ 32 ∷ decimal id.0)
rule_remove id small = two (word (codes "rule")) (word (codes "remove")) (number id.0) (codes "rule") (codes "remove") (decimal id.0) words.rule_word words.remove_word (value number_of id.0 (decimal id.0) (numbers.number id.0 small))

pub rule_move : (id : RuleId) (to : ℕ) → id.0 < 2 ^ 64 → to < 2 ^ 64 → Spells (command (commands.RuleMove id to)) (codes "rule move" ++ 32 ∷ (decimal id.0 ++ 32 ∷ decimal to))
rule_move id to small small_to =
    two (word (codes "rule")) (word (codes "move")) (number id.0 ▷ number to) (codes "rule") (codes "move") (decimal id.0 ++ 32 ∷ decimal to) words.rule_word words.move_word
    (spaced (number id.0) (number to) (decimal id.0) (decimal to) (value number_of id.0 (decimal id.0) (numbers.number id.0 small)) (value number_of to (decimal to) (numbers.number to small_to)))

pub server_remove : (name text : List ℕ) → Types ident_of name text → Spells (command (commands.ServerRemove name)) (codes "server remove" ++ 32 ∷ text)
server_remove name text types = two (word (codes "server")) (word (codes "remove")) (says ident_of name) (codes "server") (codes "remove") text words.server_word words.remove_word (value ident_of name text types)

pub server_mode : (name text : List ℕ) (mode : Mode) (mode_text : List ℕ) → Types ident_of name text → Types mode_of mode mode_text → Spells (command (commands.ServerMode name mode)) (codes "server mode" ++ 32 ∷ (text ++ 32 ∷ mode_text))
server_mode name text mode mode_text types mode_types =
    two (word (codes "server")) (word (codes "mode")) (says ident_of name ▷ says mode_of mode) (codes "server") (codes "mode") (text ++ 32 ∷ mode_text) words.server_word words.mode_word
    (spaced (says ident_of name) (says mode_of mode) text mode_text (value ident_of name text types) (value mode_of mode mode_text mode_types))

pub pool_add : (name : PoolName) (text : List ℕ) → Types pool_of name text → Spells (command (commands.PoolAdd name)) (codes "pool add" ++ 32 ∷ text)
pool_add name text types = two (word (codes "pool")) (word (codes "add")) (says pool_of name) (codes "pool") (codes "add") text words.pool_word words.add_word (value pool_of name text types)

pub pool_policy : (name : PoolName) (text : List ℕ) (policy : Policy) (policy_text : List ℕ) → Types pool_of name text → Types policy_of policy policy_text → Spells (command (commands.PoolPolicy name policy)) (codes "pool policy" ++ 32 ∷ (text ++ 32 ∷ policy_text))
pool_policy name text policy policy_text types policy_types =
    two (word (codes "pool")) (word (codes "policy")) (says pool_of name ▷ says policy_of policy) (codes "pool") (codes "policy") (text ++ 32 ∷ policy_text) words.pool_word words.policy_word
    (spaced (says pool_of name) (says policy_of policy) text policy_text (value pool_of name text types) (value policy_of policy policy_text policy_types))

pub server_add : (spec : ServerSpec) (check : CheckSpec) (name addr port rest : List ℕ) → Types ident_of spec.name name → Types addr_of spec.addr addr → Types port_of spec.port port → Follows (options (choices_of spec check)) rest → Spells (command (commands.ServerAdd spec check)) (codes "server add" ++ 32 ∷ (name ++ 32 ∷ (addr ++ 32 ∷ (port ++ rest))))
server_add spec check name addr port rest name_types addr_types port_types follows =
    let inner = spaced (says ident_of spec.name) (says addr_of spec.addr ▷ says port_of spec.port ▷ options (choices_of spec check)) name (addr ++ 32 ∷ (port ++ rest)) (value ident_of spec.name name name_types) (spaced (says addr_of spec.addr) (says port_of spec.port ▷ options (choices_of spec check)) addr (port ++ rest) (value addr_of spec.addr addr addr_types) (followed (says port_of spec.port) (options (choices_of spec check)) port rest (value port_of spec.port port port_types) follows)) in
    let stated = all_are spec check in
    two (word (codes "server")) (word (codes "add")) (server spec check) (codes "server") (codes "add") (name ++ 32 ∷ (addr ++ 32 ∷ (port ++ rest))) words.server_word words.add_word
    (λ total after ends. (choices_of spec check, ap (λ (s : Stated). spec_of spec.name spec.addr spec.port s) (sym stated), ap (λ (s : Stated). check_of s) (sym stated), inner total after ends))

no_skip : (listed : List ℕ) → listed ≡ cookie → Follows (skips listed) []
no_skip listed is total rest ends = (ends, inr (inr (is, refl)))

pub none_skipped : Follows (skips []) (codes " skip none")
none_skipped total rest ends =
    (refl, subst (λ (left : Left). skips [] left (left_of total rest)) (sym (lexed.past_space total (codes "skip none" ++ rest))) (inr (inl (refl, spaced (word (codes "skip")) (word (codes "none")) (codes "skip") (codes "none") words.skip_word words.none_word total rest ends))))

-- codes that are found to be none
pub none_are : (listed own : List ℕ) → listed ≡ own → true ≡ (length listed == 0) → own ≡ []
none_are listed own same is = sym same ∙ nil_from_length listed (eqb-true (length listed) 0 (sym is))

-- codes that are found to be some
pub some_are : (listed own : List ℕ) → listed ≡ own → (length listed == 0) ≡ false → 0 < length listed
some_are [] own same is = absurd (grind (arith, nat_tests, is))
some_are (code ∷ listed) own same is = omega (arith)

pub cookie_skipped : (listed : List ℕ) → listed ≡ cookie → Follows (skips listed) []
cookie_skipped = no_skip

pub some_skipped : (listed : List ℕ) (text : List ℕ) → length listed ≤ 16 → each_once listed ≡ listed → Spells (comma_list (says word_number) listed) text → Follows (skips listed) (codes " skip " ++ text)
some_skipped listed text few once spells total rest ends =
    (refl, subst (λ (left : Left). skips listed left (left_of total rest)) (sym (lexed.past_space total ((codes "skip" ++ 32 ∷ text) ++ rest))) (inl (listed, few, sym once, spaced (word (codes "skip")) (comma_list (says word_number) listed) (codes "skip") text words.skip_word spells total rest ends)))

pub cache_attach : (name : PoolName) (max shards max_ttl : ℕ) (listed : List ℕ) (text rest : List ℕ) → Types pool_of name text → AreLimits max shards max_ttl → Follows (skips listed) rest → Spells (command (commands.CacheAttach name max shards max_ttl listed)) (codes "cache attach" ++ 32 ∷ (text ++ 32 ∷ (decimal max ++ 32 ∷ (decimal shards ++ 32 ∷ (decimal max_ttl ++ rest)))))
cache_attach name max shards max_ttl listed text rest types limits follows =
    let last = followed (says (in_range 1 604800) max_ttl) (skips listed) (decimal max_ttl) rest (value (in_range 1 604800) max_ttl (decimal max_ttl) (numbers.ranged 1 604800 max_ttl limits.second limits.week (omega (arith, limits.week)))) follows in
    let third = spaced (says (in_range 1 64) shards) (says (in_range 1 604800) max_ttl ▷ skips listed) (decimal shards) (decimal max_ttl ++ rest) (value (in_range 1 64) shards (decimal shards) (numbers.ranged 1 64 shards limits.shard limits.shards_few (omega (arith, limits.shards_few)))) last in
    let second = spaced (says (in_range 1 1000000) max) (says (in_range 1 64) shards ▷ says (in_range 1 604800) max_ttl ▷ skips listed) (decimal max) (decimal shards ++ 32 ∷ (decimal max_ttl ++ rest)) (value (in_range 1 1000000) max (decimal max) (numbers.ranged 1 1000000 max limits.some limits.few (omega (arith, limits.few)))) third in
    two (word (codes "cache")) (word (codes "attach")) (says pool_of name ▷ says (in_range 1 1000000) max ▷ says (in_range 1 64) shards ▷ says (in_range 1 604800) max_ttl ▷ skips listed) (codes "cache") (codes "attach") (text ++ 32 ∷ (decimal max ++ 32 ∷ (decimal shards ++ 32 ∷ (decimal max_ttl ++ rest)))) words.cache_word words.attach_word
    (spaced (says pool_of name) (says (in_range 1 1000000) max ▷ says (in_range 1 64) shards ▷ says (in_range 1 604800) max_ttl ▷ skips listed) text (decimal max ++ 32 ∷ (decimal shards ++ 32 ∷ (decimal max_ttl ++ rest))) (value pool_of name text types) second)

pub cache_detach : (name : PoolName) (text : List ℕ) → Types pool_of name text → Spells (command (commands.CacheDetach name)) (codes "cache detach" ++ 32 ∷ text)
cache_detach name text types = two (word (codes "cache")) (word (codes "detach")) (says pool_of name) (codes "cache") (codes "detach") text words.cache_word words.detach_word (value pool_of name text types)

pub by_name : (name : List (List ℕ)) (text : List ℕ) → Types name_of name text → Spells (covered (covereds.Name name None)) (codes "name" ++ 32 ∷ text)
by_name name text types = spaced (word (codes "name")) (says name_of name ▷ optional_type None) (codes "name") text words.name_word (ended (says name_of name) text (value name_of name text types))

pub by_name_and_type : (name : List (List ℕ)) (qtype : RecordType) (text type_text : List ℕ) → Types name_of name text → Types type_of qtype type_text → Spells (covered (covereds.Name name (Some qtype))) (codes "name" ++ 32 ∷ (text ++ 32 ∷ type_text))
by_name_and_type name qtype text type_text types type_types = two (word (codes "name")) (says name_of name) (says type_of qtype) (codes "name") text type_text words.name_word (value name_of name text types) (value type_of qtype type_text type_types)

pub by_suffix : (name : List (List ℕ)) (text : List ℕ) → Types name_of name text → Spells (covered (covereds.Suffix name)) (codes "suffix" ++ 32 ∷ text)
by_suffix name text types = spaced (word (codes "suffix")) (says name_of name) (codes "suffix") text words.suffix_word (value name_of name text types)

pub expunge : (name : PoolName) (what : Covered) (text what_text : List ℕ) → Types pool_of name text → Spells (covered what) what_text → Spells (command (commands.Expunge name what)) (codes "expunge" ++ 32 ∷ (text ++ 32 ∷ what_text))
expunge name what text what_text types spells = two (word (codes "expunge")) (says pool_of name) (covered what) (codes "expunge") text what_text words.expunge_word (value pool_of name text types) spells

pub set_timeout : (millis : ℕ) → 1 ≤ millis → millis ≤ 60000 → Spells (command (commands.SetTimeout millis)) (codes "timeout" ++ 32 ∷ decimal millis)
set_timeout millis least most = spaced (word (codes "timeout")) (says (in_range 1 60000) millis) (codes "timeout") (decimal millis) words.timeout_word (value (in_range 1 60000) millis (decimal millis) (numbers.ranged 1 60000 millis least most (omega (arith, most))))

-- a whole line
pub is_said : (part : Part) (text : List ℕ) → Spells part text → length text ≤ max_line → Says part text
is_said part text spells short = (
  short,
  subst (λ (left : Left). part left (all_taken text)) (ap (λ (line : List ℕ). left_of (length text) line) (append-nil text))
      (subst (λ (left : Left). part (left_of (length text) (text ++ [])) left) (ap (λ (ws : List Seen). left_with (length text) ws) (lexed.at_end (length text))) (spells (length text) [] refl)),
)
