-- What a part leaves of a line: no more than there was, with the line's length, and no empty text where there was none.
use Rattle.std.proofs.Common.{◌≡◌, ℕ, ◌==◌, ◌-◌, ◌+◌, ◌≤◌, ◌&&◌, Option, Some, None, List, [], ◌∷◌, length, subst, refl, sym, ◌∙◌, arith, inl, inr}
use Rattle.std.proofs.lemmas.Bool.{cases_Bool}
use Rattle.std.specs.Prelude.{codes}
use Rattle.lb_terms.specs.Selector.{Selector, Selectors, end, more}
use Rattle.lb_terms.specs.Selector as sel
use Rattle.lb_wire.specs.declared.record_type.RecordType.{RecordType}
use Rattle.lb_servers.specs.declared.spec.ServerSpec.{ServerSpec}
use Rattle.lb_cache.specs.declared.cached.Covered.{Covered}
use Rattle.lb_cache.specs.declared.cached.Covered.TheVariants as covereds
use Rattle.lb_step.specs.declared.check.CheckSpec.{CheckSpec}
use Rattle.lb_step.specs.declared.command.Command.{Command}
use Rattle.lb_step.specs.declared.command.Command.TheVariants.{RuleAdd, RuleRemove, RuleMove, ServerAdd, ServerRemove, ServerMode, PoolAdd, PoolPolicy, CacheAttach, CacheDetach, Expunge, SetTimeout, Show}
use Rattle.lb_chain.specs.declared.action.Action.{Action}
use Rattle.lb_chain.specs.declared.action.Action.TheVariants as actions
use Rattle.lb_servers.specs.declared.pool.PoolName.{PoolName}
use Rattle.lb_step.specs.declared.event.Event.{Event}
use Rattle.lb_step.specs.declared.event.Event.TheVariants.{Query, Reply, Tick, HealthResult, Edit}
use Rattle.lb_command.specs.Line.{Left, Seen, begins_word, in_front, is_word_byte, seen, whole, words_of}
use Rattle.lb_command.specs.Grammar.{Choice, Part, ◌▷◌, action, bracketed, choice, code_skips, comma_list, command, covered, event, in_front_of, lengths, optional_type, options, order, pool, fall, lanes, rise, resolve, other_terms, others, place, says, server, setup, skips, term, terms, word}
use Rattle.lb_masks.specs.Number.{number_up_to}
use Rattle.lb_command.specs.Values.{addr_of, count_of, hex_of, ident_of, in_range, kind_of, lane_of, mask_of, mode_of, name_of, number_of, outcome_of, policy_of, pool_of, port_of, protocol_of, rcode_of, type_of, word_number}
use Rattle.lb_command.specs.declared.setup.SetupLine.{SetupLine}
use Rattle.lb_command.specs.declared.setup.SetupLine.TheVariants as setups
use Rattle.lb_command.proofs.Lexing.{at_end, before}

-- a text that is not empty
abbrev pub IsSome : List ℕ → Type 0
IsSome [] = ⊥
IsSome (b ∷ bs) = Unit {0}

abbrev pub AreSome : List Seen → Type 0
AreSome [] = Unit {0}
AreSome (w ∷ ws) = IsSome w.text × AreSome ws

abbrev pub Kept : Left → Left → Type 0
Kept left rest = (rest.total ≡ left.total) × (length rest.words ≤ length left.words) × (AreSome left.words → AreSome rest.words)

-- a part that leaves so
abbrev pub Keeps : Part → Type 0
Keeps part = (s t : Left) → part s t → Kept s t

same : (s t : Left) → s ≡ t → Kept s t
same s t h = subst (λ (u : Left). Kept s u) h (refl, omega arith, λ all. all)

one_less : (w : Seen) (s t : Left) → s ≡ in_front_of w t → Kept s t
one_less w s t h = subst (λ (u : Left). Kept u t) (sym h) (refl, omega arith, λ all. all.1)

pub word_keeps : (text : List ℕ) → Keeps (word text)
word_keeps text s t h = one_less (seen text h.0) s t h.1

pub says_keeps : {A : Type 0} (value : List ℕ → Option A) (x : A) → Keeps (says value x)
says_keeps value x s t h = one_less h.0 s t h.2

then_keeps : (first second : Part) → Keeps first → Keeps second → Keeps (first ▷ second)
then_keeps first second f g s t h =
    let a = f s h.0 h.1 in
    let b = g h.0 t h.2 in
    (b.0 ∙ a.0, omega (arith, a.1, b.1), λ all. b.2 (a.2 all))

bracketed_keeps : (inner : Part) → Keeps inner → Keeps (bracketed inner)
bracketed_keeps inner k = then_keeps (word (codes "(")) (inner ▷ word (codes ")")) (word_keeps (codes "(")) (then_keeps inner (word (codes ")")) k (word_keeps (codes ")")))

-- a word and then a part, and a word and then a part in brackets
behind_word : (text : List ℕ) (second : Part) → Keeps second → Keeps (word text ▷ second)
behind_word text second k = then_keeps (word text) second (word_keeps text) k

behind_value : {A : Type 0} (value : List ℕ → Option A) (x : A) (second : Part) → Keeps second → Keeps (says value x ▷ second)
behind_value value x second k = then_keeps (says value x) second (says_keeps value x) k

others_keep : {A : Type 0} (part : A → Part) → ((x : A) → Keeps (part x)) → (xs : List A) → Keeps (others part xs)
others_keep part k [] s t h = same s t h
others_keep part k (x ∷ xs) s t h = behind_word (codes ",") (part x ▷ others part xs) (then_keeps (part x) (others part xs) (k x) (others_keep part k xs)) s t h

list_keeps : {A : Type 0} (part : A → Part) → ((x : A) → Keeps (part x)) → (xs : List A) → Keeps (comma_list part xs)
list_keeps part k [] s t h = absurd h
list_keeps part k (x ∷ xs) s t h = then_keeps (part x) (others part xs) (k x) (others_keep part k xs) s t h

lengths_keep : (v4 v6 : ℕ) → Keeps (lengths v4 v6)
lengths_keep v4 v6 s t (inl h) =
    behind_word (codes ",") (says (number_up_to 10 32) v4 ▷ word (codes ",") ▷ says (number_up_to 10 128) v6)
    (behind_value (number_up_to 10 32) v4 (word (codes ",") ▷ says (number_up_to 10 128) v6)
    (behind_word (codes ",") (says (number_up_to 10 128) v6) (says_keeps (number_up_to 10 128) v6))) s t h
lengths_keep v4 v6 s t (inr h) = same s t h.2

mutual
  pub term_keeps : (x : Selector) → Keeps (term x)
  term_keeps sel.All s t h = word_keeps (codes "all") s t h
  term_keeps (sel.Suffix names) s t h = behind_word (codes "suffix") (bracketed (comma_list (says name_of) names)) (bracketed_keeps (comma_list (says name_of) names) (list_keeps (says name_of) (says_keeps name_of) names)) s t h
  term_keeps (sel.Masks masks) s t h = behind_word (codes "masks") (bracketed (comma_list (says mask_of) masks)) (bracketed_keeps (comma_list (says mask_of) masks) (list_keeps (says mask_of) (says_keeps mask_of) masks)) s t h
  term_keeps (sel.Qtype qtype) s t h = behind_word (codes "qtype") (bracketed (says type_of qtype)) (bracketed_keeps (says type_of qtype) (says_keeps type_of qtype)) s t h
  term_keeps (sel.And members) s t h = behind_word (codes "and") (bracketed (terms members)) (bracketed_keeps (terms members) (terms_keep members)) s t h
  term_keeps (sel.Or members) s t h = behind_word (codes "or") (bracketed (terms members)) (bracketed_keeps (terms members) (terms_keep members)) s t h
  term_keeps (sel.Not member) s t h = behind_word (codes "not") (bracketed (term member)) (bracketed_keeps (term member) (term_keeps member)) s t h
  term_keeps (sel.MaxQps qps v4 v6) s t h = behind_word (codes "maxqps") (bracketed (says (in_range 1 1000) qps ▷ lengths v4 v6)) (bracketed_keeps (says (in_range 1 1000) qps ▷ lengths v4 v6) (behind_value (in_range 1 1000) qps (lengths v4 v6) (lengths_keep v4 v6))) s t h

  terms_keep : (xs : Selectors) → Keeps (terms xs)
  terms_keep end s t h = absurd h
  terms_keep (more x xs) s t h = then_keeps (term x) (other_terms xs) (term_keeps x) (other_terms_keep xs) s t h

  other_terms_keep : (xs : Selectors) → Keeps (other_terms xs)
  other_terms_keep end s t h = same s t h
  other_terms_keep (more x xs) s t h = behind_word (codes ",") (term x ▷ other_terms xs) (then_keeps (term x) (other_terms xs) (term_keeps x) (other_terms_keep xs)) s t h

action_keeps : (a : Action PoolName) → Keeps (action a)
action_keeps actions.Allow = word_keeps (codes "allow")
action_keeps actions.Drop = word_keeps (codes "drop")
action_keeps (actions.Rcode rcode) = behind_word (codes "rcode") (bracketed (says rcode_of rcode)) (bracketed_keeps (says rcode_of rcode) (says_keeps rcode_of rcode))
action_keeps (actions.Pool name) = behind_word (codes "pool") (bracketed (says pool_of name)) (bracketed_keeps (says pool_of name) (says_keeps pool_of name))
action_keeps actions.Tc = word_keeps (codes "tc")
action_keeps (actions.Spoof addrs) = behind_word (codes "spoof") (bracketed (comma_list (says addr_of) addrs)) (bracketed_keeps (comma_list (says addr_of) addrs) (list_keeps (says addr_of) (says_keeps addr_of) addrs))
action_keeps actions.None = word_keeps (codes "none")
action_keeps actions.NoRecurse = word_keeps (codes "norecurse")
action_keeps actions.SkipCache = word_keeps (codes "skipcache")

place_keeps : (at : Option ℕ) → Keeps (place at)
place_keeps None = same
place_keeps (Some n) = behind_word (codes "at") (says number_of n) (says_keeps number_of n)

-- an option takes a word at least
pub choice_keeps : (c : Choice) → Keeps (choice c)
choice_keeps (order n) = behind_word (codes "order") (says word_number n) (says_keeps word_number n)
choice_keeps (pool name) = behind_word (codes "pool") (says pool_of name) (says_keeps pool_of name)
choice_keeps (fall n) = behind_word (codes "fall") (says count_of n) (says_keeps count_of n)
choice_keeps (rise n) = behind_word (codes "rise") (says count_of n) (says_keeps count_of n)
choice_keeps (lanes n) = behind_word (codes "lanes") (says (in_range 1 8) n) (says_keeps (in_range 1 8) n)
choice_keeps resolve = word_keeps (codes "resolve")

options_keep : (choices : List Choice) → Keeps (options choices)
options_keep [] = same
options_keep (c ∷ choices) = then_keeps (choice c) (options choices) (choice_keeps c) (options_keep choices)

server_keeps : (spec : ServerSpec) (check : CheckSpec) → Keeps (server spec check)
server_keeps spec check s t h =
    behind_value ident_of spec.name (says addr_of spec.addr ▷ says port_of spec.port ▷ options h.0)
    (behind_value addr_of spec.addr (says port_of spec.port ▷ options h.0)
    (behind_value port_of spec.port (options h.0) (options_keep h.0))) s t h.3

type_keeps : (q : Option RecordType) → Keeps (optional_type q)
type_keeps None = same
type_keeps (Some qtype) = says_keeps type_of qtype

covered_keeps : (what : Covered) → Keeps (covered what)
covered_keeps (covereds.Name name q) = behind_word (codes "name") (says name_of name ▷ optional_type q) (behind_value name_of name (optional_type q) (type_keeps q))
covered_keeps (covereds.Suffix name) = behind_word (codes "suffix") (says name_of name) (says_keeps name_of name)
covered_keeps covereds.All = word_keeps (codes "all")

two_words : (a b : List ℕ) (second : Part) → Keeps second → Keeps (word a ▷ word b ▷ second)
two_words a b second k = behind_word a (word b ▷ second) (behind_word b second k)

skips_keep : (listed : List ℕ) → Keeps (skips listed)
skips_keep listed s t (inl h) = behind_word (codes "skip") (comma_list (says word_number) h.0) (list_keeps (says word_number) (says_keeps word_number) h.0) s t h.3
skips_keep listed s t (inr (inl h)) = behind_word (codes "skip") (word (codes "none")) (word_keeps (codes "none")) s t h.1
skips_keep listed s t (inr (inr h)) = same s t h.1

pub command_keeps : (c : Command) → Keeps (command c)
command_keeps (RuleAdd at rule) = two_words (codes "rule") (codes "add") (place at ▷ term rule.term ▷ action rule.action) (then_keeps (place at) (term rule.term ▷ action rule.action) (place_keeps at) (then_keeps (term rule.term) (action rule.action) (term_keeps rule.term) (action_keeps rule.action)))
command_keeps (RuleRemove id) = two_words (codes "rule") (codes "remove") (says number_of id.0) (says_keeps number_of id.0)
command_keeps (RuleMove id to) = two_words (codes "rule") (codes "move") (says number_of id.0 ▷ says number_of to) (behind_value number_of id.0 (says number_of to) (says_keeps number_of to))
command_keeps (ServerAdd spec check) = two_words (codes "server") (codes "add") (server spec check) (server_keeps spec check)
command_keeps (ServerRemove name) = two_words (codes "server") (codes "remove") (says ident_of name) (says_keeps ident_of name)
command_keeps (ServerMode name mode) = two_words (codes "server") (codes "mode") (says ident_of name ▷ says mode_of mode) (behind_value ident_of name (says mode_of mode) (says_keeps mode_of mode))
command_keeps (PoolAdd name) = two_words (codes "pool") (codes "add") (says pool_of name) (says_keeps pool_of name)
command_keeps (PoolPolicy name policy) = two_words (codes "pool") (codes "policy") (says pool_of name ▷ says policy_of policy) (behind_value pool_of name (says policy_of policy) (says_keeps policy_of policy))
command_keeps (CacheAttach name max shards max_ttl listed) =
    two_words (codes "cache") (codes "attach") (says pool_of name ▷ says (in_range 1 1000000) max ▷ says (in_range 1 64) shards ▷ says (in_range 1 604800) max_ttl ▷ skips listed)
    (behind_value pool_of name (says (in_range 1 1000000) max ▷ says (in_range 1 64) shards ▷ says (in_range 1 604800) max_ttl ▷ skips listed)
    (behind_value (in_range 1 1000000) max (says (in_range 1 64) shards ▷ says (in_range 1 604800) max_ttl ▷ skips listed)
    (behind_value (in_range 1 64) shards (says (in_range 1 604800) max_ttl ▷ skips listed)
    (behind_value (in_range 1 604800) max_ttl (skips listed) (skips_keep listed)))))
command_keeps (CacheDetach name) = two_words (codes "cache") (codes "detach") (says pool_of name) (says_keeps pool_of name)
command_keeps (Expunge name what) = behind_word (codes "expunge") (says pool_of name ▷ covered what) (behind_value pool_of name (covered what) (covered_keeps what))
command_keeps (SetTimeout millis) = behind_word (codes "timeout") (says (in_range 1 60000) millis) (says_keeps (in_range 1 60000) millis)
command_keeps Show = word_keeps (codes "show")

pub event_keeps : (e : Event) → Keeps (event e)
event_keeps (Query now origin kind random bytes) s t h =
    behind_word (codes "query") (says number_of now ▷ says number_of origin.slot ▷ says kind_of kind ▷ says addr_of origin.source ▷ says word_number random ▷ says hex_of bytes)
    (behind_value number_of now (says number_of origin.slot ▷ says kind_of kind ▷ says addr_of origin.source ▷ says word_number random ▷ says hex_of bytes)
    (behind_value number_of origin.slot (says kind_of kind ▷ says addr_of origin.source ▷ says word_number random ▷ says hex_of bytes)
    (behind_value kind_of kind (says addr_of origin.source ▷ says word_number random ▷ says hex_of bytes)
    (behind_value addr_of origin.source (says word_number random ▷ says hex_of bytes)
    (behind_value word_number random (says hex_of bytes) (says_keeps hex_of bytes)))))) s t h.1
event_keeps (Reply now id lane bytes) s t h =
    behind_word (codes "reply") (says number_of now ▷ says number_of id.0 ▷ says lane_of lane ▷ says hex_of bytes)
    (behind_value number_of now (says number_of id.0 ▷ says lane_of lane ▷ says hex_of bytes)
    (behind_value number_of id.0 (says lane_of lane ▷ says hex_of bytes)
    (behind_value lane_of lane (says hex_of bytes) (says_keeps hex_of bytes)))) s t h
event_keeps (Tick now) s t h = behind_word (codes "tick") (says number_of now) (says_keeps number_of now) s t h
event_keeps (HealthResult now id ok) s t h =
    behind_word (codes "health") (says number_of now ▷ says number_of id.0 ▷ says outcome_of ok)
    (behind_value number_of now (says number_of id.0 ▷ says outcome_of ok) (behind_value number_of id.0 (says outcome_of ok) (says_keeps outcome_of ok))) s t h
event_keeps (Edit now c) s t h = behind_word (codes "edit") (says number_of now ▷ command c) (behind_value number_of now (command c) (command_keeps c)) s t h

pub setup_keeps : (l : SetupLine) → Keeps (setup l)
setup_keeps (setups.Listen listener) =
    behind_word (codes "listen") (says protocol_of listener.protocol ▷ says addr_of listener.addr ▷ says port_of listener.port)
    (behind_value protocol_of listener.protocol (says addr_of listener.addr ▷ says port_of listener.port)
    (behind_value addr_of listener.addr (says port_of listener.port) (says_keeps port_of listener.port)))
setup_keeps (setups.Log n) = behind_word (codes "log") (says (number_up_to 10 1000000) n) (says_keeps (number_up_to 10 1000000) n)
setup_keeps (setups.Edit c) = command_keeps c

-- every text of a line has a byte
in_front_some : (b place : ℕ) (ws : List Seen) → AreSome ws → AreSome (in_front b place ws)
in_front_some b place [] h = (tt, tt)
in_front_some b place (w ∷ ws) h = (tt, h.1)

in_front_length : (b place : ℕ) (ws : List Seen) → length (in_front b place ws) ≤ length ws + 1
in_front_length b place [] = omega arith
in_front_length b place (w ∷ ws) = omega arith

words_some : (total : ℕ) (bs : List ℕ) → AreSome (words_of total bs)
words_some total [] = rw (at_end total) tt
words_some total (b ∷ bs) =
    elim (cases_Bool (b == 32)) [
      | inl e ↦ rw (before total b bs, e) (words_some total bs)
      | inr e ↦ elim (cases_Bool (is_word_byte b && begins_word bs)) [
        | inl f ↦ rw (before total b bs, e, f) (in_front_some b (total - length (b ∷ bs)) (words_of total bs) (words_some total bs))
        | inr f ↦ rw (before total b bs, e, f) (tt, words_some total bs)
      ]
    ]

words_few : (total : ℕ) (bs : List ℕ) → length (words_of total bs) ≤ length bs
words_few total [] = rw (at_end total) (omega arith)
words_few total (b ∷ bs) =
    let few = words_few total bs in
    elim (cases_Bool (b == 32)) [
      | inl e ↦ rw (before total b bs, e) (omega (arith, few))
      | inr e ↦ elim (cases_Bool (is_word_byte b && begins_word bs)) [
        | inl f ↦ let one = in_front_length b (total - length (b ∷ bs)) (words_of total bs) in rw (before total b bs, e, f) (omega (arith, few, one))
        | inr f ↦ rw (before total b bs, e, f) (omega (arith, few))
      ]
    ]

-- a line has no more words and signs than bytes
pub line_some : (line : List ℕ) → AreSome (whole line).words
line_some line = words_some (length line) line

pub line_few : (line : List ℕ) → length (whole line).words ≤ length line
line_few line = words_few (length line) line
