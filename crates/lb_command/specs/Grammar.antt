-- The grammar of commands, event lines and setup lines, line by line as the operator's table has it. A part says that what is
-- left of a line begins with it, and what is left after it.
use Rattle.std.specs.Prelude.{◌≡◌, ◌⊎◌, ℕ, ◌≤◌, true, Option, Some, None, List, [], ◌∷◌, ◌++◌, length, codes}
use Rattle.std.specs.declared.num.NonZeroU8.{NonZeroU8}
use Rattle.lb_wire.specs.declared.record_type.RecordType.{RecordType}
use Rattle.lb_masks.specs.Number.{number_up_to}
use Rattle.lb_terms.specs.Selector.{Selector, Selectors, end, more}
use Rattle.lb_terms.specs.Selector as sel
use Rattle.lb_terms.specs.Check.{IsChecked}
use Rattle.lb_servers.specs.declared.pool.PoolName.{PoolName}
use Rattle.lb_servers.specs.declared.spec.ServerSpec.{ServerSpec}
use Rattle.lb_cache.specs.declared.cached.Covered.{Covered}
use Rattle.lb_cache.specs.declared.cached.Covered.TheVariants as covereds
use Rattle.lb_cache.specs.Skips.{cookie, each_once}
use Rattle.lb_step.specs.declared.check.CheckSpec.{CheckSpec}
use Rattle.lb_step.specs.declared.command.Command.{Command}
use Rattle.lb_step.specs.declared.command.Command.TheVariants.{RuleAdd, RuleRemove, RuleMove, ServerAdd, ServerRemove, ServerMode, PoolAdd, PoolPolicy, CacheAttach, CacheDetach, Expunge, SetTimeout, Show}
use Rattle.lb_chain.specs.declared.action.Action.{Action}
use Rattle.lb_chain.specs.declared.action.Action.TheVariants as actions
use Rattle.lb_step.specs.declared.event.Event.{Event}
use Rattle.lb_step.specs.declared.event.Event.TheVariants.{Query, Reply, Tick, HealthResult, Edit}
use Rattle.lb_command.specs.Line.{Left, Seen, seen, whole}
use Rattle.lb_command.specs.Reading.{max_line}
use Rattle.lb_command.specs.Values.{addr_of, count_of, hex_of, ident_of, in_range, kind_of, lane_of, mask_of, mode_of, name_of, number_of, outcome_of, policy_of, pool_of, port_of, protocol_of, rcode_of, type_of, word_number}
use Rattle.lb_command.specs.Commands.{Stated, check_of, nothing_stated, spec_of}
use Rattle.lb_command.specs.Events.{told_origin}
use Rattle.lb_command.specs.declared.setup.SetupLine.{SetupLine}
use Rattle.lb_command.specs.declared.setup.SetupLine.TheVariants as setups

-- what is left of a line, and what is left after the part
abbrev pub Part : Type 1
Part = Left → Left → Type 0

-- one part, and then another
infixr 10 ◌▷◌
abbrev pub ◌▷◌ : Part → Part → Part
(first ▷ second) left rest = (between : Left) × first left between × second between rest

-- a word or sign in front of what is left
abbrev pub in_front_of : Seen → Left → Left
in_front_of w rest = record { words = w ∷ rest.words; total = rest.total }

-- this word or sign
abbrev pub word : List ℕ → Part
word text left rest = (place : ℕ) × (left ≡ in_front_of (seen text place) rest)

-- a word that says this value
abbrev pub says : {A : Type 0} → (List ℕ → Option A) → A → Part
says value x left rest = (w : Seen) × (value w.text ≡ Some x) × (left ≡ in_front_of w rest)

-- nothing
abbrev pub nothing : Part
nothing left rest = left ≡ rest

-- one of two forms
abbrev pub either : Part → Part → Part
either one other left rest = one left rest ⊎ other left rest

abbrev pub bracketed : Part → Part
bracketed inner = word (codes "(") ▷ inner ▷ word (codes ")")

-- {,X}
abbrev pub others : {A : Type 0} → (A → Part) → List A → Part
others part [] left rest = nothing left rest
others part (x ∷ xs) left rest = (word (codes ",") ▷ part x ▷ others part xs) left rest

-- X{,X}
abbrev pub comma_list : {A : Type 0} → (A → Part) → List A → Part
comma_list part [] left rest = ⊥
comma_list part (x ∷ xs) left rest = (part x ▷ others part xs) left rest

-- PLACE, ID, NOW, SLOT, SERVER
abbrev pub number : ℕ → Part
number = says number_of

-- [,V4BITS,V6BITS]: 32 and 64 if not given
abbrev pub lengths : ℕ → ℕ → Part
lengths v4 v6 = either
    (word (codes ",") ▷ says (number_up_to 10 32) v4 ▷ word (codes ",") ▷ says (number_up_to 10 128) v6)
    (λ left rest. (v4 ≡ 32) × (v6 ≡ 64) × (left ≡ rest))

-- TERM = all | suffix(NAME{,NAME}) | masks(MASK{,MASK}) | qtype(TYPE) | and(TERM{,TERM}) | or(TERM{,TERM}) | not(TERM)
--      | maxqps(QPS[,V4BITS,V6BITS])
abbrev mutual
  pub term : Selector → Left → Left → Type 0
  term sel.All left rest = word (codes "all") left rest
  term (sel.Suffix names) left rest = (word (codes "suffix") ▷ bracketed (comma_list (says name_of) names)) left rest
  term (sel.Masks masks) left rest = (word (codes "masks") ▷ bracketed (comma_list (says mask_of) masks)) left rest
  term (sel.Qtype qtype) left rest = (word (codes "qtype") ▷ bracketed (says type_of qtype)) left rest
  term (sel.And members) left rest = (word (codes "and") ▷ bracketed (terms members)) left rest
  term (sel.Or members) left rest = (word (codes "or") ▷ bracketed (terms members)) left rest
  term (sel.Not member) left rest = (word (codes "not") ▷ bracketed (term member)) left rest
  term (sel.MaxQps qps v4 v6) left rest = (word (codes "maxqps") ▷ bracketed (says (in_range 1 1000) qps ▷ lengths v4 v6)) left rest

  -- TERM{,TERM}
  pub terms : Selectors → Left → Left → Type 0
  terms end left rest = ⊥
  terms (more member members) left rest = (term member ▷ other_terms members) left rest

  -- {,TERM}
  pub other_terms : Selectors → Left → Left → Type 0
  other_terms end left rest = nothing left rest
  other_terms (more member members) left rest = (word (codes ",") ▷ term member ▷ other_terms members) left rest

-- ACTION = allow | drop | rcode(RCODE) | pool(PNAME) | tc | spoof(ADDR{,ADDR}) | none | norecurse | skipcache
abbrev pub action : Action PoolName → Part
action actions.Allow = word (codes "allow")
action actions.Drop = word (codes "drop")
action (actions.Rcode rcode) = word (codes "rcode") ▷ bracketed (says rcode_of rcode)
action (actions.Pool pool) = word (codes "pool") ▷ bracketed (says pool_of pool)
action actions.Tc = word (codes "tc")
action (actions.Spoof addrs) = word (codes "spoof") ▷ bracketed (comma_list (says addr_of) addrs)
action actions.None = word (codes "none")
action actions.NoRecurse = word (codes "norecurse")
action actions.SkipCache = word (codes "skipcache")

-- [at PLACE]
abbrev pub place : Option ℕ → Part
place None = nothing
place (Some n) = word (codes "at") ▷ number n

-- an option of a new server, and what is stated once it is
pub data Choice : Type 0 where
  order : ℕ → Choice
  pool : PoolName → Choice
  fall : NonZeroU8 → Choice
  rise : NonZeroU8 → Choice
  lanes : ℕ → Choice
  resolve : Choice

-- order N | pool PNAME | fall N | rise N | lanes N | resolve
abbrev pub choice : Choice → Part
choice (order n) = word (codes "order") ▷ says word_number n
choice (pool name) = word (codes "pool") ▷ says pool_of name
choice (fall n) = word (codes "fall") ▷ says count_of n
choice (rise n) = word (codes "rise") ▷ says count_of n
choice (lanes n) = word (codes "lanes") ▷ says (in_range 1 8) n
choice resolve = word (codes "resolve")

-- of an option that is repeated the last counts, but for `pool`
abbrev pub chosen : Stated → Choice → Stated
chosen stated (order n) = record stated { order = n }
chosen stated (pool name) = record stated { pools = stated.pools ++ name ∷ [] }
chosen stated (fall n) = record stated { fall = n }
chosen stated (rise n) = record stated { rise = n }
chosen stated (lanes n) = record stated { lanes = n }
chosen stated resolve = record stated { resolve = true }

abbrev pub all_chosen : Stated → List Choice → Stated
all_chosen stated [] = stated
all_chosen stated (c ∷ choices) = all_chosen (chosen stated c) choices

-- {order N | pool PNAME | fall N | rise N | lanes N | resolve}
abbrev pub options : List Choice → Part
options [] = nothing
options (c ∷ choices) = choice c ▷ options choices

-- SNAME ADDR PORT and its options
abbrev pub server : ServerSpec → CheckSpec → Part
server spec check left rest =
    (choices : List Choice)
    × (spec ≡ spec_of spec.name spec.addr spec.port (all_chosen nothing_stated choices)) × (check ≡ check_of (all_chosen nothing_stated choices))
    × (says ident_of spec.name ▷ says addr_of spec.addr ▷ says port_of spec.port ▷ options choices) left rest

-- [TYPE]
abbrev pub optional_type : Option RecordType → Part
optional_type None = nothing
optional_type (Some qtype) = says type_of qtype

-- name NAME [TYPE] | suffix NAME | all
abbrev pub covered : Covered → Part
covered (covereds.Name name qtype) = word (codes "name") ▷ says name_of name ▷ optional_type qtype
covered (covereds.Suffix name) = word (codes "suffix") ▷ says name_of name
covered covereds.All = word (codes "all")

-- skip CODE{,CODE}: 16 codes at most, repeats counted; a repeated one counts once
abbrev pub code_skips : List ℕ → Part
code_skips listed left rest =
    (stated : List ℕ) × (length stated ≤ 16) × (listed ≡ each_once stated) × (word (codes "skip") ▷ comma_list (says word_number) stated) left rest

-- skip none
abbrev pub no_skips : List ℕ → Part
no_skips listed left rest = (listed ≡ []) × (word (codes "skip") ▷ word (codes "none")) left rest

-- [skip none | skip CODE{,CODE}]: Cookie if it is not given
abbrev pub skips : List ℕ → Part
skips listed = either (code_skips listed) (either (no_skips listed) (λ left rest. (listed ≡ cookie) × (left ≡ rest)))

abbrev pub command : Command → Part
-- rule add [at PLACE] TERM ACTION
command (RuleAdd at rule) = word (codes "rule") ▷ word (codes "add") ▷ place at ▷ term rule.term ▷ action rule.action
-- rule remove ID
command (RuleRemove id) = word (codes "rule") ▷ word (codes "remove") ▷ number id.0
-- rule move ID PLACE
command (RuleMove id to) = word (codes "rule") ▷ word (codes "move") ▷ number id.0 ▷ number to
-- server add SNAME ADDR PORT {order N | pool PNAME | fall N | rise N | lanes N | resolve}
command (ServerAdd spec check) = word (codes "server") ▷ word (codes "add") ▷ server spec check
-- server remove SNAME
command (ServerRemove name) = word (codes "server") ▷ word (codes "remove") ▷ says ident_of name
-- server mode SNAME up|down|auto
command (ServerMode name mode) = word (codes "server") ▷ word (codes "mode") ▷ says ident_of name ▷ says mode_of mode
-- pool add PNAME
command (PoolAdd name) = word (codes "pool") ▷ word (codes "add") ▷ says pool_of name
-- pool policy PNAME firstAvailable|leastOutstanding|roundrobin
command (PoolPolicy name policy) = word (codes "pool") ▷ word (codes "policy") ▷ says pool_of name ▷ says policy_of policy
-- cache attach PNAME MAX SHARDS MAXTTL [skip none | skip CODE{,CODE}]
command (CacheAttach name max shards max_ttl listed) =
    word (codes "cache") ▷ word (codes "attach") ▷ says pool_of name ▷ says (in_range 1 1000000) max ▷ says (in_range 1 64) shards ▷ says (in_range 1 604800) max_ttl
    ▷ skips listed
-- cache detach PNAME
command (CacheDetach name) = word (codes "cache") ▷ word (codes "detach") ▷ says pool_of name
-- expunge PNAME name NAME [TYPE], expunge PNAME suffix NAME, expunge PNAME all
command (Expunge name what) = word (codes "expunge") ▷ says pool_of name ▷ covered what
-- timeout MS
command (SetTimeout millis) = word (codes "timeout") ▷ says (in_range 1 60000) millis
-- show
command Show = word (codes "show")

abbrev pub event : Event → Part
-- query NOW SLOT udp|tcp ADDR WORD HEX: the client's front and port are 0
event (Query now origin kind random bytes) left rest =
    (origin ≡ told_origin origin.slot origin.source)
    × (word (codes "query") ▷ number now ▷ number origin.slot ▷ says kind_of kind ▷ says addr_of origin.source ▷ says word_number random ▷ says hex_of bytes) left rest
-- reply NOW SERVER LANE HEX, LANE being udp|tcp or udp/N|tcp/N
event (Reply now server lane bytes) left rest = (word (codes "reply") ▷ number now ▷ number server.0 ▷ says lane_of lane ▷ says hex_of bytes) left rest
-- tick NOW
event (Tick now) left rest = (word (codes "tick") ▷ number now) left rest
-- health NOW SERVER ok|fail
event (HealthResult now server ok) left rest = (word (codes "health") ▷ number now ▷ number server.0 ▷ says outcome_of ok) left rest
-- edit NOW COMMAND
event (Edit now c) left rest = (word (codes "edit") ▷ number now ▷ command c) left rest

abbrev pub setup : SetupLine → Part
-- listen udp|tcp|doh|console ADDR PORT
setup (setups.Listen listener) = word (codes "listen") ▷ says protocol_of listener.protocol ▷ says addr_of listener.addr ▷ says port_of listener.port
-- log N
setup (setups.Log n) = word (codes "log") ▷ says (number_up_to 10 1000000) n
-- COMMAND
setup (setups.Edit c) = command c

-- within the limits: those of terms, eight addresses of an answer, eight pools of a server with repeats counted
abbrev pub AllowedAction : Action PoolName → Type 0
AllowedAction (actions.Spoof addrs) = length addrs ≤ 8
AllowedAction _ = Unit {0}

abbrev pub Allowed : Command → Type 0
Allowed (RuleAdd at rule) = IsChecked rule.term × AllowedAction rule.action
Allowed (ServerAdd spec check) = length spec.pools ≤ 8
Allowed _ = Unit {0}

abbrev pub AllowedEvent : Event → Type 0
AllowedEvent (Edit now c) = Allowed c
AllowedEvent _ = Unit {0}

abbrev pub AllowedSetup : SetupLine → Type 0
AllowedSetup (setups.Edit c) = Allowed c
AllowedSetup _ = Unit {0}

-- nothing is left of a line
abbrev pub all_taken : List ℕ → Left
all_taken line = record { words = []; total = length line }

-- a line is this part, and no more
abbrev pub Says : Part → List ℕ → Type 0
Says part line = (length line ≤ max_line) × part (whole line) (all_taken line)

-- a line is this command, this event, this line of a setup file
abbrev pub IsCommand : List ℕ → Command → Type 0
IsCommand line c = Says (command c) line × Allowed c

abbrev pub IsEvent : List ℕ → Event → Type 0
IsEvent line e = Says (event e) line × AllowedEvent e

abbrev pub IsSetup : List ℕ → SetupLine → Type 0
IsSetup line l = Says (setup l) line × AllowedSetup l
