-- Reading commands. A part's name tells what stands there, after the words that begin it.
use Rattle.std.specs.Prelude.{if◌then◌else◌, ℕ, zero, suc, Bool, true, false, nat_lt, Option, Some, None, Result, Ok, List, [], ◌∷◌, ◌++◌, length, codes}
use Rattle.std.specs.declared.num.NonZeroU8.{NonZeroU8}
use Rattle.std.specs.declared.num.NonZeroU16.{NonZeroU16}
use Rattle.lb_wire.specs.declared.addr.Addr.{Addr}
use Rattle.lb_wire.specs.declared.ids.RuleId.{RuleId}
use Rattle.lb_servers.specs.declared.pool.PoolName.{PoolName}
use Rattle.lb_servers.specs.declared.spec.ServerSpec.{ServerSpec}
use Rattle.lb_cache.specs.declared.cached.Covered.{Covered}
use Rattle.lb_cache.specs.declared.cached.Covered.TheVariants as covereds
use Rattle.lb_step.specs.declared.check.CheckSpec.{CheckSpec}
use Rattle.lb_step.specs.declared.command.Command.{Command}
use Rattle.lb_step.specs.declared.command.Command.TheVariants.{RuleAdd, RuleRemove, RuleMove, ServerAdd, ServerRemove, ServerMode, PoolAdd, PoolPolicy, CacheAttach, CacheDetach, Expunge, SetTimeout, Show}
use Rattle.lb_command.specs.Line.{Left, first_of, behind_first, whole}
use Rattle.lb_command.specs.Reading.{◌>>=◌, due, ended, optional, taken, too_many, within}
use Rattle.lb_command.specs.Values.{addr_of, count_of, ident_of, in_range, looked_up, mode_of, name_of, number_of, one, policy_of, pool_of, port_of, type_of, word_number}
use Rattle.lb_command.specs.Terms.{checked_at}
use Rattle.lb_command.specs.Actions.{action_at}
use Rattle.lb_command.specs.Skips.{skips_at}
use Rattle.lb_command.specs.declared.fault.CommandFault.{CommandFault}
use Rattle.lb_command.specs.declared.fault.FaultKind.TheVariants as kinds
use Rattle.lb_command.specs.declared.commands.Verb.{Verb}
use Rattle.lb_command.specs.declared.commands.Verb.TheVariants as verbs
use Rattle.lb_command.specs.declared.commands.RuleVerb.{RuleVerb}
use Rattle.lb_command.specs.declared.commands.RuleVerb.TheVariants as rule_verbs
use Rattle.lb_command.specs.declared.commands.ServerVerb.{ServerVerb}
use Rattle.lb_command.specs.declared.commands.ServerVerb.TheVariants as server_verbs
use Rattle.lb_command.specs.declared.commands.PoolVerb.{PoolVerb}
use Rattle.lb_command.specs.declared.commands.PoolVerb.TheVariants as pool_verbs
use Rattle.lb_command.specs.declared.commands.CacheVerb.{CacheVerb}
use Rattle.lb_command.specs.declared.commands.CacheVerb.TheVariants as cache_verbs
use Rattle.lb_command.specs.declared.commands.Extent.{Extent}
use Rattle.lb_command.specs.declared.commands.Extent.TheVariants as extents
use Rattle.lb_command.specs.declared.options.ServerOption.{ServerOption}
use Rattle.lb_command.specs.declared.options.ServerOption.TheVariants as options

-- [at PLACE]
unfoldable pub place_at : Left → Result (Option ℕ × Left) CommandFault
place_at left =
    if (taken (codes "at") left).0 then (do
      place ← due kinds.BadNumber number_of (taken (codes "at") left).1
      Ok (Some place.0, place.1))
    else Ok (None, (taken (codes "at") left).1)

-- [at PLACE] TERM ACTION
unfoldable pub rule_add_at : Left → Result (Command × Left) CommandFault
rule_add_at left = do
  place ← place_at left
  term ← checked_at place.1
  action ← action_at term.1
  Ok (RuleAdd place.0 (record { term = term.0; action = action.0 }), action.1)

-- ID
abbrev pub rule_id : ℕ → RuleId
rule_id number = record { 0 = number }

unfoldable pub rule_remove_at : Left → Result (Command × Left) CommandFault
rule_remove_at left = do
  id ← due kinds.BadNumber number_of left
  Ok (RuleRemove (rule_id id.0), id.1)

-- ID PLACE
unfoldable pub rule_move_at : Left → Result (Command × Left) CommandFault
rule_move_at left = do
  id ← due kinds.BadNumber number_of left
  place ← due kinds.BadNumber number_of id.1
  Ok (RuleMove (rule_id id.0) place.0, place.1)

abbrev pub rule_verb_words : List (RuleVerb × List ℕ)
rule_verb_words = (rule_verbs.Add, codes "add") ∷ (rule_verbs.Remove, codes "remove") ∷ (rule_verbs.Move, codes "move") ∷ []

abbrev pub behind_rule_verb : RuleVerb → Left → Result (Command × Left) CommandFault
behind_rule_verb rule_verbs.Add left = rule_add_at left
behind_rule_verb rule_verbs.Remove left = rule_remove_at left
behind_rule_verb rule_verbs.Move left = rule_move_at left

-- rule ..
unfoldable pub rule_at : Left → Result (Command × Left) CommandFault
rule_at left = do
  verb ← due kinds.UnknownWord (looked_up rule_verb_words) left
  behind_rule_verb verb.0 verb.1

-- what the options of a new server say: its order, its pools, how many failures take it down and how many successes bring it
-- up, how many lanes of each transport it has, and whether a probe's name has to be resolved
pub record Stated : Type 0 where
  pub order : ℕ
  pub pools : List PoolName
  pub fall : NonZeroU8
  pub rise : NonZeroU8
  pub lanes : ℕ
  pub resolve : Bool

-- none is given
abbrev pub nothing_stated : Stated
nothing_stated = record { order = 1; pools = []; fall = one; rise = one; lanes = 1; resolve = false }

abbrev pub option_words : List (ServerOption × List ℕ)
option_words = (options.Order, codes "order") ∷ (options.Pool, codes "pool") ∷ (options.Fall, codes "fall") ∷ (options.Rise, codes "rise") ∷ (options.Lanes, codes "lanes") ∷ (options.Resolve, codes "resolve") ∷ []

-- N
unfoldable pub order_at : Stated → Left → Result (Stated × Left) CommandFault
order_at stated left = do
  order ← due kinds.BadNumber word_number left
  Ok (record stated { order = order.0 }, order.1)

-- PNAME: the name after a ninth `pool` is too many, repeats counted
unfoldable pub pool_option_at : Stated → Left → Result (Stated × Left) CommandFault
pool_option_at stated left = do
  pool ← due kinds.BadName pool_of left
  if nat_lt (length stated.pools) 8 then Ok (record stated { pools = stated.pools ++ pool.0 ∷ [] }, pool.1) else too_many left

unfoldable pub fall_at : Stated → Left → Result (Stated × Left) CommandFault
fall_at stated left = do
  fall ← due kinds.BadNumber count_of left
  Ok (record stated { fall = fall.0 }, fall.1)

unfoldable pub rise_at : Stated → Left → Result (Stated × Left) CommandFault
rise_at stated left = do
  rise ← due kinds.BadNumber count_of left
  Ok (record stated { rise = rise.0 }, rise.1)

unfoldable pub lanes_at : Stated → Left → Result (Stated × Left) CommandFault
lanes_at stated left = do
  lanes ← due kinds.BadNumber (in_range 1 8) left
  Ok (record stated { lanes = lanes.0 }, lanes.1)

abbrev pub behind_option : ServerOption → Stated → Left → Result (Stated × Left) CommandFault
behind_option options.Order stated left = order_at stated left
behind_option options.Pool stated left = pool_option_at stated left
behind_option options.Fall stated left = fall_at stated left
behind_option options.Rise stated left = rise_at stated left
behind_option options.Lanes stated left = lanes_at stated left
behind_option options.Resolve stated left = Ok (record stated { resolve = true }, left)

-- where an option comes, it is taken, and the others read on
abbrev pub with_option : Option ServerOption → (Stated → Left → Result (Stated × Left) CommandFault) → Stated → Left → Result (Stated × Left) CommandFault
with_option None others stated left = Ok (stated, left)
with_option (Some option) others stated left = behind_option option stated (behind_first left) >>= λ x. others x.0 x.1

-- {order N | pool PNAME | fall N | rise N | lanes N | resolve}: at most so many, which a line within its length never has
unfoldable pub options_at : ℕ → Stated → Left → Result (Stated × Left) CommandFault
options_at zero stated left = Ok (stated, left)
options_at (suc fuel) stated left = with_option (looked_up option_words (first_of left).text) (options_at fuel) stated left

-- a server as it is stated
abbrev pub spec_of : List ℕ → Addr → NonZeroU16 → Stated → ServerSpec
spec_of name addr port stated = record { name = name; addr = addr; port = port; order = stated.order; pools = stated.pools; lanes = stated.lanes }

abbrev pub check_of : Stated → CheckSpec
check_of stated = record { fall = stated.fall; rise = stated.rise; must_resolve = stated.resolve }

-- SNAME ADDR PORT and its options
unfoldable pub server_add_at : Left → Result (Command × Left) CommandFault
server_add_at left = do
  name ← due kinds.BadName ident_of left
  addr ← due kinds.BadAddress addr_of name.1
  port ← due kinds.BadNumber port_of addr.1
  stated ← options_at 300000 nothing_stated port.1
  Ok (ServerAdd (spec_of name.0 addr.0 port.0 stated.0) (check_of stated.0), stated.1)

-- SNAME
unfoldable pub server_remove_at : Left → Result (Command × Left) CommandFault
server_remove_at left = do
  name ← due kinds.BadName ident_of left
  Ok (ServerRemove name.0, name.1)

-- SNAME up|down|auto
unfoldable pub server_mode_at : Left → Result (Command × Left) CommandFault
server_mode_at left = do
  name ← due kinds.BadName ident_of left
  mode ← due kinds.UnknownWord mode_of name.1
  Ok (ServerMode name.0 mode.0, mode.1)

abbrev pub server_verb_words : List (ServerVerb × List ℕ)
server_verb_words = (server_verbs.Add, codes "add") ∷ (server_verbs.Remove, codes "remove") ∷ (server_verbs.Mode, codes "mode") ∷ []

abbrev pub behind_server_verb : ServerVerb → Left → Result (Command × Left) CommandFault
behind_server_verb server_verbs.Add left = server_add_at left
behind_server_verb server_verbs.Remove left = server_remove_at left
behind_server_verb server_verbs.Mode left = server_mode_at left

-- server ..
unfoldable pub server_at : Left → Result (Command × Left) CommandFault
server_at left = do
  verb ← due kinds.UnknownWord (looked_up server_verb_words) left
  behind_server_verb verb.0 verb.1

-- PNAME
unfoldable pub pool_add_at : Left → Result (Command × Left) CommandFault
pool_add_at left = do
  pool ← due kinds.BadName pool_of left
  Ok (PoolAdd pool.0, pool.1)

-- PNAME firstAvailable|leastOutstanding|roundrobin
unfoldable pub pool_policy_at : Left → Result (Command × Left) CommandFault
pool_policy_at left = do
  pool ← due kinds.BadName pool_of left
  policy ← due kinds.UnknownWord policy_of pool.1
  Ok (PoolPolicy pool.0 policy.0, policy.1)

abbrev pub pool_verb_words : List (PoolVerb × List ℕ)
pool_verb_words = (pool_verbs.Add, codes "add") ∷ (pool_verbs.Policy, codes "policy") ∷ []

abbrev pub behind_pool_verb : PoolVerb → Left → Result (Command × Left) CommandFault
behind_pool_verb pool_verbs.Add left = pool_add_at left
behind_pool_verb pool_verbs.Policy left = pool_policy_at left

-- pool ..
unfoldable pub pool_at : Left → Result (Command × Left) CommandFault
pool_at left = do
  verb ← due kinds.UnknownWord (looked_up pool_verb_words) left
  behind_pool_verb verb.0 verb.1

-- PNAME MAX SHARDS MAXTTL [skip none | skip CODE{,CODE}]
unfoldable pub cache_attach_at : Left → Result (Command × Left) CommandFault
cache_attach_at left = do
  pool ← due kinds.BadName pool_of left
  max ← due kinds.BadNumber (in_range 1 1000000) pool.1
  shards ← due kinds.BadNumber (in_range 1 64) max.1
  max_ttl ← due kinds.BadNumber (in_range 1 604800) shards.1
  skips ← skips_at max_ttl.1
  Ok (CacheAttach pool.0 max.0 shards.0 max_ttl.0 skips.0, skips.1)

-- PNAME
unfoldable pub cache_detach_at : Left → Result (Command × Left) CommandFault
cache_detach_at left = do
  pool ← due kinds.BadName pool_of left
  Ok (CacheDetach pool.0, pool.1)

abbrev pub cache_verb_words : List (CacheVerb × List ℕ)
cache_verb_words = (cache_verbs.Attach, codes "attach") ∷ (cache_verbs.Detach, codes "detach") ∷ []

abbrev pub behind_cache_verb : CacheVerb → Left → Result (Command × Left) CommandFault
behind_cache_verb cache_verbs.Attach left = cache_attach_at left
behind_cache_verb cache_verbs.Detach left = cache_detach_at left

-- cache ..
unfoldable pub cache_at : Left → Result (Command × Left) CommandFault
cache_at left = do
  verb ← due kinds.UnknownWord (looked_up cache_verb_words) left
  behind_cache_verb verb.0 verb.1

-- NAME [TYPE]
unfoldable pub by_name_at : Left → Result (Covered × Left) CommandFault
by_name_at left = do
  name ← due kinds.BadName name_of left
  qtype ← optional type_of name.1
  Ok (covereds.Name name.0 qtype.0, qtype.1)

-- NAME
unfoldable pub by_suffix_at : Left → Result (Covered × Left) CommandFault
by_suffix_at left = do
  name ← due kinds.BadName name_of left
  Ok (covereds.Suffix name.0, name.1)

abbrev pub extent_words : List (Extent × List ℕ)
extent_words = (extents.Name, codes "name") ∷ (extents.Suffix, codes "suffix") ∷ (extents.All, codes "all") ∷ []

abbrev pub behind_extent : Extent → Left → Result (Covered × Left) CommandFault
behind_extent extents.Name left = by_name_at left
behind_extent extents.Suffix left = by_suffix_at left
behind_extent extents.All left = Ok (covereds.All, left)

-- expunge PNAME and what it covers
unfoldable pub expunge_at : Left → Result (Command × Left) CommandFault
expunge_at left = do
  pool ← due kinds.BadName pool_of left
  extent ← due kinds.UnknownWord (looked_up extent_words) pool.1
  covered ← behind_extent extent.0 extent.1
  Ok (Expunge pool.0 covered.0, covered.1)

-- MS
unfoldable pub timeout_at : Left → Result (Command × Left) CommandFault
timeout_at left = do
  millis ← due kinds.BadNumber (in_range 1 60000) left
  Ok (SetTimeout millis.0, millis.1)

-- the words that begin commands
abbrev pub verb_words : List (Verb × List ℕ)
verb_words =
    (verbs.Rule, codes "rule") ∷ (verbs.Server, codes "server") ∷ (verbs.Pool, codes "pool") ∷ (verbs.Cache, codes "cache") ∷ (verbs.Expunge, codes "expunge")
    ∷ (verbs.Timeout, codes "timeout") ∷ (verbs.Show, codes "show") ∷ []

abbrev pub behind_verb : Verb → Left → Result (Command × Left) CommandFault
behind_verb verbs.Rule left = rule_at left
behind_verb verbs.Server left = server_at left
behind_verb verbs.Pool left = pool_at left
behind_verb verbs.Cache left = cache_at left
behind_verb verbs.Expunge left = expunge_at left
behind_verb verbs.Timeout left = timeout_at left
behind_verb verbs.Show left = Ok (Show, left)

unfoldable pub command_at : Left → Result (Command × Left) CommandFault
command_at left = do
  verb ← due kinds.UnknownWord (looked_up verb_words) left
  behind_verb verb.0 verb.1

-- all of a line
unfoldable pub command_whole : Left → Result Command CommandFault
command_whole left = do
  command ← command_at left
  end ← ended command.1
  Ok command.0

abbrev pub command_of : List ℕ → Result Command CommandFault
command_of line = within line (command_whole (whole line))
