-- The words of the grammar.
use Rattle.std.proofs.Common.{codes, refl, arith}
use Rattle.lb_command.specs.Grammar.{word}
use Rattle.lb_typed.specs.Pieces.{Spells}
use Rattle.lb_typed.proofs.Spelled.{fixed}

pub rule_word : Spells (word (codes "rule")) (codes "rule")
rule_word = fixed (codes "rule") (record { some = omega arith; each = refl })

pub add_word : Spells (word (codes "add")) (codes "add")
add_word = fixed (codes "add") (record { some = omega arith; each = refl })

pub at_word : Spells (word (codes "at")) (codes "at")
at_word = fixed (codes "at") (record { some = omega arith; each = refl })

pub remove_word : Spells (word (codes "remove")) (codes "remove")
remove_word = fixed (codes "remove") (record { some = omega arith; each = refl })

pub move_word : Spells (word (codes "move")) (codes "move")
move_word = fixed (codes "move") (record { some = omega arith; each = refl })

pub server_word : Spells (word (codes "server")) (codes "server")
server_word = fixed (codes "server") (record { some = omega arith; each = refl })

pub mode_word : Spells (word (codes "mode")) (codes "mode")
mode_word = fixed (codes "mode") (record { some = omega arith; each = refl })

pub pool_word : Spells (word (codes "pool")) (codes "pool")
pool_word = fixed (codes "pool") (record { some = omega arith; each = refl })

pub policy_word : Spells (word (codes "policy")) (codes "policy")
policy_word = fixed (codes "policy") (record { some = omega arith; each = refl })

pub cache_word : Spells (word (codes "cache")) (codes "cache")
cache_word = fixed (codes "cache") (record { some = omega arith; each = refl })

pub attach_word : Spells (word (codes "attach")) (codes "attach")
attach_word = fixed (codes "attach") (record { some = omega arith; each = refl })

pub detach_word : Spells (word (codes "detach")) (codes "detach")
detach_word = fixed (codes "detach") (record { some = omega arith; each = refl })

pub expunge_word : Spells (word (codes "expunge")) (codes "expunge")
expunge_word = fixed (codes "expunge") (record { some = omega arith; each = refl })

pub name_word : Spells (word (codes "name")) (codes "name")
name_word = fixed (codes "name") (record { some = omega arith; each = refl })

pub suffix_word : Spells (word (codes "suffix")) (codes "suffix")
suffix_word = fixed (codes "suffix") (record { some = omega arith; each = refl })

pub all_word : Spells (word (codes "all")) (codes "all")
all_word = fixed (codes "all") (record { some = omega arith; each = refl })

pub timeout_word : Spells (word (codes "timeout")) (codes "timeout")
timeout_word = fixed (codes "timeout") (record { some = omega arith; each = refl })

pub show_word : Spells (word (codes "show")) (codes "show")
show_word = fixed (codes "show") (record { some = omega arith; each = refl })

pub order_word : Spells (word (codes "order")) (codes "order")
order_word = fixed (codes "order") (record { some = omega arith; each = refl })

pub lanes_word : Spells (word (codes "lanes")) (codes "lanes")
lanes_word = fixed (codes "lanes") (record { some = omega arith; each = refl })

pub fall_word : Spells (word (codes "fall")) (codes "fall")
fall_word = fixed (codes "fall") (record { some = omega arith; each = refl })

pub rise_word : Spells (word (codes "rise")) (codes "rise")
rise_word = fixed (codes "rise") (record { some = omega arith; each = refl })

pub resolve_word : Spells (word (codes "resolve")) (codes "resolve")
resolve_word = fixed (codes "resolve") (record { some = omega arith; each = refl })

pub skip_word : Spells (word (codes "skip")) (codes "skip")
skip_word = fixed (codes "skip") (record { some = omega arith; each = refl })

pub none_word : Spells (word (codes "none")) (codes "none")
none_word = fixed (codes "none") (record { some = omega arith; each = refl })

pub query_word : Spells (word (codes "query")) (codes "query")
query_word = fixed (codes "query") (record { some = omega arith; each = refl })

pub reply_word : Spells (word (codes "reply")) (codes "reply")
reply_word = fixed (codes "reply") (record { some = omega arith; each = refl })

pub tick_word : Spells (word (codes "tick")) (codes "tick")
tick_word = fixed (codes "tick") (record { some = omega arith; each = refl })

pub health_word : Spells (word (codes "health")) (codes "health")
health_word = fixed (codes "health") (record { some = omega arith; each = refl })

pub edit_word : Spells (word (codes "edit")) (codes "edit")
edit_word = fixed (codes "edit") (record { some = omega arith; each = refl })

pub allow_word : Spells (word (codes "allow")) (codes "allow")
allow_word = fixed (codes "allow") (record { some = omega arith; each = refl })

pub drop_word : Spells (word (codes "drop")) (codes "drop")
drop_word = fixed (codes "drop") (record { some = omega arith; each = refl })

pub tc_word : Spells (word (codes "tc")) (codes "tc")
tc_word = fixed (codes "tc") (record { some = omega arith; each = refl })

pub norecurse_word : Spells (word (codes "norecurse")) (codes "norecurse")
norecurse_word = fixed (codes "norecurse") (record { some = omega arith; each = refl })

pub skipcache_word : Spells (word (codes "skipcache")) (codes "skipcache")
skipcache_word = fixed (codes "skipcache") (record { some = omega arith; each = refl })

pub rcode_word : Spells (word (codes "rcode")) (codes "rcode")
rcode_word = fixed (codes "rcode") (record { some = omega arith; each = refl })

pub spoof_word : Spells (word (codes "spoof")) (codes "spoof")
spoof_word = fixed (codes "spoof") (record { some = omega arith; each = refl })
