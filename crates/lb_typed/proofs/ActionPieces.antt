-- Pieces of actions.
use Rattle.std.proofs.Common.{◌≡◌, ℕ, List, ◌∷◌, ◌++◌, codes}
use Rattle.lb_wire.specs.declared.addr.Addr.{Addr}
use Rattle.lb_wire.specs.declared.rcode.Rcode.{Rcode}
use Rattle.lb_servers.specs.declared.pool.PoolName.{PoolName}
use Rattle.lb_chain.specs.declared.action.Action.TheVariants as actions
use Rattle.lb_command.specs.Grammar.{action, comma_list, says, word}
use Rattle.lb_command.specs.Values.{addr_of, pool_of, rcode_of}
use Rattle.lb_typed.specs.Words.{IsTypedCode, Types}
use Rattle.lb_typed.specs.Pieces.{Spells}
use Rattle.lb_typed.proofs.Keywords as words
use Rattle.lb_typed.proofs.Spelled.{in_brackets, value}
use Rattle.lb_typed.proofs.TermPieces.{within}

pub rcode : (code : Rcode) (inner : List ℕ) → (IsTypedCode code → Types rcode_of code inner) → IsTypedCode code → Spells (action (actions.Rcode code)) (within (codes "rcode") inner)
rcode code inner types is = in_brackets (word (codes "rcode")) (says rcode_of code) (codes "rcode") inner words.rcode_word (value rcode_of code inner (types is))

pub pool : (name : PoolName) (inner : List ℕ) → Types pool_of name inner → Spells (action (actions.Pool name)) (within (codes "pool") inner)
pool name inner types = in_brackets (word (codes "pool")) (says pool_of name) (codes "pool") inner words.pool_word (value pool_of name inner types)

pub spoof : (addrs : List Addr) (inner : List ℕ) → Spells (comma_list (says addr_of) addrs) inner → Spells (action (actions.Spoof addrs)) (within (codes "spoof") inner)
spoof addrs inner spells = in_brackets (word (codes "spoof")) (comma_list (says addr_of) addrs) (codes "spoof") inner words.spoof_word spells
