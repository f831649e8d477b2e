-- Reading actions.
use Rattle.std.specs.Prelude.{if◌then◌else◌, ℕ, nat_le, ◌&&◌, Option, Result, Ok, List, [], ◌∷◌, length, codes}
use Rattle.lb_chain.specs.declared.action.Action.{Action}
use Rattle.lb_chain.specs.declared.action.Action.TheVariants as actions
use Rattle.lb_servers.specs.declared.pool.PoolName.{PoolName}
use Rattle.lb_command.specs.Line.{Left}
use Rattle.lb_command.specs.Reading.{◌>>=◌, due, listed, named, taken, too_many}
use Rattle.lb_command.specs.Values.{addr_of, looked_up, pool_of, rcode_of}
use Rattle.lb_command.specs.declared.fault.CommandFault.{CommandFault}
use Rattle.lb_command.specs.declared.fault.FaultKind.TheVariants as kinds
use Rattle.lb_command.specs.declared.actions.Verdict.{Verdict}
use Rattle.lb_command.specs.declared.actions.Verdict.TheVariants as verdicts

-- the words that begin actions
abbrev pub verdict_words : List (Verdict × List ℕ)
verdict_words =
    (verdicts.Allow, codes "allow") ∷ (verdicts.Drop, codes "drop") ∷ (verdicts.Rcode, codes "rcode") ∷ (verdicts.Pool, codes "pool") ∷ (verdicts.Tc, codes "tc")
    ∷ (verdicts.Spoof, codes "spoof") ∷ (verdicts.None, codes "none") ∷ (verdicts.NoRecurse, codes "norecurse") ∷ (verdicts.SkipCache, codes "skipcache") ∷ []

abbrev pub verdict_of : List ℕ → Option Verdict
verdict_of text = looked_up verdict_words text

-- (RCODE)
unfoldable pub rcode_at : Left → Result (Action PoolName × Left) CommandFault
rcode_at left = do
  bracket ← due kinds.UnknownWord (named (codes "(")) left
  rcode ← due kinds.UnknownWord rcode_of bracket.1
  close ← due kinds.UnknownWord (named (codes ")")) rcode.1
  Ok (actions.Rcode rcode.0, close.1)

-- (PNAME)
unfoldable pub pool_at : Left → Result (Action PoolName × Left) CommandFault
pool_at left = do
  bracket ← due kinds.UnknownWord (named (codes "(")) left
  pool ← due kinds.BadName pool_of bracket.1
  close ← due kinds.UnknownWord (named (codes ")")) pool.1
  Ok (actions.Pool pool.0, close.1)

-- (ADDR{,ADDR}): 1 to 8 of them
unfoldable pub spoof_at : Left → Result (Action PoolName × Left) CommandFault
spoof_at left = do
  bracket ← due kinds.UnknownWord (named (codes "(")) left
  addrs ← listed (due kinds.BadAddress addr_of) (taken (codes ",")) (λ s. s) 8 bracket.1
  close ← due kinds.UnknownWord (named (codes ")")) addrs.1
  if nat_le 1 (length addrs.0) && nat_le (length addrs.0) 8 then Ok (actions.Spoof addrs.0, close.1) else too_many left

-- what stands after the word that begins an action
abbrev pub action_body : Verdict → Left → Result (Action PoolName × Left) CommandFault
action_body verdicts.Allow left = Ok (actions.Allow, left)
action_body verdicts.Drop left = Ok (actions.Drop, left)
action_body verdicts.Rcode left = rcode_at left
action_body verdicts.Pool left = pool_at left
action_body verdicts.Tc left = Ok (actions.Tc, left)
action_body verdicts.Spoof left = spoof_at left
action_body verdicts.None left = Ok (actions.None, left)
action_body verdicts.NoRecurse left = Ok (actions.NoRecurse, left)
action_body verdicts.SkipCache left = Ok (actions.SkipCache, left)

unfoldable pub action_at : Left → Result (Action PoolName × Left) CommandFault
action_at left = do
  verdict ← due kinds.UnknownWord verdict_of left
  action_body verdict.0 verdict.1
