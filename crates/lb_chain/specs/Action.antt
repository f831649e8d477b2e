-- Actions, whose pool a chain names by its number and a command by its name.
use Rattle.std.specs.Prelude.{Option, None, Some, option_map}
use Rattle.lb_chain.specs.declared.action.Action.{Action}
use Rattle.lb_chain.specs.declared.action.Action.TheVariants as actions

-- the pool that an action names, if it names one
abbrev pub pool_in : {P : Type 0} → Action P → Option P
pool_in (actions.Pool pool) = Some pool
pool_in _ = None

-- an action with this pool in place of the one that it names; None where it names one and none is given
abbrev pub with_pool : {P Q : Type 0} → Option Q → Action P → Option (Action Q)
with_pool pool actions.Allow = Some actions.Allow
with_pool pool actions.Drop = Some actions.Drop
with_pool pool (actions.Rcode rcode) = Some (actions.Rcode rcode)
with_pool pool (actions.Pool old) = option_map actions.Pool pool
with_pool pool actions.Tc = Some actions.Tc
with_pool pool (actions.Spoof addrs) = Some (actions.Spoof addrs)
with_pool pool actions.None = Some actions.None
with_pool pool actions.NoRecurse = Some actions.NoRecurse
with_pool pool actions.SkipCache = Some actions.SkipCache
