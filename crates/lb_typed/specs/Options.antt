-- The options of a server that are typed.
use Rattle.std.specs.Prelude.{if◌then◌else◌, ℕ, ◌==◌, Bool, List, [], ◌∷◌, ◌++◌, map}
use Rattle.std.specs.declared.num.NonZeroU8.{NonZeroU8}
use Rattle.lb_servers.specs.declared.pool.PoolName.{PoolName}
use Rattle.lb_servers.specs.declared.spec.ServerSpec.{ServerSpec}
use Rattle.lb_step.specs.declared.check.CheckSpec.{CheckSpec}
use Rattle.lb_command.specs.Grammar.{Choice, fall, lanes, order, pool, resolve, rise}

-- an option, unless it says what holds anyway
abbrev pub order_choice : ℕ → List Choice
order_choice n = if n == 1 then [] else order n ∷ []

abbrev pub lanes_choice : ℕ → List Choice
lanes_choice n = if n == 1 then [] else lanes n ∷ []

abbrev pub fall_choice : NonZeroU8 → List Choice
fall_choice n = if n.value == 1 then [] else fall n ∷ []

abbrev pub rise_choice : NonZeroU8 → List Choice
rise_choice n = if n.value == 1 then [] else rise n ∷ []

abbrev pub resolve_choice : Bool → List Choice
resolve_choice must = if must then resolve ∷ [] else []

abbrev pub pool_choices : List PoolName → List Choice
pool_choices names = map (λ name. pool name) names

-- the options of a server, in the order in which they are typed
abbrev pub choices_of : ServerSpec → CheckSpec → List Choice
choices_of spec check = order_choice spec.order ++ (lanes_choice spec.lanes ++ (fall_choice check.fall ++ (rise_choice check.rise ++ (resolve_choice check.must_resolve ++ pool_choices spec.pools))))
