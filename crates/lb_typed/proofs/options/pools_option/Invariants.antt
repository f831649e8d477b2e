use Rattle.std.proofs.Common.{List, ℕ, string_bytes, take}
use Rattle.lb_command.specs.Grammar.{options}
use Rattle.lb_typed.specs.Options.{pool_choices}
use Rattle.lb_typed.specs.Pieces.{Follows}
use Rattle.lb_typed.proofs.options.pools_option.Given as goal

-- the pools so far are written
abbrev pub invariant-names : goal.invariant-names
invariant-names l = Follows (options (pool_choices (take l.place l.fn.names))) (string_bytes l.text)
