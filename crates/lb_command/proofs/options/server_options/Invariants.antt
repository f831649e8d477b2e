use Rattle.std.proofs.Common.{◌≡◌, ◌-◌}
use Rattle.lb_command.specs.Commands.{nothing_stated, options_at}
use Rattle.lb_command.proofs.options.server_options.Given as goal

-- what is left is read as the whole is
abbrev pub invariant-options : goal.invariant-options
invariant-options l = options_at (300000 - l.counter) l.options l.words ≡ options_at 300000 nothing_stated l.fn.words
