use Rattle.std.proofs.Common.{List, ℕ, string_bytes, take}
use Rattle.lb_command.specs.Grammar.{comma_list, says}
use Rattle.lb_command.specs.Values.{addr_of}
use Rattle.lb_typed.specs.Pieces.{Spells}
use Rattle.lb_typed.proofs.actions.addrs_text.Given as goal

-- the addresses so far are written
abbrev pub invariant-addrs : goal.invariant-addrs
invariant-addrs l = Spells (comma_list (says addr_of) (take l.place l.fn.addrs)) (string_bytes l.text)
