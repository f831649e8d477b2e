use Rattle.std.proofs.Common.{◌≡◌, drop, option_map, bytes_eq}
use Rattle.std.specs.List.{find}
use Rattle.lb_wire.specs.Rcode.{rcode_of_name}
use Rattle.lb_wire.proofs.rcode.Rcode.from_name.Given as goal

-- what is left of the table names what the whole does
abbrev pub invariant-loop-rcode : goal.invariant-loop-rcode
invariant-loop-rcode l = option_map (λ e. e.0) (find (λ e. bytes_eq e.1.now l.name) (drop l.rcode-index l.rcode-items)) ≡ rcode_of_name l.name
