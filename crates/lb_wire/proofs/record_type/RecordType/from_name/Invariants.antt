use Rattle.std.proofs.Common.{◌≡◌, drop, option_map, bytes_eq}
use Rattle.std.specs.List.{find}
use Rattle.lb_wire.specs.RecordType.{type_of_name}
use Rattle.lb_wire.proofs.record_type.RecordType.from_name.Given as goal

-- what is left of the table names what the whole does
abbrev pub invariant-loop-rtype : goal.invariant-loop-rtype
invariant-loop-rtype l = option_map (λ e. e.0) (find (λ e. bytes_eq e.1.now l.name) (drop l.rtype-index l.rtype-items)) ≡ type_of_name l.name
