use Rattle.std.proofs.Common.{ℕ, List, bytes_eq, option_map, Option, sym, ◌∙◌, ap}
use Rattle.std.specs.Borrow.{Bor}
use Rattle.lb_wire.specs.declared.record_type.RecordType.{RecordType}
use Rattle.lb_wire.proofs.Tables.{find_skips}
use Rattle.lb_wire.proofs.record_type.RecordType.from_name.Goals as goal

pub loop-rtype-preserved : goal.loop-rtype-preserved
loop-rtype-preserved c =
    let other = ap (λ (w : List ℕ). bytes_eq w c.args.name.now) (sym c.as_bytes.ensures.value) ∙ sym c.eq.ensures ∙ c.if-eq.false in
    ap (λ (e : Option (RecordType × Bor (List ℕ))). option_map (λ e. e.0) e) (sym (find_skips _ _ _ _ c.loop-rtype-test.true other)) ∙ c.loop-rtype.invariant
