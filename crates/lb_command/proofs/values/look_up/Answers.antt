use Rattle.std.proofs.Common.{◌≡◌, ℕ, List, bytes_eq, false, true, sym, ◌∙◌, ap}
use Rattle.lb_command.proofs.Lookups.{found, passes}
use Rattle.lb_command.proofs.values.look_up.Goals as goal

pub returns-then-eq : goal.returns-then-eq
returns-then-eq g c =
    let this : bytes_eq c.loop-value-item.result.1.now c.args.text.now ≡ true = ap (λ (w : List ℕ). bytes_eq w c.args.text.now) (sym c.as_bytes.ensures.value) ∙ sym c.eq.ensures ∙ c.if-eq.true in
    sym (found c.args.table.now c.args.text.now c.loop-value.value-index c.loop-value-item.result c.loop-value-test.true c.loop-value-item.is this) ∙ c.loop-value.invariant

pub loop-value-preserved : goal.loop-value-preserved
loop-value-preserved g c =
    let other : bytes_eq c.loop-value-item.result.1.now c.args.text.now ≡ false = ap (λ (w : List ℕ). bytes_eq w c.args.text.now) (sym c.as_bytes.ensures.value) ∙ sym c.eq.ensures ∙ c.if-eq.false in
    sym (passes c.args.table.now c.args.text.now c.loop-value.value-index c.loop-value-item.result c.loop-value-test.true c.loop-value-item.is other) ∙ c.loop-value.invariant
