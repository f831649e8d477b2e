use Rattle.std.proofs.Common.{ℕ, List, bytes_eq, option_map, Option, sym, ◌∙◌, ap}
use Rattle.std.specs.Borrow.{Bor}
use Rattle.lb_wire.specs.declared.rcode.Rcode.{Rcode}
use Rattle.lb_wire.proofs.Tables.{find_skips}
use Rattle.lb_wire.proofs.rcode.Rcode.from_name.Goals as goal

pub loop-rcode-preserved : goal.loop-rcode-preserved
loop-rcode-preserved c =
    let other = ap (λ (w : List ℕ). bytes_eq w c.args.name.now) (sym c.as_bytes.ensures.value) ∙ sym c.eq.ensures ∙ c.if-eq.false in
    ap (λ (e : Option (Rcode × Bor (List ℕ))). option_map (λ e. e.0) e) (sym (find_skips _ _ _ _ c.loop-rcode-test.true other)) ∙ c.loop-rcode.invariant
