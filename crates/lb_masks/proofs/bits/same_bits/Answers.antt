use Rattle.std.proofs.Common.{◌/◌, ◌%◌, sym, ◌∙◌, eq-eqb, eqb-true, arith}
use Rattle.lb_masks.proofs.KeepsBits.{front_same, kept_there, bits_same, slices_differ, slices_equal}
use Rattle.lb_masks.proofs.bits.same_bits.Goals as goal

pub returns-then-ne : goal.returns-then-ne
returns-then-ne c =
    (λ no. absurd (cc), λ same. absurd (slices_differ _ _ _ c.ne.ensures c.if-ne.true (front_same _ (c.args.count / 8) c.args.a.now c.args.b.now (omega arith) (omega arith) (omega arith) (λ i. omega (arith, c.type_inv.a i)) (λ i. omega (arith, c.type_inv.b i)) same)))

pub returns-then-rest-eq0 : goal.returns-then-rest-eq0
returns-then-rest-eq0 c =
    (λ _. bits_same c.args.count (c.args.count / 8) (c.args.count % 8) c.args.a.now c.args.b.now (omega arith) (omega arith) (slices_equal _ _ _ c.ne.ensures c.if-ne.false) (λ some. absurd (omega arith)), λ _. eq-eqb (c.args.count % 8) 0 c.if-rest-eq0.true)

pub returns-else-rest-eq0 : goal.returns-else-rest-eq0
returns-else-rest-eq0 c = (
  λ equal. bits_same c.args.count (c.args.count / 8) (c.args.count % 8) c.args.a.now c.args.b.now (omega arith) (omega arith) (slices_equal _ _ _ c.ne.ensures c.if-ne.false) (λ _. sym c.kept_octet.ensures ∙ eqb-true _ _ equal ∙ c.kept_octet-else-rest-eq0.ensures),
  λ same. eq-eqb _ _ (c.kept_octet.ensures ∙ kept_there c.args.count (c.args.count / 8) (c.args.count % 8) c.args.a.now c.args.b.now (omega arith) (omega arith) (λ i. omega (arith, c.type_inv.a i)) (λ i. omega (arith, c.type_inv.b i)) same ∙ sym c.kept_octet-else-rest-eq0.ensures),
)
