use Rattle.std.proofs.Common.{◌∙◌, ◌+◌, ◌*◌, ◌%◌, ◌^◌, ◌<◌, ℕ, ap, arith, get_or}
use Rattle.lb_masks.specs.Marks.{weights}
use Rattle.lb_masks.proofs.Bitmaps.{weighed_more}
use Rattle.lb_masks.proofs.marks.weigh.Goals as goal

pub loop-place-preserved : goal.loop-place-preserved
loop-place-preserved c =
    let within : c.loop-place.place < 16 = omega (arith, c.loop-place-test.true, c.requires) in
    weighed_more c.args.octets.now weights c.loop-place.place c.loop-place.sum _ c.loop-place-test.true within
    (ap (λ (n : ℕ). (c.loop-place.sum + n * get_or weights c.loop-place.place 0 % 2 ^ 64) % 2 ^ 64) c.from.ensures)
    ∙ c.loop-place.invariant
