use Rattle.std.proofs.Common.{◌≡◌, ◌/◌, ◌%◌, ◌<◌, length, sym, rules}
use Rattle.lb_masks.proofs.Bitmaps.{with_kept, with_own}
use Rattle.lb_masks.proofs.kinds.MaskKind.with.Goals as goal

pub returns-clause-own : goal.returns-clause-own
returns-clause-own c =
    let is : c.args.mark / 64 ≡ c.from.result = sym c.from.ensures in
    let lt : c.from.result < length c.args.self.marks = search rules in
    with_own c.args.self.marks c.from.result c.args.mark lt is

pub returns-clause-kept : goal.returns-clause-kept
returns-clause-kept c = λ m has.
    let lt : c.from.result < length c.args.self.marks = search rules in
    with_kept c.args.self.marks c.from.result (c.args.mark % 64) m lt has
