use Rattle.std.proofs.Common.{rules, sym}
use Rattle.lb_desk.proofs.Runs.{counted_new, keeps_new}
use Rattle.lb_desk.proofs.book.Book.new.Goals as goal

pub invariant_of-result : goal.invariant_of-result
invariant_of-result g c = (
  sym c.requires.new,
  (sym c.requires.limit, (search rules, (search rules, (search rules, (keeps_new _ _ _ _ c.requires.shown c.requires.opening c.new-log.ensures.items, (counted_new _ _ _ c.requires.shown c.requires.opening c.new-tally.ensures.counts c.new-tally.ensures.none, tt)))))),
)
