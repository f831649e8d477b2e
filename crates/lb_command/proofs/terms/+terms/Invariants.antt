use Rattle.std.proofs.Common.{◌≡◌, map, ◌+◌, ◌-◌, ◌*◌}
use Rattle.lb_terms.specs.Selector.{selector_of}
use Rattle.lb_command.specs.Reading.{listed}
use Rattle.lb_command.specs.Terms.{comma, left_in, term_at}
use Rattle.lb_command.proofs.Lists.{with_front}
use Rattle.lb_command.proofs.terms.+terms.Given as goal

abbrev pub decreases-members : goal.decreases-members
decreases-members l = 4 * l.depth + 1

abbrev pub decreases-read_and : goal.decreases-read_and
decreases-read_and l = 4 * l.depth + 3

abbrev pub decreases-read_or : goal.decreases-read_or
decreases-read_or l = 4 * l.depth + 3

abbrev pub decreases-read_not : goal.decreases-read_not
decreases-read_not l = 4 * l.depth + 3

abbrev pub decreases-read_members : goal.decreases-read_members
decreases-read_members l = 4 * l.depth + 2

abbrev pub decreases-term : goal.decreases-term
decreases-term l = 4 * l.depth

abbrev pub invariant-members-terms : goal.invariant-members-terms
invariant-members-terms l = with_front (map selector_of l.terms.items) (listed (term_at l.depth) comma left_in (64 - l.counter) (l.left, l.words)) ≡ listed (term_at l.depth) comma left_in 64 (l.fn.left, l.fn.words)
