use Rattle.std.proofs.lemmas.Bool.Decides.{same_from_decides}
use Rattle.lb_terms.specs.Sets.{in_group}
use Rattle.lb_terms.proofs.Sets.{in_group-Decides}
use Rattle.lb_terms.proofs.truth.is_in_group.Goals as goal

pub returns : goal.returns
returns c = same_from_decides c.covers.result (in_group c.args.group.now c.args.addr.now) c.covers.ensures (in_group-Decides c.args.group.now c.args.addr.now)
