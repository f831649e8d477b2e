use Rattle.std.proofs.lemmas.Bool.Decides.{same_from_decides}
use Rattle.lb_terms.specs.Sets.{is_under}
use Rattle.lb_terms.proofs.Sets.{is_under-Decides}
use Rattle.lb_terms.proofs.names.is_under.Goals as goal

pub returns : goal.returns
returns c = same_from_decides c.is_under_kept.result (is_under c.args.name.now c.args.suffix.now) c.is_under_kept.ensures (is_under-Decides c.args.name.now c.args.suffix.now)
