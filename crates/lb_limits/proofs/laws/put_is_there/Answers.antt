use Rattle.lb_limits.proofs.PutKey.{put_contains}
use Rattle.lb_limits.proofs.laws.put_is_there.Goals as goal

pub returns : goal.returns
returns c = put_contains
