use Rattle.std.proofs.Common.{List, subst}
use Rattle.lb_index_ranks.specs.declared.filed.Filed.{Filed}
use Rattle.lb_index_ranks.specs.Chunk.{all_of}
use Rattle.lb_index_ranks.specs.Filed.{HasBut}
use Rattle.lb_index_ranks.proofs.Taking.{unfiled_but, unfiled_order}
use Rattle.lb_index_ranks.proofs.ranks.Ranks.unfile_joined.Goals as goal

pub invariant_of-self : goal.invariant_of-self
invariant_of-self c = (unfiled_order c.joined-at.result (all_of c.self.inside.blocks.items) (all_of c.unfile_in.new.blocks.items) c.self.invariant.0 c.unfile_in.ensures.taken, c.unfile_in.ensures.filled)

pub returns : goal.returns
returns c =
    let new = all_of c.unfile_in.new.blocks.items in
    subst (λ (f : Filed). HasBut c.args.self.now f new) c.joined-at.ensures
    (subst (λ (xs : List Filed). HasBut xs c.joined-at.result new) c.self.view_is (unfiled_but c.joined-at.result (all_of c.self.inside.blocks.items) new c.self.invariant.0 c.unfile_in.ensures.taken))
