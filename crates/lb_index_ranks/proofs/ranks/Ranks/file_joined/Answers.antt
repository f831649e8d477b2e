use Rattle.std.proofs.Common.{List, subst}
use Rattle.std.proofs.lemmas.Result.{on_ok_weaker}
use Rattle.lb_index_ranks.specs.declared.filed.Filed.{Filed}
use Rattle.lb_index_ranks.specs.Chunk.{all_of}
use Rattle.lb_index_ranks.specs.Filed.{HasBesides}
use Rattle.lb_index_ranks.proofs.Putting.{filed_besides, kept_order}
use Rattle.lb_index_ranks.proofs.ranks.Ranks.file_joined.Goals as goal

pub invariant_of-self : goal.invariant_of-self
invariant_of-self c = (kept_order c.file_in.result c.joined-at.result (all_of c.self.inside.blocks.items) (all_of c.file_in.new.blocks.items) c.self.invariant.0 c.file_in.ensures.ok c.file_in.ensures.err, c.file_in.ensures.filled)

pub returns-clause-ok : goal.returns-clause-ok
returns-clause-ok c =
    let new = all_of c.file_in.new.blocks.items in
    on_ok_weaker c.file_in.result
    (λ filed.
    subst (λ (f : Filed). HasBesides c.args.self.now f new) c.joined-at.ensures
    (subst (λ (xs : List Filed). HasBesides xs c.joined-at.result new) c.self.view_is (filed_besides c.joined-at.result (all_of c.self.inside.blocks.items) new filed)))
    c.file_in.ensures.ok
