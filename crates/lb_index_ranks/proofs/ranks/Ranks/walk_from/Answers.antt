use Rattle.std.proofs.Common.{◌∙◌, ◌≡◌, ◌++◌, List, ap, subst, sym}
use Rattle.lb_index_ranks.specs.declared.filed.Filed.{Filed}
use Rattle.lb_index_ranks.specs.Block.{back_in, front_in}
use Rattle.lb_index_ranks.specs.Chunk.{all_of}
use Rattle.lb_index_ranks.specs.Filed.{filed_at, IsCut}
use Rattle.lb_index_ranks.proofs.InPlace.{cut_in, whole_in}
use Rattle.lb_index_ranks.proofs.ranks.Ranks.walk_from.Goals as goal

pub returns : goal.returns
returns c =
    let at = filed_at c.args.low.now 0 in
    let all = all_of c.self.inside.blocks.items in
    let rest : c.walk_in.result ≡ back_in at all = c.walk_in.ensures ∙ ap (λ (cs : List (List Filed)). back_in c.of-at.result (all_of cs)) c.as_slice.ensures.value ∙ ap (λ (f : Filed). back_in f all) c.of-at.ensures in
    record {
      front = front_in at all;
      whole = sym c.self.view_is ∙ sym (whole_in at all) ∙ ap (λ (xs : List Filed). front_in at all ++ xs) (sym rest);
      cut = subst (λ (xs : List Filed). IsCut at (front_in at all) xs) (sym rest) (cut_in at all c.self.invariant.0);
    }
