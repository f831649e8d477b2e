use Rattle.std.proofs.Common.{◌≡◌, ◌==◌, ◌↔◌, IsTrue, [], List, length, rules, subst}
use Rattle.lb_index_ranks.specs.declared.filed.Filed.{Filed}
use Rattle.lb_index_ranks.proofs.Ends.{empty_both}
use Rattle.lb_index_ranks.proofs.block.Block.is_empty.Goals as goal

pub returns : goal.returns
returns c =
    let cs = c.self.inside.chunks.items in
    let empty : c.is_empty.result ≡ (length cs == 0) = search rules in
    subst (λ (xs : List Filed). IsTrue c.is_empty.result ↔ (xs ≡ [])) c.self.view_is (empty_both cs c.is_empty.result c.self.invariant.0 empty)
