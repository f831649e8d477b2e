use Rattle.std.proofs.Common.{List, sym, subst}
use Rattle.std.specs.List.{All}
use Rattle.std.proofs.lemmas.List.Elements.{All-nil}
use Rattle.lb_index_ranks.specs.declared.filed.Filed.{Filed}
use Rattle.lb_index_ranks.specs.Chunk.{all_of, IsFilled}
use Rattle.lb_index_ranks.specs.Filed.{AreInOrder}
use Rattle.lb_index_ranks.proofs.Order.{order_none}
use Rattle.lb_index_ranks.proofs.ranks.Ranks.new.Goals as goal

pub invariant_of-result : goal.invariant_of-result
invariant_of-result c =
    (subst (λ (cs : List (List Filed)). AreInOrder (all_of cs)) (sym c.new.ensures.items) order_none, subst (λ (cs : List (List Filed)). All IsFilled cs) (sym c.new.ensures.items) (All-nil IsFilled))
