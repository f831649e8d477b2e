use Rattle.std.proofs.Common.{◌∙◌, ◌++◌, ◌/◌, List, ap, arith, subst, sym}
use Rattle.std.specs.List.{All}
use Rattle.std.proofs.lemmas.List.Elements.{All-take}
use Rattle.lb_index_ranks.specs.declared.filed.Filed.{Filed}
use Rattle.lb_index_ranks.specs.Chunk.{all_of, IsFence, IsFilled}
use Rattle.lb_index_ranks.proofs.Ends.{halves}
use Rattle.lb_index_ranks.proofs.block.Block.divide.Goals as goal

pub invariant_of-self-2 : goal.invariant_of-self-2
invariant_of-self-2 c = (
  subst (λ (xs : List (List Filed)). All IsFilled xs) (sym (c.shrink_to_fit.ensures.items ∙ c.in_ok-upper.ensures.items)) (All-take IsFilled (c.len-half.result / 2) c.self.inside.chunks.items c.self.invariant.0),
  subst (λ (xs : List (List Filed)). IsFence c.fence_of-self-inside.result (all_of xs)) c.as_slice.ensures.value c.fence_of-self-inside.ensures,
)

pub returns-clause-some : goal.returns-clause-some
returns-clause-some c =
    let cs = c.self.inside.chunks.items in
    let low = c.shrink_to_fit.new.self.items in
    let all = halves cs (c.len-half.result / 2) low c.in_ok-upper.upper.items c.self.invariant.0 (omega (arith, c.if-half-eq0.false)) (omega (arith, c.len-half.ensures, c.if-half-eq0.false)) (c.shrink_to_fit.ensures.items ∙ c.in_ok-upper.ensures.items) c.in_ok-upper.ensures.tail in
    (all.0, subst IsFilled (sym c.of.ensures) all.1, sym c.self.view_is ∙ all.2 ∙ ap (λ (xs : List Filed). all_of low ++ xs) (sym c.of.ensures))
