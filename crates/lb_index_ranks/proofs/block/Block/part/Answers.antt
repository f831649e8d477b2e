use Rattle.std.proofs.Common.{◌∙◌, ◌++◌, ◌<◌, ◌≡◌, List, ap, arith, length, rules, subst, sym}
use Rattle.std.specs.List.{All}
use Rattle.std.proofs.lemmas.List.Elements.{All-take}
use Rattle.lb_index_ranks.specs.declared.filed.Filed.{Filed}
use Rattle.lb_index_ranks.specs.Chunk.{all_of, IsFence, IsFilled}
use Rattle.lb_index_ranks.proofs.Ends.{halves}
use Rattle.lb_index_ranks.proofs.block.Block.part.Goals as goal

pub invariant_of-self-2 : goal.invariant_of-self-2
invariant_of-self-2 c = (
  subst (λ (xs : List (List Filed)). All IsFilled xs) (sym c.in_ok-upper.ensures.items) (All-take IsFilled c.in_ok-cut.cut c.part_at.new.chunks.items c.part_at.ensures.filled),
  subst (λ (xs : List (List Filed)). IsFence c.fence_of-self-inside.result (all_of xs)) c.as_slice-kept.ensures.value c.fence_of-self-inside.ensures,
)

pub returns-clause-some : goal.returns-clause-some
returns-clause-some c =
    let cs = c.part_at.new.chunks.items in
    let low = c.split_off.new.self.items in
    let all = halves cs c.in_ok-cut.cut low c.in_ok-upper.upper.items c.part_at.ensures.filled (omega (arith, c.if-cut-eq0.false)) (omega (arith, c.len.ensures, c.if-cut-len.false)) c.in_ok-upper.ensures.items c.in_ok-upper.ensures.tail in
    (all.0, subst IsFilled (sym c.of.ensures) all.1, sym c.self.view_is ∙ sym c.part_at.ensures.pairs ∙ all.2 ∙ ap (λ (xs : List Filed). all_of low ++ xs) (sym c.of.ensures))
