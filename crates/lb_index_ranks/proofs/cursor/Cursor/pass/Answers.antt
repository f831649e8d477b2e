use Rattle.std.proofs.Common.{◌∙◌, ◌++◌, ◌+◌, List, ap, arith, drop, sym}
use Rattle.lb_index_ranks.specs.declared.filed.Filed.{Filed}
use Rattle.lb_index_ranks.proofs.Chunks.{filled_rest, pass_end, start}
use Rattle.lb_index_ranks.proofs.Walks.{walk_more}
use Rattle.lb_index_ranks.proofs.cursor.Cursor.pass.Goals as goal

pub behind-requires : goal.behind-requires
behind-requires c =
    let chunks = c.self.inside.chunks.now in
    let blocks = c.self.inside.others.now in
    filled_rest (chunks ++ blocks) (c.in-Some.rest.now ++ blocks) c.in-Some.chunk.now (ap (λ (xs : List (List Filed)). xs ++ blocks) c.in-Some.ensures.cases.0) c.self.invariant.0

pub returns-then-len-self-gt1 : goal.returns-then-len-self-gt1
returns-then-len-self-gt1 c =
    let chunks = c.self.inside.chunks.now in
    let blocks = c.self.inside.others.now in
    walk_more (chunks ++ blocks) (c.in-Some.rest.now ++ blocks) c.in-Some.chunk.now c.self.inside.place (c.self.inside.place + 1) (ap (λ (xs : List (List Filed)). xs ++ blocks) c.in-Some.ensures.cases.0) (omega arith) (omega (arith, c.if-len-self-gt1.true, c.len.ensures))
    ∙ ap (drop 1) c.self.view_is

pub returns-else-len-self-gt1 : goal.returns-else-len-self-gt1
returns-else-len-self-gt1 c =
    let chunks = c.self.inside.chunks.now in
    let blocks = c.self.inside.others.now in
    start (c.behind.result.0.now ++ c.behind.result.1.now) ∙ c.behind.ensures.pairs ∙ sym (start (c.in-Some.rest.now ++ blocks))
    ∙ pass_end (chunks ++ blocks) (c.in-Some.rest.now ++ blocks) c.in-Some.chunk.now c.self.inside.place (ap (λ (xs : List (List Filed)). xs ++ blocks) c.in-Some.ensures.cases.0) c.self.invariant.1 (omega (arith, c.if-len-self-gt1.false))
    ∙ ap (drop 1) c.self.view_is
