use Rattle.std.proofs.Common.{List, ℕ, arith, subst}
use Rattle.std.proofs.lemmas.List.{take_all}
use Rattle.lb_suffix.specs.Index.{IsFiledWith, pair_of}
use Rattle.lb_terms.specs.Names.{IsIndexOf}
use Rattle.lb_terms.proofs.Indexed.{index_next}
use Rattle.lb_terms.proofs.names.index_of.Goals as goal

pub loop-name-preserved : goal.loop-name-preserved
loop-name-preserved c =
    let filed = subst (λ (name : List (List ℕ)). IsFiledWith c.loop-name.index (pair_of name 0) c.file.new.self) c.to_name.ensures (c.in_ok-file.ensures {u = tt}).ok in
    index_next c.args.names.now c.loop-name.name-index c.name-item.result c.loop-name.index c.file.new.self c.loop-name-test.true c.name-item.is filed c.loop-name.invariant

pub returns : goal.returns
returns c = subst (λ (names : List (List (List ℕ))). IsIndexOf names c.loop-name.index) (take_all c.loop-name.name-index c.args.names.now (omega (arith, c.loop-name-test.false))) c.loop-name.invariant
