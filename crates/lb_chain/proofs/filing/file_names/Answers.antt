use Rattle.std.proofs.Common.{◌≡◌, ◌<◌, ℕ, List, Some, get_or, length, slice_get, sym, ◌∙◌, arith}
use Rattle.std.proofs.lemmas.Option.{get_or_from_slice_get, slice_get_within}
use Rattle.lb_suffix.specs.Index.{Pair, pair_of}
use Rattle.lb_chain.specs.FirstAsked.{at_names}
use Rattle.lb_chain.specs.Filing.{AreWith}
use Rattle.lb_chain.proofs.Filed.{more_next, more_none, taken_back, with_end, with_next}
use Rattle.lb_chain.proofs.filing.file_names.Goals as goal

pub loop-at-init : goal.loop-at-init
loop-at-init c = (λ new more. more, more_none c.args.names.now (at_names c.args.set.now c.args.rank))

pub returns-in-Err-clause-err : goal.returns-in-Err-clause-err
returns-in-Err-clause-err c = taken_back c.args.names.now (at_names c.args.set.now c.args.rank) c.loop-at.names c.file.new.self c.unfile_names.new.names c.loop-at.invariant.1 (c.in-Err.ensures {u = tt}).err c.unfile_names.ensures

pub loop-at-preserved : goal.loop-at-preserved
loop-at-preserved c =
    let set = c.args.set.now in
    let name = c.in-Some.name in
    let there : slice_get set c.loop-at.at ≡ Some name = sym c.get.ensures ∙ c.in-Some.is in
    let lt = slice_get_within set c.loop-at.at name there in
    let is = sym (get_or_from_slice_get set c.loop-at.at name name there) in (
      with_next (λ x. pair_of x c.args.rank) set c.loop-at.at name c.loop-at.names c.file.new.self (λ (new : List Pair). AreWith c.args.names.now (at_names set c.args.rank) new)
          lt is (c.in_default-file.ensures {u = tt}).ok c.loop-at.invariant.0,
      more_next (λ x. pair_of x c.args.rank) set c.loop-at.at name c.args.names.now c.loop-at.names c.file.new.self lt is (c.in_default-file.ensures {u = tt}).ok c.loop-at.invariant.1,
    )

pub returns-clause-ok : goal.returns-clause-ok
returns-clause-ok c =
    with_end (λ x. pair_of x c.args.rank) c.args.set.now c.loop-at.at c.loop-at.names (λ (new : List Pair). AreWith c.args.names.now (at_names c.args.set.now c.args.rank) new)
    (omega (arith, c.len-at-end.ensures, c.loop-at-test.false)) c.loop-at.invariant.0
