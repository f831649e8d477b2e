use Rattle.std.proofs.Common.{◌≡◌, ◌<◌, ℕ, List, Some, get_or, length, slice_get, sym, ◌∙◌, arith}
use Rattle.std.proofs.lemmas.Option.{get_or_from_slice_get, slice_get_within}
use Rattle.lb_suffix.specs.Index.{Pair, pair_of}
use Rattle.lb_chain.specs.FirstAsked.{at_names}
use Rattle.lb_chain.specs.Filing.{AreWithout}
use Rattle.lb_chain.proofs.Filed.{without_end, without_next}
use Rattle.lb_chain.proofs.filing.unfile_names.Goals as goal

pub loop-at-init : goal.loop-at-init
loop-at-init c = λ new without. without

pub loop-at-preserved : goal.loop-at-preserved
loop-at-preserved c =
    let set = c.args.set.now in
    let name = c.in-Some.name in
    let there : slice_get set c.loop-at.at ≡ Some name = sym c.get.ensures ∙ c.in-Some.is in
    without_next (λ x. pair_of x c.args.rank) set c.loop-at.at name c.loop-at.names c.unfile.new.self (λ (new : List Pair). AreWithout c.args.names.now (at_names set c.args.rank) new)
    (slice_get_within set c.loop-at.at name there) (sym (get_or_from_slice_get set c.loop-at.at name name there)) c.unfile.ensures c.loop-at.invariant

pub returns : goal.returns
returns c =
    without_end (λ x. pair_of x c.args.rank) c.args.set.now c.loop-at.at c.loop-at.names (λ (new : List Pair). AreWithout c.args.names.now (at_names c.args.set.now c.args.rank) new)
    (omega (arith, c.len-at-end.ensures, c.loop-at-test.false)) c.loop-at.invariant
