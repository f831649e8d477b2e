use Rattle.std.proofs.Common.{◌≡◌, ◌++◌, map, take}
use Rattle.lb_limits.specs.declared.pass.Pass.{Pass}
use Rattle.lb_chain.specs.declared.listed.RulePass.{RulePass}
use Rattle.lb_chain.proofs.listed.list_passes.Given as goal

abbrev pub invariant-loop-pass : goal.invariant-loop-pass
invariant-loop-pass l =
    let numbered : Pass → RulePass = λ pass. record { limiter = l.limiter; pass = pass } in
    l.all.items ≡ l.fn.all.items ++ map numbered (take l.pass-index l.passes)
