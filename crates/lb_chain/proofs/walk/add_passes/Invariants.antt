use Rattle.std.proofs.Common.{◌≡◌, ℕ, ◌++◌, map, take}
use Rattle.lb_chain.specs.declared.walked.Passed.{Passed}
use Rattle.lb_chain.proofs.walk.add_passes.Given as goal

abbrev pub invariant-loop-limiter : goal.invariant-loop-limiter
invariant-loop-limiter l =
    let passed : ℕ → Passed = λ at. record { rule = l.rule; limiter = at } in
    l.passes-inside.items.items ≡ l.fn.passes ++ map passed (take l.limiter-index l.limiters)
