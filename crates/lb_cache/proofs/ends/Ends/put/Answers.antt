use Rattle.std.proofs.Common.{◌≡◌, ℕ, true, cond, Option, sym, subst}
use Rattle.lb_cache.specs.declared.ends.Ends.{Ends}
use Rattle.lb_cache.specs.Ends.{has, is_end_mark}
use Rattle.lb_cache.proofs.ends.Ends.put.Goals as goal

pub returns-in-Ok-clause-put : goal.returns-in-Ok-clause-put
returns-in-Ok-clause-put c = λ v s.
    let new : Ends = record { marks = c.insert.new.self } in
    subst (λ (end : Option ℕ). has new v s ≡ cond (is_end_mark end c.args.slot v s) true (has c.args.self.now v s)) (sym c.in-Some.is) (c.in-Ok.ensures.updates.0 (v, s))
