use Rattle.std.proofs.Common.{rules, tests, bytes_eq, ◌∙◌, [], ◌∷◌}
use Rattle.std.proofs.lemmas.Iterator.{YieldsList-from_slice}
use Rattle.std.proofs.lemmas.Iterator.Search.{find_from_yields_List}
use Rattle.lb_servers.specs.declared.pool.Policy.TheVariants.{FirstAvailable, LeastOutstanding, RoundRobin}
use Rattle.lb_command.specs.Answers.{policy_text}
use Rattle.lb_command.proofs.values.policy_of.Goals as goal

pub returns : goal.returns
returns c =
    c.copied.ensures
    ∙ find_from_yields_List (λ policy. bytes_eq (policy_text policy) c.args.text.now) _ _ c.find.result c.find.ensures.ran (YieldsList-from_slice (FirstAvailable ∷ LeastOutstanding ∷ RoundRobin ∷ []) (cc)) (λ x b q k. search (rules, tests))
