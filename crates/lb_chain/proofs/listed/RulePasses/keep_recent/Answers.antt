use Rattle.std.proofs.Common.{List, ap, rules, tests, ◌∙◌}
use Rattle.std.specs.List.{filter}
use Rattle.std.proofs.lemmas.Fn.{filter_same}
use Rattle.lb_chain.specs.declared.listed.RulePass.{RulePass}
use Rattle.lb_chain.specs.Listed.{counts_at}
use Rattle.lb_chain.proofs.listed.RulePasses.keep_recent.Goals as goal

pub returns : goal.returns
returns c = filter_same _ (counts_at c.args.now) _ (λ x b f' k. search (rules, tests)) _ _ c.retain.ensures.filtered ∙ ap (λ (ps : List RulePass). filter (counts_at c.args.now) ps) c.self.view_is
