use Rattle.std.proofs.Common.{rules, tests, not}
use Rattle.std.proofs.lemmas.Fn.{filter_same}
use Rattle.lb_step.specs.Upstream.{is_check}
use Rattle.lb_step.proofs.upstream.remove_check.Goals as goal

pub returns : goal.returns
returns c = filter_same _ (λ check. not (is_check c.args.server check)) _ (λ x b f' k. search (rules, tests)) _ _ c.retain.ensures.filtered
