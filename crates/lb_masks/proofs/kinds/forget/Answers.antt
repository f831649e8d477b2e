use Rattle.std.proofs.Common.{not, rules, tests, ◌==◌}
use Rattle.std.proofs.lemmas.Fn.{filter_same}
use Rattle.lb_masks.specs.declared.kinds.MaskKind.{MaskKind}
use Rattle.lb_masks.proofs.kinds.forget.Goals as goal

pub returns : goal.returns
returns c = filter_same _ (λ (k : MaskKind). not (k.number == c.args.number)) _ (λ x b f' k. search (rules, tests)) _ _ c.retain.ensures.filtered
