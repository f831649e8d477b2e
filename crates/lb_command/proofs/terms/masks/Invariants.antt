use Rattle.std.proofs.Common.{◌≡◌, ◌-◌}
use Rattle.std.specs.Prelude.{codes}
use Rattle.lb_command.specs.Values.{mask_of}
use Rattle.lb_command.specs.Reading.{due, listed, taken}
use Rattle.lb_command.specs.declared.fault.FaultKind.TheVariants.{BadAddress}
use Rattle.lb_command.proofs.Lists.{with_front}
use Rattle.lb_command.proofs.terms.masks.Given as goal

abbrev pub invariant-masks : goal.invariant-masks
invariant-masks l = with_front l.masks.items (listed (due BadAddress mask_of) (taken (codes ",")) (λ s. s) (1024 - l.counter) l.words) ≡ listed (due BadAddress mask_of) (taken (codes ",")) (λ s. s) 1024 l.fn.words
