use Rattle.std.proofs.Common.{◌≡◌, ◌-◌}
use Rattle.std.specs.Prelude.{codes}
use Rattle.lb_command.specs.Values.{name_of}
use Rattle.lb_command.specs.Reading.{due, listed, taken}
use Rattle.lb_command.specs.declared.fault.FaultKind.TheVariants.{BadName}
use Rattle.lb_command.proofs.Lists.{with_front}
use Rattle.lb_command.proofs.terms.names.Given as goal

abbrev pub invariant-names : goal.invariant-names
invariant-names l = with_front l.names (listed (due BadName name_of) (taken (codes ",")) (λ s. s) (1024 - l.counter) l.words) ≡ listed (due BadName name_of) (taken (codes ",")) (λ s. s) 1024 l.fn.words
