use Rattle.std.proofs.Common.{◌≡◌, ◌-◌}
use Rattle.std.specs.Prelude.{codes}
use Rattle.lb_command.specs.Values.{addr_of}
use Rattle.lb_command.specs.Reading.{due, listed, taken}
use Rattle.lb_command.specs.declared.fault.FaultKind.TheVariants.{BadAddress}
use Rattle.lb_command.proofs.Lists.{with_front}
use Rattle.lb_command.proofs.actions.addrs.Given as goal

abbrev pub invariant-addrs : goal.invariant-addrs
invariant-addrs l = with_front l.addrs.items (listed (due BadAddress addr_of) (taken (codes ",")) (λ s. s) (8 - l.counter) l.words) ≡ listed (due BadAddress addr_of) (taken (codes ",")) (λ s. s) 8 l.fn.words
