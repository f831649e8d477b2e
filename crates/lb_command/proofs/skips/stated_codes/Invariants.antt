use Rattle.std.proofs.Common.{◌≡◌, ◌-◌, length}
use Rattle.std.specs.Prelude.{codes}
use Rattle.lb_command.specs.Values.{word_number}
use Rattle.lb_command.specs.Reading.{due, listed, taken}
use Rattle.lb_command.specs.declared.fault.FaultKind.TheVariants.{BadNumber}
use Rattle.lb_command.proofs.Lists.{with_front}
use Rattle.lb_command.proofs.skips.stated_codes.Given as goal

-- what is left is read as the whole is, and each turn takes a code
abbrev pub invariant-codes : goal.invariant-codes
invariant-codes l = (with_front l.stated.items (listed (due BadNumber word_number) (taken (codes ",")) (λ s. s) (16 - l.counter) l.words) ≡ listed (due BadNumber word_number) (taken (codes ",")) (λ s. s) 16 l.fn.words) × (length l.stated.items ≡ l.counter)
