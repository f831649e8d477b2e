use Rattle.std.proofs.Common.{◌≡◌, List, ℕ, string_bytes, length, ◌<◌, take, arith, subst}
use Rattle.lb_wire.specs.declared.addr.Addr.{Addr}
use Rattle.lb_command.specs.Grammar.{comma_list, says}
use Rattle.lb_command.specs.Values.{addr_of}
use Rattle.lb_typed.specs.Addrs.{TypesAddr}
use Rattle.lb_typed.specs.Pieces.{Spells}
use Rattle.lb_typed.proofs.Sets.{all_taken, first_typed, next_typed}
use Rattle.lb_typed.proofs.actions.addrs_text.Goals as goal

pub addrs-init : goal.addrs-init
addrs-init c = first_typed addr_of _ c.args.addrs.now (string_bytes c.in_ok-text.text) (omega (arith, c.in-len1-up.len_at_least)) (TypesAddr.types c.in_ok-text.ensures)

pub addrs-preserved : goal.addrs-preserved
addrs-preserved c = next_typed addr_of _ c.args.addrs.now c.addrs.place (string_bytes c.addrs.text) (string_bytes c.in_ok-word.word) (string_bytes c.push_word.new.text) (omega (arith, c.addrs-test.true)) c.addrs.invariant (TypesAddr.types c.in_ok-word.ensures) (rw c.as_str.ensures.value at c.in_ok-push_word.ensures)
