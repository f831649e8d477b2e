use Rattle.std.proofs.Common.{List, ℕ, string_bytes}
use Rattle.lb_typed.specs.Addrs.{TypesAddr, dotted, grouped}
use Rattle.lb_typed.proofs.Groups.{v4_of_list, v6_of_list}
use Rattle.lb_typed.proofs.Texts.{holds}
use Rattle.lb_typed.proofs.addrs.addr_word.Goals as goal

pub returns-in-V4 : goal.returns-in-V4
returns-in-V4 c = holds string_bytes c.dotted.result (dotted c.in-V4.octets) (λ text. TypesAddr c.args.addr.now text) (rw c.in-V4.is (v4_of_list c.in-V4.octets c.law_of_four.ensures c.law_of_octets.ensures)) c.dotted.ensures

pub returns-else-is_read_as : goal.returns-else-is_read_as
returns-else-is_read_as c = holds string_bytes c.grouped.result (grouped c.in-V6.octets) (λ text. TypesAddr c.args.addr.now text) (rw c.in-V6.is (v6_of_list c.in-V6.octets c.law_of_sixteen.ensures c.law_of_octets-in-V6.ensures)) c.grouped.ensures
