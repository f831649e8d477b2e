use Rattle.std.proofs.Common.{◌≡◌, sym, ◌∙◌, arith}
use Rattle.lb_wire.specs.Opt.{opts, first_opt}
use Rattle.lb_wire.specs.Options.{shed}
use Rattle.lb_wire.proofs.OptionLaws.{are_octets}
use Rattle.lb_wire.proofs.Shed.{all_stay, no_opts, none_left_out, by_one, stays_whole, none_is}
use Rattle.lb_wire.proofs.key.data_to_shed.Goals as goal
use Rattle.lb_wire.proofs.key.data_to_shed.Goals.{then-is_empty-via-then-is_empty, then-is_empty-via-else-is_empty+then-is_none}

pub returns-then-is_empty-clause-none : goal.returns-then-is_empty-clause-none
returns-then-is_empty-clause-none c =
    let asked = c.requires.view in
    by_one c.one_message.ensures (λ m. shed c.args.skips.now m ≡ m) c.args.bytes.now asked.0 asked.1 (
    elim c.then-is_empty.branch [
      | then-is_empty-via-then-is_empty w ↦
          none_left_out c.args.skips.now c.args.bytes.now asked.0 (are_octets c.args.bytes.now (λ i. omega (arith, c.type_inv.bytes i))) asked.1 (sym c.is_empty.ensures ∙ w.if-is_empty.true)
      | then-is_empty-via-else-is_empty+then-is_none w ↦
          stays_whole c.args.skips.now asked.0 (all_stay c.args.skips.now asked.0.records (no_opts asked.0.records (none_is c.args.view.now.opt (first_opt (opts asked.0.records)) w.is_none.result asked.3.opt w.is_none.ensures w.if-is_none.true)))
    ]
    )
