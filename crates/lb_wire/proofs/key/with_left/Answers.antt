use Rattle.std.proofs.Common.{List, ℕ, Some, ◌++◌, arith, ap, ◌∙◌, sym, length, drop}
use Rattle.lb_wire.specs.Options.{data_at}
use Rattle.lb_wire.specs.Record.{end_at}
use Rattle.lb_wire.proofs.Shed.{put_by, left_by}
use Rattle.lb_wire.proofs.key.with_left.Goals as goal

pub returns-clause-octets : goal.returns-clause-octets
returns-clause-octets c =
    let found = c.in-Some.ensures.found in
    let many = found.3 ∙ ap (λ (xs : List ℕ). length xs) (sym (left_by c.args.skips.now c.data_of-data.result.now (Some found.0) found.2)) in
    let spot = c.data_at_size-spot.ensures in
    let held = c.data_of-data.ensures ∙ ap (λ (at : ℕ). data_at at c.data_at_size-spot.result.end c.args.bytes.now) spot.0 ∙ ap (λ (end : ℕ). data_at c.args.size_at end c.args.bytes.now) spot.1 in
    put_by c.args.skips.now c.args.bytes.now c.data_of-data.result.now c.push_front.new.octets.items c.push_left.new.octets.items c.push_after.new.octets.items c.args.size_at (end_at c.args.size_at c.args.bytes.now) c.in-Some.left (omega arith) (omega arith) held many c.in_ok-push_front.ensures.octets c.in_ok-push_left.ensures.octets (c.in_ok-push_after.ensures.octets ∙ ap (λ (xs : List ℕ). c.push_left.new.octets.items ++ xs) (c.split_at.ensures.back ∙ ap (λ (end : ℕ). drop end c.args.bytes.now) c.data_at_size-spot.ensures.1))
