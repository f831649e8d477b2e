use Rattle.std.proofs.Common.{[], ap, arith, ◌∙◌, ◌≡◌}
use Rattle.std.specs.List.{range_with_len}
use Rattle.lb_desk.proofs.Numbers.{each_grown, numbers_grown}
use Rattle.lb_desk.proofs.desk.seats_by.Goals as goal

pub loop-number-preserved : goal.loop-number-preserved
loop-number-preserved g c =
    let so_far = c.loop-number.invariant in
    let parts = so_far.0 in
    let amount = so_far.1 in
    let split = c.split_off-share.ensures in
    let parts_left = split.parts_left in
    let amount_left = split.amount_left in (
      omega arith,
      omega arith,
      numbers_grown (λ s. s.number.0) _ _ _ _ so_far.2 (ap (λ s. s.number.0) c.new.ensures) c.in_ok-push.ensures.items,
      each_grown (λ s. (s.calls ≡ 0) × (s.receipts ≡ [])) _ _ _ so_far.3 (ap (λ s. s.calls) c.new.ensures, ap (λ s. s.receipts) c.new.ensures) c.in_ok-push.ensures.items,
    )

pub returns-clause-numbers : goal.returns-clause-numbers
returns-clause-numbers g c =
    let within = c.loop-number.auto.number-end in
    let past = c.loop-number-test.false in
    let all : c.loop-number.number ≡ c.args.seats = omega arith in
    c.loop-number.invariant.2 ∙ ap (range_with_len 0) all
