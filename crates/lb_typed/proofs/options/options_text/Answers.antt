use Rattle.std.proofs.Common.{◌≡◌, List, ℕ, ◌++◌, string_bytes, subst, sym}
use Rattle.lb_command.specs.Grammar.{Choice, options}
use Rattle.lb_typed.specs.Options.{choices_of, fall_choice, lanes_choice, order_choice, pool_choices, resolve_choice, rise_choice}
use Rattle.lb_typed.specs.Pieces.{Follows}
use Rattle.lb_typed.proofs.Choices.{both}
use Rattle.lb_typed.proofs.Texts.{holds}
use Rattle.lb_typed.proofs.options.options_text.Goals as goal

after : (xs ys : List Choice) (a b text : List ℕ) → text ≡ a ++ b → Follows (options xs) a → Follows (options ys) b → Follows (options (xs ++ ys)) text
after xs ys a b text is first second = subst (λ (bytes : List ℕ). Follows (options (xs ++ ys)) bytes) (sym is) (both xs ys a b first second)

pub returns : goal.returns
returns c =
    let spec = c.args.spec.now in
    let check = c.args.check.now in
    let pools = pool_choices spec.pools in
    let with_resolve = after (resolve_choice check.must_resolve) pools c.resolve_option-resolve.result.now (string_bytes c.in_ok-pools.pools) (string_bytes c.in_ok-text.text) (rw c.as_str.ensures.value at c.in_ok-text.ensures) c.resolve_option-resolve.ensures (rw c.as_slice.ensures at c.in_ok-pools.ensures) in
    let with_rise = after (rise_choice check.rise) (resolve_choice check.must_resolve ++ pools) (string_bytes c.in_ok-rise.rise) (string_bytes c.in_ok-text.text) (string_bytes c.in_ok-text-2.text) (rw (c.as_str-2.ensures.value, c.as_str-3.ensures.value) at c.in_ok-text-2.ensures) c.in_ok-rise.ensures with_resolve in
    let with_fall = after (fall_choice check.fall) (rise_choice check.rise ++ (resolve_choice check.must_resolve ++ pools)) (string_bytes c.in_ok-fall.fall) (string_bytes c.in_ok-text-2.text) (string_bytes c.in_ok-text-3.text) (rw (c.as_str-4.ensures.value, c.as_str-5.ensures.value) at c.in_ok-text-3.ensures) c.in_ok-fall.ensures with_rise in
    let with_lanes = after (lanes_choice spec.lanes) (fall_choice check.fall ++ (rise_choice check.rise ++ (resolve_choice check.must_resolve ++ pools))) (string_bytes c.in_ok-lanes.lanes) (string_bytes c.in_ok-text-3.text) (string_bytes c.in_ok-text-4.text) (rw (c.as_str-6.ensures.value, c.as_str-7.ensures.value) at c.in_ok-text-4.ensures) c.in_ok-lanes.ensures with_fall in
    holds string_bytes c.joined-5.result (string_bytes c.in_ok-order.order ++ string_bytes c.in_ok-text-4.text) (λ text. Follows (options (choices_of spec check)) text)
    (both (order_choice spec.order) (lanes_choice spec.lanes ++ (fall_choice check.fall ++ (rise_choice check.rise ++ (resolve_choice check.must_resolve ++ pools)))) (string_bytes c.in_ok-order.order) (string_bytes c.in_ok-text-4.text) c.in_ok-order.ensures with_lanes)
    (rw (c.as_str-8.ensures.value, c.as_str-9.ensures.value) at c.joined-5.ensures)
