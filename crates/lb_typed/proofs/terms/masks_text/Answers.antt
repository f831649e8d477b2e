use Rattle.std.proofs.Common.{◌≡◌, List, ℕ, [], string_bytes, take, arith, refl, sym, ◌∙◌, ◌++◌, ◌∷◌}
use Rattle.lb_command.specs.Values.{mask_of}
use Rattle.lb_typed.proofs.Sets.{all_taken, first_typed, next_typed}
use Rattle.lb_typed.proofs.terms.masks_text.Goals as goal

pub masks-init : goal.masks-init
masks-init c = first_typed mask_of c.first-item.result c.args.masks.now (string_bytes c.in_ok-text.text) (omega (arith, c.in-len1-up.len_at_least)) (rw c.first-item.is at c.in_ok-text.ensures)

pub masks-preserved : goal.masks-preserved
masks-preserved c = next_typed mask_of c.index-masks-place.result c.args.masks.now c.masks.place (string_bytes c.masks.text) (string_bytes c.in_ok-word.word) (string_bytes c.push_word.new.text) (omega (arith, c.masks-test.true)) c.masks.invariant (rw c.index-masks-place.is at c.in_ok-word.ensures) (rw c.as_str.ensures.value at c.in_ok-push_word.ensures)
