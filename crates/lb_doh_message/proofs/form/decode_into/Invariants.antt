use Rattle.std.proofs.Common.{◌≡◌, ◌≤◌, ◌++◌, length, take}
use Rattle.form_urlencoded.specs.Form.{decode}
use Rattle.lb_doh_message.proofs.form.decode_into.Given as goal

abbrev pub invariant-loop-octet : goal.invariant-loop-octet
invariant-loop-octet l =
    (l.at ≤ length l.room) × (length l.room ≡ length l.fn.room)
    × (take l.at l.room ++ decode l.left ≡ decode l.raw)

abbrev pub decreases-loop-octet : goal.decreases-loop-octet
decreases-loop-octet l = length l.left
