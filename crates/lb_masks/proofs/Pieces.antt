-- The pieces of a text that are left within a loop over them.
use Rattle.std.proofs.Common.{ℕ, List, [], Option, option_map}
use Rattle.std.specs.Borrow.{Bor}
use Rattle.std.specs.Option.{unwrap_or}
use Rattle.lb_masks.specs.Form.{cut_at}

-- the pieces of what is left of a text, and none where nothing is left
abbrev pub pieces_left : ℕ → Option (Bor (List ℕ)) → List (List ℕ)
pieces_left mark left = unwrap_or (option_map (λ text. cut_at mark text.now) left) []
