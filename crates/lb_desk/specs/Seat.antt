-- A seat: the right of one caller to call a desk.
use Rattle.std.specs.Prelude.{◌≡◌, ℕ, ◌<◌, ◌==◌, true, List}
use Rattle.std.specs.List.{list_any}
use Rattle.lb_desk.specs.declared.entry.Receipt.{Receipt}
use Rattle.lb_desk.specs.declared.entry.SeatId.{SeatId}

-- its number; how many of its calls were answered; and its receipts, in order
pub record Seated : Type 0 where
  pub number : SeatId
  pub calls : ℕ
  pub receipts : List Receipt

-- each number below this is that of one of the seats
abbrev pub AreAll : ℕ → List Seated → Type 0
AreAll count seats = (k : ℕ) → k < count → list_any (λ (s : Seated). k == s.number.0) seats ≡ true
