-- Servers that are probed, place by place.
use Rattle.std.proofs.Common.{◌≡◌, ℕ, zero, suc, ◌+◌, ◌<◌, ◌≤◌, ◌⊎◌, inl, inr, Some, List, [], ◌∷◌, length, ap, subst, arith}
use Rattle.std.specs.Prelude.{slice_get}
use Rattle.lb_loops_io.specs.declared.roster.Listed.{Listed}
use Rattle.lb_loops_probes.specs.Probes.{Each, First, Here, IsQuietFor}
use Rattle.lb_loops_probes.specs.declared.watched.Watched.{Watched}

pub step_or : (i j : ℕ) → i < j + 1 → (i < j) ⊎ (i ≡ j)
step_or i zero lt = inr (omega arith)
step_or zero (suc j) lt = inl (omega arith)
step_or (suc i) (suc j) lt = again (step_or i j (omega arith)) where
  again : (i < j) ⊎ (i ≡ j) → (suc i < suc j) ⊎ (suc i ≡ suc j)
  again (inl less) = inl (omega arith)
  again (inr same) = inr (ap suc same)

within : (p : List Watched) (i : ℕ) (w : Watched) → slice_get p i ≡ Some w → i < length p
within [] i w at = absurd (cc at)
within (x ∷ xs) zero w at = omega arith
within (x ∷ xs) (suc i) w at = let lt = within xs i w at in omega arith

-- all of them
pub first_all : (P : Watched → Type 0) (n : ℕ) (p : List Watched) → length p ≤ n → First P n p → Each P p
first_all P n p le first i w at = first i w (let lt = within p i w at in omega arith) at

-- one more
first_more : (P : Watched → Type 0) (n : ℕ) (p : List Watched) → First P n p → Here P n p → First P (n + 1) p
first_more P n p first here i w lt at = by (step_or i n lt) where
  by : (i < n) ⊎ (i ≡ n) → P w
  by (inl less) = first i w less at
  by (inr same) = here w (subst (λ k. slice_get p k ≡ Some w) same at)

-- what is quiet for longer is quiet for less
quiet_less : (roster : List Listed) (now a b : ℕ) → b ≤ a → (w : Watched) → IsQuietFor roster now a w → IsQuietFor roster now b w
quiet_less roster now a b le w quiet moment from before = quiet moment from (omega arith)

-- the first servers and the one after them are quiet for no longer than both
pub quiet_on : (roster : List Listed) (now a b least i : ℕ) (p : List Watched) → least ≤ a → least ≤ b → First (IsQuietFor roster now a) i p → Here (IsQuietFor roster now b) i p → First (IsQuietFor roster now least) (i + 1) p
quiet_on roster now a b least i p of_a of_b first here = first_more (IsQuietFor roster now least) i p (λ j w lt at. quiet_less roster now a least of_a w (first j w lt at)) (λ w at. quiet_less roster now b least of_b w (here w at))
