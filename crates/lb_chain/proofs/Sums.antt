-- Sums over rules, and what holds of each, through the edits of a list.
use Rattle.std.proofs.Common.{◌≡◌, ℕ, suc, ◌<◌, List, [], ◌∷◌, length, get_or, take, drop, refl, arith}
use Rattle.std.specs.List.{All, insert, remove, sum_by}
use Rattle.std.proofs.lemmas.List.Elements.{All-append, All-cons, All-take, All-drop}
use Rattle.std.proofs.lemmas.List.Sums.{sum_by-cons, sum_by-insert, sum_by-remove}
use Rattle.lb_chain.specs.declared.numbered.Numbered.{Numbered}
use Rattle.lb_chain.specs.Edits.{limiters_in}

pub all_insert : {X : Type 0} (P : X → Type 0) (xs : List X) (i : ℕ) (y : X) → All P xs → P y → All P (insert xs i y)
all_insert P xs i y all here = All-append P (take i xs) (y ∷ drop i xs) (All-take P i xs all) (All-cons P y (drop i xs) here (All-drop P i xs all))

pub all_remove : {X : Type 0} (P : X → Type 0) (xs : List X) (i : ℕ) → All P xs → All P (remove xs i)
all_remove P xs i all = All-append P (take i xs) (drop (suc i) xs) (All-take P i xs all) (All-drop P (suc i) xs all)

-- what is moved adds what it added
pub sum_moved : {X : Type 0} (f : X → ℕ) (xs : List X) (at place : ℕ) (d : X) → at < length xs → sum_by f (insert (remove xs at) place (get_or xs at d)) ≡ sum_by f xs
sum_moved f xs at place d lt = omega (arith, sum_by-insert f (remove xs at) place (get_or xs at d), sum_by-remove f xs at d lt)

abbrev pub limiters_at : Numbered → ℕ
limiters_at n = length n.limits

-- the limiters of the rules, as a sum
pub limiters_sum : (rules : List Numbered) → limiters_in rules ≡ sum_by limiters_at rules
limiters_sum [] = refl
limiters_sum (n ∷ rules) = omega (arith, limiters_sum rules, sum_by-cons limiters_at n rules)
