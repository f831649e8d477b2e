-- Counts under numbers.
use Rattle.std.specs.Prelude.{◌≡◌, ℕ, ◌+◌, ◌-◌, ◌^◌, ◌==◌, List, Option, None, Some, cond, get_or, min, nat_eq, nat_lt, unwrap_or}
use Rattle.std.specs.Map.{lookup}

-- numbers below this one are few
abbrev pub few : ℕ
few = 16384

-- the counts of few numbers, each at its number, and pairs of another number and its count
abbrev pub Counted : Type 0
Counted = List ℕ × List (ℕ × ℕ)

-- the count under a number: 0, until something was counted under it
abbrev pub tally_of : ℕ → Counted → ℕ
tally_of id (at, others) = cond (nat_lt id few) (get_or at id 0) (unwrap_or (lookup (nat_eq id) others) 0)

-- each number has what it had
abbrev pub AreSame : Counted → Counted → Type 0
AreSame old new = (id : ℕ) → tally_of id new ≡ tally_of id old

-- a count and one more; at 2^64-1 it stays
abbrev pub one_more : ℕ → ℕ
one_more count = min (count + 1) (2 ^ 64 - 1)

-- what a number has where the count of one number goes
abbrev pub shut : Option ℕ → ℕ → ℕ → ℕ
shut (Some one) id tally = cond (id == one) 0 tally
shut None id tally = tally

-- what a number has where the count of one number rises
abbrev pub raised : Option ℕ → ℕ → ℕ → ℕ
raised (Some one) id tally = cond (id == one) (one_more tally) tally
raised None id tally = tally

-- each number has what it has where the count of one number goes, and that of another one rises
abbrev pub Changes : Option ℕ → Option ℕ → Counted → Counted → Type 0
Changes shuts raises old new = (id : ℕ) → tally_of id new ≡ raised raises id (shut shuts id (tally_of id old))
