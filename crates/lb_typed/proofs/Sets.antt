-- Sets of words.
use Rattle.std.proofs.Common.{◌≡◌, ℕ, zero, suc, ◌<◌, ◌≤◌, ◌+◌, List, [], ◌∷◌, ◌++◌, length, take, refl, sym, ap, ◌∙◌, subst, arith, Option}
use Rattle.std.specs.Prelude.{slice_index_or}
use Rattle.std.specs.List.{AllByRecursion}
use Rattle.lb_command.specs.Grammar.{Part, comma_list, says}
use Rattle.lb_typed.specs.Words.{Types}
use Rattle.lb_typed.specs.Pieces.{Spells}
use Rattle.lb_typed.proofs.Spelled.{listed, single, value}

-- what holds of all holds of one
pub of_one : {A : Type 0} (P : A → Type 0) (d : A) (xs : List A) (k : ℕ) → k < length xs → AllByRecursion P xs → P (slice_index_or xs k d)
of_one P d [] k within each = absurd (omega (arith, within))
of_one P d (x ∷ xs) zero within each = each.0
of_one P d (x ∷ xs) (suc k) within each = of_one P d xs k (omega (arith, within)) each.1

-- the first members, with one more
pub one_more : {A : Type 0} (d : A) (xs : List A) (k : ℕ) → k < length xs → take (suc k) xs ≡ take k xs ++ slice_index_or xs k d ∷ []
one_more d [] k within = absurd (omega (arith, within))
one_more d (x ∷ xs) zero within = refl
one_more {A = A} d (x ∷ xs) (suc k) within = ap (λ (ys : List A). x ∷ ys) (one_more d xs k (omega (arith, within)))

pub all_taken : {A : Type 0} (xs : List A) (k : ℕ) → length xs ≤ k → take k xs ≡ xs
all_taken [] zero within = refl
all_taken [] (suc k) within = refl
all_taken (x ∷ xs) zero within = absurd (omega (arith, within))
all_taken {A = A} (x ∷ xs) (suc k) within = ap (λ (ys : List A). x ∷ ys) (all_taken xs k (omega (arith, within)))

-- a list of words, with one more
first_word : {A : Type 0} (part : A → Part) (d : A) (xs : List A) (text : List ℕ) → 0 < length xs → Spells (part (slice_index_or xs 0 d)) text → Spells (comma_list part (take 1 xs)) text
first_word part d [] text some first = absurd (omega (arith, some))
first_word part d (x ∷ xs) text some first = single part x text first

pub first_typed : {A : Type 0} (of : List ℕ → Option A) (d : A) (xs : List A) (text : List ℕ) → 0 < length xs → Types of (slice_index_or xs 0 d) text → Spells (comma_list (says of) (take 1 xs)) text
first_typed of d xs text some first = first_word (says of) d xs text some (value of (slice_index_or xs 0 d) text first)

next_of : {A : Type 0} (of : List ℕ → Option A) (d : A) (xs : List A) (k : ℕ) (text word both : List ℕ) → k < length xs → Spells (comma_list (says of) (take k xs)) text → Types of (slice_index_or xs k d) word → both ≡ text ++ 44 ∷ word → Spells (comma_list (says of) (take (suc k) xs)) both
next_of {A = A} of d xs k text word both within before next is =
    subst (λ (bytes : List ℕ). Spells (comma_list (says of) (take (suc k) xs)) bytes) (sym is)
    (subst (λ (members : List A). Spells (comma_list (says of) members) (text ++ 44 ∷ word)) (sym (one_more d xs k within)) (listed (says of) (take k xs) (slice_index_or xs k d) text word before (value of (slice_index_or xs k d) word next)))

pub next_typed : {A : Type 0} (of : List ℕ → Option A) (d : A) (xs : List A) (k : ℕ) (text word both : List ℕ) → k < length xs → Spells (comma_list (says of) (take k xs)) text → Types of (slice_index_or xs k d) word → both ≡ text ++ 44 ∷ word → Spells (comma_list (says of) (take (k + 1) xs)) both
next_typed of d xs k text word both within before next is =
    let one : suc k ≡ k + 1 = omega arith in
    subst (λ (n : ℕ). Spells (comma_list (says of) (take n xs)) both) one (next_of of d xs k text word both within before next is)
