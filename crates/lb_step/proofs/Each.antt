-- What holds of each element of a list, through the changes that lists go through.
use Rattle.std.proofs.Common.{ℕ, zero, suc, ◌<◌, Bool, true, false, List, [], ◌∷◌, ◌++◌, length, map, take, drop, get_or, cond, arith}
use Rattle.std.specs.List.{AllByRecursion, All, filter, insert, remove}

pub each_weaker : {X : Type 0} (P Q : X → Type 0) (xs : List X) → ((x : X) → P x → Q x) → AllByRecursion P xs → AllByRecursion Q xs
each_weaker P Q [] weaker all = tt
each_weaker P Q (x ∷ xs) weaker all = (weaker x all.0, each_weaker P Q xs weaker all.1)

pub each_append : {X : Type 0} (P : X → Type 0) (xs ys : List X) → AllByRecursion P xs → AllByRecursion P ys → AllByRecursion P (xs ++ ys)
each_append P [] ys a b = b
each_append P (x ∷ xs) ys a b = (a.0, each_append P xs ys a.1 b)

each_take : {X : Type 0} (P : X → Type 0) (n : ℕ) (xs : List X) → AllByRecursion P xs → AllByRecursion P (take n xs)
each_take P zero xs all = tt
each_take P (suc n) [] all = tt
each_take P (suc n) (x ∷ xs) all = (all.0, each_take P n xs all.1)

each_drop : {X : Type 0} (P : X → Type 0) (n : ℕ) (xs : List X) → AllByRecursion P xs → AllByRecursion P (drop n xs)
each_drop P zero xs all = all
each_drop P (suc n) [] all = tt
each_drop P (suc n) (x ∷ xs) all = each_drop P n xs all.1

pub each_insert : {X : Type 0} (P : X → Type 0) (xs : List X) (at : ℕ) (x : X) → AllByRecursion P xs → P x → AllByRecursion P (insert xs at x)
each_insert P xs at x all one = each_append P (take at xs) (x ∷ drop at xs) (each_take P at xs all) (one, each_drop P at xs all)

pub each_remove : {X : Type 0} (P : X → Type 0) (xs : List X) (at : ℕ) → AllByRecursion P xs → AllByRecursion P (remove xs at)
each_remove P xs at all = each_append P (take at xs) (drop (suc at) xs) (each_take P at xs all) (each_drop P (suc at) xs all)

each_if : {X : Type 0} (P : X → Type 0) (keeps : Bool) (x : X) (xs : List X) → P x → AllByRecursion P xs → AllByRecursion P (cond keeps (x ∷ xs) xs)
each_if P true x xs one all = (one, all)
each_if P false x xs one all = all

pub each_filter : {X : Type 0} (P : X → Type 0) (keeps : X → Bool) (xs : List X) → AllByRecursion P xs → AllByRecursion P (filter keeps xs)
each_filter P keeps [] all = tt
each_filter P keeps (x ∷ xs) all = each_if P (keeps x) x (filter keeps xs) all.0 (each_filter P keeps xs all.1)

pub each_map : {X Y : Type 0} (P : Y → Type 0) (f : X → Y) (xs : List X) → AllByRecursion (λ x. P (f x)) xs → AllByRecursion P (map f xs)
each_map P f [] all = tt
each_map P f (x ∷ xs) all = (all.0, each_map P f xs all.1)

pub each_at : {X : Type 0} (P : X → Type 0) (xs : List X) (at : ℕ) (d : X) → AllByRecursion P xs → at < length xs → P (get_or xs at d)
each_at P [] at d all lt = absurd (omega (arith, lt))
each_at P (x ∷ xs) zero d all lt = all.0
each_at P (x ∷ xs) (suc at) d all lt = each_at P xs at d all.1 (omega (arith, lt))

pub all_of_each : {X : Type 0} (P : X → Type 0) (xs : List X) → AllByRecursion P xs → All P xs
all_of_each P xs all at d lt = each_at P xs at d all lt
