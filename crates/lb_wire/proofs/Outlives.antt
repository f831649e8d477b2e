-- How long all records of a message live.
use Rattle.std.proofs.Common.{◌≡◌, ℕ, ◌≤◌, Bool, true, false, List, [], ◌∷◌, Option, None, Some, min, filter, map, if◌then◌else◌, sym, subst, arith}
use Rattle.std.specs.List.{AllByRecursion}
use Rattle.lb_wire.specs.Record.{Record}
use Rattle.lb_wire.specs.Opt.{is_opt, is_other, ttl_value, lesser, least, least_ttl}
use Rattle.lb_wire.specs.Aging.{Outlives}

-- a number that may be missing is no less
abbrev pub AtLeast : ℕ → Option ℕ → Type 0
AtLeast secs None = Unit {0}
AtLeast secs (Some n) = secs ≤ n

-- where the lesser of two is no less, both are
lesser_left : (secs n : ℕ) (other : Option ℕ) → AtLeast secs (lesser (Some n) other) → secs ≤ n
lesser_left secs n None is = is
lesser_left secs n (Some m) is = let low : secs ≤ min n m = is in omega (arith, low)

lesser_right : (secs n : ℕ) (other : Option ℕ) → AtLeast secs (lesser (Some n) other) → AtLeast secs other
lesser_right secs n None is = tt
lesser_right secs n (Some m) is = let low : secs ≤ min n m = is in omega (arith, low)

-- the first record, by whether it is an OPT
first_lives : (secs : ℕ) (r : Record) (others : List Record) (b : Bool) → AtLeast secs (least (map (λ r. ttl_value r.ttl) (if (if b then false else true) then r ∷ others else others))) → b ≡ false → secs ≤ ttl_value r.ttl
first_lives secs r others true is other = cc other
first_lives secs r others false is _ = lesser_left secs (ttl_value r.ttl) (least (map (λ r. ttl_value r.ttl) others)) is

others_live : (secs : ℕ) (r : Record) (others : List Record) (b : Bool) → AtLeast secs (least (map (λ r. ttl_value r.ttl) (if (if b then false else true) then r ∷ others else others))) → AtLeast secs (least (map (λ r. ttl_value r.ttl) others))
others_live secs r others true is = is
others_live secs r others false is = lesser_right secs (ttl_value r.ttl) (least (map (λ r. ttl_value r.ttl) others)) is

-- every record outlives the least TTL
pub outlives : (secs : ℕ) (records : List Record) → AtLeast secs (least_ttl records) → AllByRecursion (Outlives secs) records
outlives secs [] is = tt
outlives secs (r ∷ records) is = (first_lives secs r (filter is_other records) (is_opt r) is, outlives secs records (others_live secs r (filter is_other records) (is_opt r) is))

-- by the number that a survey gives
pub all_outlive : (secs n : ℕ) (records : List Record) → least_ttl records ≡ Some n → secs ≤ n → AllByRecursion (Outlives secs) records
all_outlive secs n records is low =
    let P : Option ℕ → Type 0 = λ m. AtLeast secs m in
    outlives secs records (subst P (sym is) low)

-- where there is no number
pub none_outlives : (secs : ℕ) (records : List Record) → least_ttl records ≡ None → AllByRecursion (Outlives secs) records
none_outlives secs records is =
    let P : Option ℕ → Type 0 = λ m. AtLeast secs m in
    outlives secs records (subst P (sym is) tt)
