-- A log that has every call has as many entries of each seat as the seat had calls.
use Rattle.std.proofs.Common.{All, Bool, List, [], ap, arith, false, if◌then◌else◌, length, refl, suc, sum_by, sym, true, zero, ◌+◌, ◌<◌, ◌==◌, ◌∷◌, ◌||◌, ◌≡◌, ◌≤◌, ℕ}
use Rattle.std.proofs.lemmas.Bool.{false≢true}
use Rattle.std.proofs.lemmas.Bool.Decides.{nat_tests}
use Rattle.std.proofs.lemmas.List.Elements.{All-cons, All-head, All-tail}
use Rattle.std.proofs.lemmas.List.Sums.{sum_by-cons}
use Rattle.std.specs.List.{list_any}
use Rattle.lb_desk.specs.declared.entry.LogEntry.{LogEntry}
use Rattle.lb_desk.specs.declared.entry.Receipt.{Receipt}
use Rattle.lb_desk.specs.Entry.{receipt, receipts_from, receipts_of}
use Rattle.lb_desk.specs.Seat.{AreAll, Seated}

abbrev one : Bool → ℕ
one true = 1
one false = 0

-- how many receipts the seats have of a log whose first entry has this place
abbrev held : ℕ → List LogEntry → List Seated → ℕ
held place log seats = sum_by (λ (s : Seated). length (receipts_from s.number place log)) seats

-- how many of the seats have this number
abbrev hits : ℕ → List Seated → ℕ
hits k seats = sum_by (λ (s : Seated). one (k == s.number.0)) seats

one_more : (b : Bool) (r : Receipt) (rest : List Receipt) → length (if b then r ∷ rest else rest) ≡ one b + length rest
one_more true r rest = omega arith
one_more false r rest = omega arith

-- an entry more is a receipt more of each seat with its number
held_more : (place : ℕ) (e : LogEntry) (log : List LogEntry) (seats : List Seated) → held place (e ∷ log) seats ≡ hits e.seat.0 seats + held (place + 1) log seats
held_more place e log [] = refl
held_more place e log (s ∷ seats) =
    let here = one_more (e.seat.0 == s.number.0) (receipt place e.event e.answer) (receipts_from s.number (place + 1) log) in
    let rest = held_more place e log seats in
    omega (
      arith,
      sum_by-cons (λ (s : Seated). length (receipts_from s.number place (e ∷ log))) s seats,
      sum_by-cons (λ (s : Seated). length (receipts_from s.number (place + 1) log)) s seats,
      sum_by-cons (λ (s : Seated). one (e.seat.0 == s.number.0)) s seats,
    )

some_one : (b rest : Bool) (n : ℕ) → (b || rest) ≡ true → (rest ≡ true → 1 ≤ n) → 1 ≤ one b + n
some_one true rest n is later = omega arith
some_one false rest n is later = let more = later is in omega arith

some_hit : (k : ℕ) (seats : List Seated) → list_any (λ (s : Seated). k == s.number.0) seats ≡ true → 1 ≤ hits k seats
some_hit k [] none = absurd (false≢true none)
some_hit k (s ∷ seats) is =
    let more = some_one (k == s.number.0) (list_any (λ (s : Seated). k == s.number.0) seats) (hits k seats) is (some_hit k seats) in
    omega (arith, sum_by-cons (λ (s : Seated). one (k == s.number.0)) s seats)

-- how often the numbers below a count are those of seats, in all
abbrev hits_below : ℕ → List Seated → ℕ
hits_below zero seats = 0
hits_below (suc k) seats = hits k seats + hits_below k seats

-- the same of one number
abbrev ones_below : ℕ → ℕ → ℕ
ones_below zero n = 0
ones_below (suc k) n = one (k == n) + ones_below k n

each_hit : (count : ℕ) (seats : List Seated) → AreAll count seats → count ≤ hits_below count seats
each_hit zero seats all = omega arith
each_hit (suc k) seats all =
    let here = some_hit k seats (all k (omega arith)) in
    let rest = each_hit k seats (λ n within. all n (omega arith)) in
    omega arith

not_one : (b : Bool) (rest : ℕ) → b ≡ false → rest ≡ 0 → one b + rest ≡ 0
not_one true rest is none = absurd (false≢true (sym is))
not_one false rest is none = omega arith

none_below : (count n : ℕ) → count ≤ n → ones_below count n ≡ 0
none_below zero n past = refl
none_below (suc k) n past =
    let other : (k == n) ≡ false = grind (arith, nat_tests) in
    not_one (k == n) (ones_below k n) other (none_below k n (omega arith))

at_most_one : (b : Bool) (rest : ℕ) → (b ≡ true → rest ≡ 0) → rest ≤ 1 → one b + rest ≤ 1
at_most_one true rest none few = let is = none refl in omega arith
at_most_one false rest none few = omega arith

one_below : (count n : ℕ) → ones_below count n ≤ 1
one_below zero n = omega arith
one_below (suc k) n =
    at_most_one (k == n) (ones_below k n) (λ is. let same : k ≡ n = grind (arith, nat_tests) in none_below k n (omega arith)) (one_below k n)

hits_more : (count : ℕ) (s : Seated) (seats : List Seated) → hits_below count (s ∷ seats) ≡ ones_below count s.number.0 + hits_below count seats
hits_more zero s seats = refl
hits_more (suc k) s seats = omega (arith, sum_by-cons (λ (s : Seated). one (k == s.number.0)) s seats, hits_more k s seats)

no_hits : (count : ℕ) → hits_below count [] ≡ 0
no_hits zero = refl
no_hits (suc k) = omega (arith, no_hits k)

few_hits : (count : ℕ) (seats : List Seated) → hits_below count seats ≤ length seats
few_hits count [] = omega (arith, no_hits count)
few_hits count (s ∷ seats) = omega (arith, hits_more count s seats, one_below count s.number.0, few_hits count seats)

-- where each number below a count is that of a seat, there are as many seats
pub as_many : (count : ℕ) (seats : List Seated) → AreAll count seats → count ≤ length seats
as_many count seats all = omega (arith, each_hit count seats all, few_hits count seats)

-- each entry has a receipt at least
all_held : (count place : ℕ) (log : List LogEntry) (seats : List Seated) → AreAll count seats → All (λ (e : LogEntry). e.seat.0 < count) log → length log ≤ held place log seats
all_held count place [] seats all within = omega arith
all_held count place (e ∷ log) seats all within =
    let here = some_hit e.seat.0 seats (all e.seat.0 (All-head (λ (e : LogEntry). e.seat.0 < count) e log within)) in
    let rest = all_held count (place + 1) log seats all (All-tail (λ (e : LogEntry). e.seat.0 < count) e log within) in
    let more = held_more place e log seats in
    omega arith

-- what is nowhere more, and no less in all, is the same
none_less : {X : Type 0} (f g : X → ℕ) (xs : List X) → All (λ x. f x ≤ g x) xs → sum_by f xs ≤ sum_by g xs
none_less f g [] each = omega arith
none_less f g (x ∷ xs) each =
    let here = All-head (λ x. f x ≤ g x) x xs each in
    let rest = none_less f g xs (All-tail (λ x. f x ≤ g x) x xs each) in
    omega (arith, sum_by-cons f x xs, sum_by-cons g x xs)

all_same : {X : Type 0} (f g : X → ℕ) (xs : List X) → All (λ x. f x ≤ g x) xs → sum_by g xs ≤ sum_by f xs → All (λ x. f x ≡ g x) xs
all_same f g [] each least = λ k d none. absurd (omega arith)
all_same f g (x ∷ xs) each least =
    let here = All-head (λ x. f x ≤ g x) x xs each in
    let later = All-tail (λ x. f x ≤ g x) x xs each in
    let rest = none_less f g xs later in
    let same : f x ≡ g x = omega (arith, sum_by-cons f x xs, sum_by-cons g x xs) in
    let least_later : sum_by g xs ≤ sum_by f xs = omega (arith, sum_by-cons f x xs, sum_by-cons g x xs) in
    All-cons (λ x. f x ≡ g x) x xs same (all_same f g xs later least_later)

lengths_held : (log : List LogEntry) (seats : List Seated) → All (λ (s : Seated). s.receipts ≡ receipts_of s.number log) seats → sum_by (λ (s : Seated). length s.receipts) seats ≡ held 0 log seats
lengths_held log [] each = refl
lengths_held log (s ∷ seats) each =
    let here = ap (λ (l : List Receipt). length l) (All-head (λ (s : Seated). s.receipts ≡ receipts_of s.number log) s seats each) in
    let rest = lengths_held log seats (All-tail (λ (s : Seated). s.receipts ≡ receipts_of s.number log) s seats each) in
    omega (arith, sum_by-cons (λ (s : Seated). length s.receipts) s seats, sum_by-cons (λ (s : Seated). length (receipts_from s.number 0 log)) s seats)

-- where the log has as many entries as there were calls, each seat has a receipt of each of its calls
pub whole : (count : ℕ) (log : List LogEntry) (seats : List Seated) → AreAll count seats → All (λ (e : LogEntry). e.seat.0 < count) log
    → All (λ (s : Seated). s.receipts ≡ receipts_of s.number log) seats → All (λ (s : Seated). length s.receipts ≤ s.calls) seats → sum_by (λ (s : Seated). s.calls) seats ≡ length log
    → All (λ (s : Seated). length s.receipts ≡ s.calls) seats
whole count log seats all within kept few calls =
    let each = all_held count 0 log seats all within in
    let lengths = lengths_held log seats kept in
    all_same (λ (s : Seated). length s.receipts) (λ (s : Seated). s.calls) seats few (omega arith)
