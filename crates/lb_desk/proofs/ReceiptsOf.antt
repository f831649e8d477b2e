-- The receipts of a log with one entry more.
use Rattle.std.proofs.Common.{Bool, List, Some, [], ap, append-nil, append_assoc, arith, drop, false, get_or, if◌then◌else◌, length, length-append, length-take-le, refl, slice_get, suc, sym, take, take-append-drop, true, ◌++◌, ◌+◌, ◌<◌, ◌==◌, ◌∙◌, ◌∷◌, ◌≡◌, ◌≢◌, ◌≤◌, ℕ}
use Rattle.std.proofs.Math.Seq.{get_or-append_seam, take-suc}
use Rattle.std.proofs.lemmas.Bool.Decides.{nat_tests}
use Rattle.std.proofs.lemmas.Option.{get_or_from_slice_get, slice_get_read}
use Rattle.lb_desk.specs.declared.entry.LogEntry.{LogEntry}
use Rattle.lb_desk.specs.declared.entry.Receipt.{Receipt}
use Rattle.lb_desk.specs.declared.entry.SeatId.{SeatId}
use Rattle.lb_desk.specs.Entry.{receipt, receipt_at, receipts_from, receipts_of}

head_case : (b : Bool) (r : Receipt) (xs ys : List Receipt) → (if b then r ∷ (xs ++ ys) else (xs ++ ys)) ≡ (if b then r ∷ xs else xs) ++ ys
head_case true r xs ys = refl
head_case false r xs ys = refl

-- the receipts of a log in two parts
receipts-append : (seat : SeatId) (place : ℕ) (front back : List LogEntry) → receipts_from seat place (front ++ back) ≡ receipts_from seat place front ++ receipts_from seat (place + length front) back
receipts-append seat place [] back = let is : place ≡ place + length {A = LogEntry} [] = omega arith in ap (λ k. receipts_from seat k back) is
receipts-append seat place (x ∷ front) back =
    let is : (place + 1) + length front ≡ place + length (x ∷ front) = omega arith in
    ap (λ l. if x.seat.0 == seat.0 then receipt place x.event x.answer ∷ l else l) (receipts-append seat (place + 1) front back)
    ∙ head_case (x.seat.0 == seat.0) (receipt place x.event x.answer) (receipts_from seat (place + 1) front) (receipts_from seat ((place + 1) + length front) back)
    ∙ ap (λ k. receipts_from seat place (x ∷ front) ++ receipts_from seat k back) is

take_next : {X : Type 0} (l : List X) (k : ℕ) (x : X) → k < length l → slice_get l k ≡ Some x → take (k + 1) l ≡ take k l ++ x ∷ []
take_next {X} l k x within at =
    let is : k + 1 ≡ suc k = omega arith in
    ap (λ n. take n l) is ∙ take-suc l k x within ∙ ap (λ y. take k l ++ y ∷ []) (get_or_from_slice_get l k x x at)

-- the receipts of the first entries, with the next one
pub receipts_next : (seat : SeatId) (place : ℕ) (log : List LogEntry) (e : LogEntry) → place < length log → slice_get log place ≡ Some e
    → receipts_of seat (take (place + 1) log) ≡ receipts_of seat (take place log) ++ receipt_at seat place e
receipts_next seat place log e within at =
    let more : take (place + 1) log ≡ take place log ++ e ∷ [] = take_next log place e within at in
    let is : 0 + length (take place log) ≡ place = omega (arith, length-take-le place log) in
    ap (receipts_of seat) more ∙ receipts-append seat 0 (take place log) (e ∷ []) ∙ ap (λ k. receipts_of seat (take place log) ++ receipt_at seat k e) is

-- the next receipt is that of an entry
pub found_one : (seat : SeatId) (place next : ℕ) (kept : List Receipt) (e : LogEntry) (r : Receipt) → next < length kept → slice_get kept next ≡ Some r → r ≡ receipt place e.event e.answer → e.seat ≡ seat
    → take (next + 1) kept ≡ take next kept ++ receipt_at seat place e
found_one seat place next kept e r within at is mine =
    let more : take (next + 1) kept ≡ take next kept ++ r ∷ [] = take_next kept next r within at in
    let numbers : e.seat.0 ≡ seat.0 = ap (λ (s : SeatId). s.0) mine in
    let same : (e.seat.0 == seat.0) ≡ true = grind (arith, nat_tests) in
    let one : receipt_at seat place e ≡ receipt place e.event e.answer ∷ [] = rw same refl in
    more ∙ ap (λ x. take next kept ++ x ∷ []) is ∙ ap (λ l. take next kept ++ l) (sym one)

-- an entry of another seat has none
pub found_none : (seat : SeatId) (place next : ℕ) (kept : List Receipt) (e : LogEntry) → (e.seat.0 == seat.0) ≡ false → take next kept ≡ take next kept ++ receipt_at seat place e
found_none seat place next kept e other =
    let none : receipt_at seat place e ≡ [] = rw other refl in
    sym (append-nil (take next kept)) ∙ ap (λ l. take next kept ++ l) (sym none)

-- the receipts go on with one
next_is : (next : ℕ) (kept rest : List Receipt) (r : Receipt) → next ≤ length kept → kept ≡ take next kept ++ r ∷ rest → (next < length kept) × (slice_get kept next ≡ Some r)
next_is next kept rest r within is =
    let len : length (take next kept) ≡ next = omega (arith, length-take-le next kept) in
    let lengths : length kept ≡ length (take next kept) + length (r ∷ rest) = ap (λ (l : List Receipt). length l) is ∙ length-append (take next kept) (r ∷ rest) in
    let more : next < length kept = omega arith in
    let read : get_or kept next r ≡ r =
    ap (λ l. get_or l next r) is ∙ ap (λ n. get_or (take next kept ++ r ∷ rest) n r) (sym len) ∙ get_or-append_seam (take next kept) r rest r
    in
    (more, slice_get_read kept (length kept) next r refl more (sym read))

-- where the receipts go on with those of an entry of this seat, the next one is its receipt
pub next_found : (seat : SeatId) (place next : ℕ) (kept rest : List Receipt) (e : LogEntry) → next ≤ length kept → e.seat ≡ seat → kept ≡ take next kept ++ receipt_at seat place e ++ rest
    → (next < length kept) × (slice_get kept next ≡ Some (receipt place e.event e.answer))
next_found seat place next kept rest e within mine is =
    let numbers : e.seat.0 ≡ seat.0 = ap (λ (s : SeatId). s.0) mine in
    let same : (e.seat.0 == seat.0) ≡ true = grind (arith, nat_tests) in
    let r = receipt place e.event e.answer in
    let one : receipt_at seat place e ≡ r ∷ [] = rw same refl in
    next_is next kept rest r within (is ∙ ap (λ l. take next kept ++ l ++ rest) one ∙ append_assoc (take next kept) (r ∷ []) rest)

-- where the receipts do not go on with those of the next entry, they are not those of the log
pub lost : (seat : SeatId) (place next : ℕ) (log : List LogEntry) (kept : List Receipt) (e : LogEntry) → place < length log → slice_get log place ≡ Some e → take next kept ≡ receipts_of seat (take place log)
    → ((rest : List Receipt) → kept ≢ take next kept ++ receipt_at seat place e ++ rest) → kept ≢ receipts_of seat log
lost seat place next log kept e within at so_far other is =
    let front = take (place + 1) log in
    let back = drop (place + 1) log in
    let rest = receipts_from seat (0 + length front) back in
    let front_is : receipts_of seat front ≡ take next kept ++ receipt_at seat place e = receipts_next seat place log e within at ∙ ap (λ l. l ++ receipt_at seat place e) (sym so_far) in
    other rest (is ∙ ap (receipts_of seat) (sym (take-append-drop (place + 1) log)) ∙ receipts-append seat 0 front back ∙ ap (λ l. l ++ rest) front_is)
