-- Lists that are read one after the other, as a loop does.
use Rattle.std.proofs.Common.{◌≡◌, ℕ, zero, suc, ◌-◌, ◌+◌, ◌≤◌, ◌<◌, Bool, true, false, Result, Ok, Err, List, [], ◌∷◌, ◌++◌, refl, sym, ap, ◌∙◌, append_assoc, arith}
use Rattle.lb_command.specs.Line.{Left}
use Rattle.lb_command.specs.declared.fault.CommandFault.{CommandFault}
use Rattle.lb_command.specs.declared.fault.Unread.{Unread}
use Rattle.lb_command.specs.declared.fault.Unread.TheVariants as unread
use Rattle.lb_command.specs.Reading.{◌>>=◌, Fails, listed, too_many}

-- what was read before, and what is still read
abbrev pub with_front : {A S : Type 0} → List A → Result (List A × S) CommandFault → Result (List A × S) CommandFault
with_front front read = read >>= λ x. Ok (front ++ x.0, x.1)

regroup : {A S : Type 0} (front : List A) (x : A) (read : Result (List A × S) CommandFault) → with_front front (read >>= λ more. Ok (x ∷ more.0, more.1)) ≡ with_front (front ++ x ∷ []) read
regroup {A} {S} front x (Err e) = refl
regroup {A} {S} front x (Ok more) = ap (λ (xs : List A). Ok (xs, more.1)) (simp append_assoc)

pub one_more_listed : {A S : Type 0} (one : S → Result (A × S) CommandFault) (comma : S → Bool × S) (left_in : S → Left) (left : ℕ) (s t u : S) (x : A) → one s ≡ Ok (x, t) → comma t ≡ (true, u)
    → listed one comma left_in (suc left) s ≡ (listed one comma left_in left u >>= λ more. Ok (x ∷ more.0, more.1))
unfolding listed
one_more_listed one comma left_in left s t u x h k = rw (h, k) refl

pub last_listed : {A S : Type 0} (one : S → Result (A × S) CommandFault) (comma : S → Bool × S) (left_in : S → Left) (left : ℕ) (s t u : S) (x : A) → one s ≡ Ok (x, t) → comma t ≡ (false, u)
    → listed one comma left_in (suc left) s ≡ Ok (x ∷ [], u)
unfolding listed
last_listed one comma left_in left s t u x h k = rw (h, k) refl

failed : {A S : Type 0} (one : S → Result (A × S) CommandFault) (comma : S → Bool × S) (left_in : S → Left) (left : ℕ) (s : S) (f : CommandFault) → one s ≡ Err f → listed one comma left_in left s ≡ Err f
unfolding listed
failed one comma left_in zero s f h = rw h refl
failed one comma left_in (suc left) s f h = rw h refl

full : {A S : Type 0} (one : S → Result (A × S) CommandFault) (comma : S → Bool × S) (left_in : S → Left) (s t : S) (x : A) → one s ≡ Ok (x, t) → listed one comma left_in 0 s ≡ too_many (left_in s)
unfolding listed
full one comma left_in s t x h = rw h refl

-- another one, and a comma after it
pub goes_on : {A S : Type 0} (one : S → Result (A × S) CommandFault) (comma : S → Bool × S) (left_in : S → Left) (front : List A) (most i : ℕ) (s t u : S) (x : A) (total : Result (List A × S) CommandFault) → i < most → one s ≡ Ok (x, t) → comma t ≡ (true, u)
    → with_front front (listed one comma left_in (most - i) s) ≡ total → with_front (front ++ x ∷ []) (listed one comma left_in (most - (i + 1)) u) ≡ total
goes_on one comma left_in front most i s t u x total lt h k so_far =
    let n : most - i ≡ suc (most - (i + 1)) = omega arith in
    sym (rw (n, one_more_listed one comma left_in (most - (i + 1)) s t u x h k) (regroup front x (listed one comma left_in (most - (i + 1)) u))) ∙ so_far

-- the last one
pub ends : {A S : Type 0} (one : S → Result (A × S) CommandFault) (comma : S → Bool × S) (left_in : S → Left) (front : List A) (most i : ℕ) (s t u : S) (x : A) (total : Result (List A × S) CommandFault) → i < most → one s ≡ Ok (x, t) → comma t ≡ (false, u)
    → with_front front (listed one comma left_in (most - i) s) ≡ total → total ≡ Ok (front ++ x ∷ [], u)
ends {A} {S} one comma left_in front most i s t u x total lt h k so_far =
    let n : most - i ≡ suc (most - (i + 1)) = omega arith in
    let last : with_front front (listed one comma left_in (most - i) s) ≡ Ok (front ++ x ∷ [], u) = rw (n, last_listed one comma left_in (most - (i + 1)) s t u x h k) refl in
    sym so_far ∙ last

-- one that does not read
pub fails : {A S : Type 0} (e : Unread) (one : S → Result (A × S) CommandFault) (comma : S → Bool × S) (left_in : S → Left) (front : List A) (left : ℕ) (s : S) (total : Result (List A × S) CommandFault) → Fails e (one s)
    → with_front front (listed one comma left_in left s) ≡ total → Fails e total
fails (unread.NoMemory refused) one comma left_in front left s total h so_far = tt
fails {A} {S} (unread.Fault f) one comma left_in front left s total h so_far =
    let nothing : with_front front (listed one comma left_in left s) ≡ Err f = rw (failed one comma left_in left s f h) refl in
    sym so_far ∙ nothing

-- one more than there may be
pub is_too_many : {A S : Type 0} (one : S → Result (A × S) CommandFault) (comma : S → Bool × S) (left_in : S → Left) (front : List A) (most i : ℕ) (s t : S) (x : A) (total : Result (List A × S) CommandFault) → most ≤ i → one s ≡ Ok (x, t)
    → with_front front (listed one comma left_in (most - i) s) ≡ total → total ≡ too_many (left_in s)
is_too_many {A} {S} one comma left_in front most i s t x total le h so_far =
    let n : most - i ≡ 0 = omega arith in
    let nothing : with_front front (listed one comma left_in (most - i) s) ≡ too_many (left_in s) = rw (n, full one comma left_in s t x h) refl in
    sym so_far ∙ nothing
