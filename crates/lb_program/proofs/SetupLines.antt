-- The lines of a setup file, applied one after the other.
use Rattle.std.proofs.Common.{◌≡◌, ℕ, ◌+◌, ◌≤◌, ◌==◌, Bool, true, false, if◌then◌else◌, Bor, List, [], ◌∷◌, length, Some, None, refl, sym, ap, arith}
use Rattle.std.proofs.lemmas.List.Splits.{length-slice_split}
use Rattle.std.proofs.lemmas.List.Sums.{count_by-le-length}
use Rattle.std.specs.Iterator.{AlwaysYields}
use Rattle.std.specs.List.{slice_split}
use Rattle.std.specs.Str.Iter.{lines_steps}
use Rattle.std.specs.Str.Lines.{lines, lines_of_parts}
use Rattle.std.specs.declared.str.Lines.{Lines}
use Rattle.lb_program.specs.Setup.{SetupEnd, StopsBy}
use Rattle.lb_program.specs.declared.faults.Stop.{Stop}
use Rattle.lb_program.specs.declared.faults.Stop.TheVariants.{BadLine, Refused, NotUtf8, Input, Output, CountFull, NoMemory}

-- there are no more lines than parts, and so one more than bytes at most
few_last : (x : List ℕ) (none : Bool) → length (if none then [] else x ∷ []) ≤ 1
few_last x true = omega arith
few_last x false = omega arith

few_parts : (parts : List (List ℕ)) → length (lines_of_parts parts) ≤ length parts
few_parts [] = omega arith
few_parts (x ∷ []) = few_last x (length x == 0)
few_parts (x ∷ y ∷ more) = let others = few_parts (y ∷ more) in omega (arith, others)

pub few_lines : (bytes : List ℕ) → length (lines bytes) ≤ length bytes + 1
few_lines bytes =
    let parts = few_parts (slice_split (λ (b : ℕ). b == 10) bytes) in
    omega (arith, parts, length-slice_split (λ (b : ℕ). b == 10) bytes, count_by-le-length (λ (b : ℕ). b == 10) bytes)

-- these lines are to come
abbrev pub Comes : Lines → List (List ℕ) → Type 0
Comes left rest = AlwaysYields lines_steps (λ (line : Bor (List ℕ)). line.now) left rest

-- one comes, and the others are to come
pub line_comes : (left after : Lines) (line : Bor (List ℕ)) (rest : List (List ℕ)) → Comes left rest → lines_steps left (Some line) after → (others : List (List ℕ)) × (rest ≡ line.now ∷ others) × Comes after others
line_comes left after line [] comes step = absurd (comes line after step)
line_comes left after line (next ∷ others) comes step =
    let first = comes.1 line after step in
    (others, ap (λ (x : List ℕ). x ∷ others) (sym first.0), first.1)

-- none comes
pub no_line_comes : (left after : Lines) (rest : List (List ℕ)) → Comes left rest → lines_steps left None after → rest ≡ []
no_line_comes left after [] comes step = refl
no_line_comes left after (next ∷ others) comes step = absurd (comes.0 after step)

-- what holds where a line stops the reading, and what follows from it
pub stops_so : (stop : Stop) (Holds Follows : SetupEnd → Type 0) → ((end : SetupEnd) → Holds end → Follows end) → StopsBy stop Holds → StopsBy stop Follows
stops_so (BadLine number fault) Holds Follows follows stops = follows _ stops
stops_so (Refused number fault) Holds Follows follows stops = follows _ stops
stops_so (NotUtf8 number) Holds Follows follows stops = stops
stops_so (Input error) Holds Follows follows stops = stops
stops_so (Output error) Holds Follows follows stops = stops
stops_so (CountFull full) Holds Follows follows stops = stops
stops_so NoMemory Holds Follows follows stops = tt
