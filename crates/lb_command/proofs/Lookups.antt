-- A table of the program that is searched from its front.
use Rattle.std.proofs.Common.{◌≡◌, ℕ, ◌+◌, ◌<◌, true, false, List, length, get_or, drop, map, Option, Some, bytes_eq, refl, sym, ◌∙◌, ap}
use Rattle.std.proofs.lemmas.List.{drop_more}
use Rattle.std.specs.Borrow.{Bor}
use Rattle.lb_command.specs.Values.{looked_up, worded}

-- what a table says from a place on
abbrev pub from_place : {A : Type 0} → List (A × Bor (List ℕ)) → List ℕ → ℕ → Option A
from_place {A} table text i = looked_up (map worded (drop i table)) text

abbrev says : {A : Type 0} → List (A × Bor (List ℕ)) → List ℕ → Option A
says table text = looked_up (map worded table) text

-- an entry with another word is passed
pub passes : {A : Type 0} (table : List (A × Bor (List ℕ))) (text : List ℕ) (i : ℕ) (e : A × Bor (List ℕ)) → i < length table → e ≡ get_or table i e → bytes_eq e.1.now text ≡ false → from_place table text i ≡ from_place table text (i + 1)
passes {A} table text i e within is other =
    let there : bytes_eq (get_or table i e).1.now text ≡ false = rw (← is) other in
    ap (λ (t : List (A × Bor (List ℕ))). says t text) (drop_more table i e within) ∙ rw there refl

-- an entry with the word says it
pub found : {A : Type 0} (table : List (A × Bor (List ℕ))) (text : List ℕ) (i : ℕ) (e : A × Bor (List ℕ)) → i < length table → e ≡ get_or table i e → bytes_eq e.1.now text ≡ true → from_place table text i ≡ Some e.0
found {A} table text i e within is this =
    let there : bytes_eq (get_or table i e).1.now text ≡ true = rw (← is) this in
    ap (λ (t : List (A × Bor (List ℕ))). says t text) (drop_more table i e within) ∙ (rw there (ap (λ (d : A × Bor (List ℕ)). Some d.0) (sym is)))
