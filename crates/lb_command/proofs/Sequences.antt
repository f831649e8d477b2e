-- Lists with commas, against the grammar.
use Rattle.std.proofs.Common.{◌≡◌, ℕ, zero, suc, ◌+◌, ◌≤◌, Bool, true, false, Option, None, Result, Ok, List, [], ◌∷◌, length, refl, sym, ap, arith, inl, inr}
use Rattle.std.proofs.lemmas.Bool.{cases_Bool}
use Rattle.std.specs.Prelude.{codes}
use Rattle.lb_command.specs.Line.{Left}
use Rattle.lb_command.specs.Reading.{◌>>=◌, due, listed, taken}
use Rattle.lb_command.specs.Grammar.{Part, comma_list, others, says, word}
use Rattle.lb_command.specs.declared.fault.CommandFault.{CommandFault}
use Rattle.lb_command.specs.declared.fault.FaultKind.{FaultKind}
use Rattle.lb_command.proofs.Exact.{Finds, bind_ok, carried, says_again, says_found, taken_again, taken_found, taken_not}

-- {,X}, where P is X and C the comma
abbrev pub After : {A S : Type 0} → (A → S → S → Type 0) → (S → S → Type 0) → List A → S → S → Type 0
After P C [] s t = s ≡ t
After {A} {S} P C (x ∷ xs) s t = (a : S) × C s a × ((b : S) × P x a b × After P C xs b t)

-- X{,X}
abbrev pub ListOf : {A S : Type 0} → (A → S → S → Type 0) → (S → S → Type 0) → List A → S → S → Type 0
ListOf P C [] s t = ⊥
ListOf {A} {S} P C (x ∷ xs) s t = (b : S) × P x s b × After P C xs b t

after_comma : {A S : Type 0} (P : A → S → S → Type 0) (C : S → S → Type 0) (xs : List A) (s a t : S) → C s a → ListOf P C xs a t → After P C xs s t
after_comma P C [] s a t c l = absurd l
after_comma P C (x ∷ xs) s a t c l = (a, c, l)

-- what is read is such a list
pub list_found : {A S : Type 0} (one : S → Result (A × S) CommandFault) (comma : S → Bool × S) (left_in : S → Left) (P : A → S → S → Type 0) (C : S → S → Type 0)
    → Finds one P → ((s : S) → (comma s).0 ≡ true → C s (comma s).1) → ((s : S) → (comma s).0 ≡ false → (comma s).1 ≡ s)
    → (most : ℕ) → Finds (listed one comma left_in most) (ListOf P C)
unfolding listed
list_found one comma left_in P C found goes stays zero s t xs h =
    let a = bind_ok (one s) _ (xs, t) h in
    absurd (let wrong = a.2 in cc)
list_found {A} {S} one comma left_in P C found goes stays (suc most) s t xs h =
    let a = bind_ok (one s) _ (xs, t) h in
    let read = a.2 in
    elim (cases_Bool (comma a.0.1).0) [
      | inl e ↦
          let h1 : (listed one comma left_in most (comma a.0.1).1 >>= λ more. Ok (a.0.0 ∷ more.0, more.1)) ≡ Ok (xs, t) = rw e at read in
          let b = bind_ok (listed one comma left_in most (comma a.0.1).1) _ (xs, t) h1 in
          let rest = list_found one comma left_in P C found goes stays most (comma a.0.1).1 b.0.1 b.0.0 b.1 in
          carried (λ (ys : List A) (u : S). ListOf P C ys s u) (a.0.0 ∷ b.0.0) xs b.0.1 t b.2 (a.0.1, found s a.0.1 a.0.0 a.1, after_comma P C b.0.0 a.0.1 (comma a.0.1).1 b.0.1 (goes a.0.1 e) rest)
      | inr e ↦
          let h1 : ◌≡◌ {A = Result (List A × S) CommandFault} (Ok (a.0.0 ∷ [], (comma a.0.1).1)) (Ok (xs, t)) = rw e at read in
          carried (λ (ys : List A) (u : S). ListOf P C ys s u) (a.0.0 ∷ []) xs (comma a.0.1).1 t h1 (a.0.1, found s a.0.1 a.0.0 a.1, sym (stays a.0.1 e))
    ]

-- such a list is read
pub list_again : {A S : Type 0} (one : S → Result (A × S) CommandFault) (comma : S → Bool × S) (left_in : S → Left) (P : A → S → S → Type 0) (C : S → S → Type 0)
    → ((s t : S) (x : A) → P x s t → one s ≡ Ok (x, t)) → ((s a : S) → C s a → comma s ≡ (true, a))
    → (most : ℕ) (s b t : S) (x : A) (xs : List A) → P x s b → After P C xs b t → length xs + 1 ≤ most → comma t ≡ (false, t) → listed one comma left_in most s ≡ Ok (x ∷ xs, t)
unfolding listed
list_again one comma left_in P C again goes zero s b t x xs p l few stops = absurd (omega arith)
list_again {A} {S} one comma left_in P C again goes (suc most) s b t x [] p l few stops =
    let stops_here : comma b ≡ (false, b) = rw l stops in
    rw (again s b x p, stops_here) (ap (λ (u : S). Ok (x ∷ [], u)) l)
list_again {A} {S} one comma left_in P C again goes (suc most) s b t x (y ∷ ys) p l few stops =
    rw (again s b x p, goes b l.0 l.1, list_again one comma left_in P C again goes most l.0 l.2.0 t y ys l.2.1 l.2.2 (omega arith) stops) refl

-- no more are read than there may be
pub listed_few : {A S : Type 0} (one : S → Result (A × S) CommandFault) (comma : S → Bool × S) (left_in : S → Left) (most : ℕ) (s t : S) (xs : List A) → listed one comma left_in most s ≡ Ok (xs, t) → length xs ≤ most
unfolding listed
listed_few one comma left_in zero s t xs h =
    let a = bind_ok (one s) _ (xs, t) h in
    absurd (let wrong = a.2 in cc)
listed_few {A} {S} one comma left_in (suc most) s t xs h =
    let a = bind_ok (one s) _ (xs, t) h in
    let read = a.2 in
    elim (cases_Bool (comma a.0.1).0) [
      | inl e ↦
          let h1 : (listed one comma left_in most (comma a.0.1).1 >>= λ more. Ok (a.0.0 ∷ more.0, more.1)) ≡ Ok (xs, t) = rw e at read in
          let b = bind_ok (listed one comma left_in most (comma a.0.1).1) _ (xs, t) h1 in
          let few = listed_few one comma left_in most (comma a.0.1).1 b.0.1 b.0.0 b.1 in
          carried (λ (ys : List A) (u : S). length ys ≤ suc most) (a.0.0 ∷ b.0.0) xs b.0.1 t b.2 (omega (arith, few))
      | inr e ↦
          let h1 : ◌≡◌ {A = Result (List A × S) CommandFault} (Ok (a.0.0 ∷ [], (comma a.0.1).1)) (Ok (xs, t)) = rw e at read in
          carried (λ (ys : List A) (u : S). length ys ≤ suc most) (a.0.0 ∷ []) xs (comma a.0.1).1 t h1 (omega arith)
    ]

after_others : {A : Type 0} (part : A → Part) (xs : List A) (s t : Left) → After part (word (codes ",")) xs s t → others part xs s t
after_others part [] s t l = l
after_others part (x ∷ xs) s t l = (l.0, l.1, (l.2.0, l.2.1, after_others part xs l.2.0 t l.2.2))

others_after : {A : Type 0} (part : A → Part) (xs : List A) (s t : Left) → others part xs s t → After part (word (codes ",")) xs s t
others_after part [] s t l = l
others_after part (x ∷ xs) s t l = (l.0, l.1, (l.2.0, l.2.1, others_after part xs l.2.0 t l.2.2))

as_list : {A : Type 0} (part : A → Part) (xs : List A) (s t : Left) → ListOf part (word (codes ",")) xs s t → comma_list part xs s t
as_list part [] s t l = l
as_list part (x ∷ xs) s t l = (l.0, l.1, after_others part xs l.0 t l.2)

pub says_list_found : {A : Type 0} (kind : FaultKind) (value : List ℕ → Option A) (most : ℕ) → value [] ≡ None → Finds (listed (due kind value) (taken (codes ",")) (λ s. s) most) (comma_list (says value))
says_list_found kind value most none s t xs h =
    as_list (says value) xs s t (list_found (due kind value) (taken (codes ",")) (λ s. s) (says value) (word (codes ",")) (says_found kind value none) (λ s. taken_found (codes ",") s refl) (taken_not (codes ",")) most s t xs h)

pub says_list_again : {A : Type 0} (kind : FaultKind) (value : List ℕ → Option A) (most : ℕ) (s t : Left) (xs : List A) → length xs ≤ most → (taken (codes ",") t ≡ (false, t)) → comma_list (says value) xs s t → listed (due kind value) (taken (codes ",")) (λ s. s) most s ≡ Ok (xs, t)
says_list_again kind value most s t [] few stops l = absurd l
says_list_again kind value most s t (x ∷ xs) few stops l =
    list_again (due kind value) (taken (codes ",")) (λ s. s) (says value) (word (codes ",")) (λ s t y. says_again kind value s t y) (λ s a c. taken_again (codes ",") s a c) most s l.0 t x xs l.1 (others_after (says value) xs l.0 t l.2) (omega arith) stops

-- a bracket that closes ends a list
pub stops_at_close : (s t : Left) → word (codes ")") s t → taken (codes ",") s ≡ (false, s)
stops_at_close s t h = rw h.1 refl
