-- What holds of a text.
use Rattle.std.proofs.Common.{◌≡◌, ℕ, List, Result, Ok, Err, IfOk, subst, sym}

-- what holds of bytes holds of a text that has them
pub holds : {A E : Type 0} (bytes_of : A → List ℕ) (r : Result A E) (bytes : List ℕ) (P : List ℕ → Type 0) → P bytes → IfOk r (λ text. bytes_of text ≡ bytes) → IfOk r (λ text. P (bytes_of text))
holds bytes_of (Ok text) bytes P is same = subst P (sym same) is
holds bytes_of (Err e) bytes P is same = tt

-- what follows from what holds of a text holds of it
pub weaker : {A E : Type 0} (P Q : A → Type 0) (r : Result A E) → ((a : A) → P a → Q a) → IfOk r P → IfOk r Q
weaker P Q (Ok a) then is = then a is
weaker P Q (Err e) then is = tt
