-- What a reader reads is in the grammar, and what is in the grammar it reads: single words, and one part after the other.
use Rattle.std.proofs.Common.{◌≡◌, ℕ, Bool, true, false, Option, Some, None, Result, Ok, Err, List, [], ◌∷◌, subst, refl, sym, ap, ◌∙◌, inl, inr}
use Rattle.std.proofs.lemmas.Bool.{cases_Bool}
use Rattle.std.proofs.lemmas.Slice.Eq.{bytes_eq-Decides}
use Rattle.std.specs.Prelude.{bytes_eq, if◌then◌else◌}
use Rattle.lb_command.specs.Line.{Left, Seen, first_of, seen}
use Rattle.lb_command.specs.Reading.{◌>>=◌, due, named, or_fault, taken, too_many}
use Rattle.lb_command.specs.Values.{looked_up}
use Rattle.lb_command.specs.Grammar.{in_front_of, says, word}
use Rattle.lb_command.specs.declared.fault.CommandFault.{CommandFault}
use Rattle.lb_command.specs.declared.fault.FaultKind.{FaultKind}

pub some_same : {A : Type 0} (x y : A) → Some x ≡ Some y → x ≡ y
some_same x y h = cc

pub ok_same : {A : Type 0} (x y : A) → ◌≡◌ {A = Result A CommandFault} (Ok x) (Ok y) → x ≡ y
ok_same x y h = cc

-- what holds of what is read holds of what it is equal to
pub carried : {A B : Type 0} (P : A → B → Type 0) (x y : A) (s t : B) → ◌≡◌ {A = Result (A × B) CommandFault} (Ok (x, s)) (Ok (y, t)) → P x s → P y t
carried {A} {B} P x y s t h p = subst (λ (q : A × B). P q.0 q.1) (ok_same (x, s) (y, t) h) p

pub bind_ok : {A B : Type 0} (r : Result A CommandFault) (f : A → Result B CommandFault) (y : B) → (r >>= f) ≡ Ok y → (x : A) × (r ≡ Ok x) × (f x ≡ Ok y)
bind_ok (Err e) f y h = absurd (cc)
bind_ok (Ok x) f y h = (x, refl, h)

-- what is read where a test passes
pub tested : {A : Type 0} (b : Bool) (s : Left) (x y : A) → (if b then Ok x else too_many s) ≡ Ok y → (b ≡ true) × ◌≡◌ {A = Result A CommandFault} (Ok x) (Ok y)
tested true s x y h = (refl, h)
tested false s x y h = absurd (cc)

-- a reader that finds no more than a part
abbrev pub Finds : {A S : Type 0} → (S → Result (A × S) CommandFault) → (A → S → S → Type 0) → Type 0
Finds {A} {S} read part = (s t : S) (x : A) → read s ≡ Ok (x, t) → part x s t

-- what a reader gives in front of another: the value, what is left, that the part stands there, and what is read after it
pub step : {A B S : Type 0} (read : S → Result (A × S) CommandFault) (part : A → S → S → Type 0) (s : S) (f : A × S → Result B CommandFault) (y : B) → Finds read part → (read s >>= f) ≡ Ok y → (x : A) × (t : S) × part x s t × (f (x, t) ≡ Ok y)
step read part s f y finds h =
    let a = bind_ok (read s) f y h in
    (a.0.0, a.0.1, finds s a.0.1 a.0.0 a.1, a.2)

or_ok : {A : Type 0} (o : Option A) (kind : FaultKind) (w : Seen) (x : A) → or_fault o kind w ≡ Ok x → o ≡ Some x
or_ok None kind w x h = absurd (cc)
or_ok (Some y) kind w x h = ap (λ z. Some z) (ok_same y x h)

says_in : {A : Type 0} (kind : FaultKind) (value : List ℕ → Option A) (ws : List Seen) (total : ℕ) (t : Left) (x : A) → value [] ≡ None → due kind value (record { words = ws; total = total }) ≡ Ok (x, t) → says value x (record { words = ws; total = total }) t
says_in {A} kind value [] total t x none h =
    let a = bind_ok (or_fault (value []) kind _) _ (x, t) h in
    let known = or_ok (value []) kind _ a.0 a.1 in
    let wrong : ◌≡◌ {A = Option A} None (Some a.0) = sym none ∙ known in
    absurd (cc)
says_in {A} kind value (w ∷ ws) total t x none h =
    let a = bind_ok (or_fault (value w.text) kind w) _ (x, t) h in
    carried (λ (y : A) (u : Left). says value y (record { words = w ∷ ws; total = total }) u) a.0 x (record { words = ws; total = total }) t a.2 (w, or_ok (value w.text) kind w a.0 a.1, refl)

-- a word that is due, where nothing is no such word
pub says_found : {A : Type 0} (kind : FaultKind) (value : List ℕ → Option A) → value [] ≡ None → Finds (due kind value) (says value)
says_found kind value none s t x h = says_in kind value s.words s.total t x none h

pub says_again : {A : Type 0} (kind : FaultKind) (value : List ℕ → Option A) (s t : Left) (x : A) → says value x s t → due kind value s ≡ Ok (x, t)
says_again kind value s t x h = rw (h.2, h.1) refl

pub says_step : {A B : Type 0} (kind : FaultKind) (value : List ℕ → Option A) (s : Left) (f : A × Left → Result B CommandFault) (y : B) → value [] ≡ None → (due kind value s >>= f) ≡ Ok y → (x : A) × (t : Left) × says value x s t × (f (x, t) ≡ Ok y)
says_step kind value s f y none h = step (due kind value) (says value) s f y (says_found kind value none) h

pub same_bytes : (xs : List ℕ) → bytes_eq xs xs ≡ true
same_bytes xs = (bytes_eq-Decides xs xs).1 refl

-- a word with this text
as_word : {A : Type 0} (value : List ℕ → Option A) (text : List ℕ) (x : A) (s t : Left) → ((said : List ℕ) → value said ≡ Some x → said ≡ text) → says value x s t → word text s t
as_word value text x s t is h = (h.0.place, h.2 ∙ ap (λ (said : List ℕ). in_front_of (seen said h.0.place) t) (is h.0.text h.1))

named_is : (w text : List ℕ) (x : Unit {0}) → named w text ≡ Some x → text ≡ w
named_is w text x h =
    elim (cases_Bool (bytes_eq text w)) [
      | inl e ↦ (bytes_eq-Decides text w).0 e
      | inr e ↦ let wrong : ◌≡◌ {A = Option (Unit {0})} None (Some x) = sym (rw e refl) ∙ h in absurd (cc)
    ]

-- this word
pub word_found : (kind : FaultKind) (w : List ℕ) → named w [] ≡ None → Finds (due kind (named w)) (λ (x : Unit {0}) s t. word w s t)
word_found kind w none s t x h = as_word (named w) w x s t (λ said k. named_is w said x k) (says_found kind (named w) none s t x h)

pub word_again : (kind : FaultKind) (w : List ℕ) (s t : Left) → word w s t → due kind (named w) s ≡ Ok (tt, t)
word_again kind w s t h = rw (h.1, same_bytes w) refl

pub word_step : {B : Type 0} (kind : FaultKind) (w : List ℕ) (s : Left) (f : Unit {0} × Left → Result B CommandFault) (y : B) → named w [] ≡ None → (due kind (named w) s >>= f) ≡ Ok y → (x : Unit {0}) × (t : Left) × word w s t × (f (x, t) ≡ Ok y)
word_step kind w s f y none h = step (due kind (named w)) (λ x s t. word w s t) s f y (word_found kind w none) h

-- the words of a table are what its values are spelled as
abbrev pub Spelled : {A : Type 0} → (A → List ℕ) → List (A × List ℕ) → Type 0
Spelled spell [] = Unit {0}
Spelled spell (entry ∷ entries) = (entry.1 ≡ spell entry.0) × Spelled spell entries

table_is : {A : Type 0} (spell : A → List ℕ) (entries : List (A × List ℕ)) (text : List ℕ) (x : A) → Spelled spell entries → looked_up entries text ≡ Some x → text ≡ spell x
table_is spell [] text x s h = absurd (cc)
table_is {A} spell (entry ∷ entries) text x s h =
    elim (cases_Bool (bytes_eq entry.1 text)) [
      | inl e ↦
          let v : Some entry.0 ≡ Some x = sym (rw e refl) ∙ h in
          sym ((bytes_eq-Decides entry.1 text).0 e) ∙ s.0 ∙ ap spell (some_same entry.0 x v)
      | inr e ↦ table_is spell entries text x s.1 (sym (rw e refl) ∙ h)
    ]

-- a word of a table
pub table_found : {A : Type 0} (kind : FaultKind) (spell : A → List ℕ) (entries : List (A × List ℕ)) → Spelled spell entries → looked_up entries [] ≡ None → Finds (due kind (looked_up entries)) (λ (x : A) s t. word (spell x) s t)
table_found kind spell entries spelled none s t x h = as_word (looked_up entries) (spell x) x s t (λ said k. table_is spell entries said x spelled k) (says_found kind (looked_up entries) none s t x h)

pub table_step : {A B : Type 0} (kind : FaultKind) (spell : A → List ℕ) (entries : List (A × List ℕ)) (s : Left) (f : A × Left → Result B CommandFault) (y : B) → Spelled spell entries → looked_up entries [] ≡ None → (due kind (looked_up entries) s >>= f) ≡ Ok y → (x : A) × (t : Left) × word (spell x) s t × (f (x, t) ≡ Ok y)
table_step {A} kind spell entries s f y spelled none h = step (due kind (looked_up entries)) (λ (x : A) s t. word (spell x) s t) s f y (table_found kind spell entries spelled none) h

pub table_again : {A : Type 0} (kind : FaultKind) (entries : List (A × List ℕ)) (text : List ℕ) (s t : Left) (x : A) → looked_up entries text ≡ Some x → word text s t → due kind (looked_up entries) s ≡ Ok (x, t)
table_again kind entries text s t x known h = says_again kind (looked_up entries) s t x (seen text h.0, known, h.1)

taken_in : (w : List ℕ) (ws : List Seen) (total : ℕ) → bytes_eq [] w ≡ false → (taken w (record { words = ws; total = total })).0 ≡ true → word w (record { words = ws; total = total }) (taken w (record { words = ws; total = total })).1
taken_in w [] total differs h = absurd (let f : false ≡ true = sym (rw differs refl) ∙ h in cc)
taken_in w (s ∷ ws) total differs h =
    elim (cases_Bool (bytes_eq s.text w)) [
      | inl e ↦ rw e (s.place, ap (λ (text : List ℕ). record { words = seen text s.place ∷ ws; total = total }) ((bytes_eq-Decides s.text w).0 e))
      | inr e ↦ absurd (let f : false ≡ true = sym (rw e refl) ∙ h in cc)
    ]

-- a word that may stand there
pub taken_found : (w : List ℕ) (s : Left) → bytes_eq [] w ≡ false → (taken w s).0 ≡ true → word w s (taken w s).1
taken_found w s differs h = taken_in w s.words s.total differs h

pub taken_not : (w : List ℕ) (s : Left) → (taken w s).0 ≡ false → (taken w s).1 ≡ s
taken_not w s h =
    elim (cases_Bool (bytes_eq (first_of s).text w)) [
      | inl e ↦ absurd (let f : true ≡ false = sym (rw e refl) ∙ h in cc)
      | inr e ↦ rw e refl
    ]

pub taken_again : (w : List ℕ) (s t : Left) → word w s t → taken w s ≡ (true, t)
taken_again w s t h = rw (h.1, same_bytes w) refl
