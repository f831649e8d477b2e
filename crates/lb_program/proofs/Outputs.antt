-- Outputs that grow.
use Rattle.std.proofs.Common.{◌≡◌, ℕ, ◌+◌, List, [], ◌++◌, take, drop, refl, sym, ◌∙◌, ap, subst, append_assoc, arith, Option, None, Some}
use Rattle.std.proofs.lemmas.List.{append-nil, take-append-drop, take-take, drop-take}
use Rattle.std.specs.Io.KnownBytes.{Appends, Keeps}
use Rattle.lb_program.specs.Output.{Writes}

-- nothing was written
pub keeps_same : (a : Option (List ℕ)) → Keeps a a
keeps_same None = tt
keeps_same (Some xs) = refl

-- nothing is appended
pub appends_none : (a : Option (List ℕ)) → Appends a a []
appends_none None = tt
appends_none (Some xs) = sym (append-nil xs)

-- one piece after the other
pub appends_both : (a b c : Option (List ℕ)) (xs ys : List ℕ) → Appends a b xs → Appends b c ys → Appends a c (xs ++ ys)
appends_both None b c xs ys first then = tt
appends_both (Some a) None c xs ys first then = absurd first
appends_both (Some a) (Some b) None xs ys first then = absurd then
appends_both (Some a) (Some b) (Some c) xs ys first then = then ∙ ap (λ (zs : List ℕ). zs ++ ys) first ∙ append_assoc a xs ys

-- a flush keeps what was written
pub appends_kept : (a b c : Option (List ℕ)) (xs : List ℕ) → Appends a b xs → Keeps b c → Appends a c xs
appends_kept None b c xs first kept = tt
appends_kept (Some a) None c xs first kept = absurd first
appends_kept (Some a) (Some b) None xs first kept = absurd kept
appends_kept (Some a) (Some b) (Some c) xs first kept = kept ∙ first

-- nothing is written yet
pub writes_none : (a : Option (List ℕ)) (bytes : List ℕ) → Writes a a bytes bytes
writes_none a bytes = ([], refl, appends_none a)

-- what was still to be written goes on
pub writes_both : (a b c : Option (List ℕ)) (bytes held rest : List ℕ) → Writes a b bytes held → Writes b c held rest → Writes a c bytes rest
writes_both a b c bytes held rest first then =
    (first.0 ++ then.0, first.1 ∙ ap (λ (zs : List ℕ). first.0 ++ zs) then.1 ∙ sym (append_assoc first.0 then.0 rest), appends_both a b c first.0 then.0 first.2 then.2)

-- more is to be written
pub writes_more : (a b : Option (List ℕ)) (bytes held more : List ℕ) → Writes a b bytes held → Writes a b (bytes ++ more) (held ++ more)
writes_more a b bytes held more old = (old.0, ap (λ (zs : List ℕ). zs ++ more) old.1 ∙ append_assoc old.0 held more, old.2)

-- so many bytes were written
pub writes_taken : (a b : Option (List ℕ)) (bytes rest : List ℕ) (n : ℕ) → Appends a b (take n bytes) → rest ≡ drop n bytes → Writes a b bytes rest
writes_taken a b bytes rest n out left = (take n bytes, sym (take-append-drop n bytes) ∙ ap (λ (zs : List ℕ). take n bytes ++ zs) (sym left), out)

-- a flush keeps what was written
pub writes_kept : (a b c : Option (List ℕ)) (bytes rest : List ℕ) → Writes a b bytes rest → Keeps b c → Writes a c bytes rest
writes_kept a b c bytes rest old kept = (old.0, old.1, appends_kept a b c old.0 old.2 kept)

-- a front, and a front of the rest
pub taken_more : (n m : ℕ) (xs : List ℕ) → take (n + m) xs ≡ take n xs ++ take m (drop n xs)
taken_more n m xs =
    sym (take-append-drop n (take (n + m) xs))
    ∙ ap (λ (front : List ℕ). front ++ drop n (take (n + m) xs)) (take-take n (n + m) xs (omega arith))
    ∙ ap (λ (rest : List ℕ). take n xs ++ rest) (drop-take n m xs)

-- more of the bytes is written
pub appends_taken : (a b c : Option (List ℕ)) (n m : ℕ) (bytes rest : List ℕ) → Appends a b (take n bytes) → Appends b c (take m rest) → rest ≡ drop n bytes → Appends a c (take (n + m) bytes)
appends_taken a b c n m bytes rest first then left =
    let P : List ℕ → Type 0 = λ zs. Appends b c (take m zs) in
    let Q : List ℕ → Type 0 = λ zs. Appends a c zs in
    subst Q (sym (taken_more n m bytes)) (appends_both a b c (take n bytes) (take m (drop n bytes)) first (subst P left then))
