-- Names and their octets.
use Rattle.std.proofs.Common.{◌≡◌, ◌↔◌, ℕ, Bool, true, List, [], ◌∷◌, ◌++◌, length, Decides, IsTrue, refl, sym, ◌∙◌, ap, arith}
use Rattle.std.proofs.lemmas.Bool.Decides.{same_from_decides}
use Rattle.std.proofs.lemmas.List.{append_assoc, length-append}
use Rattle.std.proofs.lemmas.Slice.Eq.{bytes_eq-Decides}
use Rattle.lb_name.specs.Name.{labels_octets, wire_of, lower_name, IsSame}
use Rattle.lb_wire.specs.Belongs.{same_name}
use Rattle.lb_wire.proofs.Lists.{halves}

-- names of equal octets are equal
one_spelling : (a b : List (List ℕ)) → wire_of a ≡ wire_of b → a ≡ b
one_spelling [] [] same = refl
one_spelling [] (l ∷ b) same =
    let size = ap (λ (xs : List ℕ). length xs) same in
    absurd (omega (arith, size, length-append (l ++ labels_octets b) (0 ∷ [])))
one_spelling (k ∷ a) [] same =
    let size = ap (λ (xs : List ℕ). length xs) same in
    absurd (omega (arith, size, length-append (k ++ labels_octets a) (0 ∷ [])))
one_spelling (k ∷ a) (l ∷ b) same =
    let size : length k ≡ length l = cc same in
    let behind : (k ++ labels_octets a) ++ 0 ∷ [] ≡ (l ++ labels_octets b) ++ 0 ∷ [] = cc same in
    let grouped : k ++ wire_of a ≡ l ++ wire_of b = sym (append_assoc k (labels_octets a) (0 ∷ [])) ∙ behind ∙ append_assoc l (labels_octets b) (0 ∷ []) in
    let cut = halves k l (wire_of a) (wire_of b) size grouped in
    ap (λ (x : List ℕ). x ∷ a) cut.0 ∙ ap (λ (ls : List (List ℕ)). l ∷ ls) (one_spelling a b cut.1)

-- the test of two names' octets in lower case decides whether the names are the same
same_name-Decides : (a b : List (List ℕ)) → Decides (same_name a b) (IsSame a b)
same_name-Decides a b =
    let octets = bytes_eq-Decides (wire_of (lower_name a)) (wire_of (lower_name b)) in (
      λ (is : same_name a b ≡ true). one_spelling (lower_name a) (lower_name b) (octets.0 is),
      λ (same : IsSame a b). octets.1 (ap (λ (ls : List (List ℕ)). wire_of ls) same),
    )

-- what tells whether names are the same is that test
pub is_same_name : (told : Bool) (a b : List (List ℕ)) → IsTrue told ↔ IsSame a b → told ≡ same_name a b
is_same_name told a b tells = same_from_decides told (same_name a b) tells (same_name-Decides a b)
