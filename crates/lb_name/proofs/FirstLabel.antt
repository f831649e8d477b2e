-- Going over the labels of a name on the wire, one by one.
use Rattle.std.proofs.Common.{◌≡◌, ℕ, ◌<◌, ◌≤◌, List, [], ◌∷◌, ◌++◌, length, take, drop, refl, sym, ◌∙◌, ap, arith}
use Rattle.std.proofs.lemmas.List.{append_assoc, take_at, drop_at, length-append}
use Rattle.lb_name.specs.Name.{labels_octets, wire_of, IsName, labels_of, IsWire}
use Rattle.lb_name.proofs.Names.{labels_of-own, IsWire-own}

-- a name whose first length octet is zero is the root
root_only : (labels : List (List ℕ)) (n : ℕ) (octets : List ℕ) → IsName labels → wire_of labels ≡ n ∷ octets → n ≡ 0 → labels ≡ []
root_only [] n octets name is zero_is = refl
root_only (label ∷ labels) n octets name is zero_is =
    let size : length label ≡ n = cc is in
    let some : 0 < length label = name.each.0.0 in
    absurd (omega arith)

pub labels_of-root : (wire : List ℕ) (n : ℕ) (octets : List ℕ) → IsWire wire → wire ≡ n ∷ octets → n ≡ 0 → labels_of wire ≡ []
labels_of-root wire n octets is first zero_is = root_only (labels_of wire) n octets is.is_name (sym is.parts ∙ first) zero_is

-- a name's own octets are more than none
pub no_octets : (wire : List ℕ) → IsWire wire → 0 < length wire
no_octets wire is = omega (arith, ap length is.parts, length-append (labels_octets (labels_of wire)) (0 ∷ []))

-- the label after a length octet, and the name after it
pub record FirstLabel (wire : List ℕ) (n : ℕ) (octets : List ℕ) : Type 0 where
  pub within : n ≤ length octets
  pub first : labels_of wire ≡ take n octets ∷ labels_of (drop n octets)
  pub rest : IsWire (drop n octets)

-- a name after its first label is a name
IsName-rest : (label : List ℕ) (labels : List (List ℕ)) → IsName (label ∷ labels) → IsName labels
IsName-rest label labels name = record {
  each = name.each.1;
  fits = omega (arith, name.fits, length-append (label ++ labels_octets labels) (0 ∷ []), length-append label (labels_octets labels), length-append (labels_octets labels) (0 ∷ []));
}

first_of : (labels : List (List ℕ)) (wire : List ℕ) (n : ℕ) (octets : List ℕ) → IsName labels → wire ≡ wire_of labels → wire ≡ n ∷ octets → 0 < n → FirstLabel wire n octets
first_of [] wire n octets name is first some = let zero_is : 0 ≡ n = cc (is, first) in absurd (omega arith)
first_of (label ∷ labels) wire n octets name is first some =
    let whole : length label ∷ ((label ++ labels_octets labels) ++ 0 ∷ []) ≡ n ∷ octets = sym is ∙ first in
    let size : length label ≡ n = cc whole in
    let after : (label ++ labels_octets labels) ++ 0 ∷ [] ≡ octets = cc whole in
    let grouped : octets ≡ label ++ wire_of labels = sym after ∙ append_assoc label (labels_octets labels) (0 ∷ []) in
    let here : take n octets ≡ label = ap (λ (xs : List ℕ). take n xs) grouped ∙ take_at label (wire_of labels) n size in
    let there : drop n octets ≡ wire_of labels = ap (λ (xs : List ℕ). drop n xs) grouped ∙ drop_at label (wire_of labels) n size in
    let rest = IsName-rest label labels name in
    let others : labels_of (drop n octets) ≡ labels = ap (λ (xs : List ℕ). labels_of xs) there ∙ labels_of-own labels rest.each in
    let all : labels_of wire ≡ label ∷ labels = ap (λ (xs : List ℕ). labels_of xs) is ∙ labels_of-own (label ∷ labels) name.each in
    record {
      within = omega (arith, ap length grouped, length-append label (wire_of labels));
      first = all ∙ ap (λ (x : List ℕ). x ∷ labels) (sym here) ∙ ap (λ (ls : List (List ℕ)). take n octets ∷ ls) (sym others);
      rest = rw there (IsWire-own labels rest);
    }

-- a name on the wire begins with a label, where its first octet is not zero
pub FirstLabel-wire : (wire : List ℕ) (n : ℕ) (octets : List ℕ) → IsWire wire → wire ≡ n ∷ octets → 0 < n → FirstLabel wire n octets
FirstLabel-wire wire n octets is first some = first_of (labels_of wire) wire n octets is.is_name is.parts first some
