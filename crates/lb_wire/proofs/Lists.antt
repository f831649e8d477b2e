-- Pieces of a list at their places.
use Rattle.std.proofs.Common.{◌≡◌, ℕ, ◌+◌, ◌<◌, List, ◌∷◌, ◌++◌, length, get_or, take, drop, refl, sym, ◌∙◌, ap}
use Rattle.std.proofs.lemmas.List.{append_assoc, drop-drop, take_at, drop_at, drop_more}

-- two lists that are equal, cut after as many elements
pub halves : {X : Type 0} (a b c d : List X) → length a ≡ length b → a ++ c ≡ b ++ d → (a ≡ b) × (c ≡ d)
halves {X} a b c d same whole = (
  sym (take_at a c (length b) same) ∙ ap (λ (xs : List X). take (length b) xs) whole ∙ take_at b d (length b) refl,
  sym (drop_at a c (length b) same) ∙ ap (λ (xs : List X). drop (length b) xs) whole ∙ drop_at b d (length b) refl,
)

-- the octet at a place, and those after it
pub octet_at : (octets : List ℕ) (place n : ℕ) → place < length octets → get_or octets place 0 ≡ n → drop place octets ≡ n ∷ drop (place + 1) octets
octet_at octets place n within is = drop_more octets place 0 within ∙ ap (λ (k : ℕ). k ∷ drop (place + 1) octets) is

-- where a piece stands at a place, what follows it stands after it
pub drop_after : {X : Type 0} (bytes a b : List X) (at : ℕ) → drop at bytes ≡ a ++ b → drop (at + length a) bytes ≡ b
drop_after {X} bytes a b at there = sym (drop-drop (length a) at bytes) ∙ ap (λ (xs : List X). drop (length a) xs) there ∙ drop_at a b (length a) refl

-- a piece put in place of another of its length
pub put_at : {X : Type 0} (a b c d xs : List X) (at : ℕ) → length b ≡ length c → xs ≡ a ++ (b ++ d) → at ≡ length a → (take at xs ++ c) ++ drop (at + length c) xs ≡ a ++ (c ++ d)
put_at {X} a b c d xs at same whole place =
    let front : take at xs ≡ a = ap (λ (ys : List X). take at ys) whole ∙ take_at a (b ++ d) at (sym place) in
    let there : drop at xs ≡ b ++ d = ap (λ (ys : List X). drop at ys) whole ∙ drop_at a (b ++ d) at (sym place) in
    let ends : at + length c ≡ at + length b = ap (λ (n : ℕ). at + n) (sym same) in
    let behind : drop (at + length c) xs ≡ d = ap (λ (n : ℕ). drop n xs) ends ∙ drop_after xs b d at there in
    ap (λ (ys : List X). (ys ++ c) ++ drop (at + length c) xs) front ∙ ap (λ (ys : List X). (a ++ c) ++ ys) behind ∙ append_assoc a c d
