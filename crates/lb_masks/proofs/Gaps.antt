-- A text with a `::`, and octets too many for an address.
use Rattle.std.proofs.Common.{◌≡◌, ℕ, ◌+◌, ◌-◌, ◌<◌, ◌≤◌, Bool, false, eqb, ◌&&◌, inl, inr, List, [], ◌∷◌, ◌++◌, length, get_or, take, drop, replicate, Option, Some, None, refl, sym, ◌∙◌, ap, arith}
use Rattle.std.proofs.lemmas.Bool.{lt-leb, cond-false, ne_eqb, cases_Bool, cases_lt, eqb-true}
use Rattle.std.proofs.lemmas.List.{get_or-drop, drop-drop, drop_more, drop_all, drop-replicate, take-replicate, length-append, length-drop, length-replicate, append-nil}
use Rattle.std.proofs.Math.Seq.{take-append-add}
use Rattle.std.specs.Option.{option_map, option_and_then}
use Rattle.lb_masks.specs.Text.{gap_place, four, sixteen, side, filled, v6_at, v6_of}

-- a place counted from further back
abbrev pub behind_by : ℕ → Option ℕ → Option ℕ
behind_by i found = option_map (λ place. i + place) found

pub gap_first : (found : Option ℕ) → behind_by 0 found ≡ found
gap_first None = refl
gap_first (Some place) = ap (λ (n : ℕ). Some n) (omega arith)

shifted : (i : ℕ) (found : Option ℕ) → behind_by i (option_map (λ place. place + 1) found) ≡ behind_by (i + 1) found
shifted i None = refl
shifted i (Some place) = ap (λ (n : ℕ). Some n) (omega arith)

not_both : (x y : ℕ) → (x ≡ 58 → y ≡ 58 → ⊥) → (eqb x 58 && eqb y 58) ≡ false
not_both x y other =
    elim (cases_Bool (eqb x 58)) [
      | inl one ↦
          (elim (cases_Bool (eqb y 58)) [
            | inl two ↦ absurd (other (eqb-true x 58 one) (eqb-true y 58 two))
            | inr fails ↦ ap (λ (t : Bool). t && eqb y 58) one ∙ fails
          ])
      | inr fails ↦ ap (λ (t : Bool). t && eqb y 58) fails
    ]

-- any other byte is before it
pub gap_later : (i : ℕ) (text : List ℕ) → i < length text → (get_or text i 0 ≡ 58 → get_or text (i + 1) 0 ≡ 58 → ⊥) → behind_by i (gap_place (drop i text)) ≡ behind_by (i + 1) (gap_place (drop (i + 1) text))
gap_later i text within other =
    let next : get_or (drop (i + 1) text) 0 0 ≡ get_or text (i + 1 + 0) 0 = get_or-drop (i + 1) text 0 0 in
    let same : i + 1 + 0 ≡ i + 1 = omega arith in
    let plain : get_or (drop (i + 1) text) 0 0 ≡ get_or text (i + 1) 0 = next ∙ ap (λ (n : ℕ). get_or text n 0) same in
    let fails : (eqb (get_or text i 0) 58 && eqb (get_or (drop (i + 1) text) 0 0) 58) ≡ false = not_both _ _ (λ one two. other one (sym plain ∙ two)) in
    ap (λ (left : List ℕ). behind_by i (gap_place left)) (drop_more text i 0 within)
    ∙ ap (λ (found : Option ℕ). behind_by i found) (cond-false _ _ _ fails)
    ∙ shifted i (gap_place (drop (i + 1) text))

-- a byte alone is none
pub gap_none : (i : ℕ) (text : List ℕ) → length text ≤ i + 1 → gap_place (drop i text) ≡ None
gap_none i text past =
    elim (cases_lt i (length text)) [
      | inl within ↦
          let alone : drop (i + 1) text ≡ [] = drop_all (i + 1) text past in
          let last : drop i text ≡ get_or text i 0 ∷ [] = drop_more text i 0 within ∙ ap (λ (left : List ℕ). get_or text i 0 ∷ left) alone in
          ap gap_place last ∙ cond-false _ _ _ (not_both (get_or text i 0) 0 (λ one two. absurd (omega arith)))
      | inr out ↦ ap gap_place (drop_all i text out)
    ]

-- octets before and after, put over zeros
pub over_zeros : (a b front back zeros : List ℕ) → front ≡ a → back ≡ b → zeros ≡ replicate 16 0 → length a + length b ≤ 16 → take (16 - length b) (front ++ drop (length a) zeros) ++ (back ++ drop (16 - (16 - length b)) (drop (16 - length b) (front ++ drop (length a) zeros))) ≡ a ++ replicate (16 - length a - length b) 0 ++ b
over_zeros a b front back zeros front_is back_is zeros_is fits =
    let free : ℕ = 16 - length a in
    let gap : ℕ = 16 - length a - length b in
    let whole : front ++ drop (length a) zeros ≡ a ++ replicate free 0 =
    ap (λ (xs : List ℕ). xs ++ drop (length a) zeros) front_is ∙ ap (λ (xs : List ℕ). a ++ drop (length a) xs) zeros_is ∙ ap (λ (xs : List ℕ). a ++ xs) (drop-replicate (length a) 16 0) in
    let split : 16 - length b ≡ length a + gap = omega arith in
    let begin : take (length a + gap) (a ++ replicate free 0) ≡ a ++ replicate gap 0 =
    take-append-add a (replicate free 0) gap ∙ ap (λ (xs : List ℕ). a ++ xs) (take-replicate gap free 0 (omega arith)) in
    let length_is : length (a ++ replicate free 0) ≡ 16 = omega (arith, length-append a (replicate free 0), length-replicate {A = ℕ} free 0) in
    let after : drop (16 - (16 - length b)) (drop (16 - length b) (a ++ replicate free 0)) ≡ [] =
    drop_all (16 - (16 - length b)) (drop (16 - length b) (a ++ replicate free 0)) (omega (arith, length-drop (16 - length b) (a ++ replicate free 0), length_is)) in
    ap (λ (xs : List ℕ). take (16 - length b) xs ++ (back ++ drop (16 - (16 - length b)) (drop (16 - length b) xs))) whole
    ∙ ap (λ (xs : List ℕ). take (16 - length b) (a ++ replicate free 0) ++ (back ++ xs)) after
    ∙ ap (λ (n : ℕ). take n (a ++ replicate free 0) ++ (back ++ [])) split
    ∙ ap (λ (xs : List ℕ). xs ++ (back ++ [])) begin
    ∙ ap (λ (xs : List ℕ). a ++ replicate gap 0 ++ xs) (append-nil back ∙ back_is)

-- too many octets are no address
pub not_four : (spelled : Option (List ℕ)) → ((all : List ℕ) → spelled ≡ Some all → 16 < length all) → option_and_then four spelled ≡ None
not_four None long = refl
not_four (Some all) long = cond-false _ _ _ (ne_eqb (length all) 4 (λ same. absurd (omega (arith, long all refl))))

pub not_sixteen : (spelled : Option (List ℕ)) → ((all : List ℕ) → spelled ≡ Some all → 16 < length all) → option_and_then sixteen spelled ≡ None
not_sixteen None long = refl
not_sixteen (Some all) long = cond-false _ _ _ (ne_eqb (length all) 16 (λ same. absurd (omega (arith, long all refl))))

pub no_front : (a b : Option (List ℕ)) → ((all : List ℕ) → a ≡ Some all → 16 < length all) → filled a b ≡ None
no_front None b long = refl
no_front (Some a) None long = refl
no_front (Some a) (Some b) long = cond-false _ _ _ (lt-leb (length a + length b) 14 (omega (arith, long a refl)))

pub no_back : (a b : Option (List ℕ)) → ((all : List ℕ) → b ≡ Some all → 16 < length all) → filled a b ≡ None
no_back None b long = refl
no_back (Some a) None long = refl
no_back (Some a) (Some b) long = cond-false _ _ _ (lt-leb (length a + length b) 14 (omega (arith, long b refl)))

-- the address of a text that is cut at its `::`
pub v6_cut : (text front rest back : List ℕ) (place : ℕ) → Some place ≡ gap_place text → front ≡ take place text → rest ≡ drop place text → back ≡ drop 2 rest → filled (side front) (side back) ≡ v6_of text
v6_cut text front rest back place found front_is rest_is back_is =
    let behind : back ≡ drop (place + 2) text = back_is ∙ ap (λ (xs : List ℕ). drop 2 xs) rest_is ∙ drop-drop 2 place text in
    ap (λ (xs : List ℕ). filled (side xs) (side back)) front_is ∙ ap (λ (xs : List ℕ). filled (side (take place text)) (side xs)) behind ∙ ap (λ (at : Option ℕ). v6_at text at) found
