-- What reading takes from an input whose bytes are known.
use Rattle.std.proofs.Common.{◌≡◌, ℕ, ◌+◌, ◌<◌, ◌≤◌, Bool, true, false, if◌then◌else◌, subst, List, [], ◌∷◌, ◌++◌, length, take, drop, Option, None, Some, IfSome, refl, sym, ◌∙◌, ap, arith, rules}
use Rattle.std.proofs.lemmas.List.{append-nil, take-append-drop, drop_at, append_assoc, length-take-le, length-append}
use Rattle.std.specs.List.{All}
use Rattle.std.specs.Io.{StartsWith}
use Rattle.std.proofs.Math.Seq.{take-append_seam}
use Rattle.std.specs.Io.KnownBytes.{Keeps, prepend_known}
use Rattle.std.specs.Io.BufRead.{DropsConsumable}
use Rattle.lb_program.specs.Shown.{Takes, is_line_feed}
use Rattle.lb_program.specs.declared.shown.Shown.TheVariants.{Piece, LineFeed}

-- what is shown up to a line feed, and what stands after it
line_there : (xs shown : List ℕ) (len : ℕ) → StartsWith xs shown → len < length shown → shown ≡ take len shown ++ 10 ∷ drop (len + 1) shown → xs ≡ take len shown ++ 10 ∷ drop (len + 1) xs
line_there xs shown len starts within is =
    let front = take len shown in
    let tail = drop (len + 1) shown ++ drop (length shown) xs in
    let size : length (front ++ 10 ∷ []) ≡ len + 1 = length-append front (10 ∷ []) ∙ omega (arith, length-take-le len shown (omega arith)) in
    let whole : xs ≡ front ++ 10 ∷ tail =
    sym (take-append-drop (length shown) xs) ∙ ap (λ (ys : List ℕ). ys ++ drop (length shown) xs) (starts ∙ is) ∙ append_assoc front (10 ∷ drop (len + 1) shown) (drop (length shown) xs) in
    let cut : drop (len + 1) xs ≡ tail =
    ap (λ (ys : List ℕ). drop (len + 1) ys) (whole ∙ sym (append_assoc front (10 ∷ []) tail)) ∙ drop_at (front ++ 10 ∷ []) tail (len + 1) size in
    whole ∙ ap (λ (ys : List ℕ). front ++ 10 ∷ ys) (sym cut)

-- a line up to its line feed is taken
pub line_taken : (old mid new : Option (List ℕ)) (shown before after : List ℕ) (len limit : ℕ) → IfSome old (λ xs. StartsWith xs shown) → Keeps old mid → IfSome old (λ _. length shown ≤ limit) → DropsConsumable mid new (Some limit) (len + 1) → len < length shown → shown ≡ take len shown ++ 10 ∷ drop (len + 1) shown → All (λ byte. is_line_feed byte ≡ false) (take len shown) → after ≡ before ++ take len shown → IfSome old (λ all. Takes before all LineFeed after new)
line_taken None mid new shown before after len limit starts keeps room drops within is none moved = tt
line_taken (Some xs) None new shown before after len limit starts keeps room drops within is none moved = absurd keeps
line_taken (Some xs) (Some ys) new shown before after len limit starts keeps room drops within is none moved =
    (take len shown, drop (len + 1) xs, drops (omega arith) ∙ ap (λ (zs : List ℕ). Some (drop (len + 1) zs)) keeps, moved, line_there xs shown len starts within is, none)

-- an interruption takes nothing
pub nothing_taken : (old new : Option (List ℕ)) (before after : List ℕ) → IfSome old (λ all. (new ≡ Some all) × (after ≡ before)) → IfSome old (λ all. Takes before all Piece after new)
nothing_taken None new before after kept = tt
nothing_taken (Some all) new before after kept = ([], all, kept.0, kept.1 ∙ sym (append-nil before), refl, search rules)

-- what is at hand stands first
at_hand : (bytes : List ℕ) (rest : Option (List ℕ)) (is_none : Bool) → IfSome (if is_none then None else prepend_known bytes rest) (λ xs. StartsWith xs bytes)
at_hand bytes rest true = tt
at_hand bytes None false = tt
at_hand bytes (Some xs) false = take-append_seam bytes xs

-- the same of bytes that were kept
kept_starts : (old mid : Option (List ℕ)) (shown : List ℕ) → Keeps old mid → IfSome mid (λ xs. StartsWith xs shown) → IfSome old (λ xs. StartsWith xs shown)
kept_starts None mid shown keeps starts = tt
kept_starts (Some xs) None shown keeps starts = absurd keeps
kept_starts (Some xs) (Some ys) shown keeps starts = subst (λ (zs : List ℕ). StartsWith zs shown) keeps starts

within : (old : Option (List ℕ)) (n : ℕ) → IfSome old (λ _. n ≤ n)
within None n = tt
within (Some xs) n = omega arith

-- a line up to its line feed is taken of the bytes at hand
pub line_at_hand : (old rest new : Option (List ℕ)) (is_none : Bool) (bytes shown before after : List ℕ) (len : ℕ) → Keeps old (if is_none then None else prepend_known bytes rest) → shown ≡ bytes → DropsConsumable (if is_none then None else prepend_known bytes rest) new (Some (length bytes)) (len + 1) → len < length shown → shown ≡ take len shown ++ 10 ∷ drop (len + 1) shown → All (λ byte. is_line_feed byte ≡ false) (take len shown) → after ≡ before ++ take len shown → IfSome old (λ all. Takes before all LineFeed after new)
line_at_hand old rest new is_none bytes shown before after len keeps same drops fits is none moved =
    let mid = if is_none then None else prepend_known bytes rest in
    let starts : IfSome old (λ xs. StartsWith xs shown) = kept_starts old mid shown keeps (subst (λ (zs : List ℕ). IfSome mid (λ xs. StartsWith xs zs)) (sym same) (at_hand bytes rest is_none)) in
    let drops_shown : DropsConsumable mid new (Some (length shown)) (len + 1) = subst (λ (zs : List ℕ). DropsConsumable mid new (Some (length zs)) (len + 1)) (sym same) drops in
    line_taken old mid new shown before after len (length shown) starts keeps (within old (length shown)) drops_shown fits is none moved
