-- Octets that are put together piece by piece.
use Rattle.std.proofs.Common.{◌≡◌, ℕ, ◌<◌, List, ◌∷◌, ◌++◌, length, Option, Some, None, refl, sym, ◌∙◌, ap, append_assoc, arith}
use Rattle.std.proofs.lemmas.List.{length-append}
use Rattle.std.specs.Borrow.{Bor}
use Rattle.lb_masks.proofs.Pieces.{pieces_left}
use Rattle.lb_masks.specs.Form.{cut_at, mark_of, piece_octets, joined, all_octets}
use Rattle.lb_masks.specs.declared.form.Form.{Form}

join_on : (a : List ℕ) (b c : Option (List ℕ)) → joined (Some a) (joined b c) ≡ joined (joined (Some a) b) c
join_on a None c = refl
join_on a (Some b) None = refl
join_on a (Some b) (Some c) = ap (λ (all : List ℕ). Some all) (sym (append_assoc a b c))

-- what is left of a text is its first piece and what is left then
pub pieces_open : (form : Form) (a : List ℕ) (left rest : Option (Bor (List ℕ))) (text : Bor (List ℕ)) (mark : ℕ) (piece : List ℕ) (whole : Option (List ℕ)) → joined (Some a) (all_octets form (pieces_left (mark_of form) left)) ≡ whole → left ≡ Some text → mark ≡ mark_of form → cut_at mark text.now ≡ piece ∷ pieces_left mark rest → joined (Some a) (joined (piece_octets form piece) (all_octets form (pieces_left (mark_of form) rest))) ≡ whole
pieces_open form a left rest text mark piece whole is left_is mark_is cut =
    let pieces : cut_at (mark_of form) text.now ≡ piece ∷ pieces_left (mark_of form) rest = rw mark_is at cut in
    sym (ap (λ (some : Option (Bor (List ℕ))). joined (Some a) (all_octets form (pieces_left (mark_of form) some))) left_is ∙ ap (λ (all : List (List ℕ)). joined (Some a) (all_octets form all)) pieces) ∙ is

-- a piece that is put after the others
pub pieces_more : (a new : List ℕ) (b c whole : Option (List ℕ)) → joined (Some a) (joined b c) ≡ whole → joined (Some a) b ≡ Some new → joined (Some new) c ≡ whole
pieces_more a new b c whole is pushed = ap (λ (front : Option (List ℕ)). joined front c) (sym pushed) ∙ sym (join_on a b c) ∙ is

-- what is too long already stays so
too_long : (front : Option (List ℕ)) (c : Option (List ℕ)) → ((all : List ℕ) → front ≡ Some all → 16 < length all) → (all : List ℕ) → joined front c ≡ Some all → 16 < length all
too_long None c long all is = absurd (cc)
too_long (Some a) None long all is = absurd (cc)
too_long (Some a) (Some c) long all is =
    let same : a ++ c ≡ all = cc in
    omega (arith, long a refl, length-append a c, ap length same)

pub pieces_end : (a : List ℕ) (b c whole : Option (List ℕ)) → joined (Some a) (joined b c) ≡ whole → ((all : List ℕ) → joined (Some a) b ≡ Some all → 16 < length all) → (all : List ℕ) → whole ≡ Some all → 16 < length all
pieces_end a b c whole is long all found = too_long (joined (Some a) b) c long all (sym (join_on a b c) ∙ is ∙ found)
