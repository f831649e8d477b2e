-- Where a pair stands among pairs in order.
use Rattle.std.proofs.Common.{◌≡◌, true, false, Bool, ℕ, zero, suc, ◌≤◌, List, [], ◌∷◌, ◌++◌, length, take, drop, if◌then◌else◌, refl, sym, ap, subst, ◌∙◌, arith, take-append-drop}
use Rattle.std.specs.List.{AllByRecursion, AllWithin}
use Rattle.std.specs.declared.cmp.Ordering.TheVariants.{Less}
use Rattle.std.proofs.Math.Seq.{take-append_seam, drop-append_seam}
use Rattle.lb_index_ranks.specs.declared.filed.Filed.{Filed}
use Rattle.lb_index_ranks.specs.Block.{back_in, front_in, place_in}
use Rattle.lb_index_ranks.specs.Chunk.{all_of, back_of, front_of}
use Rattle.lb_index_ranks.specs.Filed.{filed_cmp, is_before, AreInOrder, IsCut}
use Rattle.lb_index_ranks.proofs.Chunks.{whole}
use Rattle.lb_index_ranks.proofs.Order.{each_at, each_weaker, lower, order_head, order_tail}
use Rattle.lb_index_ranks.proofs.Spots.{Parts, after_place, before_place}

-- a pair stands after all that stand before it
place_by : (at : Filed) (front back : List Filed) → AllByRecursion (λ (f : Filed). is_before at f ≡ true) front → AllByRecursion (λ (f : Filed). is_before at f ≡ false) back → place_in at (front ++ back) ≡ length front
place_by at [] [] before after = refl
place_by at [] (b ∷ back) before after = ap (λ (x : Bool). if x then suc (place_in at back) else zero) after.0
place_by at (f ∷ front) back before after = ap (λ (x : Bool). if x then suc (place_in at (front ++ back)) else zero) before.0 ∙ ap suc (place_by at front back before.1 after)

-- so the front and the back of a cut are those of its pair
pub front_is : (at : Filed) (front back items : List Filed) → IsCut at front back → items ≡ front ++ back → front_in at items ≡ front
front_is at front back items cut is =
    ap (λ (xs : List Filed). take (place_in at xs) xs) is
    ∙ ap (λ (n : ℕ). take n (front ++ back)) (place_by at front back cut.before cut.after)
    ∙ take-append_seam front back

pub back_is : (at : Filed) (front back items : List Filed) → IsCut at front back → items ≡ front ++ back → back_in at items ≡ back
back_is at front back items cut is =
    ap (λ (xs : List Filed). drop (place_in at xs) xs) is
    ∙ ap (λ (n : ℕ). drop n (front ++ back)) (place_by at front back cut.before cut.after)
    ∙ drop-append_seam front back

pub spot_front : (at : Filed) (items : List Filed) (cs : List (List Filed)) (k p : ℕ) → items ≡ all_of cs → IsCut at (front_of cs k p) (back_of cs k p) → front_in at items ≡ front_of cs k p
spot_front at items cs k p is cut = front_is at (front_of cs k p) (back_of cs k p) items cut (is ∙ whole cs k p)

-- the back of a spot is that of its pair
pub spot_back : (at : Filed) (items : List Filed) (cs : List (List Filed)) (k p : ℕ) → items ≡ all_of cs → IsCut at (front_of cs k p) (back_of cs k p) → back_in at items ≡ back_of cs k p
spot_back at items cs k p is cut = back_is at (front_of cs k p) (back_of cs k p) items cut (is ∙ whole cs k p)

-- what holds of the front and the back of a spot holds of those of all pairs
pub at_spot : (at : Filed) (cs : List (List Filed)) (k p : ℕ) (P : List Filed → List Filed → Type 0) → IsCut at (front_of cs k p) (back_of cs k p) → P (front_of cs k p) (back_of cs k p) → P (front_in at (all_of cs)) (back_in at (all_of cs))
at_spot at cs k p P cut holds =
    let front = front_is at (front_of cs k p) (back_of cs k p) (all_of cs) cut (whole cs k p) in
    let back = back_is at (front_of cs k p) (back_of cs k p) (all_of cs) cut (whole cs k p) in
    subst (λ (xs : List Filed). P xs (back_in at (all_of cs))) (sym front) (subst (λ (xs : List Filed). P (front_of cs k p) xs) (sym back) holds)

within_more : (P : Filed → Type 0) (x : Filed) (items : List Filed) (n : ℕ) → P x → AllWithin P items 0 n → AllWithin P (x ∷ items) 0 (suc n)
within_more P x items n here rest zero d low lt = here
within_more P x items n here rest (suc k) d low lt = rest k d (omega arith) (omega (arith, lt))

within_later : (P : Filed → Type 0) (x : Filed) (items : List Filed) (n : ℕ) → AllWithin P items n (length items) → AllWithin P (x ∷ items) (suc n) (length (x ∷ items))
within_later P x items n rest zero d low lt = absurd (omega (arith, low))
within_later P x items n rest (suc k) d low lt = rest k d (omega (arith, low)) (omega (arith, lt))

parts_by : (at x : Filed) (items : List Filed) (b : Bool) → b ≡ is_before at x → Parts at items (place_in at items) → (is_before at x ≡ false → AllByRecursion (λ (f : Filed). is_before at f ≡ false) items) → Parts at (x ∷ items) (if b then suc (place_in at items) else zero)
parts_by at x items true is rest later = (within_more (λ (f : Filed). is_before at f ≡ true) x items (place_in at items) (sym is) rest.0, within_later (λ (f : Filed). is_before at f ≡ false) x items (place_in at items) rest.1)
parts_by at x items false is rest later =
    (λ k d low lt. absurd (omega (arith, lt)), λ k d low lt. each_at (λ (f : Filed). is_before at f ≡ false) (x ∷ items) (sym is, later (sym is)) k d lt)

-- among pairs in order those before its place stand before a pair, and the others do not
pub parts_in : (at : Filed) (items : List Filed) → AreInOrder items → Parts at items (place_in at items)
parts_in at [] order = (λ k d low lt. absurd (omega (arith, lt)), λ k d low lt. absurd (omega (arith, lt)))
parts_in at (x ∷ items) order =
    parts_by at x items (is_before at x) refl (parts_in at items (order_tail x items order))
    (λ is. each_weaker (λ (f : Filed). filed_cmp x f ≡ Less) (λ (f : Filed). is_before at f ≡ false) items (λ f less. lower at x f less is) (order_head x items order))

upto_by : (n len : ℕ) (b : Bool) → n ≤ len → (if b then suc n else zero) ≤ suc len
upto_by n len true le = omega (arith, le)
upto_by n len false le = omega arith

-- the place is one of the list, or its end
pub place_upto : (at : Filed) (items : List Filed) → place_in at items ≤ length items
place_upto at [] = omega arith
place_upto at (x ∷ items) = upto_by (place_in at items) (length items) (is_before at x) (place_upto at items)

pub cut_in : (at : Filed) (items : List Filed) → AreInOrder items → IsCut at (front_in at items) (back_in at items)
cut_in at items order =
    let parts = parts_in at items order in
    record { before = before_place at items (place_in at items) parts (place_upto at items); after = after_place at items (place_in at items) parts }

pub whole_in : (at : Filed) (items : List Filed) → front_in at items ++ back_in at items ≡ items
whole_in at items = take-append-drop (place_in at items) items

pub order_in : (at : Filed) (items : List Filed) → AreInOrder items → AreInOrder (front_in at items ++ back_in at items)
order_in at items order = subst AreInOrder (sym (whole_in at items)) order
