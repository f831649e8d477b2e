-- Keys in lower case.
use Rattle.std.proofs.Common.{◌≡◌, ℕ, ◌-◌, ◌<◌, ◌≤◌, List, [], ◌∷◌, ◌++◌, length, take, drop, map, reverse, refl, sym, ap, subst, ◌∙◌, arith}
use Rattle.std.proofs.lemmas.List.{append_cancel_right, length-append, length-drop, length-map, map-append, reverse-append, take_at, drop_at, drop-drop}
use Rattle.std.specs.Char.{to_ascii_lowercase}
use Rattle.std.specs.List.{AllByRecursion}
use Rattle.lb_name.specs.Laws.{LowersOnWire}
use Rattle.lb_name.specs.Name.{IsLabel, IsName, labels_octets, lower_name, wire_of}
use Rattle.lb_suffix.specs.Key.{key_of, reversed_octets}
use Rattle.lb_suffix.proofs.Pairs.{each_reverse}

map-reverse : {X Y : Type 0} (f : X → Y) (xs : List X) → map f (reverse xs) ≡ reverse (map f xs)
map-reverse f [] = refl
map-reverse f (x ∷ xs) =
    ap (map f) (reverse-append (x ∷ []) xs) ∙ map-append f (reverse xs) (x ∷ []) ∙ ap (λ (ys : List _). ys ++ f x ∷ []) (map-reverse f xs) ∙ sym (reverse-append (f x ∷ []) (map f xs))

-- the octets of labels in lower case, from the last to the first, are those of the labels in lower case: a length octet is no
-- letter
pub lowered_key : LowersOnWire → (labels : List (List ℕ)) → AllByRecursion IsLabel labels → map to_ascii_lowercase (reversed_octets labels) ≡ key_of labels
lowered_key lowers labels each =
    let back : List (List ℕ) = reverse labels in
    append_cancel_right (map to_ascii_lowercase (labels_octets back)) (labels_octets (lower_name back)) (0 ∷ [])
    (sym (map-append to_ascii_lowercase (labels_octets back) (0 ∷ [])) ∙ lowers back (each_reverse labels each))
    ∙ ap labels_octets (map-reverse (map to_ascii_lowercase) labels)

-- octets that were put in front of others take the room between
pub put_size : (new front old : List ℕ) (start end : ℕ) → start ≤ end → end ≤ length old → length new ≡ length old → drop start new ≡ front ++ drop end old → length front ≡ end - start
put_size new front old start end before within size is =
    omega (arith, before, within, size, ap length is, length-append front (drop end old), length-drop start new, length-drop end old)

-- a key that was put in front of a place and lowered there
pub put_lowered : LowersOnWire → (labels : List (List ℕ)) → AllByRecursion IsLabel labels → (old put new : List ℕ) (start end : ℕ) → start ≤ end → end ≤ length old → length put ≡ length old
    → drop start put ≡ reversed_octets labels ++ drop end old → drop start new ≡ map to_ascii_lowercase (take (end - start) (drop start put)) ++ drop end put → drop start new ≡ key_of labels ++ drop end old
put_lowered lowers labels each old put new start end before within size is lower =
    let key : List ℕ = reversed_octets labels in
    let long : length key ≡ end - start = put_size put key old start end before within size is in
    let there : take (end - start) (drop start put) ≡ key = ap (take (end - start)) is ∙ take_at key (drop end old) (end - start) long in
    let behind : drop end put ≡ drop end old =
    ap (λ (n : ℕ). drop n put) (omega (arith, before)) ∙ sym (drop-drop (end - start) start put) ∙ ap (drop (end - start)) is ∙ drop_at key (drop end old) (end - start) long in
    lower ∙ ap (λ (xs : List ℕ). map to_ascii_lowercase xs ++ drop end put) there ∙ ap (λ (xs : List ℕ). xs ++ drop end put) (lowered_key lowers labels each) ∙ ap (λ (xs : List ℕ). key_of labels ++ xs) behind

each_lower : (labels : List (List ℕ)) → AllByRecursion IsLabel labels → AllByRecursion IsLabel (lower_name labels)
each_lower [] each = tt
each_lower (label ∷ labels) each = (subst (λ (n : ℕ). (0 < n) × (n < 64)) (sym (length-map label to_ascii_lowercase)) each.0, each_lower labels each.1)

-- a name in lower case is a name
pub lower_is_name : LowersOnWire → (labels : List (List ℕ)) → IsName labels → IsName (lower_name labels)
lower_is_name lowers labels is =
    let low : length (map to_ascii_lowercase (wire_of labels)) ≡ length (wire_of (lower_name labels)) = ap length (lowers labels is.each) in
    record { each = each_lower labels is.each; fits = omega (arith, is.fits, low, length-map (wire_of labels) to_ascii_lowercase) }
