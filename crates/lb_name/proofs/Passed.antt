-- What the reading of a name has passed so far.
use Rattle.std.proofs.Common.{◌≡◌, ℕ, suc, ◌+◌, ◌<◌, ◌≤◌, List, [], ◌∷◌, ◌++◌, length, get_or, take, drop, sym, ◌∙◌, ap, arith}
use Rattle.std.proofs.lemmas.List.{take-append-drop, drop_more, length-append, length-take-le, length-drop}
use Rattle.std.proofs.Math.Seq.{take-add}
use Rattle.std.proofs.lemmas.Grind.{flat_map-append}
use Rattle.std.proofs.lemmas.List.{append-nil}
use Rattle.std.specs.List.{AllByRecursion}
use Rattle.lb_name.specs.Name.{IsLabel, label_octets, labels_octets, wire_of}
use Rattle.lb_name.specs.Reading.{Passed, Stops, Faults}
use Rattle.lb_name.specs.declared.fault.NameFault.{NameFault}

-- what is passed, and the octets from there on, are the whole
pub Passed-whole : (octets : List ℕ) (place : ℕ) (passed : Passed octets place) → octets ≡ labels_octets passed.labels ++ drop place octets
Passed-whole octets place passed = sym (take-append-drop place octets) ∙ ap (λ (xs : List ℕ). xs ++ drop place octets) passed.front

-- what stops the labels passed is the fault of the whole
pub fault_at : (octets : List ℕ) (place n : ℕ) (more : List ℕ) (fault : NameFault) → (passed : Passed octets place) → drop place octets ≡ n ∷ more → Stops passed.labels (n ∷ more) fault → Faults octets fault
fault_at octets place n more fault passed here stops = record {
  labels = passed.labels;
  more = n ∷ more;
  each = passed.each;
  fits = passed.fits;
  parts = Passed-whole octets place passed ∙ ap (λ (xs : List ℕ). labels_octets passed.labels ++ xs) here;
  stops = stops;
}

-- a list with one more at its end
each_more : (P : List ℕ → Type 0) (xs : List (List ℕ)) (x : List ℕ) → AllByRecursion P xs → P x → AllByRecursion P (xs ++ x ∷ [])
each_more P [] x each here = (here, tt)
each_more P (y ∷ ys) x each here = (each.0, each_more P ys x each.1 here)

-- a label more is passed
pub Passed-more : (octets : List ℕ) (place n : ℕ) → Passed octets place → drop place octets ≡ n ∷ drop (place + 1) octets → 0 < n → n < 64 → place + 1 + n ≤ length octets → place + 1 + n + 1 ≤ 255 → Passed octets (place + 1 + n)
Passed-more octets place n passed here some small within room =
    let label = take n (drop (place + 1) octets) in
    let size : length label ≡ n = length-take-le n (drop (place + 1) octets) (simp length-drop (omega arith)) in
    let more : labels_octets (passed.labels ++ label ∷ []) ≡ labels_octets passed.labels ++ n ∷ label =
    flat_map-append label_octets passed.labels (label ∷ []) ∙ ap (λ (xs : List ℕ). labels_octets passed.labels ++ xs) (append-nil (label_octets label) ∙ ap (λ (k : ℕ). k ∷ label) size) in
    let long : length (labels_octets (passed.labels ++ label ∷ [])) ≡ place + 1 + n =
    ap length more ∙ length-append (labels_octets passed.labels) (n ∷ label) ∙ omega arith in
    let ends : place + 1 + n ≡ place + suc n = omega arith in
    let cut : take (place + 1 + n) octets ≡ take place octets ++ take (suc n) (drop place octets) =
    ap (λ (k : ℕ). take k octets) ends ∙ take-add place (suc n) octets in
    record {
      labels = passed.labels ++ label ∷ [];
      each = each_more IsLabel passed.labels label passed.each (omega arith, omega arith);
      fits = simp length-append (omega arith);
      within = within;
      long = sym long;
      front = cut ∙ ap (λ (xs : List ℕ). xs ++ take (suc n) (drop place octets)) passed.front ∙ ap (λ (xs : List ℕ). labels_octets passed.labels ++ take (suc n) xs) here ∙ sym more;
    }

-- the octet at a place, and those after it
pub octet_at : (octets : List ℕ) (place n : ℕ) → place < length octets → get_or octets place 0 ≡ n → drop place octets ≡ n ∷ drop (place + 1) octets
octet_at octets place n within is = drop_more octets place 0 within ∙ ap (λ (k : ℕ). k ∷ drop (place + 1) octets) is
