-- The owner of a record, where labels of it have been passed.
use Rattle.std.proofs.Common.{◌≡◌, ℕ, ◌+◌, ◌-◌, ◌*◌, ◌/◌, ◌%◌, ◌<◌, ◌≤◌, ◌^◌, ◌⊎◌, inl, inr, List, [], ◌∷◌, ◌++◌, length, drop, Option, None, Some, refl, sym, ◌∙◌, ap, arith}
use Rattle.std.proofs.lemmas.List.{append_assoc, length-append, length-drop, take-append-drop}
use Rattle.std.proofs.lemmas.Grind.{flat_map-append}
use Rattle.std.specs.List.{AllByRecursion}
use Rattle.lb_name.specs.Name.{IsLabel, labels_octets}
use Rattle.lb_name.specs.Reading.{Passed}
use Rattle.lb_name.specs.Laws.{LabelsGoOn}
use Rattle.lb_wire.specs.Record.{Owner, end_octets, owner_octets, IsPointer, IsOwner}
use Rattle.lb_wire.proofs.OneMessage.{NoLabel-end}

-- what is passed, and the octets from there on, are the whole
Passed-whole : (octets : List ℕ) (place : ℕ) (passed : Passed octets place) → octets ≡ labels_octets passed.labels ++ drop place octets
Passed-whole octets place passed = sym (take-append-drop place octets) ∙ ap (λ (xs : List ℕ). xs ++ drop place octets) passed.front

-- how an owner goes on at an octet and what follows it: it ends with the root, or with a pointer, or a label stands there
abbrev pub GoesOnAt : ℕ → ℕ → List ℕ → Type 0
GoesOnAt place n more = (n ≡ 0) ⊎ (((192 ≤ n) × (0 < length more) × (place + 2 ≤ 255)) ⊎ ((0 < n) × (n < 64) × (n ≤ length more) × (place + n + 2 ≤ 255)))

-- an octet stands at a place, and an owner goes on there
pub record OwnerAt (there : List ℕ) (place : ℕ) : Type 0 where
  pub n : ℕ
  pub more : List ℕ
  pub here : there ≡ n ∷ more
  pub way : GoesOnAt place n more

-- an owner ends with an octet or two
pub end_long : (pointer : Option ℕ) → 1 ≤ length (end_octets pointer)
end_long None = omega arith
end_long (Some place) = omega arith

-- what an owner has after its first labels
owner_rest : (place : ℕ) (front others : List (List ℕ)) (pointer : Option ℕ) (rest there : List ℕ) → place ≡ length (labels_octets front) → AllByRecursion IsLabel others → length (labels_octets (front ++ others) ++ end_octets pointer) ≤ 255 → there ≡ labels_octets others ++ (end_octets pointer ++ rest) → OwnerAt there place
owner_rest place front [] None rest there long each fits is = record { n = 0; more = rest; here = is; way = inl refl }
owner_rest place front [] (Some p) rest there long each fits is =
    let size : place + 2 ≤ 255 = omega (arith, simp (flat_map-append, length-append) at fits) in
    record { n = 192 + p / 2 ^ 8; more = p % 2 ^ 8 ∷ rest; here = is; way = inr (inl (omega arith, omega arith, size)) }
owner_rest place front (label ∷ others) pointer rest there long each fits is =
    let ends : 1 ≤ length (end_octets pointer) = end_long pointer in
    let size : place + length label + 2 ≤ 255 = omega (arith, simp (flat_map-append, length-append) at fits) in
    record {
      n = length label;
      more = (label ++ labels_octets others) ++ (end_octets pointer ++ rest);
      here = is;
      way = inr (inr (each.0.0, each.0.1, simp length-append (omega arith), size));
    }

-- where labels of an owner have been passed, the owner goes on
owner_next : (go : LabelsGoOn) (octets : List ℕ) (place : ℕ) → Passed octets place → (owner : Owner) (rest : List ℕ) → IsOwner owner → octets ≡ owner_octets owner ++ rest → OwnerAt (drop place octets) place
owner_next go octets place passed owner rest is whole =
    let grouped : labels_octets passed.labels ++ drop place octets ≡ labels_octets owner.labels ++ (end_octets owner.pointer ++ rest) =
    sym (Passed-whole octets place passed) ∙ whole ∙ append_assoc (labels_octets owner.labels) (end_octets owner.pointer) rest in
    let on = go passed.labels owner.labels (drop place octets) (end_octets owner.pointer ++ rest) passed.each is.each (NoLabel-end owner.pointer rest) grouped in
    owner_rest place passed.labels on.others owner.pointer rest (drop place octets) passed.long on.each (rw on.whole at is.fits) on.rest

-- where the octets end, no owner stands
pub no_owner_cut : (go : LabelsGoOn) (octets : List ℕ) (place : ℕ) → Passed octets place → length octets ≤ place → (owner : Owner) (rest : List ℕ) → IsOwner owner → octets ≡ owner_octets owner ++ rest → ⊥
no_owner_cut go octets place passed short owner rest is whole =
    let at = owner_next go octets place passed owner rest is whole in
    let long : length (drop place octets) ≡ 1 + length at.more = ap (λ (xs : List ℕ). length xs) at.here ∙ omega arith in
    omega (arith, long, length-drop place octets)

-- where an owner cannot go on, none stands
pub no_owner : (go : LabelsGoOn) (octets : List ℕ) (place n : ℕ) (more : List ℕ) → Passed octets place → drop place octets ≡ n ∷ more → (GoesOnAt place n more → ⊥) → (owner : Owner) (rest : List ℕ) → IsOwner owner → octets ≡ owner_octets owner ++ rest → ⊥
no_owner go octets place n more passed here none owner rest is whole =
    let at = owner_next go octets place passed owner rest is whole in
    let same : at.n ≡ n = cc (at.here, here) in
    let tails : at.more ≡ more = cc (at.here, here) in
    none (rw (same, tails) at at.way)

-- an owner takes so many octets
abbrev pub OwnerEnds : List ℕ → ℕ → Type 0
OwnerEnds octets len = (owner : Owner) × IsOwner owner × (len ≤ length octets) × (octets ≡ owner_octets owner ++ drop len octets) × (len ≡ length (owner_octets owner))

-- what is passed and an end are an owner
ended : (octets : List ℕ) (place len : ℕ) (pointer : Option ℕ) → Passed octets place → IsPointer pointer → drop place octets ≡ end_octets pointer ++ drop len octets → len ≡ place + length (end_octets pointer) → len ≤ 255 → len ≤ length octets → OwnerEnds octets len
ended octets place len pointer passed is_pointer here long fits within =
    let size : len ≡ length (owner_octets (record { labels = passed.labels; pointer = pointer })) =
    omega (arith, long, passed.long, length-append (labels_octets passed.labels) (end_octets pointer)) in (
      record { labels = passed.labels; pointer = pointer },
      record { each = passed.each; pointer = is_pointer; fits = omega arith },
      within,
      Passed-whole octets place passed ∙ ap (λ (xs : List ℕ). labels_octets passed.labels ++ xs) here ∙ sym (append_assoc (labels_octets passed.labels) (end_octets pointer) (drop len octets)),
      size,
    )

-- where a zero octet follows labels, an owner ends with the root
pub ends_root : (octets : List ℕ) (place n : ℕ) → Passed octets place → drop place octets ≡ n ∷ drop (place + 1) octets → n ≡ 0 → place + 1 ≤ length octets → OwnerEnds octets (place + 1)
ends_root octets place n passed here zero within =
    let fits : place + 1 ≤ 255 = omega (arith, passed.fits, passed.long, length-append (labels_octets passed.labels) (0 ∷ [])) in
    ended octets place (place + 1) None passed tt (here ∙ ap (λ (k : ℕ). k ∷ drop (place + 1) octets) zero) refl fits within

-- where two octets that are a pointer follow labels, an owner ends with it
pub ends_pointer : (octets : List ℕ) (place n m : ℕ) → Passed octets place → drop place octets ≡ n ∷ drop (place + 1) octets → drop (place + 1) octets ≡ m ∷ drop (place + 1 + 1) octets → 192 ≤ n → n < 256 → m < 256 → place + 2 ≤ 255 → place + 2 ≤ length octets → OwnerEnds octets (place + 2)
ends_pointer octets place n m passed here next high small low fits within =
    let target = (n - 192) * 256 + m in
    let first : n ≡ 192 + target / 2 ^ 8 = omega arith in
    let second : m ≡ target % 2 ^ 8 = omega arith in
    let two : place + 1 + 1 ≡ place + 2 = omega arith in
    let is : drop place octets ≡ (192 + target / 2 ^ 8) ∷ target % 2 ^ 8 ∷ drop (place + 2) octets =
    here ∙ ap (λ (xs : List ℕ). n ∷ xs) next ∙ ap (λ (k : ℕ). n ∷ m ∷ drop k octets) two ∙ ap (λ (k : ℕ). k ∷ m ∷ drop (place + 2) octets) first ∙ ap (λ (k : ℕ). (192 + target / 2 ^ 8) ∷ k ∷ drop (place + 2) octets) second in
    ended octets place (place + 2) (Some target) passed (omega arith) is refl fits within
