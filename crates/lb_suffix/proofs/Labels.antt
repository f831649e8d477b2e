-- Labels of names on the wire.
use Rattle.std.proofs.Common.{◌≡◌, ℕ, ◌+◌, ◌<◌, ◌≤◌, List, [], ◌∷◌, ◌++◌, length, take, drop, slice_get, None, Some, refl, sym, ap, subst, ◌∙◌, arith, append_assoc, append-nil}
use Rattle.std.specs.List.{AllByRecursion}
use Rattle.std.proofs.lemmas.List.{take_at, drop_at, length-append}
use Rattle.lb_name.specs.Laws.{SplitsBack}
use Rattle.lb_name.specs.Name.{IsLabel, label_octets, labels_octets, labels_of, wire_of, IsWire}
use Rattle.lb_suffix.specs.Key.{FirstOctets}

pub first_is : (xs : List ℕ) (n : ℕ) → Some n ≡ slice_get xs 0 → xs ≡ n ∷ drop 1 xs
first_is [] n is = absurd (cc is)
first_is (x ∷ xs) n is = let same : n ≡ x = cc is in ap (λ (y : ℕ). y ∷ xs) (sym same)

pub empty_of : (xs : List ℕ) → None ≡ slice_get xs 0 → xs ≡ []
empty_of [] is = refl
empty_of (x ∷ xs) is = absurd (cc is)

-- the labels of a name on the wire are its labels
pub own_labels : SplitsBack → (labels : List (List ℕ)) → AllByRecursion IsLabel labels → labels_of (wire_of labels) ≡ labels
own_labels back labels each = ap labels_of (sym (append-nil (wire_of labels))) ∙ back labels [] each

head_is : (l : List ℕ) (rest more : List ℕ) (n : ℕ) → length l ∷ rest ≡ n ∷ more → n ≡ length l
head_is l rest more n is = cc is

no_labels_by : (wire : List ℕ) (n : ℕ) (more : List ℕ) (labels : List (List ℕ)) → AllByRecursion IsLabel labels → wire ≡ wire_of labels → wire ≡ n ∷ more → n ≡ 0 → labels ≡ []
no_labels_by wire n more [] each is first none = refl
no_labels_by wire n more (l ∷ labels) each is first none =
    let size : n ≡ length l = head_is l ((l ++ labels_octets labels) ++ 0 ∷ []) more n (sym is ∙ first) in
    let some : 0 < length l = each.0.0 in
    absurd (omega (arith, size, none, some))

-- a wire that begins with a zero octet has no labels
pub no_labels : (wire : List ℕ) (n : ℕ) (more : List ℕ) → IsWire wire → wire ≡ n ∷ more → n ≡ 0 → labels_of wire ≡ []
no_labels wire n more is first none = no_labels_by wire n more (labels_of wire) is.is_name.each is.parts first none

-- the first label of a name on the wire
pub record FirstCut (wire : List ℕ) (n : ℕ) : Type 0 where
  pub label : List ℕ
  pub labels : List (List ℕ)
  pub is : labels_of wire ≡ label ∷ labels
  pub size : length (label_octets label) ≡ n + 1
  pub parts : wire ≡ label_octets label ++ wire_of labels
  pub each : AllByRecursion IsLabel labels
  pub fits : length (wire_of labels) ≤ 255

cut_by : (wire : List ℕ) (n : ℕ) (more : List ℕ) (labels : List (List ℕ)) → labels_of wire ≡ labels → AllByRecursion IsLabel labels → length (wire_of labels) ≤ 255 → wire ≡ wire_of labels → wire ≡ n ∷ more → 0 < n → FirstCut wire n
cut_by wire n more [] own each fits is first some =
    let none : n ≡ 0 = cc (sym is ∙ first) in
    absurd (omega (arith, none, some))
cut_by wire n more (l ∷ labels) own each fits is first some =
    let size : n ≡ length l = head_is l ((l ++ labels_octets labels) ++ 0 ∷ []) more n (sym is ∙ first) in
    let parts : wire ≡ label_octets l ++ wire_of labels = is ∙ append_assoc (label_octets l) (labels_octets labels) (0 ∷ []) in
    record {
      label = l;
      labels = labels;
      is = own;
      size = omega (arith, size);
      parts = parts;
      each = each.1;
      fits = omega (arith, fits, ap length (sym is ∙ parts), length-append (label_octets l) (wire_of labels));
    }

pub cut_of : (wire : List ℕ) (n : ℕ) (more : List ℕ) → IsWire wire → wire ≡ n ∷ more → 0 < n → FirstCut wire n
cut_of wire n more is first some = cut_by wire n more (labels_of wire) refl is.is_name.each (subst (λ (xs : List ℕ). length xs ≤ 255) refl is.is_name.fits) is.parts first some

pub first_within : (wire : List ℕ) (n : ℕ) → FirstCut wire n → n + 1 ≤ length wire
first_within wire n cut = omega (arith, cut.size, ap length cut.parts, length-append (label_octets cut.label) (wire_of cut.labels))

pub first_of : SplitsBack → (wire octets rest : List ℕ) (n : ℕ) → FirstCut wire n → octets ≡ take (n + 1) wire → rest ≡ drop (n + 1) wire → FirstOctets wire octets rest
first_of back wire octets rest n cut front after =
    let here : octets ≡ label_octets cut.label = front ∙ ap (λ (xs : List ℕ). take (n + 1) xs) cut.parts ∙ take_at (label_octets cut.label) (wire_of cut.labels) (n + 1) cut.size in
    let there : rest ≡ wire_of cut.labels = after ∙ ap (λ (xs : List ℕ). drop (n + 1) xs) cut.parts ∙ drop_at (label_octets cut.label) (wire_of cut.labels) (n + 1) cut.size in
    let own : labels_of rest ≡ cut.labels = ap labels_of there ∙ own_labels back cut.labels cut.each in
    record {
      label = cut.label;
      is = here;
      first = cut.is ∙ ap (λ (ls : List (List ℕ)). cut.label ∷ ls) (sym own);
      name = record {
        is_name = record {
          each = subst (λ (ls : List (List ℕ)). AllByRecursion IsLabel ls) (sym own) cut.each;
          fits = subst (λ (ls : List (List ℕ)). length (wire_of ls) ≤ 255) (sym own) cut.fits;
        };
        parts = there ∙ ap wire_of (sym own);
      };
      parts = cut.parts ∙ ap (λ (xs : List ℕ). xs ++ wire_of cut.labels) (sym here) ∙ ap (λ (xs : List ℕ). octets ++ xs) (sym there);
    }
