-- Names at and below a name, and their keys.
use Rattle.std.proofs.Common.{◌≡◌, true, false, ℕ, ◌<◌, List, [], ◌∷◌, ◌++◌, reverse, refl, sym, ap, subst, ◌∙◌, arith, append-nil}
use Rattle.std.specs.List.{AllByRecursion}
use Rattle.std.specs.Ordering.{nat_cmp, ordering_then, is_lt}
use Rattle.std.specs.Cmp.Lexicographic.{slice_cmp}
use Rattle.std.specs.declared.cmp.Ordering.{Ordering}
use Rattle.std.specs.declared.cmp.Ordering.TheVariants.{Less, Equal, Greater}
use Rattle.std.proofs.lemmas.Cmp.{ranked}
use Rattle.std.proofs.lemmas.List.{reverse-append, reverse-reverse}
use Rattle.std.proofs.lemmas.List.Concat.{flat_map-append}
use Rattle.lb_name.specs.Laws.{LabelsGoOn, NoLabel, SplitsBack}
use Rattle.lb_name.specs.Name.{IsLabel, label_octets, labels_octets, lower_name, IsName}
use Rattle.lb_index_ranks.specs.declared.filed.Filed.{Filed}
use Rattle.lb_index_ranks.specs.Filed.{filed_at, is_before}
use Rattle.lb_suffix.specs.Index.{IsBelow}
use Rattle.lb_suffix.specs.Key.{end_of, key_of, name_of, IsKey}
use Rattle.lb_suffix.proofs.Keys.{Follows, begins, high_end, low_end}
use Rattle.lb_suffix.proofs.Pairs.{each_key, each_reverse, name_of-key}

follows : (labels : List (List ℕ)) → AllByRecursion IsLabel labels → Follows (labels_octets labels)
follows [] each = tt
follows (l ∷ labels) each = each.0.1

-- the key of a name below another begins with the other's
below_key : (front : List (List ℕ)) (name other : List (List ℕ)) → lower_name other ≡ front ++ lower_name name → key_of other ≡ key_of name ++ labels_octets (reverse front)
below_key front name other is =
    ap (λ (ls : List (List ℕ)). labels_octets (reverse ls)) is ∙ ap labels_octets (reverse-append front (lower_name name))
    ∙ flat_map-append label_octets (reverse (lower_name name)) (reverse front)

not_under_0 : (r : ℕ) (o : Ordering) → o ≡ nat_cmp r 0 → is_lt o ≡ false
not_under_0 r Less e = let less : r < 0 = ranked r 0 Less e in absurd (omega (arith, less))
not_under_0 r Equal e = refl
not_under_0 r Greater e = refl

low_by : (r : ℕ) (o : Ordering) → is_lt o ≡ false → is_lt (ordering_then o (nat_cmp r 0)) ≡ false
low_by r Less is = absurd (cc is)
low_by r Equal is = not_under_0 r (nat_cmp r 0) refl
low_by r Greater is = refl

low_back : (r : ℕ) (o : Ordering) → is_lt (ordering_then o (nat_cmp r 0)) ≡ false → is_lt o ≡ false
low_back r Less is = absurd (cc is)
low_back r Equal is = refl
low_back r Greater is = refl

high_by : (r : ℕ) (o : Ordering) → o ≡ Less → is_lt (ordering_then o (nat_cmp r 0)) ≡ true
high_by r Less is = refl
high_by r Equal is = absurd (cc is)
high_by r Greater is = absurd (cc is)

high_back : (r : ℕ) (o : Ordering) → is_lt (ordering_then o (nat_cmp r 0)) ≡ true → o ≡ Less
high_back r Less is = refl
high_back r Equal is = (let no_less : is_lt (nat_cmp r 0) ≡ false = not_under_0 r (nat_cmp r 0) refl in absurd (cc (is, no_less)))
high_back r Greater is = absurd (cc is)

-- a kept pair whose name is this one or stands below it, stands between the key and its end
pub within_low : SplitsBack → (f : Filed) (name : List (List ℕ)) → IsKey f.key → IsBelow (name_of f.key) name → is_before (filed_at (key_of name) 0) f ≡ false
within_low back f name is_key below =
    let other = is_key.name in
    let lower : lower_name other ≡ below.0 ++ lower_name name = sym (name_of-key back other is_key.is_name) ∙ ap name_of (sym is_key.is) ∙ below.1 in
    let key : f.key ≡ key_of name ++ labels_octets (reverse below.0) = is_key.is ∙ below_key below.0 name other lower in
    low_by f.rank (slice_cmp nat_cmp f.key (key_of name)) (ap (λ (xs : List ℕ). is_lt (slice_cmp nat_cmp xs (key_of name))) key ∙ low_end (key_of name) (labels_octets (reverse below.0)))

each_other : (front : List (List ℕ)) (whole rest : List (List ℕ)) → whole ≡ front ++ rest → AllByRecursion IsLabel whole → AllByRecursion IsLabel front
each_other [] whole rest is each = tt
each_other (l ∷ front) whole rest is each =
    let own : AllByRecursion IsLabel (l ∷ front ++ rest) = subst (λ (ls : List (List ℕ)). AllByRecursion IsLabel ls) is each in
    (own.0, each_other front (front ++ rest) rest refl own.1)

pub within_high : SplitsBack → (f : Filed) (name : List (List ℕ)) → IsKey f.key → IsBelow (name_of f.key) name → is_before (filed_at (end_of (key_of name)) 0) f ≡ true
within_high back f name is_key below =
    let other = is_key.name in
    let lower : lower_name other ≡ below.0 ++ lower_name name = sym (name_of-key back other is_key.is_name) ∙ ap name_of (sym is_key.is) ∙ below.1 in
    let key : f.key ≡ key_of name ++ labels_octets (reverse below.0) = is_key.is ∙ below_key below.0 name other lower in
    let each : AllByRecursion IsLabel below.0 = each_other below.0 (lower_name other) (lower_name name) lower is_key.is_name.each in
    high_by f.rank (slice_cmp nat_cmp f.key (end_of (key_of name)))
    (ap (λ (xs : List ℕ). slice_cmp nat_cmp xs (end_of (key_of name))) key ∙ high_end (key_of name) (labels_octets (reverse below.0)) (follows (reverse below.0) (each_reverse below.0 each)))

no_label : NoLabel []
no_label n more is some lt = absurd (cc is)

-- and one that stands there has such a name
pub within_name : SplitsBack → LabelsGoOn → (f : Filed) (name : List (List ℕ)) → IsKey f.key → IsName (lower_name name) → is_before (filed_at (key_of name) 0) f ≡ false → is_before (filed_at (end_of (key_of name)) 0) f ≡ true → IsBelow (name_of f.key) name
within_name back on f name is_key is_name low high =
    let other = is_key.name in
    let here : List (List ℕ) = reverse (lower_name other) in
    let front : List (List ℕ) = reverse (lower_name name) in
    let begin = begins (key_of name) f.key (low_back f.rank (slice_cmp nat_cmp f.key (key_of name)) low) (high_back f.rank (slice_cmp nat_cmp f.key (end_of (key_of name))) high) in
    let octets : labels_octets front ++ begin.rest ≡ labels_octets here ++ [] = sym begin.is ∙ is_key.is ∙ sym (append-nil (labels_octets here)) in
    let goes = on front here begin.rest [] (each_key name is_name) (each_key other is_key.is_name) no_label octets in (
      reverse goes.others,
      ap name_of is_key.is ∙ name_of-key back other is_key.is_name ∙ sym (reverse-reverse (lower_name other))
          ∙ ap (λ (ls : List (List ℕ)). reverse ls) goes.whole ∙ reverse-append front goes.others ∙ ap (λ (ls : List (List ℕ)). reverse goes.others ++ ls) (reverse-reverse (lower_name name)),
    )
