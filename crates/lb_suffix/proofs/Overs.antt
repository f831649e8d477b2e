-- The least rank at a key or at a front of it.
use Rattle.std.proofs.Common.{◌≡◌, ◌⊎◌, ℕ, ◌+◌, ◌<◌, ◌≤◌, nat_lt, true, false, List, [], ◌∷◌, ◌++◌, length, take, drop, Option, None, Some, inl, inr, refl, sym, ap, subst, ◌∙◌, arith, append_assoc}
use Rattle.std.specs.List.{AllByRecursion}
use Rattle.std.proofs.lemmas.Bool.{cases_Bool}
use Rattle.std.proofs.lemmas.Bool.Decides.{nat_tests}
use Rattle.std.proofs.lemmas.List.{take_at, drop_at, length-append, length-take-le, take-append-drop}
use Rattle.lb_name.specs.Name.{IsLabel, label_octets, labels_octets}
use Rattle.lb_index_ranks.specs.declared.filed.Filed.{Filed}
use Rattle.lb_index_ranks.specs.Least.{IsLeastFrom, lesser_of}
use Rattle.lb_index_ranks.specs.Filed.{IsFiledAt}
use Rattle.lb_suffix.specs.Over.{IsOver}

pub least_assoc : (a b c : Option ℕ) → lesser_of a (lesser_of b c) ≡ lesser_of (lesser_of a b) c
least_assoc None b c = refl
least_assoc (Some a) None c = refl
least_assoc (Some a) (Some b) None = elim (cases_Bool (nat_lt b a)) [ inl is ↦ rw is refl | inr is ↦ rw is refl ]
least_assoc (Some a) (Some b) (Some c) =
    elim (cases_Bool (nat_lt b a)) [
      | inl is ↦ elim (cases_Bool (nat_lt c b)) [ inl js ↦ grind (arith, nat_tests) | inr js ↦ grind (arith, nat_tests) ]
      | inr is ↦ elim (cases_Bool (nat_lt c b)) [ inl js ↦ grind (arith, nat_tests) | inr js ↦ grind (arith, nat_tests) ]
    ]

below_is : (a b : ℕ) → nat_lt a b ≡ true → a < b
below_is a b is = grind (arith, nat_tests)

not_below_is : (a b : ℕ) → nat_lt a b ≡ false → b ≤ a
not_below_is a b is = grind (arith, nat_tests)

-- the least of two sets is the lesser of their least
pub least_both : (P Q : ℕ → Type 0) (from : ℕ) (a b : Option ℕ) → IsLeastFrom P from a → IsLeastFrom Q from b → IsLeastFrom (λ r. P r ⊎ Q r) from (lesser_of a b)
least_both P Q from None None p q = λ r le has. elim has [ inl in_p ↦ p r le in_p | inr in_q ↦ q r le in_q ]
least_both P Q from None (Some b) p q = (q.0, inr q.1, λ r le has. elim has [ inl in_p ↦ absurd (p r le in_p) | inr in_q ↦ q.2 r le in_q ])
least_both P Q from (Some a) None p q = (p.0, inl p.1, λ r le has. elim has [ inl in_p ↦ p.2 r le in_p | inr in_q ↦ absurd (q r le in_q) ])
least_both P Q from (Some a) (Some b) p q =
    elim (cases_Bool (nat_lt b a)) [
      | inl is ↦
          let less : b < a = below_is b a is in
          rw is (q.0, inr q.1, λ r le has. elim has [ inl in_p ↦ (let over : a ≤ r = p.2 r le in_p in omega arith) | inr in_q ↦ q.2 r le in_q ])
      | inr is ↦
          let more : a ≤ b = not_below_is b a is in
          rw is (p.0, inl p.1, λ r le has. elim has [ inl in_p ↦ p.2 r le in_p | inr in_q ↦ (let over : b ≤ r = q.2 r le in_q in omega arith) ])
    ]

-- equal sets have one least rank
pub least_same : (P Q : ℕ → Type 0) (from : ℕ) (a : Option ℕ) → ((r : ℕ) → P r → Q r) → ((r : ℕ) → Q r → P r) → IsLeastFrom P from a → IsLeastFrom Q from a
least_same P Q from None to back p = λ r le has. p r le (back r has)
least_same P Q from (Some a) to back p = (p.0, to a p.1, λ r le has. p.2 r le (back r has))

-- how far a look along the labels of a key has come
pub record Looked (items : List Filed) (key : List ℕ) (labels : List (List ℕ)) (from at : ℕ) (best : Option ℕ) : Type 0 where
  pub rest : List (List ℕ)
  pub each : AllByRecursion IsLabel rest
  pub left : drop at key ≡ labels_octets rest
  pub goes : (after : Option ℕ) → IsLeastFrom (IsOver items (take at key) rest) from after → IsLeastFrom (IsOver items [] labels) from (lesser_of best after)

pub looked_none : (items : List Filed) (key : List ℕ) (labels : List (List ℕ)) (from : ℕ) → AllByRecursion IsLabel labels → key ≡ labels_octets labels → Looked items key labels from 0 None
looked_none items key labels from each is = record { rest = labels; each = each; left = is; goes = λ after least. least }

-- the labels have come to an end
all_by : (items : List Filed) (front : List ℕ) (labels rest : List (List ℕ)) (left : List ℕ) (from : ℕ) (best here : Option ℕ) → left ≡ [] → left ≡ labels_octets rest → IsLeastFrom (IsFiledAt items front) from here → ((after : Option ℕ) → IsLeastFrom (IsOver items front rest) from after → IsLeastFrom (IsOver items [] labels) from (lesser_of best after)) → IsLeastFrom (IsOver items [] labels) from (lesser_of best here)
all_by items front labels [] left from best here none is least goes = goes here least
all_by items front labels (l ∷ ls) left from best here none is least goes = absurd (omega (arith, ap length (sym none ∙ is)))

pub looked_all : (items : List Filed) (key : List ℕ) (labels : List (List ℕ)) (from at : ℕ) (best here : Option ℕ) → Looked items key labels from at best → drop at key ≡ [] → IsLeastFrom (IsFiledAt items (take at key)) from here → IsLeastFrom (IsOver items [] labels) from (lesser_of best here)
looked_all items key labels from at best here looked none least = all_by items (take at key) labels looked.rest (drop at key) from best here none looked.left least looked.goes

-- the next label
pub record Further (key : List ℕ) (at n : ℕ) (rest : List (List ℕ)) : Type 0 where
  pub label : List ℕ
  pub labels : List (List ℕ)
  pub is : rest ≡ label ∷ labels
  pub within : at + (n + 1) ≤ length key
  pub front : take (at + (n + 1)) key ≡ take at key ++ label_octets label
  pub left : drop (at + (n + 1)) key ≡ labels_octets labels

further_by : (key front left : List ℕ) (at n : ℕ) (more : List ℕ) (rest : List (List ℕ)) → key ≡ front ++ left → length front ≡ at → left ≡ labels_octets rest → left ≡ n ∷ more → (front ≡ take at key) → Further key at n rest
further_by key front left at n more [] whole size is first own = absurd (omega (arith, ap length (sym first ∙ is)))
further_by key front left at n more (label ∷ labels) whole size is first own =
    let len : length label ≡ n = cc (is, first) in
    let parts : key ≡ (front ++ label_octets label) ++ labels_octets labels = whole ∙ ap (λ (xs : List ℕ). front ++ xs) is ∙ sym (append_assoc front (label_octets label) (labels_octets labels)) in
    let sized : length (front ++ label_octets label) ≡ at + (n + 1) = omega (arith, length-append front (label_octets label), len, size) in
    record {
      label = label;
      labels = labels;
      is = refl;
      within = omega (arith, ap length parts, length-append (front ++ label_octets label) (labels_octets labels), sized);
      front = ap (λ (xs : List ℕ). take (at + (n + 1)) xs) parts ∙ take_at (front ++ label_octets label) (labels_octets labels) (at + (n + 1)) sized ∙ ap (λ (xs : List ℕ). xs ++ label_octets label) own;
      left = ap (λ (xs : List ℕ). drop (at + (n + 1)) xs) parts ∙ drop_at (front ++ label_octets label) (labels_octets labels) (at + (n + 1)) sized;
    }

pub further : (key : List ℕ) (at n : ℕ) (more : List ℕ) (rest : List (List ℕ)) → at ≤ length key → drop at key ≡ labels_octets rest → drop at key ≡ n ∷ more → Further key at n rest
further key at n more rest within is first =
    further_by key (take at key) (drop at key) at n more rest (sym (take-append-drop at key)) (length-take-le at key within) is first refl

pub looked_more : (items : List Filed) (key : List ℕ) (labels : List (List ℕ)) (from at n : ℕ) (more : List ℕ) (best here : Option ℕ) → Looked items key labels from at best → at ≤ length key → drop at key ≡ n ∷ more → IsLeastFrom (IsFiledAt items (take at key)) from here → Looked items key labels from (at + (n + 1)) (lesser_of best here)
looked_more items key labels from at n more best here looked within first least =
    let go = further key at n more looked.rest within looked.left first in
    let each : AllByRecursion IsLabel (go.label ∷ go.labels) = subst (λ (ls : List (List ℕ)). AllByRecursion IsLabel ls) go.is looked.each in
    record {
      rest = go.labels;
      each = each.1;
      left = go.left;
      goes = λ after next.
          let over : IsLeastFrom (IsOver items (take at key ++ label_octets go.label) go.labels) from after = subst (λ (xs : List ℕ). IsLeastFrom (IsOver items xs go.labels) from after) go.front next in
          let both : IsLeastFrom (IsOver items (take at key) (go.label ∷ go.labels)) from (lesser_of here after) = least_both (IsFiledAt items (take at key)) (IsOver items (take at key ++ label_octets go.label) go.labels) from here after least over in
          let whole = looked.goes (lesser_of here after) (subst (λ (ls : List (List ℕ)). IsLeastFrom (IsOver items (take at key) ls) from (lesser_of here after)) (sym go.is) both) in
          subst (λ (found : Option ℕ). IsLeastFrom (IsOver items [] labels) from found) (least_assoc best here after) whole;
    }
