-- Where keys are filed: after the name and the type of their question.
use Rattle.std.proofs.Common.{◌≡◌, Bool, true, false, ◌==◌, ℕ, ◌+◌, ◌*◌, ◌/◌, ◌%◌, ◌<◌, ◌≤◌, List, [], ◌∷◌, ◌++◌, length, take, drop, reverse, Option, None, Some, inl, inr, refl, sym, ap, subst, ◌∙◌, arith, append_assoc, append-nil}
use Rattle.std.specs.Bool.{Decides, one_answer}
use Rattle.std.specs.Char.{to_ascii_lowercase}
use Rattle.std.specs.List.{AllByRecursion}
use Rattle.std.proofs.Math.Nat.{div-add-mod}
use Rattle.std.proofs.lemmas.Bool.{cases_Bool, cond-true, cond-false, lt-ltb}
use Rattle.std.proofs.lemmas.Bool.Decides.{Decides-and, Decides-eqb}
use Rattle.std.proofs.lemmas.List.{length-map, reverse-append, reverse-reverse}
use Rattle.std.proofs.lemmas.List.Concat.{flat_map-append}
use Rattle.lb_name.specs.Laws.{GoesOn, LabelsGoOn, NoLabel}
use Rattle.lb_name.specs.Name.{label_octets, labels_octets, labels_of, lower_name, IsLabel, IsName, IsSame, IsUnder}
use Rattle.lb_wire.specs.declared.record_type.RecordType.{RecordType}
use Rattle.lb_index_ranks.specs.Filed.{filed_at}
use Rattle.lb_suffix.specs.Key.{key_of}
use Rattle.lb_cache.specs.Keys.{behind, filed_as, head_of, is_filed_within, is_within, type_octets}
use Rattle.lb_cache.specs.Question.{asks_name, asks_under, begins_question, question_of_key, same_name}
use Rattle.lb_cache.proofs.Fronts.{BeginsWith, Follows, within_from, within_to}
use Rattle.lb_cache.proofs.Questions.{asks_decides, same_decides, under_decides}

abbrev Labels : List (List ℕ) → Type 0
Labels labels = AllByRecursion IsLabel labels

each_append : (xs ys : List (List ℕ)) → Labels xs → Labels ys → Labels (xs ++ ys)
each_append [] ys a b = b
each_append (x ∷ xs) ys a b = (a.0, each_append xs ys a.1 b)

each_front : (xs ys : List (List ℕ)) → Labels (xs ++ ys) → Labels xs
each_front [] ys a = tt
each_front (x ∷ xs) ys a = (a.0, each_front xs ys a.1)

each_reverse : (xs : List (List ℕ)) → Labels xs → Labels (reverse xs)
each_reverse [] a = tt
each_reverse (x ∷ xs) a =
    let turned : reverse (x ∷ xs) ≡ reverse xs ++ x ∷ [] = reverse-append (x ∷ []) xs in
    subst Labels (sym turned) (each_append (reverse xs) (x ∷ []) (each_reverse xs a.1) (a.0, tt))

each_lower : (xs : List (List ℕ)) → Labels xs → Labels (lower_name xs)
each_lower [] a = tt
each_lower (x ∷ xs) a = (subst (λ (n : ℕ). (0 < n) × (n < 64)) (sym (length-map x to_ascii_lowercase)) a.0, each_lower xs a.1)

some_is : (a b : List (List ℕ) × ℕ) → Some a ≡ Some b → a ≡ b
some_is a b is = cc is

-- the labels of a question's name
asked : (octets : List ℕ) (q : List (List ℕ) × ℕ) → question_of_key octets ≡ Some q → Labels q.0
asked octets q is =
    let there : List ℕ = drop 10 octets in
    let labels : List (List ℕ) = labels_of there in
    elim (cases_Bool (begins_question labels there)) [
      | inl t ↦
          let name = ((asks_decides there labels).0 t).name in
          let same : labels ≡ q.0 = ap (λ (x : List (List ℕ) × ℕ). x.0) (some_is _ q (sym (cond-true _ _ _ t) ∙ is)) in
          subst Labels same name.each
      | inr f ↦ (let none : None ≡ Some q = sym (cond-false _ _ _ f) ∙ is in absurd (cc none))
    ]

-- past a label's octets
past_label : (label rest : List ℕ) → behind (length label) (label ++ rest) ≡ behind 0 rest
past_label [] rest = refl
past_label (x ∷ label) rest = past_label label rest

step_label : (n : ℕ) (rest : List ℕ) → (0 < n) × (n < 64) → behind 0 (n ∷ rest) ≡ behind n rest
step_label n rest is =
    let some : (n == 0) ≡ false = elim (cases_Bool (n == 0)) [ inl t ↦ (let none : n ≡ 0 = (Decides-eqb n 0).0 t in let lt : 0 < n = is.0 in absurd (omega (arith, none, lt))) | inr f ↦ f ] in
    cond-false _ _ _ some ∙ cond-true _ _ _ (lt-ltb n 64 is.1)

past_labels : (labels : List (List ℕ)) (rest : List ℕ) → Labels labels → behind 0 (labels_octets labels ++ rest) ≡ behind 0 rest
past_labels [] rest each = refl
past_labels (l ∷ labels) rest each =
    ap (λ (xs : List ℕ). behind 0 (length l ∷ xs)) (append_assoc l (labels_octets labels) rest)
    ∙ step_label (length l) (l ++ (labels_octets labels ++ rest)) each.0
    ∙ past_label l (labels_octets labels ++ rest) ∙ past_labels labels rest each.1

past_head : (q : Option (List (List ℕ) × ℕ)) (octets : List ℕ) → question_of_key octets ≡ q → behind 0 (head_of q ++ octets) ≡ octets
past_head None octets is = refl
past_head (Some q) octets is =
    ap (behind 0) (append_assoc (key_of q.0) (type_octets q.1) octets)
    ∙ past_labels (reverse (lower_name q.0)) (type_octets q.1 ++ octets) (each_reverse (lower_name q.0) (each_lower q.0 (asked octets q is)))

-- a key is what stands after its head
pub back : (octets : List ℕ) → behind 0 (filed_as octets) ≡ octets
back octets = past_head (question_of_key octets) octets refl

-- a key that has a question is filed after its name
filed_some : (q : List (List ℕ) × ℕ) (octets : List ℕ) → head_of (Some q) ++ octets ≡ key_of q.0 ++ (type_octets q.1 ++ octets)
filed_some q octets = append_assoc (key_of q.0) (type_octets q.1) octets

no_label : (rest : List ℕ) → NoLabel (0 ∷ rest)
no_label rest n more is some lt = (let none : n ≡ 0 = cc is in absurd (omega (arith, none, some)))

-- where the octets of a name, and others, begin a filed key, its name goes on after them
goes_on : LabelsGoOn → (name : List (List ℕ)) → IsName (lower_name name) → (q : List (List ℕ) × ℕ) (octets tail rest : List ℕ) → Labels q.0 → head_of (Some q) ++ octets ≡ (key_of name ++ tail) ++ rest
    → GoesOn (reverse (lower_name name)) (reverse (lower_name q.0)) (tail ++ rest) (type_octets q.1 ++ octets)
goes_on on name is_name q octets tail rest each is =
    on (reverse (lower_name name)) (reverse (lower_name q.0)) (tail ++ rest) (type_octets q.1 ++ octets) (each_reverse (lower_name name) is_name.each)
    (each_reverse (lower_name q.0) (each_lower q.0 each)) (no_label (q.1 / 256 ∷ q.1 % 256 ∷ 0 ∷ octets)) (sym (append_assoc (key_of name) tail rest) ∙ sym is ∙ filed_some q octets)

head_is : (a b : ℕ) (x y : List ℕ) → a ∷ x ≡ b ∷ y → a ≡ b
head_is a b x y is = cc is

-- where what follows is below 1, nothing stands between
none_between : (others : List (List ℕ)) (rest tail : List ℕ) → Labels others → Follows 1 rest → rest ≡ labels_octets others ++ tail → others ≡ []
none_between [] rest tail each follows is = refl
none_between (l ∷ others) [] tail each follows is = absurd (cc is)
none_between (l ∷ others) (n ∷ rest) tail each follows is =
    let same : n ≡ length l = head_is n (length l) rest ((l ++ labels_octets others) ++ tail) is in
    let some : 0 < length l = each.0.0 in
    absurd (omega (arith, same, some, follows))

turned : (a b : List (List ℕ)) → reverse a ≡ reverse b → a ≡ b
turned a b is = sym (reverse-reverse a) ∙ ap (λ (xs : List (List ℕ)). reverse xs) is ∙ reverse-reverse b

same_from : LabelsGoOn → (name : List (List ℕ)) → IsName (lower_name name) → (q : List (List ℕ) × ℕ) (octets : List ℕ) → Labels q.0 → BeginsWith (key_of name ++ []) 1 (head_of (Some q) ++ octets) → IsSame q.0 name
same_from on name is_name q octets each begin =
    let goes = goes_on on name is_name q octets [] begin.rest each begin.is in
    let none : goes.others ≡ [] = none_between goes.others begin.rest (type_octets q.1 ++ octets) goes.each begin.follows goes.rest in
    turned (lower_name q.0) (lower_name name) (goes.whole ∙ ap (λ (xs : List (List ℕ)). reverse (lower_name name) ++ xs) none ∙ append-nil (reverse (lower_name name)))

key_same : (a b : List (List ℕ)) → IsSame a b → key_of a ≡ key_of b
key_same a b same = ap (λ (xs : List (List ℕ)). labels_octets (reverse xs)) same

same_to : (name : List (List ℕ)) (q : List (List ℕ) × ℕ) (octets : List ℕ) → IsSame q.0 name → BeginsWith (key_of name ++ []) 1 (head_of (Some q) ++ octets)
same_to name q octets same = record {
  rest = type_octets q.1 ++ octets;
  is = filed_some q octets ∙ ap (λ (xs : List ℕ). xs ++ (type_octets q.1 ++ octets)) (key_same q.0 name same ∙ sym (append-nil (key_of name)));
  follows = omega arith;
}

no_between : (others : List (List ℕ)) (x tail : List ℕ) → Labels others → 0 ∷ x ≡ labels_octets others ++ tail → others ≡ []
no_between [] x tail each is = refl
no_between (l ∷ others) x tail each is =
    let same : 0 ≡ length l = head_is 0 (length l) x ((l ++ labels_octets others) ++ tail) is in
    let some : 0 < length l = each.0.0 in
    absurd (omega (arith, same, some))

three_are : (a b c d : ℕ) (x y : List ℕ) → 0 ∷ a ∷ b ∷ x ≡ 0 ∷ c ∷ d ∷ y → (a ≡ c) × (b ≡ d)
three_are a b c d x y is = (cc is, cc is)

number_is : (a b : ℕ) → a / 256 ≡ b / 256 → a % 256 ≡ b % 256 → a ≡ b
number_is a b high low =
    sym (div-add-mod a 256) ∙ ap (λ (n : ℕ). 256 * n + a % 256) high ∙ ap (λ (n : ℕ). 256 * (b / 256) + n) low ∙ div-add-mod b 256

abbrev type_front : ℕ → List ℕ
type_front rtype = 0 ∷ rtype / 256 ∷ rtype % 256 ∷ []

type_from : LabelsGoOn → (name : List (List ℕ)) (rtype : ℕ) → IsName (lower_name name) → (q : List (List ℕ) × ℕ) (octets : List ℕ) → Labels q.0 → BeginsWith (key_of name ++ type_front rtype) 1 (head_of (Some q) ++ octets) → IsSame q.0 name × (q.1 ≡ rtype)
type_from on name rtype is_name q octets each begin =
    let goes = goes_on on name is_name q octets (type_front rtype) begin.rest each begin.is in
    let none : goes.others ≡ [] = no_between goes.others (rtype / 256 ∷ rtype % 256 ∷ begin.rest) (type_octets q.1 ++ octets) goes.each goes.rest in
    let octets_are : 0 ∷ rtype / 256 ∷ rtype % 256 ∷ begin.rest ≡ 0 ∷ q.1 / 256 ∷ q.1 % 256 ∷ 0 ∷ octets = goes.rest ∙ ap (λ (xs : List (List ℕ)). labels_octets xs ++ (type_octets q.1 ++ octets)) none in
    let parts = three_are (rtype / 256) (rtype % 256) (q.1 / 256) (q.1 % 256) begin.rest (0 ∷ octets) octets_are in (
      turned (lower_name q.0) (lower_name name) (goes.whole ∙ ap (λ (xs : List (List ℕ)). reverse (lower_name name) ++ xs) none ∙ append-nil (reverse (lower_name name))),
      number_is q.1 rtype (sym parts.0) (sym parts.1),
    )

type_to : (name : List (List ℕ)) (rtype : ℕ) (q : List (List ℕ) × ℕ) (octets : List ℕ) → IsSame q.0 name → q.1 ≡ rtype → BeginsWith (key_of name ++ type_front rtype) 1 (head_of (Some q) ++ octets)
type_to name rtype q octets same is = record {
  rest = 0 ∷ octets;
  is = filed_some q octets
      ∙ ap (λ (xs : List ℕ). xs ++ (type_octets q.1 ++ octets)) (key_same q.0 name same)
      ∙ ap (λ (n : ℕ). key_of name ++ (type_octets n ++ octets)) is
      ∙ sym (append_assoc (key_of name) (type_front rtype) (0 ∷ octets));
  follows = omega arith;
}

under_from : LabelsGoOn → (name : List (List ℕ)) → IsName (lower_name name) → (q : List (List ℕ) × ℕ) (octets : List ℕ) → Labels q.0 → BeginsWith (key_of name ++ []) 64 (head_of (Some q) ++ octets) → IsUnder q.0 name
under_from on name is_name q octets each begin =
    let goes = goes_on on name is_name q octets [] begin.rest each begin.is in (
      reverse goes.others,
      sym (reverse-reverse (lower_name q.0)) ∙ ap (λ (xs : List (List ℕ)). reverse xs) goes.whole ∙ reverse-append (reverse (lower_name name)) goes.others
          ∙ ap (λ (xs : List (List ℕ)). reverse goes.others ++ xs) (reverse-reverse (lower_name name)),
    )

below_64 : (labels : List (List ℕ)) (rest : List ℕ) → Labels labels → Follows 64 (labels_octets labels ++ 0 ∷ rest)
below_64 [] rest each = omega arith
below_64 (l ∷ labels) rest each = each.0.1

under_to : (name : List (List ℕ)) (q : List (List ℕ) × ℕ) (octets : List ℕ) → Labels q.0 → IsUnder q.0 name → BeginsWith (key_of name ++ []) 64 (head_of (Some q) ++ octets)
under_to name q octets each under =
    let between : List (List ℕ) = reverse under.0 in
    let key : key_of q.0 ≡ key_of name ++ labels_octets between =
    ap (λ (xs : List (List ℕ)). labels_octets (reverse xs)) under.1 ∙ ap labels_octets (reverse-append under.0 (lower_name name)) ∙ flat_map-append label_octets (reverse (lower_name name)) between in
    let own : Labels under.0 = each_front under.0 (lower_name name) (subst Labels under.1 (each_lower q.0 each)) in
    record {
      rest = labels_octets between ++ (type_octets q.1 ++ octets);
      is = filed_some q octets
          ∙ ap (λ (xs : List ℕ). xs ++ (type_octets q.1 ++ octets)) key
          ∙ append_assoc (key_of name) (labels_octets between) (type_octets q.1 ++ octets)
          ∙ ap (λ (xs : List ℕ). xs ++ (labels_octets between ++ (type_octets q.1 ++ octets))) (sym (append-nil (key_of name)));
      follows = below_64 between (q.1 / 256 ∷ q.1 % 256 ∷ 0 ∷ octets) (each_reverse under.0 own);
    }

-- a key without a question begins with no name
none_begins : (labels : List (List ℕ)) (tail rest octets : List ℕ) (end : ℕ) → Labels labels → end < 65 → Follows 64 (tail ++ 0 ∷ []) → Follows end rest → 255 ∷ octets ≡ (labels_octets labels ++ tail) ++ rest → ⊥
none_begins [] [] [] octets end each few front follows is = absurd (cc is)
none_begins [] [] (n ∷ rest) octets end each few front follows is = (let same : 255 ≡ n = head_is 255 n octets rest is in absurd (omega (arith, same, few, follows)))
none_begins [] (n ∷ tail) rest octets end each few front follows is = (let same : 255 ≡ n = head_is 255 n octets (tail ++ rest) is in absurd (omega (arith, same, front)))
none_begins (l ∷ labels) tail rest octets end each few front follows is =
    let same : 255 ≡ length l = head_is 255 (length l) octets (((l ++ labels_octets labels) ++ tail) ++ rest) is in
    let lt : length l < 64 = each.0.1 in
    absurd (omega (arith, same, lt))

off : (b : Bool) → (b ≡ true → ⊥) → b ≡ false
off true never = absurd (never refl)
off false never = refl

none_within : (name : List (List ℕ)) (tail octets : List ℕ) (end : ℕ) → IsName (lower_name name) → end < 65 → Follows 64 (tail ++ 0 ∷ []) → is_filed_within (key_of name ++ tail) ((key_of name ++ tail) ++ end ∷ []) (filed_at (255 ∷ octets) 0) ≡ false
none_within name tail octets end is_name few front =
    off (is_filed_within (key_of name ++ tail) ((key_of name ++ tail) ++ end ∷ []) (filed_at (255 ∷ octets) 0))
    (λ t.
    let begin = within_from (key_of name ++ tail) end (filed_at (255 ∷ octets) 0) t in
    none_begins (reverse (lower_name name)) tail begin.rest octets end (each_reverse (lower_name name) is_name.each) few front begin.follows begin.is)

name_by : LabelsGoOn → (name : List (List ℕ)) → IsName (lower_name name) → (octets : List ℕ) (q : Option (List (List ℕ) × ℕ)) → question_of_key octets ≡ q
    → is_filed_within (key_of name ++ []) ((key_of name ++ []) ++ 1 ∷ []) (filed_at (head_of q ++ octets) 0) ≡ asks_name name None q
name_by on name is_name octets None is = none_within name [] octets 1 is_name (omega arith) (omega arith)
name_by on name is_name octets (Some q) is =
    let each = asked octets q is in
    let f = filed_at (head_of (Some q) ++ octets) 0 in
    let any : Decides true (Unit {0}) = (λ t. tt, λ one. refl) in
    let named = Decides-and (same_name q.0 name) true (same_decides q.0 name) any in
    one_answer (is_filed_within (key_of name ++ []) ((key_of name ++ []) ++ 1 ∷ []) f) (asks_name name None (Some q))
    (λ t. (same_from on name is_name q octets each (within_from (key_of name ++ []) 1 f t), tt), λ same. within_to (key_of name ++ []) 1 f (same_to name q octets same.0))
    named

type_by : LabelsGoOn → (name : List (List ℕ)) (rtype : RecordType) → IsName (lower_name name) → (octets : List ℕ) (q : Option (List (List ℕ) × ℕ)) → question_of_key octets ≡ q
    → is_filed_within (key_of name ++ type_front rtype.0) ((key_of name ++ type_front rtype.0) ++ 1 ∷ []) (filed_at (head_of q ++ octets) 0) ≡ asks_name name (Some rtype) q
type_by on name rtype is_name octets None is = none_within name (type_front rtype.0) octets 1 is_name (omega arith) (omega arith)
type_by on name rtype is_name octets (Some q) is =
    let each = asked octets q is in
    let f = filed_at (head_of (Some q) ++ octets) 0 in
    one_answer (is_filed_within (key_of name ++ type_front rtype.0) ((key_of name ++ type_front rtype.0) ++ 1 ∷ []) f) (asks_name name (Some rtype) (Some q))
    (λ t. type_from on name rtype.0 is_name q octets each (within_from (key_of name ++ type_front rtype.0) 1 f t), λ same. within_to (key_of name ++ type_front rtype.0) 1 f (type_to name rtype.0 q octets same.0 same.1))
    (Decides-and (same_name q.0 name) (q.1 == rtype.0) (same_decides q.0 name) (Decides-eqb q.1 rtype.0))

under_by : LabelsGoOn → (name : List (List ℕ)) → IsName (lower_name name) → (octets : List ℕ) (q : Option (List (List ℕ) × ℕ)) → question_of_key octets ≡ q
    → is_filed_within (key_of name ++ []) ((key_of name ++ []) ++ 64 ∷ []) (filed_at (head_of q ++ octets) 0) ≡ asks_under name q
under_by on name is_name octets None is = none_within name [] octets 64 is_name (omega arith) (omega arith)
under_by on name is_name octets (Some q) is =
    let each = asked octets q is in
    let f = filed_at (head_of (Some q) ++ octets) 0 in
    one_answer (is_filed_within (key_of name ++ []) ((key_of name ++ []) ++ 64 ∷ []) f) (asks_under name (Some q))
    (λ t. under_from on name is_name q octets each (within_from (key_of name ++ []) 64 f t), λ under. within_to (key_of name ++ []) 64 f (under_to name q octets each under))
    (under_decides q.0 name)

-- the keys within a name's octets and their end are those whose question has the name, and the type, or a name below
pub name_within : LabelsGoOn → (name : List (List ℕ)) → IsName (lower_name name) → (octets : List ℕ) → is_within (key_of name ++ []) ((key_of name ++ []) ++ 1 ∷ []) octets ≡ asks_name name None (question_of_key octets)
name_within on name is_name octets = name_by on name is_name octets (question_of_key octets) refl

pub type_within : LabelsGoOn → (name : List (List ℕ)) (rtype : RecordType) → IsName (lower_name name) → (octets : List ℕ) → is_within (key_of name ++ type_front rtype.0) ((key_of name ++ type_front rtype.0) ++ 1 ∷ []) octets ≡ asks_name name (Some rtype) (question_of_key octets)
type_within on name rtype is_name octets = type_by on name rtype is_name octets (question_of_key octets) refl

pub under_within : LabelsGoOn → (name : List (List ℕ)) → IsName (lower_name name) → (octets : List ℕ) → is_within (key_of name ++ []) ((key_of name ++ []) ++ 64 ∷ []) octets ≡ asks_under name (question_of_key octets)
under_within on name is_name octets = under_by on name is_name octets (question_of_key octets) refl

-- octets in room of one more at least, and that one
pub one_more : (tail : List ℕ) (end : ℕ) → length tail ≤ 3 → take (length tail + 1) (tail ++ drop (length tail) (end ∷ end ∷ end ∷ end ∷ [])) ≡ tail ++ end ∷ []
one_more [] end few = refl
one_more (a ∷ []) end few = refl
one_more (a ∷ b ∷ []) end few = refl
one_more (a ∷ b ∷ c ∷ []) end few = refl
one_more (a ∷ b ∷ c ∷ d ∷ tail) end few = absurd (omega (arith, few))
