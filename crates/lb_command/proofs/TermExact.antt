-- Terms, against the grammar.
use Rattle.std.proofs.Common.{◌≡◌, ℕ, zero, suc, ◌+◌, ◌-◌, ◌≤◌, Bool, true, false, not, ◌||◌, Some, Result, Ok, Err, List, [], ◌∷◌, length, subst, refl, sym, ap, ◌∙◌, arith, inl, inr, zero-add}
use Rattle.std.proofs.lemmas.Bool.{cases_Bool}
use Rattle.std.specs.Prelude.{◌⊎◌, codes, nat_lt, if◌then◌else◌}
use Rattle.lb_masks.specs.Number.{number_up_to}
use Rattle.lb_masks.specs.Mask.{Prefix}
use Rattle.lb_wire.specs.declared.record_type.RecordType.{RecordType}
use Rattle.lb_terms.specs.Selector.{Selector, Selectors, end, more, members_of}
use Rattle.lb_terms.specs.Selector as sel
use Rattle.lb_terms.specs.Check.{IsChecked, checked_of, depth_in, depth_of, has_members, has_rates, has_small_sets, have_small_sets, max_depth, max_nodes, nodes_in, nodes_of}
use Rattle.lb_terms.specs.declared.fault.TermFault.TheVariants as faults
use Rattle.lb_command.specs.Line.{Left, first_of}
use Rattle.lb_command.specs.Reading.{due, listed, taken}
use Rattle.lb_command.specs.Values.{in_range, mask_of, name_of, type_kind, type_of}
use Rattle.lb_command.specs.Terms.{State, alone, and_at, body_at, checked_at, checked_or, comma, form_of, form_words, left_in, lengths_at, masks_at, maxqps_at, members_at, not_at, one_fewer, or_at, qtype_at, suffix_at, term_at, type_at}
use Rattle.lb_command.specs.Grammar.{◌▷◌, bracketed, comma_list, lengths, other_terms, says, term, terms, word}
use Rattle.lb_command.specs.declared.fault.CommandFault.{CommandFault}
use Rattle.lb_command.specs.declared.fault.FaultKind.TheVariants as kinds
use Rattle.lb_command.specs.declared.terms.Form.{Form}
use Rattle.lb_command.specs.declared.terms.Form.TheVariants as forms
use Rattle.lb_command.proofs.Exact.{Finds, bind_ok, carried, ok_same, says_again, says_found, says_step, Spelled, step, table_again, table_step, taken_again, taken_found, taken_not, word_again, word_step}
use Rattle.lb_command.proofs.Truths.{both, le_of, neither, not_false, not_over, of_le, of_not_over}
use Rattle.lb_command.proofs.Lists.{last_listed, one_more_listed}
use Rattle.lb_command.proofs.Sequences.{After, ListOf, list_found, says_list_again, says_list_found, stops_at_close}

-- the word of a form
abbrev form_text : Form → List ℕ
form_text forms.All = codes "all"
form_text forms.Suffix = codes "suffix"
form_text forms.Masks = codes "masks"
form_text forms.Qtype = codes "qtype"
form_text forms.And = codes "and"
form_text forms.Or = codes "or"
form_text forms.Not = codes "not"
form_text forms.MaxQps = codes "maxqps"

form_known : (f : Form) → form_of (form_text f) ≡ Some f
form_known forms.All = refl
form_known forms.Suffix = refl
form_known forms.Masks = refl
form_known forms.Qtype = refl
form_known forms.And = refl
form_known forms.Or = refl
form_known forms.Not = refl
form_known forms.MaxQps = refl

suffix_found : (line s t : Left) (y : Selector) → word (codes "suffix") line s → suffix_at s ≡ Ok (y, t) → term y line t
unfolding suffix_at
suffix_found line s t y w h =
    let a = word_step kinds.UnknownWord (codes "(") s _ (y, t) refl h in
    let b = step (listed (due kinds.BadName name_of) (taken (codes ",")) (λ s. s) 1024) (comma_list (says name_of)) a.1 _ (y, t) (says_list_found kinds.BadName name_of 1024 refl) a.3 in
    let c = word_step kinds.UnknownWord (codes ")") b.1 _ (y, t) refl b.3 in
    carried (λ (z : Selector) (u : Left). term z line u) (sel.Suffix b.0) y c.1 t c.3 (s, w, (a.1, a.2, (b.1, b.2, c.2)))

masks_found : (line s t : Left) (y : Selector) → word (codes "masks") line s → masks_at s ≡ Ok (y, t) → term y line t
unfolding masks_at
masks_found line s t y w h =
    let a = word_step kinds.UnknownWord (codes "(") s _ (y, t) refl h in
    let b = step (listed (due kinds.BadAddress mask_of) (taken (codes ",")) (λ s. s) 1024) (comma_list (says mask_of)) a.1 _ (y, t) (says_list_found kinds.BadAddress mask_of 1024 refl) a.3 in
    let c = word_step kinds.UnknownWord (codes ")") b.1 _ (y, t) refl b.3 in
    carried (λ (z : Selector) (u : Left). term z line u) (sel.Masks b.0) y c.1 t c.3 (s, w, (a.1, a.2, (b.1, b.2, c.2)))

-- TYPE
pub type_found : Finds type_at (says type_of)
type_found s t x h = says_found (type_kind (first_of s).text) type_of refl s t x h

pub type_again : (s t : Left) (x : RecordType) → says type_of x s t → type_at s ≡ Ok (x, t)
type_again s t x h = says_again (type_kind (first_of s).text) type_of s t x h

qtype_found : (line s t : Left) (y : Selector) → word (codes "qtype") line s → qtype_at s ≡ Ok (y, t) → term y line t
unfolding qtype_at
qtype_found line s t y w h =
    let a = word_step kinds.UnknownWord (codes "(") s _ (y, t) refl h in
    let b = step type_at (says type_of) a.1 _ (y, t) type_found a.3 in
    let c = word_step kinds.UnknownWord (codes ")") b.1 _ (y, t) refl b.3 in
    carried (λ (z : Selector) (u : Left). term z line u) (sel.Qtype b.0) y c.1 t c.3 (s, w, (a.1, a.2, (b.1, b.2, c.2)))

lengths_found : Finds lengths_at (λ (v : ℕ × ℕ) s t. lengths v.0 v.1 s t)
unfolding lengths_at
lengths_found s t v h =
    elim (cases_Bool (taken (codes ",") s).0) [
      | inl e ↦
          let given = rw e at h in
          let a = says_step kinds.BadNumber (number_up_to 10 32) (taken (codes ",") s).1 _ (v, t) refl given in
          let b = word_step kinds.UnknownWord (codes ",") a.1 _ (v, t) refl a.3 in
          let c = says_step kinds.BadNumber (number_up_to 10 128) b.1 _ (v, t) refl b.3 in
          carried (λ (w : ℕ × ℕ) (u : Left). lengths w.0 w.1 s u) (a.0, c.0) v c.1 t c.3 (inl ((taken (codes ",") s).1, taken_found (codes ",") s refl e, (a.1, a.2, (b.1, b.2, c.2))))
      | inr e ↦
          let not_given : ◌≡◌ {A = Result ((ℕ × ℕ) × Left) CommandFault} (Ok ((32, 64), (taken (codes ",") s).1)) (Ok (v, t)) = rw e at h in
          carried (λ (w : ℕ × ℕ) (u : Left). lengths w.0 w.1 s u) (32, 64) v (taken (codes ",") s).1 t not_given (inr (refl, refl, sym (taken_not (codes ",") s e)))
    ]

maxqps_found : (line s t : Left) (y : Selector) → word (codes "maxqps") line s → maxqps_at s ≡ Ok (y, t) → term y line t
unfolding maxqps_at
maxqps_found line s t y w h =
    let a = word_step kinds.UnknownWord (codes "(") s _ (y, t) refl h in
    let b = says_step kinds.BadNumber (in_range 1 1000) a.1 _ (y, t) refl a.3 in
    let l = step lengths_at (λ (v : ℕ × ℕ) s t. lengths v.0 v.1 s t) b.1 _ (y, t) lengths_found b.3 in
    let c = word_step kinds.UnknownWord (codes ")") l.1 _ (y, t) refl l.3 in
    carried (λ (z : Selector) (u : Left). term z line u) (sel.MaxQps b.0 l.0.0 l.0.1) y c.1 t c.3 (s, w, (a.1, a.2, (l.1, (b.1, b.2, l.2), c.2)))

abbrev is_term : Selector → State → State → Type 0
is_term x s t = term x s.1 t.1

abbrev is_comma : State → State → Type 0
is_comma s t = word (codes ",") s.1 t.1

after_terms : (xs : List Selector) (s t : State) → After is_term is_comma xs s t → other_terms (members_of xs) s.1 t.1
after_terms [] s t l = ap (λ (u : State). u.1) l
after_terms (x ∷ xs) s t l = (l.0.1, l.1, (l.2.0.1, l.2.1, after_terms xs l.2.0 t l.2.2))

list_terms : (xs : List Selector) (s t : State) → ListOf is_term is_comma xs s t → terms (members_of xs) s.1 t.1
list_terms [] s t l = l
list_terms (x ∷ xs) s t l = (l.0.1, l.1, after_terms xs l.0 t l.2)

-- a reader of members
abbrev Reader : Type 0
Reader = State → Result (Selector × State) CommandFault

members_found : (member : Reader) → Finds member is_term → Finds (members_at member) (λ (xs : List Selector) s t. bracketed (terms (members_of xs)) s.1 t.1)
unfolding members_at
members_found member finds s t xs h =
    let a = word_step kinds.UnknownWord (codes "(") s.1 _ (xs, t) refl h in
    let b = step (listed member comma left_in 64) (ListOf is_term is_comma) (s.0, a.1) _ (xs, t)
    (list_found member comma left_in is_term is_comma finds (λ s g. taken_found (codes ",") s.1 refl g) (λ s g. ap (λ (u : Left). (s.0, u)) (taken_not (codes ",") s.1 g)) 64) a.3 in
    let c = word_step kinds.UnknownWord (codes ")") b.1.1 _ (xs, t) refl b.3 in
    carried (λ (ys : List Selector) (u : State). bracketed (terms (members_of ys)) s.1 u.1) b.0 xs (b.1.0, c.1) t c.3 (a.1, a.2, (b.1.1, list_terms b.0 (s.0, a.1) b.1 b.2, c.2))

and_found : (member : Reader) → Finds member is_term → (line : Left) (s t : State) (y : Selector) → word (codes "and") line s.1 → and_at member s ≡ Ok (y, t) → term y line t.1
unfolding and_at
and_found member finds line s t y w h =
    let a = step (members_at member) (λ (xs : List Selector) s t. bracketed (terms (members_of xs)) s.1 t.1) s _ (y, t) (members_found member finds) h in
    carried (λ (z : Selector) (u : State). term z line u.1) (sel.And (members_of a.0)) y a.1 t a.3 (s.1, w, a.2)

or_found : (member : Reader) → Finds member is_term → (line : Left) (s t : State) (y : Selector) → word (codes "or") line s.1 → or_at member s ≡ Ok (y, t) → term y line t.1
unfolding or_at
or_found member finds line s t y w h =
    let a = step (members_at member) (λ (xs : List Selector) s t. bracketed (terms (members_of xs)) s.1 t.1) s _ (y, t) (members_found member finds) h in
    carried (λ (z : Selector) (u : State). term z line u.1) (sel.Or (members_of a.0)) y a.1 t a.3 (s.1, w, a.2)

not_found : (member : Reader) → Finds member is_term → (line : Left) (s t : State) (y : Selector) → word (codes "not") line s.1 → not_at member s ≡ Ok (y, t) → term y line t.1
unfolding not_at
not_found member finds line s t y w h =
    let a = word_step kinds.UnknownWord (codes "(") s.1 _ (y, t) refl h in
    let b = step member is_term (s.0, a.1) _ (y, t) finds a.3 in
    let c = word_step kinds.UnknownWord (codes ")") b.1.1 _ (y, t) refl b.3 in
    carried (λ (z : Selector) (u : State). term z line u.1) (sel.Not b.0) y (b.1.0, c.1) t c.3 (s.1, w, (a.1, a.2, (b.1.1, b.2, c.2)))

alone_found : (n : ℕ) (read : Result (Selector × Left) CommandFault) (line : Left) (t : State) (y : Selector) → ((x : Selector) (rest : Left) → read ≡ Ok (x, rest) → term x line rest) → alone n read ≡ Ok (y, t) → term y line t.1
alone_found n read line t y finds h =
    let a = bind_ok read _ (y, t) h in
    carried (λ (z : Selector) (u : State). term z line u.1) a.0.0 y (n, a.0.1) t a.2 (finds a.0.0 a.0.1 a.1)

body_found : (member : Reader) → Finds member is_term → (f : Form) (line : Left) (s t : State) (y : Selector) → word (form_text f) line s.1 → body_at member f s ≡ Ok (y, t) → term y line t.1
body_found member finds forms.All line s t y w h = carried (λ (z : Selector) (u : State). term z line u.1) sel.All y s t h w
body_found member finds forms.Suffix line s t y w h = alone_found s.0 (suffix_at s.1) line t y (λ x rest g. suffix_found line s.1 rest x w g) h
body_found member finds forms.Masks line s t y w h = alone_found s.0 (masks_at s.1) line t y (λ x rest g. masks_found line s.1 rest x w g) h
body_found member finds forms.Qtype line s t y w h = alone_found s.0 (qtype_at s.1) line t y (λ x rest g. qtype_found line s.1 rest x w g) h
body_found member finds forms.And line s t y w h = and_found member finds line s t y w h
body_found member finds forms.Or line s t y w h = or_found member finds line s t y w h
body_found member finds forms.Not line s t y w h = not_found member finds line s t y w h
body_found member finds forms.MaxQps line s t y w h = alone_found s.0 (maxqps_at s.1) line t y (λ x rest g. maxqps_found line s.1 rest x w g) h

all_spelled : Spelled form_text form_words
all_spelled = (refl, (refl, (refl, (refl, (refl, (refl, (refl, (refl, tt))))))))

-- what is read as a term is one
pub term_found : (depth : ℕ) → Finds (term_at depth) is_term
unfolding term_at
term_found zero s t y h =
    let a = bind_ok (due kinds.UnknownWord form_of s.1) _ (y, t) h in
    absurd (let wrong = a.2 in cc)
term_found (suc depth) s t y h =
    let a = table_step kinds.UnknownWord form_text form_words s.1 _ (y, t) all_spelled refl h in
    let b = bind_ok (one_fewer s.0 s.1) _ (y, t) a.3 in
    body_found (term_at depth) (term_found depth) a.0 s.1 (b.0, a.1) t y a.2 b.2

suffix_again : (s t : Left) (names : List (List (List ℕ))) → length names ≤ 1024 → bracketed (comma_list (says name_of) names) s t → suffix_at s ≡ Ok (sel.Suffix names, t)
unfolding suffix_at
suffix_again s t names few h =
    rw (word_again kinds.UnknownWord (codes "(") s h.0 h.1, says_list_again kinds.BadName name_of 1024 h.0 h.2.0 names few (stops_at_close h.2.0 t h.2.2) h.2.1, word_again kinds.UnknownWord (codes ")") h.2.0 t h.2.2) refl

masks_again : (s t : Left) (masks : List Prefix) → length masks ≤ 1024 → bracketed (comma_list (says mask_of) masks) s t → masks_at s ≡ Ok (sel.Masks masks, t)
unfolding masks_at
masks_again s t masks few h =
    rw (word_again kinds.UnknownWord (codes "(") s h.0 h.1, says_list_again kinds.BadAddress mask_of 1024 h.0 h.2.0 masks few (stops_at_close h.2.0 t h.2.2) h.2.1, word_again kinds.UnknownWord (codes ")") h.2.0 t h.2.2) refl

qtype_again : (s t : Left) (qtype : RecordType) → bracketed (says type_of qtype) s t → qtype_at s ≡ Ok (sel.Qtype qtype, t)
unfolding qtype_at
qtype_again s t qtype h =
    rw (word_again kinds.UnknownWord (codes "(") s h.0 h.1, type_again h.0 h.2.0 qtype h.2.1, word_again kinds.UnknownWord (codes ")") h.2.0 t h.2.2) refl

lengths_again : (s t behind : Left) (v4 v6 : ℕ) → word (codes ")") t behind → lengths v4 v6 s t → lengths_at s ≡ Ok ((v4, v6), t)
unfolding lengths_at
lengths_again s t behind v4 v6 close (inl h) =
    rw (taken_again (codes ",") s h.0 h.1, says_again kinds.BadNumber (number_up_to 10 32) h.0 h.2.0 v4 h.2.1, word_again kinds.UnknownWord (codes ",") h.2.0 h.2.2.0 h.2.2.1, says_again kinds.BadNumber (number_up_to 10 128) h.2.2.0 t v6 h.2.2.2) refl
lengths_again s t behind v4 v6 close (inr h) = rw (h.2, stops_at_close t behind close, h.0, h.1) refl

maxqps_again : (s t : Left) (qps v4 v6 : ℕ) → bracketed (says (in_range 1 1000) qps ▷ lengths v4 v6) s t → maxqps_at s ≡ Ok (sel.MaxQps qps v4 v6, t)
unfolding maxqps_at
maxqps_again s t qps v4 v6 h =
    rw (word_again kinds.UnknownWord (codes "(") s h.0 h.1, says_again kinds.BadNumber (in_range 1 1000) h.0 h.2.1.0 qps h.2.1.1, lengths_again h.2.1.0 h.2.0 t v4 v6 h.2.2 h.2.1.2, word_again kinds.UnknownWord (codes ")") h.2.0 t h.2.2) refl

behind : (depth nodes : ℕ) (s t : Left) (f : Form) → word (form_text f) s t → term_at (suc depth) (suc nodes, s) ≡ body_at (term_at depth) f (nodes, t)
unfolding term_at
behind depth nodes s t f h = rw (table_again kinds.UnknownWord form_words (form_text f) s t f (form_known f) h) refl

abbrev list_of : Selectors → List Selector
list_of end = []
list_of (more x xs) = x ∷ list_of xs

members_of_list : (xs : Selectors) → members_of (list_of xs) ≡ xs
members_of_list end = refl
members_of_list (more x xs) = ap (λ (ys : Selectors). more x ys) (members_of_list xs)

listed_more : (d : ℕ) (most : ℕ) (s t u w : State) (x : Selector) (xs : List Selector) → term_at d s ≡ Ok (x, t) → comma t ≡ (true, u) → listed (term_at d) comma left_in most u ≡ Ok (xs, w) → listed (term_at d) comma left_in (suc most) s ≡ Ok (x ∷ xs, w)
listed_more d most s t u w x xs h k l = one_more_listed (term_at d) comma left_in most s t u x h k ∙ rw l refl

listed_last : (d : ℕ) (most : ℕ) (s t : State) (x : Selector) → term_at d s ≡ Ok (x, t) → comma t ≡ (false, t) → listed (term_at d) comma left_in (suc most) s ≡ Ok (x ∷ [], t)
listed_last d most s t x h k = last_listed (term_at d) comma left_in most s t t x h k

members_again : (d n m : ℕ) (s a b t : Left) (xs : List Selector) → word (codes "(") s a → listed (term_at d) comma left_in 64 (n, a) ≡ Ok (xs, (m, b)) → word (codes ")") b t → members_at (term_at d) (n, s) ≡ Ok (xs, (m, t))
unfolding members_at
members_again d n m s a b t xs h l k = rw (word_again kinds.UnknownWord (codes "(") s a h, l, word_again kinds.UnknownWord (codes ")") b t k) refl

and_again : (d : ℕ) (s t : State) (xs : Selectors) → members_at (term_at d) s ≡ Ok (list_of xs, t) → and_at (term_at d) s ≡ Ok (sel.And xs, t)
unfolding and_at
and_again d s t xs h = rw (h, members_of_list xs) refl

or_again : (d : ℕ) (s t : State) (xs : Selectors) → members_at (term_at d) s ≡ Ok (list_of xs, t) → or_at (term_at d) s ≡ Ok (sel.Or xs, t)
unfolding or_at
or_again d s t xs h = rw (h, members_of_list xs) refl

not_again : (d n m : ℕ) (s a b t : Left) (x : Selector) → word (codes "(") s a → term_at d (n, a) ≡ Ok (x, (m, b)) → word (codes ")") b t → not_at (term_at d) (n, s) ≡ Ok (sel.Not x, (m, t))
unfolding not_at
not_again d n m s a b t x h l k = rw (word_again kinds.UnknownWord (codes "(") s a h, l, word_again kinds.UnknownWord (codes ")") b t k) refl

some_node : (x : Selector) → 1 ≤ nodes_of x
some_node sel.All = omega arith
some_node (sel.Suffix names) = omega arith
some_node (sel.Masks masks) = omega arith
some_node (sel.Qtype qtype) = omega arith
some_node (sel.And members) = omega arith
some_node (sel.Or members) = omega arith
some_node (sel.Not member) = omega arith
some_node (sel.MaxQps qps v4 v6) = omega arith

no_depth : (x : Selector) → depth_of x ≤ 0 → ⊥
no_depth sel.All h = omega arith
no_depth (sel.Suffix names) h = omega arith
no_depth (sel.Masks masks) h = omega arith
no_depth (sel.Qtype qtype) h = omega arith
no_depth (sel.And members) h = omega arith
no_depth (sel.Or members) h = omega arith
no_depth (sel.Not member) h = omega arith
no_depth (sel.MaxQps qps v4 v6) h = omega arith

one_more : (n m : ℕ) → n ≡ 1 + m → n ≡ suc m
one_more n m h = omega arith

mutual
  -- a term within the limits is read, whatever stands after it
  term_again : (x : Selector) (d n m : ℕ) (s t : Left) → term x s t → depth_of x ≤ d → n ≡ nodes_of x + m → n ≤ 64 → has_small_sets x ≡ true → term_at d (n, s) ≡ Ok (x, (m, t))
  term_again x zero n m s t h deep count fits small = absurd (no_depth x deep)
  term_again sel.All (suc d) n m s t h deep count fits small = rw (one_more n m count) (behind d m s t forms.All h)
  term_again (sel.Suffix names) (suc d) n m s t h deep count fits small = rw (one_more n m count) (behind d m s h.0 forms.Suffix h.1 ∙ rw (suffix_again h.0 t names (le_of (length names) 1024 small) h.2) refl)
  term_again (sel.Masks masks) (suc d) n m s t h deep count fits small = rw (one_more n m count) (behind d m s h.0 forms.Masks h.1 ∙ rw (masks_again h.0 t masks (le_of (length masks) 1024 small) h.2) refl)
  term_again (sel.Qtype qtype) (suc d) n m s t h deep count fits small = rw (one_more n m count) (behind d m s h.0 forms.Qtype h.1 ∙ rw (qtype_again h.0 t qtype h.2) refl)
  term_again (sel.And xs) (suc d) n m s t h deep count fits small =
      let k : n ≡ suc (nodes_in xs + m) = omega arith in
      rw k (behind d (nodes_in xs + m) s h.0 forms.And h.1
      ∙ and_again d (nodes_in xs + m, h.0) (m, t) xs (members_again d (nodes_in xs + m) m h.0 h.2.0 h.2.2.0 t (list_of xs) h.2.1
      (terms_again xs d (nodes_in xs + m) m h.2.0 h.2.2.0 t 64 h.2.2.1 (omega arith) refl (omega arith) small h.2.2.2 (omega arith)) h.2.2.2))
  term_again (sel.Or xs) (suc d) n m s t h deep count fits small =
      let k : n ≡ suc (nodes_in xs + m) = omega arith in
      rw k (behind d (nodes_in xs + m) s h.0 forms.Or h.1
      ∙ or_again d (nodes_in xs + m, h.0) (m, t) xs (members_again d (nodes_in xs + m) m h.0 h.2.0 h.2.2.0 t (list_of xs) h.2.1
      (terms_again xs d (nodes_in xs + m) m h.2.0 h.2.2.0 t 64 h.2.2.1 (omega arith) refl (omega arith) small h.2.2.2 (omega arith)) h.2.2.2))
  term_again (sel.Not x) (suc d) n m s t h deep count fits small =
      let k : n ≡ suc (nodes_of x + m) = omega arith in
      rw k (behind d (nodes_of x + m) s h.0 forms.Not h.1
      ∙ not_again d (nodes_of x + m) m h.0 h.2.0 h.2.2.0 t x h.2.1 (term_again x d (nodes_of x + m) m h.2.0 h.2.2.0 h.2.2.1 (omega arith) refl (omega arith) small) h.2.2.2)
  term_again (sel.MaxQps qps v4 v6) (suc d) n m s t h deep count fits small = rw (one_more n m count) (behind d m s h.0 forms.MaxQps h.1 ∙ rw (maxqps_again h.0 t qps v4 v6 h.2) refl)

  terms_again : (xs : Selectors) (d n m : ℕ) (s b t : Left) (most : ℕ) → terms xs s b → depth_in xs ≤ d → n ≡ nodes_in xs + m → n ≤ 64 → have_small_sets xs ≡ true → word (codes ")") b t → nodes_in xs ≤ most → listed (term_at d) comma left_in most (n, s) ≡ Ok (list_of xs, (m, b))
  terms_again end d n m s b t most h deep count fits small close few = absurd h
  terms_again (more x xs) d n m s b t most h deep count fits small close few =
      let sets = both (has_small_sets x) (have_small_sets xs) small in
      let one : term_at d (n, s) ≡ Ok (x, (nodes_in xs + m, h.0)) = term_again x d n (nodes_in xs + m) s h.0 h.1 (omega arith) (omega arith) fits sets.0 in
      after_again xs x d n m s h.0 b t most one h.2 (omega arith) (omega (arith, some_node x)) sets.1 close (omega (arith, some_node x))

  after_again : (xs : Selectors) (x : Selector) (d n m : ℕ) (s here b t : Left) (most : ℕ) → term_at d (n, s) ≡ Ok (x, (nodes_in xs + m, here)) → other_terms xs here b → depth_in xs ≤ d → nodes_in xs + m ≤ 64 → have_small_sets xs ≡ true → word (codes ")") b t → nodes_in xs + 1 ≤ most → listed (term_at d) comma left_in most (n, s) ≡ Ok (x ∷ list_of xs, (m, b))
  after_again xs x d n m s here b t zero one h deep fits small close few = absurd (omega arith)
  after_again end x d n m s here b t (suc most) one h deep fits small close few =
      let k : comma (0 + m, here) ≡ (false, (0 + m, here)) = rw (h, stops_at_close b t close) refl in
      listed_last d most (n, s) (0 + m, here) x one k ∙ rw (h, zero-add) refl
  after_again (more y ys) x d n m s here b t (suc most) one h deep fits small close few =
      let sets = both (has_small_sets y) (have_small_sets ys) small in
      let count : ℕ = nodes_of y + nodes_in ys + m in
      let k : comma (count, here) ≡ (true, (count, h.0)) = rw (taken_again (codes ",") here h.0 h.1) refl in
      let next : term_at d (count, h.0) ≡ Ok (y, (nodes_in ys + m, h.2.0)) = term_again y d count (nodes_in ys + m) h.0 h.2.0 h.2.1 (omega arith) (omega arith) (omega arith) sets.0 in
      let rest = after_again ys y d count m h.0 h.2.0 b t most next h.2.2 (omega arith) (omega (arith, some_node y)) sets.1 close (omega (arith, some_node y)) in
      listed_more d most (n, s) (count, here) (count, h.0) (m, b) x (y ∷ list_of ys) one k rest

passes : (a b c d : Bool) (x y : Selector) → (if a then Err faults.TooDeep else (if b then Err faults.TooLarge else (if c then Err faults.Empty else (if d then Err faults.BadRate else Ok x)))) ≡ Ok y → (a ≡ false) × (b ≡ false) × (c ≡ false) × (d ≡ false) × (x ≡ y)
passes true b c d x y h = absurd (cc)
passes false true c d x y h = absurd (cc)
passes false false true d x y h = absurd (cc)
passes false false false true x y h = absurd (cc)
passes false false false false x y h = (refl, refl, refl, refl, cc)

-- a term that the check passes is within the limits
within_limits : (x y : Selector) → checked_of x ≡ Ok y → (x ≡ y) × IsChecked x
within_limits x y h =
    let p = passes (nat_lt max_depth (depth_of x)) (nat_lt max_nodes (nodes_of x) || not (has_small_sets x)) (not (has_members x)) (not (has_rates x)) x y h in
    let small = neither (nat_lt max_nodes (nodes_of x)) (not (has_small_sets x)) p.1 in
    (p.4, record { depth = of_le (depth_of x) max_depth (not_over (depth_of x) max_depth p.0); nodes = of_le (nodes_of x) max_nodes (not_over (nodes_of x) max_nodes small.0); sets = not_false (has_small_sets x) small.1; members = not_false (has_members x) p.2; rates = not_false (has_rates x) p.3 })

ok_or_not : {A F : Type 0} (r : Result A F) → ((y : A) × (r ≡ Ok y)) ⊎ ((f : F) × (r ≡ Err f))
ok_or_not (Ok y) = inl (y, refl)
ok_or_not (Err f) = inr (f, refl)

check_found : (x y : Selector) (s : Left) → checked_or x s ≡ Ok y → (x ≡ y) × IsChecked x
check_found x y s h =
    elim (ok_or_not (checked_of x)) [
      | inl p ↦
          let k : ◌≡◌ {A = Result Selector CommandFault} (Ok p.0) (Ok y) = rw p.1 at h in
          let e = within_limits x p.0 p.1 in
          (e.0 ∙ ok_same p.0 y k, e.1)
      | inr p ↦ absurd (let k = rw p.1 at h in cc)
    ]

limits_pass : (x : Selector) → IsChecked x → checked_of x ≡ Ok x
limits_pass x c =
    let depth = of_not_over (depth_of x) max_depth (le_of (depth_of x) max_depth c.depth) in
    let nodes = of_not_over (nodes_of x) max_nodes (le_of (nodes_of x) max_nodes c.nodes) in
    rw (depth, nodes, c.sets, c.members, c.rates) refl

-- TERM within the limits
pub checked_found : (s t : Left) (x : Selector) → checked_at s ≡ Ok (x, t) → term x s t × IsChecked x
unfolding checked_at
checked_found s t x h =
    let a = step (term_at 16) is_term (64, s) _ (x, t) (term_found 16) h in
    let b = bind_ok (checked_or a.0 s) _ (x, t) a.3 in
    let k = check_found a.0 b.0 s b.1 in
    carried (λ (z : Selector) (u : Left). term z s u × IsChecked z) b.0 x a.1.1 t b.2 (subst (λ (z : Selector). term z s a.1.1 × IsChecked z) k.0 (a.2, k.1))

pub checked_again : (s t : Left) (x : Selector) → term x s t → IsChecked x → checked_at s ≡ Ok (x, t)
unfolding checked_at
checked_again s t x h c =
    let few : nodes_of x ≤ 64 = le_of (nodes_of x) 64 c.nodes in
    let read : term_at 16 (64, s) ≡ Ok (x, (64 - nodes_of x, t)) = term_again x 16 64 (64 - nodes_of x) s t h (le_of (depth_of x) 16 c.depth) (omega arith) (omega arith) c.sets in
    rw (read, limits_pass x c) refl
