-- A code of selectors, by which a struct can be seen as one: a list of heads, each in front of those of its members.
use Rattle.std.proofs.Common.{◌≡◌, ℕ, List, [], ◌∷◌, ◌++◌, length, take, drop, refl, ap, ◌∙◌}
use Rattle.std.proofs.Math.Seq.{take-append_seam, drop-append_seam}
use Rattle.std.specs.Coded.{Coded, code_by}
use Rattle.lb_masks.specs.Mask.{Prefix}
use Rattle.lb_wire.specs.declared.record_type.RecordType.{RecordType}
use Rattle.lb_terms.specs.Selector.{Selector, All, Suffix, Masks, Qtype, And, Or, Not, MaxQps, Selectors, end, more, members_of}

-- a selector without its members, of which it has so many
pub data Head : Type 0 where
  every : Head
  names_of : List (List (List ℕ)) → Head
  masks_of : List Prefix → Head
  type_of : RecordType → Head
  all_of : ℕ → Head
  one_of : ℕ → Head
  none_of : Head
  rate_of : ℕ → ℕ → ℕ → Head

-- members as a list
abbrev pub listed : Selectors → List Selector
listed end = []
listed (more member members) = member ∷ listed members

-- the heads of a selector, in front of others
abbrev mutual
  pub heads_of : Selector → List Head → List Head
  heads_of All heads = every ∷ heads
  heads_of (Suffix names) heads = names_of names ∷ heads
  heads_of (Masks group) heads = masks_of group ∷ heads
  heads_of (Qtype qtype) heads = type_of qtype ∷ heads
  heads_of (And members) heads = all_of (length (listed members)) ∷ heads_in members heads
  heads_of (Or members) heads = one_of (length (listed members)) ∷ heads_in members heads
  heads_of (Not member) heads = none_of ∷ heads_of member heads
  heads_of (MaxQps qps v4 v6) heads = rate_of qps v4 v6 ∷ heads

  pub heads_in : Selectors → List Head → List Head
  heads_in end heads = heads
  heads_in (more member members) heads = heads_of member (heads_in members heads)

-- a head takes its members from the selectors after it
abbrev pub with_head : Head → List Selector → List Selector
with_head every terms = All ∷ terms
with_head (names_of names) terms = Suffix names ∷ terms
with_head (masks_of group) terms = Masks group ∷ terms
with_head (type_of qtype) terms = Qtype qtype ∷ terms
with_head (all_of count) terms = And (members_of (take count terms)) ∷ drop count terms
with_head (one_of count) terms = Or (members_of (take count terms)) ∷ drop count terms
with_head none_of [] = []
with_head none_of (term ∷ terms) = Not term ∷ terms
with_head (rate_of qps v4 v6) terms = MaxQps qps v4 v6 ∷ terms

-- the selectors that heads are of
abbrev pub read_heads : List Head → List Selector
read_heads [] = []
read_heads (head ∷ heads) = with_head head (read_heads heads)

-- the first of them
abbrev pub first_of : List Selector → Selector
first_of [] = All
first_of (term ∷ terms) = term

members_of-listed : (members : Selectors) → members_of (listed members) ≡ members
members_of-listed end = refl
members_of-listed (more member members) = ap (more member) (members_of-listed members)

taken : (members : Selectors) (terms : List Selector) → members_of (take (length (listed members)) (listed members ++ terms)) ≡ members
taken members terms = ap members_of (take-append_seam (listed members) terms) ∙ members_of-listed members

and_of : (members : Selectors) (terms : List Selector) → with_head (all_of (length (listed members))) (listed members ++ terms) ≡ And members ∷ terms
and_of members terms = ap (λ (front : Selectors). And front ∷ drop (length (listed members)) (listed members ++ terms)) (taken members terms) ∙ ap (λ (back : List Selector). And members ∷ back) (drop-append_seam (listed members) terms)

or_of : (members : Selectors) (terms : List Selector) → with_head (one_of (length (listed members))) (listed members ++ terms) ≡ Or members ∷ terms
or_of members terms = ap (λ (front : Selectors). Or front ∷ drop (length (listed members)) (listed members ++ terms)) (taken members terms) ∙ ap (λ (back : List Selector). Or members ∷ back) (drop-append_seam (listed members) terms)

-- the heads of a selector give it back
mutual
  pub given_back : (term : Selector) (heads : List Head) → read_heads (heads_of term heads) ≡ term ∷ read_heads heads
  given_back All heads = refl
  given_back (Suffix names) heads = refl
  given_back (Masks group) heads = refl
  given_back (Qtype qtype) heads = refl
  given_back (And members) heads = ap (with_head (all_of (length (listed members)))) (given_back_in members heads) ∙ and_of members (read_heads heads)
  given_back (Or members) heads = ap (with_head (one_of (length (listed members)))) (given_back_in members heads) ∙ or_of members (read_heads heads)
  given_back (Not member) heads = ap (with_head none_of) (given_back member heads)
  given_back (MaxQps qps v4 v6) heads = refl

  pub given_back_in : (members : Selectors) (heads : List Head) → read_heads (heads_in members heads) ≡ listed members ++ read_heads heads
  given_back_in end heads = refl
  given_back_in (more member members) heads = given_back member (heads_in members heads) ∙ ap (λ (terms : List Selector). member ∷ terms) (given_back_in members heads)

-- a selector is stored as its heads
abbrev pub selector_code : Coded (List Head) → Coded Selector
selector_code code = code_by (List Head) code (λ term. heads_of term []) (λ heads. first_of (read_heads heads)) (λ term. ap first_of (given_back term []))
