-- The index of a set has its names, and finds what a name is under.
use Rattle.std.proofs.Common.{◌≡◌, ◌↔◌, ℕ, ◌+◌, ◌<◌, true, List, [], ◌∷◌, ◌++◌, length, get_or, take, Contains, Option, Some, None, is_some, inl, inr, refl, sym, ap, subst, ◌∙◌, arith, Decides}
use Rattle.std.proofs.lemmas.Bool.{false≢true}
use Rattle.std.proofs.lemmas.List.{get_or-map, get_or_default, length-map, map_more}
use Rattle.std.proofs.lemmas.List.Elements.{Contains-append_left, Contains-push, Contains-push_cases}
use Rattle.std.proofs.lemmas.List.Folds.{Any-from_list_any, list_any-from_Any}
use Rattle.lb_name.specs.Name.{IsUnder, lower_name}
use Rattle.lb_index_ranks.specs.Least.{IsLeastFrom}
use Rattle.lb_suffix.specs.Index.{Pair, pair_of, IsFiledOver, IsFiledWith}
use Rattle.lb_terms.specs.Sets.{is_under, in_suffixes}
use Rattle.lb_terms.specs.Names.{IsIndexOf, pairs_of}
use Rattle.lb_terms.proofs.Sets.{is_under-Decides}

-- one more of the names is filed
pub index_next : (names : List (List (List ℕ))) (i : ℕ) (name : List (List ℕ)) (old new : List Pair) → i < length names → name ≡ get_or names i name → IsFiledWith old (pair_of name 0) new → IsIndexOf (take i names) old → IsIndexOf (take (i + 1) names) new
index_next names i name old new lt is one same p =
    let front : List Pair = pairs_of (take i names) in
    let parts : pairs_of (take (i + 1) names) ≡ front ++ pair_of name 0 ∷ [] = map_more (λ m. pair_of m 0) names i name lt ∙ ap (λ (m : List (List ℕ)). front ++ pair_of m 0 ∷ []) (sym is) in
    subst (λ (pairs : List Pair). Contains new p ↔ Contains pairs p) (sym parts) (
      λ has. elim ((one p).0 has) [ inl own ↦ subst (λ (q : Pair). Contains (front ++ pair_of name 0 ∷ []) q) (sym own) (Contains-push front (pair_of name 0)) | inr was ↦ Contains-append_left front (pair_of name 0 ∷ []) p ((same p).0 was) ],
      λ has. elim (Contains-push_cases front (pair_of name 0) p has) [ inl before ↦ (one p).1 (inr ((same p).1 before)) | inr own ↦ (one p).1 (inl (sym own)) ],
    )

-- there is a least rank where there is a rank
pub some_least : (P : ℕ → Type 0) (least : Option ℕ) → IsLeastFrom P 0 least → (is_some least ≡ true) ↔ ((rank : ℕ) × P rank)
some_least P None none = (λ is. absurd (false≢true is), λ has. absurd (none has.0 (omega arith) has.1))
some_least P (Some rank) least = (λ is. (rank, least.1), λ has. refl)

-- the index finds a name exactly where it is under one of the list
pub found-Decides : (names : List (List (List ℕ))) (pairs : List Pair) (name : List (List ℕ)) → IsIndexOf names pairs → Decides (in_suffixes names name) ((rank : ℕ) × IsFiledOver pairs name rank)
found-Decides names pairs name index = (
  λ (is : in_suffixes names name ≡ true).
      let any = Any-from_list_any (is_under name) names is in
      let suffix : List (List ℕ) = any.1 in
      let lt : any.0 < length (pairs_of names) = omega (arith, any.2, length-map names (λ m. pair_of m 0)) in
      let own : get_or (pairs_of names) any.0 (pair_of suffix 0) ≡ pair_of suffix 0 = get_or-map (λ m. pair_of m 0) names any.0 suffix (pair_of suffix 0) any.2 ∙ ap (λ (m : List (List ℕ)). pair_of m 0) any.3 in
      (0, (suffix, (index (pair_of suffix 0)).1 (any.0, lt, own), (is_under-Decides name suffix).0 any.4)),
  λ (found : (rank : ℕ) × IsFiledOver pairs name rank).
      let rank : ℕ = found.0 in
      let suffix : List (List ℕ) = found.1.0 in
      let at = (index (pair_of suffix rank)).0 found.1.1 in
      let lt : at.0 < length names = omega (arith, at.1, length-map names (λ m. pair_of m 0)) in
      let here : List (List ℕ) = get_or names at.0 suffix in
      let same : pair_of here 0 ≡ pair_of suffix rank = sym (get_or-map (λ m. pair_of m 0) names at.0 suffix (pair_of suffix rank) lt) ∙ at.2 in
      let lower : lower_name here ≡ lower_name suffix = ap (λ (p : Pair). p.name) same in
      let under : IsUnder name here = (found.1.2.0, found.1.2.1 ∙ ap (λ (labels : List (List ℕ)). found.1.2.0 ++ labels) (sym lower)) in
      list_any-from_Any (is_under name) names (at.0, here, lt, get_or_default names at.0 here suffix lt, (is_under-Decides name here).1 under),
)
