-- The index of a group has its masks, and finds what covers an address.
use Rattle.std.proofs.Common.{◌≡◌, ◌↔◌, ℕ, ◌+◌, ◌<◌, true, IfSome, List, [], ◌∷◌, ◌++◌, length, get_or, take, Contains, Option, Some, None, is_some, inl, inr, refl, sym, ap, subst, ◌∙◌, arith}
use Rattle.std.specs.List.{Any}
use Rattle.std.proofs.lemmas.Bool.{false≢true}
use Rattle.std.proofs.lemmas.List.{get_or-map, length-map, map_more}
use Rattle.std.proofs.lemmas.List.Elements.{Contains-append_left, Contains-push, Contains-push_cases}
use Rattle.lb_wire.specs.declared.addr.Addr.{Addr}
use Rattle.lb_index_ranks.specs.Least.{IsLeastFrom}
use Rattle.lb_masks.specs.Mask.{Prefix, Covers}
use Rattle.lb_masks.specs.Index.{Pair, pair_of, IsFiledCovering, IsFiledWith}
use Rattle.lb_masks.specs.Group.{IsIndexOf, pairs_of}

-- one more of the masks is filed
pub index_next : (masks : List Prefix) (i : ℕ) (mask : Prefix) (old new : List Pair) → i < length masks → mask ≡ get_or masks i mask → IsFiledWith old (pair_of mask 0) new → IsIndexOf (take i masks) old → IsIndexOf (take (i + 1) masks) new
index_next masks i mask old new lt is one same p =
    let front : List Pair = pairs_of (take i masks) in
    let parts : pairs_of (take (i + 1) masks) ≡ front ++ pair_of mask 0 ∷ [] = map_more (λ m. pair_of m 0) masks i mask lt ∙ ap (λ (m : Prefix). front ++ pair_of m 0 ∷ []) (sym is) in
    subst (λ (pairs : List Pair). Contains new p ↔ Contains pairs p) (sym parts) (
      λ has. elim ((one p).0 has) [ inl own ↦ subst (λ (q : Pair). Contains (front ++ pair_of mask 0 ∷ []) q) (sym own) (Contains-push front (pair_of mask 0)) | inr was ↦ Contains-append_left front (pair_of mask 0 ∷ []) p ((same p).0 was) ],
      λ has. elim (Contains-push_cases front (pair_of mask 0) p has) [ inl before ↦ (one p).1 (inr ((same p).1 before)) | inr own ↦ (one p).1 (inl (sym own)) ],
    )

-- there is a least rank where there is a rank
pub some_least : (P : ℕ → Type 0) (least : Option ℕ) → IsLeastFrom P 0 least → (is_some least ≡ true) ↔ ((rank : ℕ) × P rank)
some_least P None none = (λ is. absurd (false≢true is), λ has. absurd (none has.0 (omega arith) has.1))
some_least P (Some rank) least = (λ is. (rank, least.1), λ has. refl)

-- what covers an address by the index covers it by the list
pub index_covers : (masks : List Prefix) (pairs : List Pair) (addr : Addr) → IsIndexOf masks pairs → ((rank : ℕ) × IsFiledCovering pairs addr rank) ↔ Any (λ mask. Covers mask addr) masks
index_covers masks pairs addr index = (
  λ found.
      let rank : ℕ = found.0 in
      let mask : Prefix = found.1.0 in
      let at = (index (pair_of mask rank)).0 found.1.1 in
      let lt : at.0 < length masks = omega (arith, at.1, length-map masks (λ m. pair_of m 0)) in
      let same : pair_of (get_or masks at.0 mask) 0 ≡ pair_of mask rank = sym (get_or-map (λ m. pair_of m 0) masks at.0 mask (pair_of mask rank) lt) ∙ at.2 in
      (at.0, mask, lt, ap (λ (p : Pair). p.mask) same, found.1.2),
  λ any.
      let mask : Prefix = any.1 in
      let lt : any.0 < length (pairs_of masks) = omega (arith, any.2, length-map masks (λ m. pair_of m 0)) in
      let is : get_or (pairs_of masks) any.0 (pair_of mask 0) ≡ pair_of mask 0 = get_or-map (λ m. pair_of m 0) masks any.0 mask (pair_of mask 0) any.2 ∙ ap (λ (m : Prefix). pair_of m 0) any.3 in
      (0, (mask, (index (pair_of mask 0)).1 (any.0, lt, is), any.4)),
)

-- an index that is kept is still that of the masks
pub kept_is_index : (slice masks : List Prefix) (index : List Pair) (kept : Option (List Pair)) → slice ≡ masks → IsIndexOf slice index → IfSome kept (λ pairs. pairs ≡ index) → IfSome kept (IsIndexOf masks)
kept_is_index slice masks index None is of same = tt
kept_is_index slice masks index (Some pairs) is of same = subst (λ (those : List Prefix). IsIndexOf those pairs) is (subst (λ (ps : List Pair). IsIndexOf slice ps) (sym same) of)
