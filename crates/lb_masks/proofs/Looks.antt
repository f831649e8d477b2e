-- Looks at the masks of an address, one for each kind.
use Rattle.std.proofs.Common.{◌≡◌, ℕ, zero, suc, ◌+◌, ◌<◌, ◌≤◌, List, [], ◌∷◌, length, get_or, drop, map, Contains, Option, None, inl, inr, refl, sym, ap, subst, ◌∙◌, arith}
use Rattle.std.proofs.lemmas.List.{drop_more}
use Rattle.lb_wire.specs.declared.addr.Addr.{Addr}
use Rattle.lb_masks.specs.Mask.{Prefix, width}
use Rattle.lb_index_ranks.specs.declared.filed.Filed.{Filed}
use Rattle.lb_index_ranks.specs.Filed.{filed_at, IsFiledAt}
use Rattle.lb_index_ranks.specs.Least.{IsLeastFrom, lesser_of}
use Rattle.lb_masks.specs.Index.{Pair, pair_of, shown, IsFiledCovering}
use Rattle.lb_masks.specs.Key.{IsKey, IsKeyOver, IsMask, key_of, kind_at}
use Rattle.lb_masks.specs.Kinds.{AreMarked, IsMarkOver, IsOfKind, IsOfKinds}
use Rattle.lb_masks.specs.Marks.{HasMark}
use Rattle.lb_masks.specs.declared.kinds.MaskKind.{MaskKind}
use Rattle.lb_masks.proofs.Covered.{one_mask}
use Rattle.lb_masks.proofs.Least.{least_assoc, least_both, least_none, least_same}
use Rattle.lb_masks.proofs.Marked.{has_length, mark_is}
use Rattle.lb_masks.proofs.Pairs.{Keyed, cons_cases, each_has, filed_from, has_shown, mask_from, none_there, shown_by, shown_own}

-- what is filed under the key over the address is all that is of the kind, where it has the mark of the address
pub of_kind : (items : List Filed) (addr : Addr) (kind : MaskKind) (from mark : ℕ) (key : List ℕ) (found : Option ℕ) → IsMarkOver kind.number addr mark → HasMark kind.marks mark → IsKeyOver kind.number addr key → IsLeastFrom (IsFiledAt items key) from found → IsLeastFrom (IsOfKind items addr kind) from found
of_kind items addr kind from mark key found marked has_mark over least =
    least_same (IsFiledAt items key) (IsOfKind items addr kind) from found
    (λ r has. (
      over.mask,
      over.is_mask,
      over.own,
      over.covers,
      subst (λ (k : List ℕ). IsFiledAt items k r) over.is has,
      subst (λ (m : ℕ). HasMark kind.marks m) (sym (mark_is over.mask addr kind.number mark over.is_mask over.own over.covers marked)) has_mark,
    ))
    (λ r has.
    let one : has.0 ≡ over.mask = one_mask has.0 over.mask addr has.1 over.is_mask has.3 over.covers (sym has.2 ∙ over.own) in
    subst (λ (k : List ℕ). IsFiledAt items k r) (ap key_of one ∙ sym over.is) has.4)
    least

-- and where it has not, nothing is
pub unmarked : (items : List Filed) (addr : Addr) (kind : MaskKind) (from mark : ℕ) → IsMarkOver kind.number addr mark → (HasMark kind.marks mark → ⊥) → IsLeastFrom (IsOfKind items addr kind) from None
unmarked items addr kind from mark marked none r low has =
    none (subst (λ (m : ℕ). HasMark kind.marks m) (mark_is has.0 addr kind.number mark has.1 has.2 has.3 marked) has.5)

-- nor where the kind is of the other family
pub unlike : (items : List Filed) (addr : Addr) (kind : MaskKind) (from : ℕ) → ((len : ℕ) → len ≤ width addr → kind.number ≡ kind_at addr len → ⊥) → IsLeastFrom (IsOfKind items addr kind) from None
unlike items addr kind from other r low has =
    let own = has_length has.0 addr kind.number has.1 has.2 has.3 in
    other has.0.len own.0 own.1

-- what is filed under a mask of a kind that covers the address is filed under a mask that covers it
covering_to : (items : List Filed) (addr : Addr) (kind : MaskKind) (rank : ℕ) → IsOfKind items addr kind rank → IsFiledCovering (map shown items) addr rank
covering_to items addr kind rank of =
    (of.0, subst (λ (p : Pair). Contains (map shown items) p) (shown_own of.0 rank of.1) (has_shown items (filed_at (key_of of.0) rank) of.4), of.3)

pub coverings_to : (items : List Filed) (addr : Addr) (kinds : List MaskKind) (rank : ℕ) → IsOfKinds items addr kinds rank → IsFiledCovering (map shown items) addr rank
coverings_to items addr [] rank of = absurd of
coverings_to items addr (kind ∷ kinds) rank of = elim of [ inl here ↦ covering_to items addr kind rank here | inr there ↦ coverings_to items addr kinds rank there ]

of_kinds : (items : List Filed) (addr : Addr) (kinds : List MaskKind) (kind : MaskKind) (rank : ℕ) → Contains kinds kind → IsOfKind items addr kind rank → IsOfKinds items addr kinds rank
of_kinds items addr [] kind rank has of = absurd (none_there kind has)
of_kinds items addr (k ∷ kinds) kind rank has of =
    elim (cons_cases k kinds kind has) [
      | inl same ↦ inl (subst (λ (j : MaskKind). IsOfKind items addr j rank) (sym same) of)
      | inr there ↦ inr (of_kinds items addr kinds kind rank there of)
    ]

-- and back, by the kind that has the mark of the mask
pub coverings_from : (items : List Filed) (addr : Addr) (kinds : List MaskKind) (rank : ℕ) → Keyed items → AreMarked kinds items → IsFiledCovering (map shown items) addr rank → IsOfKinds items addr kinds rank
coverings_from items addr kinds rank keyed marked over =
    let mask : Prefix = over.0 in
    let by = shown_by items (pair_of mask rank) over.1 in
    let is_key : IsKey by.filed.key = each_has (λ (f : Filed). IsKey f.key) items by.filed keyed by.has in
    let is_mask : IsMask mask = subst (λ (m : Prefix). IsMask m) (mask_from by.filed mask rank is_key by.is) is_key.is_mask in
    let has : Contains items (filed_at (key_of mask) rank) = subst (λ (f : Filed). Contains items f) (filed_from by.filed mask rank is_key by.is) by.has in
    let kind = marked mask rank is_mask has in
    of_kinds items addr kinds kind.0 rank kind.1 (mask, is_mask, kind.2, over.2, has, kind.3)

gone : (xs : List MaskKind) (i : ℕ) → length xs ≤ i → drop i xs ≡ []
gone [] zero le = refl
gone [] (suc i) le = refl
gone (x ∷ xs) zero le = absurd (omega (arith, le))
gone (x ∷ xs) (suc i) le = gone xs i (omega (arith, le))

-- whatever is the least of the kinds that are left is, with what was found, the least of all
abbrev pub Goes : List Filed → Addr → List MaskKind → List MaskKind → ℕ → Option ℕ → Type 0
Goes items addr kinds left from best = (after : Option ℕ) → IsLeastFrom (IsOfKinds items addr left) from after → IsLeastFrom (IsOfKinds items addr kinds) from (lesser_of best after)

pub kinds_more : (items : List Filed) (addr : Addr) (kinds : List MaskKind) (kind d : MaskKind) (i from : ℕ) (best here found : Option ℕ) → i < length kinds → kind ≡ get_or kinds i d → found ≡ lesser_of best here → IsLeastFrom (IsOfKind items addr kind) from here → Goes items addr kinds (drop i kinds) from best → Goes items addr kinds (drop (i + 1) kinds) from found
kinds_more items addr kinds kind d i from best here found lt is found_is h goes after least =
    let parts : drop i kinds ≡ kind ∷ drop (i + 1) kinds = drop_more kinds i d lt ∙ ap (λ (k : MaskKind). k ∷ drop (i + 1) kinds) (sym is) in
    let both : IsLeastFrom (IsOfKinds items addr (kind ∷ drop (i + 1) kinds)) from (lesser_of here after) = least_both (IsOfKind items addr kind) (IsOfKinds items addr (drop (i + 1) kinds)) from here after h least in
    subst (λ (o : Option ℕ). IsLeastFrom (IsOfKinds items addr kinds) from o) (least_assoc best here after ∙ ap (λ (o : Option ℕ). lesser_of o after) (sym found_is))
    (goes (lesser_of here after) (subst (λ (ks : List MaskKind). IsLeastFrom (IsOfKinds items addr ks) from (lesser_of here after)) (sym parts) both))

pub kinds_all : (items : List Filed) (addr : Addr) (kinds : List MaskKind) (i from : ℕ) (best : Option ℕ) → length kinds ≤ i → Goes items addr kinds (drop i kinds) from best → IsLeastFrom (IsOfKinds items addr kinds) from best
kinds_all items addr kinds i from best le goes =
    subst (λ (o : Option ℕ). IsLeastFrom (IsOfKinds items addr kinds) from o) (least_none best)
    (goes None (subst (λ (ks : List MaskKind). IsLeastFrom (IsOfKinds items addr ks) from None) (sym (gone kinds i le)) (λ r low has. has)))
