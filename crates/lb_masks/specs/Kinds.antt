-- The kinds of mask that are in use.
use Rattle.std.specs.Prelude.{◌≡◌, ◌⊎◌, ◌↔◌, ℕ, ◌≤◌, nat_eq, List, [], ◌∷◌, Contains, map}
use Rattle.std.specs.List.{IsDistinct}
use Rattle.lb_wire.specs.declared.addr.Addr.{Addr}
use Rattle.lb_masks.specs.Mask.{Prefix, Covers, width}
use Rattle.lb_index_ranks.specs.declared.filed.Filed.{Filed}
use Rattle.lb_index_ranks.specs.Filed.{filed_at, IsFiledAt}
use Rattle.lb_masks.specs.Bits.{octets_of}
use Rattle.lb_masks.specs.Key.{HasOctets, IsMask, kind_at, key_of}
use Rattle.lb_masks.specs.Marks.{mark_at, HasMark}
use Rattle.lb_masks.specs.declared.kinds.MaskKind.{MaskKind}

-- the numbers of kinds
abbrev pub numbers : List MaskKind → List ℕ
numbers kinds = map (λ k. k.number) kinds

-- a rank is filed under a key of this kind
abbrev pub HasKind : List Filed → ℕ → Type 0
HasKind items kind = (octets : List ℕ) × (rank : ℕ) × Contains items (filed_at (kind ∷ octets) rank)

-- the kinds are those of the keys under which ranks are filed, and no others, each once
pub record AreInUse (kinds : List ℕ) (items : List Filed) : Type 0 where
  pub filed : (kind : ℕ) → Contains kinds kind ↔ HasKind items kind
  pub once : IsDistinct nat_eq kinds

-- the mark of a mask's network
abbrev pub mark_of : Prefix → ℕ
mark_of mask = mark_at mask.len (octets_of mask.network)

-- one of the kinds has this number and this mark
abbrev pub HasMarked : List MaskKind → ℕ → ℕ → Type 0
HasMarked kinds number mark = (k : MaskKind) × Contains kinds k × (k.number ≡ number) × HasMark k.marks mark

-- the kind has the mark now, and all kinds have the marks that they had
pub record IsNoted (old : List MaskKind) (number mark : ℕ) (new : List MaskKind) : Type 0 where
  pub own : HasMarked new number mark
  pub kept : (n m : ℕ) → HasMarked old n m → HasMarked new n m

-- all kinds have the marks that they had, but for one of which no rank is filed
abbrev pub KeepsMarks : List MaskKind → ℕ → List Filed → List MaskKind → Type 0
KeepsMarks old number items new = (n m : ℕ) → ((n ≡ number → ⊥) ⊎ HasKind items number) → HasMarked old n m → HasMarked new n m

-- each mask under which a rank is filed has its mark at its kind
abbrev pub AreMarked : List MaskKind → List Filed → Type 0
AreMarked kinds items = (mask : Prefix) (rank : ℕ) → IsMask mask → IsFiledAt items (key_of mask) rank → HasMarked kinds (kind_at mask.network mask.len) (mark_of mask)

-- the mark is that of the network of the address under the length of this kind
pub record IsMarkOver (number : ℕ) (addr : Addr) (mark : ℕ) : Type 0 where
  pub len : ℕ
  pub within : len ≤ width addr
  pub own : number ≡ kind_at addr len
  pub octets : HasOctets addr
  pub is : mark ≡ mark_at len (octets_of addr)

-- the rank is filed under a mask of this kind, and with a mark of it, that covers the address
abbrev pub IsOfKind : List Filed → Addr → MaskKind → ℕ → Type 0
IsOfKind items addr kind rank =
    (mask : Prefix) × IsMask mask × (kind.number ≡ kind_at mask.network mask.len) × Covers mask addr × IsFiledAt items (key_of mask) rank × HasMark kind.marks (mark_of mask)

-- or of one of these kinds
abbrev pub IsOfKinds : List Filed → Addr → List MaskKind → ℕ → Type 0
IsOfKinds items addr [] rank = ⊥
IsOfKinds items addr (kind ∷ kinds) rank = IsOfKind items addr kind rank ⊎ IsOfKinds items addr kinds rank
