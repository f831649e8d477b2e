-- Kinds with the marks of the masks under which ranks are filed.
use Rattle.std.proofs.Common.{◌≡◌, ◌⊎◌, true, Bool, not, ◌==◌, ℕ, zero, suc, ◌*◌, ◌/◌, ◌%◌, ◌<◌, ◌≤◌, List, [], ◌∷◌, ◌++◌, length, get_or, set, take, filter, Contains, inl, inr, refl, sym, ap, subst, ◌∙◌, arith}
use Rattle.std.proofs.lemmas.Bool.{cases_Bool, cases_eq}
use Rattle.std.proofs.lemmas.List.{get_or-set_other, get_or-set_same, length-set}
use Rattle.lb_wire.specs.declared.addr.Addr.{Addr}
use Rattle.lb_wire.specs.declared.addr.Addr.TheVariants.{V4, V6}
use Rattle.lb_index_ranks.specs.declared.filed.Filed.{Filed}
use Rattle.lb_index_ranks.specs.Filed.{filed_at, HasBesides, HasBut}
use Rattle.lb_masks.specs.Bits.{octets_of, kept_octet, OneFamily, SameBits}
use Rattle.lb_masks.specs.Key.{HasOctets, IsMask, key_of, kind_at, mask_of}
use Rattle.lb_masks.specs.Kinds.{mark_of, numbers, AreMarked, HasKind, HasMarked, IsMarkOver, IsNoted, KeepsMarks}
use Rattle.lb_masks.specs.Marks.{mark_at, HasMark}
use Rattle.lb_masks.specs.Mask.{Covers, Prefix, width}
use Rattle.lb_masks.specs.declared.kinds.MaskKind.{MaskKind}
use Rattle.lb_masks.proofs.Covered.{mask_of-key, one_family, one_length}
use Rattle.lb_masks.proofs.InUse.{is_other}
use Rattle.lb_masks.proofs.KeepsBits.{front_same, kept_there}
use Rattle.lb_masks.proofs.Pairs.{cons_cases, cons_here, cons_there, none_there}

-- octets with the same first so many bits have one mark
same_mark : (len : ℕ) (a b : List ℕ) → len ≤ 8 * length a → len ≤ 8 * length b → ((i : ℕ) → get_or a i 0 < 256) → ((i : ℕ) → get_or b i 0 < 256) → SameBits len a b → mark_at len a ≡ mark_at len b
same_mark len a b within_a within_b small_a small_b same =
    let front : take (len / 8) a ≡ take (len / 8) b = front_same len (len / 8) a b (omega arith) (omega (arith, within_a)) (omega (arith, within_b)) small_a small_b same in
    let last : kept_octet (len % 8) (get_or a (len / 8) 0) ≡ kept_octet (len % 8) (get_or b (len / 8) 0) = kept_there len (len / 8) (len % 8) a b (omega arith) (omega arith) small_a small_b same in
    rw (front, last) refl

same_mark_over : (len : ℕ) (network addr : Addr) → len ≤ width addr → HasOctets network → HasOctets addr → OneFamily (SameBits len) network addr → mark_at len (octets_of network) ≡ mark_at len (octets_of addr)
same_mark_over len (V4 a) (V4 b) within own_a own_b same = same_mark len a b (omega (arith, own_a.sized, within)) (omega (arith, own_b.sized, within)) own_a.small own_b.small same
same_mark_over len (V6 a) (V6 b) within own_a own_b same = same_mark len a b (omega (arith, own_a.sized, within)) (omega (arith, own_b.sized, within)) own_a.small own_b.small same
same_mark_over len (V4 a) (V6 b) within own_a own_b same = absurd same
same_mark_over len (V6 a) (V4 b) within own_a own_b same = absurd same

-- the mark of a mask that covers an address is that of the address at the mask's kind
pub mark_is : (mask : Prefix) (addr : Addr) (number mark : ℕ) → IsMask mask → number ≡ kind_at mask.network mask.len → Covers mask addr → IsMarkOver number addr mark → mark_of mask ≡ mark
mark_is mask addr number mark is_mask own covers over =
    let len : mask.len ≡ over.len = one_length addr mask.len over.len (sym (one_family (SameBits mask.len) mask.network addr covers mask.len).1 ∙ sym own ∙ over.own) in
    let within : mask.len ≤ width addr = omega (arith, len, over.within) in
    same_mark_over mask.len mask.network addr within is_mask.octets over.octets covers ∙ ap (λ (n : ℕ). mark_at n (octets_of addr)) len ∙ sym over.is

-- a mask that covers an address has a length of its kind
pub has_length : (mask : Prefix) (addr : Addr) (number : ℕ) → IsMask mask → number ≡ kind_at mask.network mask.len → Covers mask addr → (mask.len ≤ width addr) × (number ≡ kind_at addr mask.len)
has_length mask addr number is_mask own covers =
    let family = one_family (SameBits mask.len) mask.network addr covers mask.len in
    (omega (arith, family.0, is_mask.is_prefix.within), own ∙ family.1)

get_or_any : (kinds : List MaskKind) (i : ℕ) (d e : MaskKind) → i < length kinds → get_or kinds i d ≡ get_or kinds i e
get_or_any [] i d e lt = absurd (omega (arith, lt))
get_or_any (k ∷ kinds) zero d e lt = refl
get_or_any (k ∷ kinds) (suc i) d e lt = get_or_any kinds i d e (omega (arith, lt))

-- where one of the kinds stays, it is among them still
pub has_set : (kinds : List MaskKind) (place : ℕ) (d k new : MaskKind) → place < length kinds → Contains kinds k → (k ≡ get_or kinds place d) ⊎ Contains (set kinds place new) k
has_set kinds place d k new lt has =
    elim (cases_eq has.0 place) [
      | inl same ↦ inl (sym has.2 ∙ ap (λ (i : ℕ). get_or kinds i k) same ∙ get_or_any kinds place k d lt)
      | inr other ↦ inr (has.0, subst (λ (n : ℕ). has.0 < n) (sym (length-set kinds place new)) has.1, get_or-set_other kinds place has.0 new k other ∙ has.2)
    ]

pub set_has : (kinds : List MaskKind) (place : ℕ) (new : MaskKind) → place < length kinds → Contains (set kinds place new) new
set_has kinds place new lt = (place, subst (λ (n : ℕ). place < n) (sym (length-set kinds place new)) lt, get_or-set_same kinds place new new lt)

pub push_has : (kinds : List MaskKind) (k : MaskKind) → Contains (kinds ++ k ∷ []) k
push_has [] k = cons_here k []
push_has (j ∷ kinds) k = cons_there j (kinds ++ k ∷ []) k (push_has kinds k)

pub push_kept : (kinds : List MaskKind) (k j : MaskKind) → Contains kinds j → Contains (kinds ++ k ∷ []) j
push_kept [] k j has = absurd (none_there j has)
push_kept (i ∷ kinds) k j has =
    elim (cons_cases i kinds j has) [
      | inl same ↦ subst (λ (x : MaskKind). Contains (i ∷ (kinds ++ k ∷ [])) x) same (cons_here i (kinds ++ k ∷ []))
      | inr there ↦ cons_there i (kinds ++ k ∷ []) j (push_kept kinds k j there)
    ]

-- a mark is put to a kind that is there
pub noted_there : (kinds : List MaskKind) (place number mark : ℕ) (d k : MaskKind) → place < length kinds → k.number ≡ (get_or kinds place d).number → k.number ≡ number → HasMark k.marks mark → ((m : ℕ) → HasMark (get_or kinds place d).marks m → HasMark k.marks m) → IsNoted kinds number mark (set kinds place k)
noted_there kinds place number mark d k lt same is own kept = record {
  own = (k, set_has kinds place k lt, is, own);
  kept = λ n m has.
      elim (has_set kinds place d has.0 k lt has.1) [
        | inl here ↦ (k, set_has kinds place k lt, same ∙ ap (λ (x : MaskKind). x.number) (sym here) ∙ has.2, kept m (subst (λ (x : MaskKind). HasMark x.marks m) here has.3))
        | inr there ↦ (has.0, there, has.2, has.3)
      ];
}

-- or to one that is put after the others
pub noted_new : (kinds : List MaskKind) (number mark : ℕ) (k : MaskKind) → k.number ≡ number → HasMark k.marks mark → IsNoted kinds number mark (kinds ++ k ∷ [])
noted_new kinds number mark k is own = record { own = (k, push_has kinds k, is, own); kept = λ n m has. (has.0, push_kept kinds k has.0 has.1, has.2, has.3) }

filter_kept : (p : MaskKind → Bool) (kinds : List MaskKind) (k : MaskKind) → p k ≡ true → Contains kinds k → Contains (filter p kinds) k
filter_kept p [] k is has = absurd (none_there k has)
filter_kept p (j ∷ kinds) k is has =
    elim (cons_cases j kinds k has) [
      | inl same ↦
          let here : p j ≡ true = ap p same ∙ is in
          rw here (subst (λ (x : MaskKind). Contains (j ∷ filter p kinds) x) same (cons_here j (filter p kinds)))
      | inr there ↦
          let rest = filter_kept p kinds k is there in
          elim (cases_Bool (p j)) [ inl here ↦ rw here (cons_there j (filter p kinds) k rest) | inr other ↦ rw other rest ]
    ]

-- a kind of which no rank is filed is taken out
pub marks_left : (kinds less : List MaskKind) (number : ℕ) (items : List Filed) → less ≡ filter (λ k. not (k.number == number)) kinds → (HasKind items number → ⊥) → KeepsMarks kinds number items less
marks_left kinds less number items is none n m used has =
    let other : n ≡ number → ⊥ = λ same. elim used [ inl differs ↦ differs same | inr some ↦ none some ] in
    let stays : not (has.0.number == number) ≡ true = is_other has.0.number number (λ same. other (sym has.2 ∙ same)) in
    (has.0, subst (λ (ks : List MaskKind). Contains ks has.0) (sym is) (filter_kept (λ k. not (k.number == number)) kinds has.0 stays has.1), has.2, has.3)

-- the numbers of the kinds that are left
pub numbers_left : (number : ℕ) (kinds : List MaskKind) → numbers (filter (λ k. not (k.number == number)) kinds) ≡ filter (λ k. not (k == number)) (numbers kinds)
numbers_left number [] = refl
numbers_left number (k ∷ kinds) =
    elim (cases_Bool (not (k.number == number))) [
      | inl is ↦ rw is (ap (λ (ks : List ℕ). k.number ∷ ks) (numbers_left number kinds))
      | inr is ↦ rw is (numbers_left number kinds)
    ]

pub marked_none : AreMarked [] []
marked_none mask rank is_mask has = absurd (none_there (filed_at (key_of mask) rank) has)

-- a rank is filed under a mask, and its mark noted
pub marked_besides : (kinds more : List MaskKind) (old new : List Filed) (mask : Prefix) (rank : ℕ) → IsMask mask → AreMarked kinds old → IsNoted kinds (kind_at mask.network mask.len) (mark_of mask) more → HasBesides old (filed_at (key_of mask) rank) new → AreMarked more new
marked_besides kinds more old new mask rank is_mask marked noted has_besides other r is_other has =
    elim ((has_besides (filed_at (key_of other) r)).0 has) [
      | inl same ↦
          let one : other ≡ mask = sym (mask_of-key other is_other) ∙ ap (λ (f : Filed). mask_of f.key) same ∙ mask_of-key mask is_mask in
          subst (λ (m : Prefix). HasMarked more (kind_at m.network m.len) (mark_of m)) (sym one) noted.own
      | inr there ↦ noted.kept (kind_at other.network other.len) (mark_of other) (marked other r is_other there)
    ]

own_kind : (items : List Filed) (mask : Prefix) (rank : ℕ) → Contains items (filed_at (key_of mask) rank) → HasKind items (kind_at mask.network mask.len)
own_kind items mask rank has = (octets_of mask.network, rank, has)

still_used : (items : List Filed) (mask : Prefix) (rank number : ℕ) → Contains items (filed_at (key_of mask) rank) → (kind_at mask.network mask.len ≡ number → ⊥) ⊎ HasKind items number
still_used items mask rank number has =
    elim (cases_eq (kind_at mask.network mask.len) number) [
      | inl same ↦ inr (subst (λ (n : ℕ). HasKind items n) same (own_kind items mask rank has))
      | inr other ↦ inl other
    ]

-- one is taken out
pub marked_but : (kinds less : List MaskKind) (old new : List Filed) (number : ℕ) (filed : Filed) → AreMarked kinds old → KeepsMarks kinds number new less → HasBut old filed new → AreMarked less new
marked_but kinds less old new number filed marked kept has_but mask rank is_mask has =
    kept (kind_at mask.network mask.len) (mark_of mask) (still_used new mask rank number has) (marked mask rank is_mask ((has_but (filed_at (key_of mask) rank)).0 has).1)

-- a mark is noted for a pair that is refused
pub marked_again : (kinds more less : List MaskKind) (items : List Filed) (number mark : ℕ) → AreMarked kinds items → IsNoted kinds number mark more → KeepsMarks more number items less → AreMarked less items
marked_again kinds more less items number mark marked noted kept mask rank is_mask has =
    kept (kind_at mask.network mask.len) (mark_of mask) (still_used items mask rank number has)
    (noted.kept (kind_at mask.network mask.len) (mark_of mask) (marked mask rank is_mask has))
