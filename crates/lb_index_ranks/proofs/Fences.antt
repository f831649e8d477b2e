-- The front of a chunk's last pair tells where the chunk ends.
use Rattle.std.proofs.Common.{◌≡◌, false, Bool, not, ℕ, ◌-◌, ◌<◌, List, [], ◌∷◌, length, get_or, drop, slice_get, option_map, Some, ◌==◌, refl, sym, ap, ◌∙◌, arith}
use Rattle.std.specs.Cmp.Lexicographic.{slice_cmp}
use Rattle.std.specs.Ordering.{nat_cmp, ordering_then, is_lt}
use Rattle.std.specs.declared.cmp.Ordering.{Ordering}
use Rattle.std.specs.declared.cmp.Ordering.TheVariants.{Less, Equal, Greater}
use Rattle.std.proofs.lemmas.Bool.{ne_eqb}
use Rattle.std.proofs.lemmas.Option.{slice_get-get_or, slice_get_read}
use Rattle.lb_index_ranks.specs.declared.filed.Filed.{Filed}
use Rattle.lb_index_ranks.specs.declared.front.Front.{Front}
use Rattle.lb_index_ranks.specs.Chunk.{ends_before, IsFence}
use Rattle.lb_index_ranks.specs.Filed.{filed_cmp}
use Rattle.lb_index_ranks.specs.Front.{front_cmp, front_of_key, AreOctets}
use Rattle.lb_index_ranks.proofs.Order.{not_own}
use Rattle.lb_index_ranks.proofs.Packing.{key_order, then_other}

-- where two fronts differ, their pairs stand in the order of the fronts
fronts_tell : (f at : Filed) (o : Ordering) → AreOctets f.key → AreOctets at.key → front_cmp (front_of_key f.key) (front_of_key at.key) ≡ o → (o ≡ Equal → ⊥) → filed_cmp f at ≡ o
fronts_tell f at o own other is differ =
    let rest : Ordering = slice_cmp nat_cmp (drop 23 f.key) (drop 23 at.key) in
    let keys : slice_cmp nat_cmp f.key at.key ≡ o = key_order f.key at.key own other ∙ ap (λ (x : Ordering). ordering_then x rest) is ∙ then_other o rest differ in
    ap (λ (x : Ordering). ordering_then x (nat_cmp f.rank at.rank)) keys ∙ then_other o (nat_cmp f.rank at.rank) differ

-- so a fence tells whether the chunk ends before a pair
fence_tells : (fence : Front) (items : List Filed) (at : Filed) (o : Ordering) → IsFence fence items → AreOctets at.key → 0 < length items → front_cmp fence (front_of_key at.key) ≡ o → (o ≡ Equal → ⊥) → ends_before at items ≡ is_lt o
fence_tells fence items at o is_fence octets filled is differ =
    let last : Filed = get_or items (length items - 1) at in
    let own = is_fence last (slice_get-get_or items (length items - 1) at (omega (arith, filled))) in
    ap is_lt (fronts_tell last at o own.1 octets (ap (λ (x : Front). front_cmp x (front_of_key at.key)) (sym own.0) ∙ is) differ)

-- the chunk ends before the pair where its fence stands before the pair's front and it has pairs
pub fence_less : (fence : Front) (items : List Filed) (at : Filed) (empty : Bool) → IsFence fence items → AreOctets at.key → front_cmp fence (front_of_key at.key) ≡ Less → empty ≡ (length items == 0) → not empty ≡ ends_before at items
fence_less fence [] at empty is_fence octets is none = ap not none ∙ sym (not_own at)
fence_less fence (x ∷ xs) at empty is_fence octets is none =
    let some : (length (x ∷ xs) == 0) ≡ false = ne_eqb (length (x ∷ xs)) 0 (λ same. absurd (omega (arith, same))) in
    ap not (none ∙ some) ∙ sym (fence_tells fence (x ∷ xs) at Less is_fence octets (omega arith) is (λ same. absurd (cc)))

-- and it does not where its fence stands after
pub fence_greater : (fence : Front) (items : List Filed) (at : Filed) → IsFence fence items → AreOctets at.key → front_cmp fence (front_of_key at.key) ≡ Greater → false ≡ ends_before at items
fence_greater fence [] at is_fence octets is = sym (not_own at)
fence_greater fence (x ∷ xs) at is_fence octets is = sym (fence_tells fence (x ∷ xs) at Greater is_fence octets (omega arith) is (λ same. absurd (cc)))

-- the rank of the pair at a place
pub rank_at : (items : List Filed) (place rank : ℕ) (f : Filed) → place < length items → f ≡ get_or items place f → rank ≡ f.rank → option_map (λ (g : Filed). g.rank) (slice_get items place) ≡ Some rank
rank_at items place rank f lt is told =
    let here : slice_get items place ≡ Some f = slice_get_read items (length items) place f refl lt is in
    ap (option_map (λ (g : Filed). g.rank)) here ∙ ap Some (sym told)
