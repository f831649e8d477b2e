-- The tests of names and addresses decide what they test.
use Rattle.std.proofs.Common.{◌≡◌, ℕ, ◌-◌, ◌<◌, ◌==◌, Bool, true, false, List, length, get_or, take, Decides, arith, refl, subst, sym}
use Rattle.std.specs.List.{Any, range_with_len}
use Rattle.std.proofs.lemmas.Bool.Decides.{Decides-eqb}
use Rattle.std.proofs.lemmas.Bool.{false≢true}
use Rattle.std.proofs.lemmas.List.Folds.{Any-from_list_any, list_any-from_Any}
use Rattle.std.proofs.lemmas.List.FromFn.{get_or-range_with_len, length-range_with_len}
use Rattle.std.proofs.lemmas.List.Sums.{AllPass-from_list_all, list_all-from_AllPass}
use Rattle.std.proofs.lemmas.Slice.Eq.{bytes_eq-Decides, ends_is}
use Rattle.lb_name.specs.Name.{lower_name, IsUnder}
use Rattle.lb_masks.specs.Bits.{bit_of, SameBits, OneFamily}
use Rattle.lb_masks.specs.Mask.{Prefix, Covers}
use Rattle.lb_wire.specs.declared.addr.Addr.{Addr}
use Rattle.lb_wire.specs.declared.addr.Addr.TheVariants.{V4, V6}
use Rattle.lb_terms.specs.Sets.{is_under, same_bits, same_front, covers, in_group}

-- the last labels, in lower case
pub is_under-Decides : (name suffix : List (List ℕ)) → Decides (is_under name suffix) (IsUnder name suffix)
is_under-Decides name suffix =
    let ends = ends_is bytes_eq-Decides (lower_name name) (lower_name suffix) (is_under name suffix) refl in (
      λ (is : is_under name suffix ≡ true). (take (length (lower_name name) - length (lower_name suffix)) (lower_name name), ends.0 is),
      λ (is : IsUnder name suffix). ends.1 is.0 is.1,
    )

-- the first bits
abbrev same_at : List ℕ → List ℕ → ℕ → Bool
same_at a b k = bit_of a k == bit_of b k

place : (count k d : ℕ) → k < count → get_or (range_with_len 0 count) k d ≡ k
place count k d below = omega (arith, get_or-range_with_len 0 count k d below)

same-from_test : (count : ℕ) (a b : List ℕ) → same_bits count a b ≡ true → SameBits count a b
same-from_test count a b is k below =
    let at = AllPass-from_list_all (same_at a b) (range_with_len 0 count) is k 0 (omega (arith, length-range_with_len 0 count)) in
    (Decides-eqb (bit_of a k) (bit_of b k)).0 (subst (λ (j : ℕ). same_at a b j ≡ true) (place count k 0 below) at)

test-from_same : (count : ℕ) (a b : List ℕ) → SameBits count a b → same_bits count a b ≡ true
test-from_same count a b is = list_all-from_AllPass (same_at a b) (range_with_len 0 count) (λ k d within.
    let below : k < count = omega (arith, length-range_with_len 0 count) in
    subst (λ (j : ℕ). same_at a b j ≡ true) (sym (place count k d below)) ((Decides-eqb (bit_of a k) (bit_of b k)).1 (is k below)))

-- of two addresses of one family
pub same_front-Decides : (count : ℕ) (a b : Addr) → Decides (same_front count a b) (OneFamily (SameBits count) a b)
same_front-Decides count (V4 a) (V4 b) = (same-from_test count a b, test-from_same count a b)
same_front-Decides count (V6 a) (V6 b) = (same-from_test count a b, test-from_same count a b)
same_front-Decides count (V4 a) (V6 b) = (λ (is : false ≡ true). absurd (false≢true is), λ (is : ⊥). absurd is)
same_front-Decides count (V6 a) (V4 b) = (λ (is : false ≡ true). absurd (false≢true is), λ (is : ⊥). absurd is)

pub covers-Decides : (addr : Addr) (prefix : Prefix) → Decides (covers addr prefix) (Covers prefix addr)
covers-Decides addr prefix = same_front-Decides prefix.len prefix.network addr

-- one mask of a group
pub in_group-Decides : (group : List Prefix) (addr : Addr) → Decides (in_group group addr) (Any (λ mask. Covers mask addr) group)
in_group-Decides group addr = (
  λ (is : in_group group addr ≡ true).
      let found = Any-from_list_any (covers addr) group is in
      (found.0, found.1, found.2, found.3, (covers-Decides addr found.1).0 found.4),
  λ (is : Any (λ mask. Covers mask addr) group).
      list_any-from_Any (covers addr) group (is.0, is.1, is.2, is.3, (covers-Decides addr is.1).1 is.4),
)
