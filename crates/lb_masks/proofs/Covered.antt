-- The masks that cover an address, and their keys.
use Rattle.std.proofs.Common.{◌≡◌, true, false, ℕ, ◌+◌, ◌-◌, ◌*◌, ◌/◌, ◌%◌, ◌<◌, ◌≤◌, nat_lt, List, ◌∷◌, length, get_or, inl, inr, refl, sym, ap, subst, ◌∙◌, arith}
use Rattle.std.proofs.lemmas.Bool.{cases_lt}
use Rattle.std.proofs.lemmas.Bool.Decides.{nat_tests}
use Rattle.std.proofs.lemmas.List.{ext_get_or}
use Rattle.std.proofs.lemmas.Nat.Bits.{same_from_bits_below}
use Rattle.std.specs.Int.{bit_at}
use Rattle.lb_wire.specs.declared.addr.Addr.{Addr}
use Rattle.lb_wire.specs.declared.addr.Addr.TheVariants.{V4, V6}
use Rattle.lb_masks.specs.Bits.{octets_of, bit_of, KeepsBits, OneFamily, SameBits}
use Rattle.lb_masks.specs.Mask.{Prefix, Covers, width}
use Rattle.lb_masks.specs.Key.{HasOctets, IsKey, IsKeyOver, IsMask, key_of, kind_at, mask_of}

-- the bit at a place of an octet
bit_there : (octets : List ℕ) (i j : ℕ) → j < 8 → bit_of octets (8 * i + (7 - j)) ≡ bit_at (get_or octets i 0) j
bit_there octets i j lt =
    let octet : (8 * i + (7 - j)) / 8 ≡ i = omega (arith, lt) in
    let place : 7 - (8 * i + (7 - j)) % 8 ≡ j = omega (arith, lt) in
    ap (λ (n : ℕ). bit_at (get_or octets n 0) (7 - (8 * i + (7 - j)) % 8)) octet ∙ ap (λ (n : ℕ). bit_at (get_or octets i 0) n) place

-- octets with the same bits are the same
octets_same : (a b : List ℕ) → length a ≡ length b → ((i : ℕ) → get_or a i 0 < 256) → ((i : ℕ) → get_or b i 0 < 256) → ((k : ℕ) → bit_of a k ≡ bit_of b k) → a ≡ b
octets_same a b len small_a small_b same =
    ext_get_or 0 a b len
    (λ i lt. same_from_bits_below 8 (get_or a i 0) (get_or b i 0) (small_a i) (small_b i) (λ j below. sym (bit_there a i j below) ∙ same (8 * i + (7 - j)) ∙ bit_there b i j below))

-- octets with the same first bits and none past them are the same
front_same : (count : ℕ) (a b c : List ℕ) → length a ≡ length b → ((i : ℕ) → get_or a i 0 < 256) → ((i : ℕ) → get_or b i 0 < 256) → SameBits count a c → SameBits count b c → ((k : ℕ) → count ≤ k → bit_of a k ≡ 0) → ((k : ℕ) → count ≤ k → bit_of b k ≡ 0) → a ≡ b
front_same count a b c len small_a small_b same_a same_b cleared_a cleared_b =
    octets_same a b len small_a small_b (λ k. elim (cases_lt k count) [ inl below ↦ same_a k below ∙ sym (same_b k below) | inr over ↦ cleared_a k over ∙ sym (cleared_b k over) ])

networks_same : (len : ℕ) (a b addr : Addr) → HasOctets a → HasOctets b → OneFamily (SameBits len) a addr → OneFamily (SameBits len) b addr → ((k : ℕ) → len ≤ k → bit_of (octets_of a) k ≡ 0) → ((k : ℕ) → len ≤ k → bit_of (octets_of b) k ≡ 0) → a ≡ b
networks_same len (V4 a) (V4 b) (V4 c) own_a own_b same_a same_b cleared_a cleared_b =
    ap (λ (o : List ℕ). V4 o) (front_same len a b c (omega (arith, own_a.sized, own_b.sized)) own_a.small own_b.small same_a same_b cleared_a cleared_b)
networks_same len (V6 a) (V6 b) (V6 c) own_a own_b same_a same_b cleared_a cleared_b =
    ap (λ (o : List ℕ). V6 o) (front_same len a b c (omega (arith, own_a.sized, own_b.sized)) own_a.small own_b.small same_a same_b cleared_a cleared_b)
networks_same len (V4 a) b (V6 c) own_a own_b same_a same_b cleared_a cleared_b = absurd same_a
networks_same len (V6 a) b (V4 c) own_a own_b same_a same_b cleared_a cleared_b = absurd same_a
networks_same len (V4 a) (V6 b) (V4 c) own_a own_b same_a same_b cleared_a cleared_b = absurd same_b
networks_same len (V6 a) (V4 b) (V6 c) own_a own_b same_a same_b cleared_a cleared_b = absurd same_b

-- a mask that covers an address is of its family
pub one_family : (P : List ℕ → List ℕ → Type 0) (network addr : Addr) → OneFamily P network addr → (len : ℕ) → (width network ≡ width addr) × (kind_at network len ≡ kind_at addr len)
one_family P (V4 a) (V4 b) same len = (refl, refl)
one_family P (V6 a) (V6 b) same len = (refl, refl)
one_family P (V4 a) (V6 b) same len = absurd same
one_family P (V6 a) (V4 b) same len = absurd same

-- kinds tell lengths apart
pub one_length : (addr : Addr) (m n : ℕ) → kind_at addr m ≡ kind_at addr n → m ≡ n
one_length (V4 octets) m n is = is
one_length (V6 octets) m n is = omega (arith, is)

-- so one mask of a kind covers an address
pub one_mask : (a b : Prefix) (addr : Addr) → IsMask a → IsMask b → Covers a addr → Covers b addr → kind_at a.network a.len ≡ kind_at b.network b.len → a ≡ b
one_mask a b addr is_a is_b covers_a covers_b kinds =
    let len : a.len ≡ b.len = one_length addr a.len b.len (sym (one_family (SameBits a.len) a.network addr covers_a a.len).1 ∙ kinds ∙ (one_family (SameBits b.len) b.network addr covers_b b.len).1) in
    let covers : OneFamily (SameBits b.len) a.network addr = subst (λ (n : ℕ). OneFamily (SameBits n) a.network addr) len covers_a in
    let network : a.network ≡ b.network = networks_same b.len a.network b.network addr is_a.octets is_b.octets covers covers_b (λ k le. is_a.is_prefix.cleared k (omega (arith, le, len))) is_b.is_prefix.cleared in
    ap (λ (x : Addr). record { network = x; len = a.len }) network ∙ ap (λ (n : ℕ). record { network = b.network; len = n }) len

covers_own : (len : ℕ) (addr network : Addr) → OneFamily (KeepsBits len) addr network → OneFamily (SameBits len) network addr
covers_own len (V4 a) (V4 b) keeps = λ k lt. sym (keeps.kept k lt)
covers_own len (V6 a) (V6 b) keeps = λ k lt. sym (keeps.kept k lt)
covers_own len (V4 a) (V6 b) keeps = absurd keeps
covers_own len (V6 a) (V4 b) keeps = absurd keeps

cleared_own : (len : ℕ) (addr network : Addr) → OneFamily (KeepsBits len) addr network → (k : ℕ) → len ≤ k → bit_of (octets_of network) k ≡ 0
cleared_own len (V4 a) (V4 b) keeps = keeps.cleared
cleared_own len (V6 a) (V6 b) keeps = keeps.cleared
cleared_own len (V4 a) (V6 b) keeps = absurd keeps
cleared_own len (V6 a) (V4 b) keeps = absurd keeps

-- an address with its first bits alone is the network of a mask that covers it
pub key_over : (kind len : ℕ) (addr network : Addr) (key : List ℕ) → kind ≡ kind_at addr len → len ≤ width addr → OneFamily (KeepsBits len) addr network → HasOctets network → key ≡ kind ∷ octets_of network → IsKeyOver kind addr key
key_over kind len addr network key kind_is within keeps octets key_is =
    let covers : OneFamily (SameBits len) network addr = covers_own len addr network keeps in
    let family = one_family (SameBits len) network addr covers len in
    let own : kind ≡ kind_at network len = kind_is ∙ sym family.1 in
    record {
      mask = record { network = network; len = len };
      is_mask = record { is_prefix = record { within = omega (arith, within, family.0); cleared = cleared_own len addr network keeps }; octets = octets };
      own = own;
      covers = covers;
      is = key_is ∙ ap (λ (k : ℕ). k ∷ octets_of network) own;
    }

of_key : (network : Addr) (len : ℕ) → len ≤ width network → mask_of (kind_at network len ∷ octets_of network) ≡ record { network = network; len = len }
of_key (V4 octets) len le = let is : nat_lt len 33 ≡ true = grind (arith, nat_tests) in rw is refl
of_key (V6 octets) len le =
    let is : nat_lt (33 + len) 33 ≡ false = grind (arith, nat_tests) in
    let back : 33 + len - 33 ≡ len = omega arith in
    rw is (ap (λ (n : ℕ). record { network = V6 octets; len = n }) back)

-- the mask of its key
pub mask_of-key : (mask : Prefix) → IsMask mask → mask_of (key_of mask) ≡ mask
mask_of-key mask is = of_key mask.network mask.len is.is_prefix.within

pub own_key : (mask : Prefix) → IsMask mask → IsKey (key_of mask)
own_key mask is = record { mask = mask; is_mask = is; is = refl }
