-- Marks: numbers below 256 of networks, and sets of them in four words.
use Rattle.std.specs.Prelude.{◌≡◌, ℕ, ◌+◌, ◌*◌, ◌/◌, ◌%◌, ◌^◌, List, [], ◌∷◌, take, slice_index}
use Rattle.std.specs.Int.{bit_at}
use Rattle.lb_masks.specs.Bits.{kept_octet}

-- what an octet of a network counts for, by its place
abbrev pub weights : List ℕ
weights = 11400714819323198485 ∷ 13787848793156543929 ∷ 10723151780598845931 ∷ 15485907386658061715 ∷ 11562461410679940143 ∷ 16646288086500911323 ∷ 10285213230658275043 ∷ 6384245875588680899 ∷ 2129725606500045391 ∷ 16952864883938283877 ∷ 14029467366897019727 ∷ 1609587929392839161 ∷ 2685821657736338717 ∷ 15750249268501108917 ∷ 18397679294719823053 ∷ 14181476777654086739 ∷ []

-- a sum and octets, each as often as it counts, in 64 bits
abbrev pub weighed : ℕ → List ℕ → List ℕ → ℕ
weighed sum [] ws = sum
weighed sum (x ∷ xs) [] = sum
weighed sum (x ∷ xs) (w ∷ ws) = weighed ((sum + x * w % 2 ^ 64) % 2 ^ 64) xs ws

-- the mark of the first so many bits of octets: no bit past them tells in it
abbrev pub mark_at : ℕ → List ℕ → ℕ
mark_at count octets = (weighed 0 (take (count / 8) octets) weights + kept_octet (count % 8) (slice_index octets (count / 8))) % 2 ^ 64 * 11507291218515648293 % 2 ^ 64 / 2 ^ 56

-- the mark is in the set
abbrev pub HasMark : List ℕ → ℕ → Type 0
HasMark words mark = bit_at (slice_index words (mark / 64)) (mark % 64) ≡ 1
