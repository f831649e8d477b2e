-- Pairs in chunks. What is said of chunks holds of blocks too, of which each is seen as the list of its pairs.
use Rattle.std.specs.Prelude.{◌≡◌, ℕ, zero, suc, ◌-◌, ◌<◌, ◌≤◌, List, [], ◌∷◌, ◌++◌, Bool, Some, length, take, drop, slice_get, slice_index_or}
use Rattle.std.specs.List.{flat_map}
use Rattle.lb_index_ranks.specs.declared.filed.Filed.{Filed}
use Rattle.lb_index_ranks.specs.declared.front.Front.{Front}
use Rattle.lb_index_ranks.specs.Filed.{IsCut, is_before}
use Rattle.lb_index_ranks.specs.Front.{front_of_key, AreOctets}

-- how many pairs a chunk may have
abbrev pub max_pairs : ℕ
max_pairs = 64

-- no chunk is empty
abbrev pub IsFilled : List Filed → Type 0
IsFilled items = 0 < length items

-- whether the last pair of a chunk stands before this one
abbrev pub ends_before : Filed → List Filed → Bool
ends_before at items = is_before at (slice_index_or items (length items - 1) at)

-- where there are pairs, the front is that of the last one's key, whose octets are below 256
abbrev pub IsFence : Front → List Filed → Type 0
IsFence fence items = (f : Filed) → slice_get items (length items - 1) ≡ Some f → (fence ≡ front_of_key f.key) × AreOctets f.key

-- the pairs of all chunks
abbrev pub all_of : List (List Filed) → List Filed
all_of chunks = flat_map (λ c. c) chunks

abbrev pub chunk_at : List (List Filed) → ℕ → List Filed
chunk_at chunks k = slice_index_or chunks k []

-- the pairs of the chunks after one
abbrev pub behind : List (List Filed) → ℕ → List Filed
behind [] k = []
behind (c ∷ cs) zero = all_of cs
behind (c ∷ cs) (suc k) = behind cs k

-- the pairs before a place of a chunk
abbrev pub front_of : List (List Filed) → ℕ → ℕ → List Filed
front_of [] k place = []
front_of (c ∷ cs) zero place = take place c
front_of (c ∷ cs) (suc k) place = c ++ front_of cs k place

-- the pairs from a place of a chunk on
abbrev pub back_of : List (List Filed) → ℕ → ℕ → List Filed
back_of [] k place = []
back_of (c ∷ cs) zero place = drop place c ++ all_of cs
back_of (c ∷ cs) (suc k) place = back_of cs k place

-- the pairs before a place of a chunk stand before this one, and those from that place on do not
abbrev pub IsCutAt : Filed → List (List Filed) → ℕ → ℕ → Type 0
IsCutAt at chunks k place = IsCut at (front_of chunks k place) (back_of chunks k place)

-- the pairs after that at a place of a chunk
abbrev pub rest_of : List (List Filed) → ℕ → ℕ → List Filed
rest_of [] k place = []
rest_of (c ∷ cs) zero place = drop (suc place) c ++ all_of cs
rest_of (c ∷ cs) (suc k) place = rest_of cs k place

-- where a pair may stand: in a chunk that is there, and at its end only in the last
pub record IsPlace (chunks : List (List Filed)) (k place : ℕ) : Type 0 where
  pub upto : k ≤ length chunks
  pub there : 0 < length chunks → k < length chunks
  pub within : place ≤ length (chunk_at chunks k)
  pub last : length (chunk_at chunks k) ≤ place → behind chunks k ≡ []

-- the place of a chunk is that of a pair
pub record IsTaken (chunks : List (List Filed)) (k place : ℕ) : Type 0 where
  pub there : k < length chunks
  pub within : place < length (chunk_at chunks k)
