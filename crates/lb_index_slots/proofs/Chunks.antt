-- Lists, and cells in chunks, through a change at one place.
use Rattle.std.proofs.Common.{◌≡◌, ◌≢◌, ◌==◌, ◌<◌, ℕ, zero, suc, ◌/◌, ◌%◌, true, false, cond}
use Rattle.std.proofs.Common.{List, [], ◌∷◌, ◌++◌, length, map, Option, None, inl, inr}
use Rattle.std.proofs.Common.{refl, sym, ap, ◌∙◌, arith}
use Rattle.std.specs.Prelude.{slice_index_or, slice_set}
use Rattle.std.proofs.lemmas.Bool.{cases_Bool, cases_lt, eqb-true, eq-eqb, ne_eqb}
use Rattle.std.proofs.lemmas.List.{get_or-set_same, get_or-set_other, get_or_append_left}
use Rattle.std.proofs.lemmas.List.{get_or_past, get_or_push}
use Rattle.std.proofs.lemmas.List.{length-map, length_push, map-append, map-set}
use Rattle.lb_index_slots.specs.declared.chunk.Cell.{Cell}
use Rattle.lb_index_slots.specs.Links.{Adds, cells_at, values, with_cell}
use Rattle.lb_index_slots.specs.Slots.{Updates, get, value_at, value_in}

apart : (k at : ℕ) → (k == at) ≡ false → k ≢ at
apart k at t = λ e. let same : (k == at) ≡ true = eq-eqb k at e in absurd (cc)

-- a list with another item at a place
set_at : {X : Type 0} (xs : List X) (at : ℕ) (x d : X) → at < length xs → (k : ℕ)
    → slice_index_or (slice_set xs at x) k d ≡ cond (k == at) x (slice_index_or xs k d)
set_at {X} xs at x d lt k = elim (cases_Bool (k == at)) [
  | inl t ↦
      let is : k ≡ at = eqb-true k at t in
      rw t (ap (λ (j : ℕ). slice_index_or (slice_set xs at x) j d) is
      ∙ get_or-set_same xs at x d lt)
  | inr t ↦ rw t (get_or-set_other xs at k x d (apart k at t))
]

-- the same seen through a function
set_map : {X Y : Type 0} (f : X → Y) (xs : List X) (at : ℕ) (x : X) (d : Y)
    → at < length xs → (k : ℕ)
    → slice_index_or (map f (slice_set xs at x)) k d
    ≡ cond (k == at) (f x) (slice_index_or (map f xs) k d)
set_map {X} {Y} f xs at x d lt k =
    let within : at < length (map f xs) = omega (arith, lt, length-map xs f) in
    ap (λ (ys : List Y). slice_index_or ys k d) (map-set f xs at x)
    ∙ set_at (map f xs) at (f x) d within k

-- a list with an item more
push_at : {X : Type 0} (xs : List X) (x d : X) (k : ℕ)
    → slice_index_or (xs ++ x ∷ []) k d ≡ cond (k == length xs) x (slice_index_or xs k d)
push_at xs x d k = elim (cases_Bool (k == length xs)) [
  | inl t ↦
      let is : k ≡ length xs = eqb-true k (length xs) t in
      rw t (get_or_push xs x d k (sym is))
  | inr t ↦
      let off : k ≢ length xs = apart k (length xs) t in
      rw t (elim (cases_lt k (length xs)) [
        | inl lt ↦ get_or_append_left xs (x ∷ []) d k lt
        | inr le ↦
            get_or_past (xs ++ x ∷ []) k d (omega (arith, length_push xs x))
            ∙ sym (get_or_past xs k d le)
      ])
]

-- the same seen through a function
push_map : {X Y : Type 0} (f : X → Y) (xs : List X) (x : X) (d : Y) (k : ℕ)
    → slice_index_or (map f (xs ++ x ∷ [])) k d
    ≡ cond (k == length xs) (f x) (slice_index_or (map f xs) k d)
push_map {X} {Y} f xs x d k =
    ap (λ (ys : List Y). slice_index_or ys k d) (map-append f xs (x ∷ []))
    ∙ push_at (map f xs) (f x) d k
    ∙ ap (λ (n : ℕ). cond (k == n) (f x) (slice_index_or (map f xs) k d)) (length-map xs f)

-- an item seen through a function
pub map_at : {X Y : Type 0} (f : X → Y) (xs : List X) (k : ℕ) (d : X)
    → slice_index_or (map f xs) k (f d) ≡ f (slice_index_or xs k d)
map_at f [] k d = refl
map_at f (x ∷ xs) zero d = refl
map_at f (x ∷ xs) (suc k) d = map_at f xs k d

-- the cells, chunk by chunk
abbrev pub Cells : Type 0 → Type 0
Cells T = List (List (Cell T))

module _ {T : Type 0} where
  -- what is seen in a place of a chunk through a function of its cell
  abbrev seen_at : {X : Type 0} → (Cell T → Option X) → List (Cell T) → ℕ → Option X
  seen_at f cells at = slice_index_or (map f cells) at None

  -- what is seen in a slot
  abbrev pub seen : {X : Type 0} → (Cell T → Option X) → Cells T → ℕ → Option X
  seen f chunks slot = seen_at f (cells_at chunks (slot / 32)) (slot % 32)

  -- the value in a slot
  pub get_values : (chunks : Cells T) (slot : ℕ)
      → get (values chunks) slot ≡ seen value_in chunks slot
  get_values chunks slot =
      ap (λ (c : List (Option T)). value_at c (slot % 32))
      (map_at (map value_in) chunks (slot / 32) [])

  -- the same cells show the same
  pub seen_same : {X : Type 0} (f : Cell T → Option X) (old new : Cells T)
      → ((at : ℕ) → cells_at new at ≡ cells_at old at)
      → (slot : ℕ) → seen f new slot ≡ seen f old slot
  seen_same f old new same slot =
      ap (λ (c : List (Cell T)). seen_at f c (slot % 32)) (same (slot / 32))

  -- a chunk changed at one place, and the others as they were
  changed : {X : Type 0} (f : Cell T → Option X) (old new : Cells T) (cells : List (Cell T))
      (slot : ℕ) (cell : Cell T)
      → ((at : ℕ) → cells_at new at ≡ cond (at == slot / 32) cells (cells_at old at))
      → ((k : ℕ) → seen_at f cells k
      ≡ cond (k == slot % 32) (f cell) (seen_at f (cells_at old (slot / 32)) k))
      → (other : ℕ) → seen f new other ≡ cond (other == slot) (f cell) (seen f old other)
  changed f old new cells slot cell chunks items other = elim (cases_Bool (other == slot)) [
    | inl t ↦
        let is : other ≡ slot = eqb-true other slot t in
        let here : (slot / 32 == slot / 32) ≡ true = eq-eqb _ _ refl in
        let there : (slot % 32 == slot % 32) ≡ true = eq-eqb _ _ refl in
        rw t (ap (seen f new) is
        ∙ ap (λ (c : List (Cell T)). seen_at f c (slot % 32)) (chunks (slot / 32) ∙ rw here refl)
        ∙ items (slot % 32)
        ∙ rw there refl)
    | inr t ↦
        let chunk : cells_at new (other / 32)
        ≡ cond (other / 32 == slot / 32) cells (cells_at old (other / 32))
        = chunks (other / 32) in
        rw t (elim (cases_Bool (other / 32 == slot / 32)) [
          | inl u ↦
              let same : other / 32 ≡ slot / 32 = eqb-true _ _ u in
              elim (cases_Bool (other % 32 == slot % 32)) [
                | inl v ↦
                    let place : other % 32 ≡ slot % 32 = eqb-true _ _ v in
                    let is : other ≡ slot = omega (arith, same, place) in
                    absurd (apart other slot t is)
                | inr v ↦
                    ap (λ (c : List (Cell T)). seen_at f c (other % 32)) (chunk ∙ rw u refl)
                    ∙ items (other % 32)
                    ∙ rw v (ap (λ (k : ℕ). seen_at f (cells_at old k) (other % 32)) (sym same))
              ]
          | inr u ↦ ap (λ (c : List (Cell T)). seen_at f c (other % 32)) (chunk ∙ rw u refl)
        ])
  ]

  -- a cell written
  pub written : {X : Type 0} (f : Cell T → Option X) (old new : Cells T) (slot : ℕ)
      (cell : Cell T)
      → slot / 32 < length old → slot % 32 < length (cells_at old (slot / 32))
      → new ≡ with_cell old slot cell
      → (other : ℕ) → seen f new other ≡ cond (other == slot) (f cell) (seen f old other)
  written f old new slot cell within below is other =
      let before : List (Cell T) = cells_at old (slot / 32) in
      let after : List (Cell T) = slice_set before (slot % 32) cell in
      ap (λ (chunks : Cells T). seen f chunks other) is
      ∙ changed f old (with_cell old slot cell) after slot cell
      (set_at old (slot / 32) after [] within) (set_map f before (slot % 32) cell None below)
      other

  -- a cell added
  pub added : {X : Type 0} (f : Cell T → Option X) (old new : Cells T) (slot : ℕ)
      (cell : Cell T)
      → Adds old new slot cell
      → (other : ℕ) → seen f new other ≡ cond (other == slot) (f cell) (seen f old other)
  added f old new slot cell adds other =
      let before : List (Cell T) = cells_at old (slot / 32) in
      changed f old new (before ++ cell ∷ []) slot cell adds.cells
      (λ k. push_map f before cell None k
      ∙ ap (λ (n : ℕ). cond (k == n) (f cell) (seen_at f before k)) (sym adds.end))
      other

  -- the values where one was changed
  pub updated : (old new : Cells T) (slot : ℕ) (value : Option T)
      → ((other : ℕ)
      → seen value_in new other ≡ cond (other == slot) value (seen value_in old other))
      → Updates (values old) (values new) slot value
  updated old new slot value by = record {
    changed =
        (let here : (slot == slot) ≡ true = eq-eqb _ _ refl in
        get_values new slot ∙ by slot ∙ rw here refl);
    others = λ other off.
        (let apart : (other == slot) ≡ false = ne_eqb other slot off in
        get_values new other ∙ by other ∙ rw apart refl ∙ sym (get_values old other));
  }
