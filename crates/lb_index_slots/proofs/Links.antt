-- Which slots are empty, and the links through them.
use Rattle.std.proofs.Common.{◌≡◌, ◌==◌, ◌<◌, ◌≤◌, ℕ, zero, suc, ◌/◌, ◌%◌, ◌^◌, true, cond}
use Rattle.std.proofs.Common.{Bool, List, [], ◌∷◌, length, map, Option, None, Some, inl, inr}
use Rattle.std.proofs.Common.{Result, Ok, Err, IfOk, OnErr}
use Rattle.std.proofs.Common.{refl, sym, ap, subst, ◌∙◌, arith, rules}
use Rattle.std.specs.Option.{IsSome}
use Rattle.std.specs.Prelude.{is_some, slice_index_or, slice_set}
use Rattle.std.proofs.lemmas.Bool.{cases_Bool, cases_lt, eqb-true, eq-eqb}
use Rattle.std.proofs.lemmas.List.{get_or_past, get_or_read, length-map, length-set}
use Rattle.lb_index_slots.specs.declared.chunk.Cell.{Cell}
use Rattle.lb_index_slots.specs.declared.chunk.Cell.TheVariants.{Free, Full}
use Rattle.lb_index_slots.specs.Links.{Adds, AreSlots, Leads, but, cells_at, link_at, link_in, links}
use Rattle.lb_index_slots.specs.Links.{values, with_cell}
use Rattle.lb_index_slots.specs.Slots.{IsEmpty, Updates, chunk_at, get, value_at, value_in}
use Rattle.lb_index_slots.proofs.Chunks.{Cells, added, get_values, map_at, seen_same, updated, written}

-- links that are the same lead the same way
leads_same : (count : ℕ) (old new : ℕ → Option ℕ) (free : ℕ)
    → ((slot : ℕ) → new slot ≡ old slot) → Leads count old free → Leads count new free
leads_same zero old new free same none = λ slot. same slot ∙ none slot
leads_same (suc count) old new free same leads =
    let rest = leads_same count (but old free) (but new free) leads.0
    (λ slot. ap (cond (slot == free) None) (same slot)) leads.2 in
    (leads.0, same free ∙ leads.1, rest)

-- where the first slot has no link, no other has one
leads_none : (count : ℕ) (links : ℕ → Option ℕ) (free : ℕ)
    → links free ≡ None → Leads count links free → (slot : ℕ) → links slot ≡ None
leads_none zero links free off none = none
leads_none (suc count) links free off leads =
    let on : links free ≡ Some leads.0 = leads.1 in absurd (cc)

-- without the first link, the others lead on
leads_on : (count : ℕ) (old new : ℕ → Option ℕ) (free next : ℕ)
    → old free ≡ Some next → ((slot : ℕ) → new slot ≡ but old free slot)
    → Leads count old free → (fewer : ℕ) × Leads fewer new next
leads_on zero old new free next on same none =
    let off : old free ≡ None = none free in absurd (cc)
leads_on (suc count) old new free next on same leads =
    let first : old free ≡ Some leads.0 = leads.1 in
    let is : leads.0 ≡ next = (cc) in
    let rest = subst (λ (n : ℕ). Leads count (but old free) n) is leads.2 in
    (count, leads_same count (but old free) new next same rest)

-- a link more, ahead of the first, in a slot that had none
leads_back : (count : ℕ) (old new : ℕ → Option ℕ) (free slot : ℕ) → old slot ≡ None
    → ((other : ℕ) → new other ≡ cond (other == slot) (Some free) (old other))
    → Leads count old free → Leads (suc count) new slot
leads_back count old new free slot off by leads =
    let here : (slot == slot) ≡ true = eq-eqb _ _ refl in
    let same : (other : ℕ) → but new slot other ≡ old other =
    λ other. elim (cases_Bool (other == slot)) [
      | inl t ↦ rw t (sym off ∙ ap old (sym (eqb-true other slot t)))
      | inr t ↦ rw t (by other ∙ rw t refl)
    ] in
    (free, by slot ∙ rw here refl, leads_same count old (but new slot) free same leads)

module _ {T : Type 0} where
  -- a place with a link is there, and has no value
  linked_at : (cells : List (Cell T)) (at next : ℕ) → link_at cells at ≡ Some next
      → (at < length cells) × (value_at (map value_in cells) at ≡ None)
  linked_at [] at next is = absurd (cc is)
  linked_at (Free link ∷ cells) zero next is = (omega arith, refl)
  linked_at (Full value ∷ cells) zero next is = absurd (cc is)
  linked_at (cell ∷ cells) (suc at) next is =
      let rest = linked_at cells at next is in (omega (arith, rest.0), rest.1)

  -- a place with a value is there, and has no link
  valued_at : (cells : List (Cell T)) (at : ℕ) (value : T)
      → value_at (map value_in cells) at ≡ Some value
      → (at < length cells) × (link_at cells at ≡ None)
  valued_at [] at value is = absurd (cc is)
  valued_at (Free link ∷ cells) zero value is = absurd (cc is)
  valued_at (Full held ∷ cells) zero value is = (omega arith, refl)
  valued_at (cell ∷ cells) (suc at) value is =
      let rest = valued_at cells at value is in (omega (arith, rest.0), rest.1)

  -- a place that is there has a value or a link
  either_at : (cells : List (Cell T)) (at : ℕ) → at < length cells
      → value_at (map value_in cells) at ≡ None → link_at cells at ≡ None → ⊥
  either_at [] at lt none off = absurd (omega (arith, lt))
  either_at (Free link ∷ cells) zero lt none off = absurd (cc off)
  either_at (Full value ∷ cells) zero lt none off = absurd (cc none)
  either_at (cell ∷ cells) (suc at) lt none off =
      either_at cells at (omega (arith, lt)) none off

  -- a chunk with a place is there
  chunk_there : (chunks : Cells T) (at k : ℕ) → k < length (cells_at chunks at)
      → at < length chunks
  chunk_there chunks at k lt = elim (cases_lt at (length chunks)) [
    | inl there ↦ there
    | inr le ↦
        let none : length (cells_at chunks at) ≡ 0 = ap length (get_or_past chunks at [] le) in
        absurd (omega (arith, lt, none))
  ]

  -- how long a chunk is
  length_at : (chunks : Cells T) (at : ℕ)
      → length (chunk_at (values chunks) at) ≡ length (cells_at chunks at)
  length_at chunks at =
      ap length (map_at (map value_in) chunks at []) ∙ length-map (cells_at chunks at) value_in

  -- a slot with a link is empty
  pub linked_empty : (chunks : Cells T) (slot next : ℕ) → links chunks slot ≡ Some next
      → IsEmpty (values chunks) slot
  linked_empty chunks slot next is =
      let at = linked_at (cells_at chunks (slot / 32)) (slot % 32) next is in
      record {
        below = omega (arith, at.0, length_at chunks (slot / 32));
        none = get_values chunks slot ∙ at.1;
      }

  -- where the slot that was freed last has no link, no slot is empty
  pub none_empty : (chunks : Cells T) (free : ℕ)
      → AreSlots chunks free → links chunks free ≡ None
      → (slot : ℕ) → IsEmpty (values chunks) slot → ⊥
  none_empty chunks free are off slot empty =
      either_at (cells_at chunks (slot / 32)) (slot % 32)
      (omega (arith, empty.below, length_at chunks (slot / 32)))
      (sym (get_values chunks slot) ∙ empty.none)
      (leads_none are.linked.0 (links chunks) free off are.linked.1 slot)

  length_with : (old new : Cells T) (slot : ℕ) (cell : Cell T) → new ≡ with_cell old slot cell
      → length new ≡ length old
  length_with old new slot cell is =
      ap length is
      ∙ length-set old (slot / 32) (slice_set (cells_at old (slot / 32)) (slot % 32) cell)

  -- a cell written: as many chunks as before
  pub length_same : (old new : Cells T) (slot : ℕ) (cell : Cell T)
      → new ≡ with_cell old slot cell → length (values new) ≡ length (values old)
  length_same old new slot cell is =
      length-map new (map value_in)
      ∙ length_with old new slot cell is
      ∙ sym (length-map old (map value_in))

  -- the slot that was freed last is filled
  pub filled : (old new : Cells T) (free next : ℕ) (value : T)
      → links old free ≡ Some next → new ≡ with_cell old free (Full value)
      → AreSlots old free → AreSlots new next
  filled old new free next value on is are =
      let at = linked_at (cells_at old (free / 32)) (free % 32) next on in
      let within : free / 32 < length old = chunk_there old (free / 32) (free % 32) at.0 in
      let now = written link_in old new free (Full value) within at.0 is in
      record {
        few = omega (arith, are.few, length_with old new free (Full value) is);
        linked = leads_on are.linked.0 (links old) (links new) free next on now are.linked.1;
      }

  -- the value is in that slot
  pub filled_updates : (old new : Cells T) (free next : ℕ) (value : T)
      → links old free ≡ Some next → new ≡ with_cell old free (Full value)
      → Updates (values old) (values new) free (Some value)
  filled_updates old new free next value on is =
      let at = linked_at (cells_at old (free / 32)) (free % 32) next on in
      let within : free / 32 < length old = chunk_there old (free / 32) (free % 32) at.0 in
      updated old new free (Some value)
      (written value_in old new free (Full value) within at.0 is)

  module _ {E : Type 0} where
    -- a slot is added, where none is empty; or none is added
    pub pushed : (r : Result ℕ E) (old new : Cells T) (free : ℕ) (value : T)
        → IfOk r (λ slot. Adds old new slot (Full value))
        → OnErr r ((at : ℕ) → cells_at new at ≡ cells_at old at)
        → links old free ≡ None → length new ≤ 2 ^ 57
        → AreSlots old free → AreSlots new free
    pushed (Ok slot) old new free value adds kept off few are =
        let none = leads_none are.linked.0 (links old) free off are.linked.1 in
        let now : (other : ℕ) → links new other ≡ None =
        λ other. added link_in old new slot (Full value) adds other
        ∙ elim (cases_Bool (other == slot)) [
          | inl t ↦ rw t refl
          | inr t ↦ rw t (none other)
        ] in
        record { few = few; linked = (zero, now) }
    pushed (Err e) old new free value adds kept off few are =
        let none = leads_none are.linked.0 (links old) free off are.linked.1 in
        record {
          few = few;
          linked = (zero, λ slot. seen_same link_in old new kept slot ∙ none slot);
        }

    -- the value is in that slot
    pub pushed_updates : (r : Result ℕ E) (old new : Cells T) (value : T)
        → IfOk r (λ slot. Adds old new slot (Full value))
        → IfOk r (λ slot. Updates (values old) (values new) slot (Some value))
    pushed_updates (Ok slot) old new value adds =
        updated old new slot (Some value) (added value_in old new slot (Full value) adds)
    pushed_updates (Err e) old new value adds = search rules

    -- or the values are what they were
    pub pushed_kept : (r : Result ℕ E) (old new : Cells T)
        → OnErr r ((at : ℕ) → cells_at new at ≡ cells_at old at)
        → OnErr r ((slot : ℕ) → get (values new) slot ≡ get (values old) slot)
    pushed_kept (Ok slot) old new kept = search rules
    pushed_kept (Err e) old new kept =
        λ slot. get_values new slot
        ∙ seen_same value_in old new kept slot
        ∙ sym (get_values old slot)

  -- a value takes the place of another
  pub replaced : (old new : Cells T) (free slot : ℕ) (held value : T)
      → get (values old) slot ≡ Some held → new ≡ with_cell old slot (Full value)
      → AreSlots old free → AreSlots new free
  replaced old new free slot held value there is are =
      let at = valued_at (cells_at old (slot / 32)) (slot % 32) held
      (sym (get_values old slot) ∙ there) in
      let within : slot / 32 < length old = chunk_there old (slot / 32) (slot % 32) at.0 in
      let same : (other : ℕ) → links new other ≡ links old other =
      λ other. written link_in old new slot (Full value) within at.0 is other
      ∙ elim (cases_Bool (other == slot)) [
        | inl t ↦ rw t (sym at.1 ∙ ap (links old) (sym (eqb-true other slot t)))
        | inr t ↦ rw t refl
      ] in
      let leads = leads_same are.linked.0 (links old) (links new) free same are.linked.1 in
      record {
        few = omega (arith, are.few, length_with old new slot (Full value) is);
        linked = (are.linked.0, leads);
      }

  -- a slot that has a value is freed
  pub emptied : (old new : Cells T) (free slot : ℕ) (held : T)
      → get (values old) slot ≡ Some held → new ≡ with_cell old slot (Free free)
      → AreSlots old free → AreSlots new slot
  emptied old new free slot held there is are =
      let at = valued_at (cells_at old (slot / 32)) (slot % 32) held
      (sym (get_values old slot) ∙ there) in
      let within : slot / 32 < length old = chunk_there old (slot / 32) (slot % 32) at.0 in
      let now = written link_in old new slot (Free free) within at.0 is in
      let leads = leads_back are.linked.0 (links old) (links new) free slot at.1 now
      are.linked.1 in
      record {
        few = omega (arith, are.few, length_with old new slot (Free free) is);
        linked = (suc are.linked.0, leads);
      }

  -- in either case, the slot has what its cell has
  pub changed_updates : (old new : Cells T) (slot : ℕ) (held : T) (cell : Cell T)
      → get (values old) slot ≡ Some held → new ≡ with_cell old slot cell
      → Updates (values old) (values new) slot (value_in cell)
  changed_updates old new slot held cell there is =
      let at = valued_at (cells_at old (slot / 32)) (slot % 32) held
      (sym (get_values old slot) ∙ there) in
      let within : slot / 32 < length old = chunk_there old (slot / 32) (slot % 32) at.0 in
      updated old new slot (value_in cell) (written value_in old new slot cell within at.0 is)

  -- a chunk that was read is the one at its place
  pub chunk_read : (chunks : Cells T) (at : ℕ) (chunk : List (Cell T))
      → at < length chunks → chunk ≡ slice_index_or chunks at chunk
      → chunk ≡ cells_at chunks at
  chunk_read chunks at chunk within is = get_or_read chunks at chunk within is []

  -- a value in it is the value of its slot
  pub value_read : (chunks : Cells T) (slot : ℕ) (chunk : List (Cell T)) (held : T)
      → chunk ≡ cells_at chunks (slot / 32)
      → Some held ≡ value_at (map value_in chunk) (slot % 32)
      → get (values chunks) slot ≡ Some held
  value_read chunks slot chunk held is value =
      get_values chunks slot
      ∙ ap (λ (c : List (Cell T)). value_at (map value_in c) (slot % 32)) (sym is)
      ∙ sym value

  -- another cell in it is another cell in its slot
  pub cell_read : (chunks : Cells T) (slot : ℕ) (chunk new : List (Cell T)) (cell : Cell T)
      → chunk ≡ cells_at chunks (slot / 32) → new ≡ slice_set chunk (slot % 32) cell
      → slice_set chunks (slot / 32) new ≡ with_cell chunks slot cell
  cell_read chunks slot chunk new cell is by =
      ap (slice_set chunks (slot / 32))
      (by ∙ ap (λ (c : List (Cell T)). slice_set c (slot % 32) cell) is)

  -- the value that there is
  pub some_of : (o : Option T) → IsSome o → (value : T) × (o ≡ Some value)
  some_of None some = absurd (cc)
  some_of (Some value) some = (value, refl)

  -- what is some value is that value
  pub was_some : (o : Option T) (some : Bool) → some ≡ is_some o → some ≡ true
      → (value : T) × (Some value ≡ o)
  was_some None some is on = absurd (cc)
  was_some (Some value) some is on = (value, refl)
