-- The row of results since a server last changed.
use Rattle.std.proofs.Common.{◌≡◌, ℕ, ◌+◌, ◌<◌, Bool, true, false, not, ◌==◌, if◌then◌else◌, List, [], ◌∷◌, ◌++◌, refl, ◌∙◌, ap, inl, inr, arith}
use Rattle.std.proofs.lemmas.Bool.{cases_Bool, eqb-true, eqb-false}
use Rattle.std.specs.Bool.{beq}
use Rattle.lb_health.specs.Health.{Standing, IsStanding, new_standing, needed, result_of, row_against, after, kept, since, ChangesAtTheLast, LastOfARow, LastOfARowFrom}
use Rattle.lb_health.proofs.EndsIn.{tail_of, tail-append, tail-replicate, short_of, ends_in}

-- these parts of a standing
abbrev standing : ℕ → ℕ → Bool → ℕ → Standing
standing fall rise up against = record { fall = fall; rise = rise; up = up; against = against }

-- what is always so: as many results are counted against the server as the row since its last change ends with, and these
-- are fewer than it takes
record Counts (h : Standing) (seen : List Bool) : Type 0 where
  pub fall : 0 < h.fall
  pub rise : 0 < h.rise
  pub tail : tail_of (not h.up) 0 seen ≡ h.against
  pub few : h.against < needed h

-- one result more
tail_more : (x : Bool) (against : ℕ) (seen : List Bool) (ok : Bool) → tail_of x 0 seen ≡ against → tail_of x 0 (seen ++ ok ∷ []) ≡ (if beq ok x then against + 1 else 0)
tail_more x against seen ok is = tail-append x 0 seen (ok ∷ []) ∙ ap (λ (n : ℕ). if beq ok x then n + 1 else 0) is

-- it stays so
counts_on : (fall rise against : ℕ) (up ok : Bool) (seen : List Bool) → Counts (standing fall rise up against) seen → Counts (result_of (standing fall rise up against) ok).0 (kept (result_of (standing fall rise up against) ok).1 (seen ++ ok ∷ []))
counts_on fall rise against true true seen c = record { fall = c.fall; rise = c.rise; tail = tail_more false against seen true c.tail; few = c.fall }
counts_on fall rise against false false seen c = record { fall = c.fall; rise = c.rise; tail = tail_more true against seen false c.tail; few = c.rise }
counts_on fall rise against true false seen c = elim (cases_Bool (against + 1 == fall)) [
  | inl last ↦ rw last (record { fall = c.fall; rise = c.rise; tail = refl; few = c.rise })
  | inr more ↦
      let other = eqb-false (against + 1) fall more in
      rw more (record { fall = c.fall; rise = c.rise; tail = tail_more false against seen false c.tail; few = omega (arith, other, c.few) })
]
counts_on fall rise against false true seen c = elim (cases_Bool (against + 1 == rise)) [
  | inl last ↦ rw last (record { fall = c.fall; rise = c.rise; tail = refl; few = c.fall })
  | inr more ↦
      let other = eqb-false (against + 1) rise more in
      rw more (record { fall = c.fall; rise = c.rise; tail = tail_more true against seen true c.tail; few = omega (arith, other, c.few) })
]

-- so it is after every list of results
counts_after : (h : Standing) (seen results : List Bool) → Counts h seen → Counts (after h results) (since h seen results)
counts_after h seen [] c = c
counts_after h seen (ok ∷ results) c =
    counts_after (result_of h ok).0 (kept (result_of h ok).1 (seen ++ ok ∷ [])) results (counts_on h.fall h.rise h.against h.up ok seen c)

-- a further result changes the server where it is the last of a row, and only there
changes_at : (fall rise against : ℕ) (up ok : Bool) (seen : List Bool) → Counts (standing fall rise up against) seen → ChangesAtTheLast (standing fall rise up against) seen ok
changes_at fall rise against true true seen c =
    let tail = tail_more false against seen true c.tail in
    ((λ e. absurd (cc), λ ends. absurd (short_of false fall (seen ++ true ∷ []) (omega (arith, tail, c.fall)) ends)), λ _. refl)
changes_at fall rise against false false seen c =
    let tail = tail_more true against seen false c.tail in
    ((λ e. absurd (cc), λ ends. absurd (short_of true rise (seen ++ false ∷ []) (omega (arith, tail, c.rise)) ends)), λ _. refl)
changes_at fall rise against true false seen c =
    let tail = tail_more false against seen false c.tail in
    elim (cases_Bool (against + 1 == fall)) [
      | inl last ↦
          let ends = ends_in false fall (seen ++ false ∷ []) (tail ∙ eqb-true (against + 1) fall last) in
          rw last ((λ _. ends, λ _. refl), λ none. absurd (none ends))
      | inr more ↦
          let other = eqb-false (against + 1) fall more in
          rw more ((λ e. absurd (cc), λ ends. absurd (short_of false fall (seen ++ false ∷ []) (omega (arith, tail, other, c.few)) ends)), λ _. refl)
    ]
changes_at fall rise against false true seen c =
    let tail = tail_more true against seen true c.tail in
    elim (cases_Bool (against + 1 == rise)) [
      | inl last ↦
          let ends = ends_in true rise (seen ++ true ∷ []) (tail ∙ eqb-true (against + 1) rise last) in
          rw last ((λ _. ends, λ _. refl), λ none. absurd (none ends))
      | inr more ↦
          let other = eqb-false (against + 1) rise more in
          rw more ((λ e. absurd (cc), λ ends. absurd (short_of true rise (seen ++ true ∷ []) (omega (arith, tail, other, c.few)) ends)), λ _. refl)
    ]

-- the row that went against a health is counted
counts_on_from : (h : Standing) → IsStanding h → Counts h (row_against h)
counts_on_from h is = record { fall = is.fall; rise = is.rise; tail = tail-replicate (not h.up) 0 h.against ∙ omega arith; few = is.few }

-- the laws
pub last_of_a_row_from : LastOfARowFrom
last_of_a_row_from first is results ok =
    let h = after first results in
    let c = counts_after first (row_against first) results (counts_on_from first is) in
    changes_at h.fall h.rise h.against h.up ok (since first (row_against first) results) c

pub last_of_a_row : LastOfARow
last_of_a_row fall rise f r results ok = last_of_a_row_from (new_standing fall rise) (record { fall = f; rise = r; few = f }) results ok
