-- When a server changes between up and down: at the last of so many results in a row that go against what it is.
use Rattle.std.specs.Prelude.{◌≡◌, ◌↔◌, ℕ, ◌+◌, ◌<◌, Bool, true, not, ◌==◌, List, [], ◌∷◌, ◌++◌, replicate, if◌then◌else◌}
use Rattle.std.specs.Bool.{beq}
use Rattle.std.specs.List.{fold}
use Rattle.lb_health.specs.declared.health.Changed.{Changed}
use Rattle.lb_health.specs.declared.health.Changed.TheVariants.{No, Up, Down}

-- how many failures in a row take a server down, how many successes in a row bring it up, whether it is up, and how many
-- results in a row went against that
pub record Standing : Type 0 where
  pub fall : ℕ
  pub rise : ℕ
  pub up : Bool
  pub against : ℕ

-- a new server is up
abbrev pub new_standing : ℕ → ℕ → Standing
new_standing fall rise = record { fall = fall; rise = rise; up = true; against = 0 }

-- how many results in a row it takes to change a server
abbrev pub needed : Standing → ℕ
needed h = if h.up then h.fall else h.rise

-- the change of a server that is up, and of one that is down
abbrev pub turned : Standing → Changed
turned h = if h.up then Down else Up

-- what a result leaves, and the change that it makes: a result that agrees begins the row anew, the last one that is
-- needed changes the server, another one is counted
abbrev pub result_of : Standing → Bool → Standing × Changed
result_of h ok =
    if beq ok h.up then (record h { against = 0 }, No)
    else (if h.against + 1 == needed h then (record h { up = not h.up; against = 0 }, turned h)
    else (record h { against = h.against + 1 }, No))

-- what a list of results leaves
abbrev pub after : Standing → List Bool → Standing
after h results = fold (λ s ok. (result_of s ok).0) h results

-- the results that are kept in mind after one that made this change: none where it changed the server
abbrev pub kept : Changed → List Bool → List Bool
kept No seen = seen
kept Up seen = []
kept Down seen = []

-- the results since the last change, where these were seen since the one before; all of them, where there was none
abbrev pub since : Standing → List Bool → List Bool → List Bool
since h seen [] = seen
since h seen (ok ∷ results) = since (result_of h ok).0 (kept (result_of h ok).1 (seen ++ ok ∷ [])) results

-- a list of results ends with so many of this one
abbrev pub EndsIn : ℕ → Bool → List Bool → Type 0
EndsIn n ok results = (front : List Bool) × (results ≡ front ++ replicate n ok)

-- a change comes exactly where a further result is the last of `fall` failures in a row, if the server is up, or of `rise`
-- successes in a row, if it is down, these results having been given since the last change; else there is none
abbrev pub AtTheLast : Standing → List Bool → Bool → Changed → Type 0
AtTheLast h seen ok change =
    ((change ≡ turned h) ↔ EndsIn (needed h) (not h.up) (seen ++ ok ∷ []))
    × ((EndsIn (needed h) (not h.up) (seen ++ ok ∷ []) → ⊥) → change ≡ No)

-- so does the change that a further result makes
abbrev pub ChangesAtTheLast : Standing → List Bool → Bool → Type 0
ChangesAtTheLast h seen ok = AtTheLast h seen ok (result_of h ok).1

-- so it is for every fall and rise above 0, after every list of results, with every further one
abbrev pub LastOfARow : Type 0
LastOfARow =
    (fall rise : ℕ) → 0 < fall → 0 < rise → (results : List Bool) (ok : Bool)
    → ChangesAtTheLast (after (new_standing fall rise) results) (since (new_standing fall rise) [] results) ok

-- a health that a server can have: it takes results to change it, and fewer went against it than it takes
pub record IsStanding (h : Standing) : Type 0 where
  pub fall : 0 < h.fall
  pub rise : 0 < h.rise
  pub few : h.against < needed h

-- the row of results that went against a health
abbrev pub row_against : Standing → List Bool
row_against h = replicate h.against (not h.up)

-- so it is from every health on, whose row goes on
abbrev pub LastOfARowFrom : Type 0
LastOfARowFrom = (h : Standing) → IsStanding h → (results : List Bool) (ok : Bool) → ChangesAtTheLast (after h results) (since h (row_against h) results) ok
