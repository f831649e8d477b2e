-- Passes as they are listed, one limiter after the other.
use Rattle.std.proofs.Common.{◌≡◌, ℕ, ◌+◌, ◌<◌, List, [], ◌∷◌, ◌++◌, length, get_or, drop, map, inl, inr, refl, sym, ap, ◌∙◌, append_assoc}
use Rattle.std.specs.List.{filter}
use Rattle.std.proofs.lemmas.Bool.{cases_Bool}
use Rattle.std.proofs.lemmas.List.{drop_more}
use Rattle.std.proofs.lemmas.List.Elements.{filter-append}
use Rattle.lb_limits.specs.Moments.{is_recent}
use Rattle.lb_limits.specs.Window.{Limits, recent_passes}
use Rattle.lb_limits.specs.declared.pass.Pass.{Pass}
use Rattle.lb_chain.specs.declared.listed.RulePass.{RulePass}
use Rattle.lb_chain.specs.Listed.{counted_from, counts_at}
use Rattle.lb_chain.specs.Seen.{seen_limits}

-- a pass of the limiter with a number
abbrev pub pass_at : ℕ → Pass → RulePass
pass_at at pass = record { limiter = at; pass = pass }

-- the passes of the next limiter are put after the others
pub listed_next : (xs : List Limits) (i : ℕ) (y : Limits) (all new whole : List RulePass) → i < length xs → y ≡ get_or xs i y → new ≡ all ++ map (pass_at i) y.passes → all ++ counted_from i (drop i xs) ≡ whole → new ++ counted_from (i + 1) (drop (i + 1) xs) ≡ whole
listed_next xs i y all new whole lt is added before =
    let parts : drop i xs ≡ y ∷ drop (i + 1) xs = drop_more xs i y lt ∙ ap (λ (l : Limits). l ∷ drop (i + 1) xs) (sym is) in
    let rest : List RulePass = counted_from (i + 1) (drop (i + 1) xs) in
    ap (λ (ps : List RulePass). ps ++ rest) added ∙ append_assoc all (map (pass_at i) y.passes) rest ∙ ap (λ (ls : List Limits). all ++ counted_from i ls) (sym parts) ∙ before

passes_recent : (now at : ℕ) (passes : List Pass) → filter (counts_at now) (map (pass_at at) passes) ≡ map (pass_at at) (recent_passes now passes)
passes_recent now at [] = refl
passes_recent now at (p ∷ passes) =
    let rest : filter (counts_at now) (map (pass_at at) passes) ≡ map (pass_at at) (recent_passes now passes) = passes_recent now at passes in
    elim (cases_Bool (is_recent now p.moment)) [
      | inl here ↦ rw here (ap (λ (ps : List RulePass). pass_at at p ∷ ps) rest)
      | inr old ↦ rw old rest
    ]

-- those of the listed passes that count at a moment are what is listed of the limiters as they are seen then
pub counted_recent : (now at : ℕ) (limits : List Limits) → filter (counts_at now) (counted_from at limits) ≡ counted_from at (map (seen_limits now) limits)
counted_recent now at [] = refl
counted_recent now at (l ∷ limits) =
    let later : List RulePass = counted_from (at + 1) limits in
    filter-append (counts_at now) (map (pass_at at) l.passes) later
    ∙ ap (λ (ps : List RulePass). ps ++ filter (counts_at now) later) (passes_recent now at l.passes)
    ∙ ap (λ (ps : List RulePass). map (pass_at at) (recent_passes now l.passes) ++ ps) (counted_recent now (at + 1) limits)
