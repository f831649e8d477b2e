-- The places of the rules that have limiters: found one after the other, and visited one after the other.
use Rattle.std.proofs.Common.{◌≡◌, true, false, ℕ, suc, ◌+◌, ◌<◌, ◌≤◌, ◌==◌, List, [], ◌∷◌, ◌++◌, length, get_or, take, drop, inl, inr, refl, sym, ap, subst, ◌∙◌, arith, append_assoc, length-append}
use Rattle.std.specs.List.{All, AllZip}
use Rattle.std.proofs.Math.Seq.{take-add}
use Rattle.std.proofs.lemmas.Bool.{cases_Bool, eqb-true}
use Rattle.std.proofs.lemmas.List.{drop-drop, drop_all, drop_more, length-drop, map-append, nil_from_length, take-append-drop}
use Rattle.lb_limits.specs.Window.{Limits}
use Rattle.lb_chain.specs.declared.walked.Passed.{Passed}
use Rattle.lb_chain.specs.declared.numbered.Numbered.{Numbered}
use Rattle.lb_chain.specs.Counting.{changed_limits, changed_rule, changed_rules}
use Rattle.lb_chain.specs.Places.{places_from, places_of}
use Rattle.lb_chain.proofs.ChangedRules.{rules_long, rules_so_far, rules_there}
use Rattle.lb_chain.proofs.Chains.{ArePast, IsLike}

-- a rule that has no limiter is passed by
pub place_none : (xs : List Numbered) (i : ℕ) (n : Numbered) (found : List ℕ) (whole : List ℕ) → i < length xs → n ≡ get_or xs i n → length n.limits ≡ 0 → found ++ places_from i (drop i xs) ≡ whole → found ++ places_from (i + 1) (drop (i + 1) xs) ≡ whole
place_none xs i n found whole lt is none before =
    let parts : drop i xs ≡ n ∷ drop (i + 1) xs = drop_more xs i n lt ∙ ap (λ (m : Numbered). m ∷ drop (i + 1) xs) (sym is) in
    let skipped : places_from i (n ∷ drop (i + 1) xs) ≡ places_from (i + 1) (drop (i + 1) xs) = rw none refl in
    ap (λ (ps : List ℕ). found ++ ps) (sym skipped) ∙ ap (λ (ns : List Numbered). found ++ places_from i ns) (sym parts) ∙ before

-- the place of a rule that has one goes after the others
pub place_some : (xs : List Numbered) (i : ℕ) (n : Numbered) (found : List ℕ) (whole : List ℕ) → i < length xs → n ≡ get_or xs i n → (length n.limits == 0) ≡ false → found ++ places_from i (drop i xs) ≡ whole → (found ++ i ∷ []) ++ places_from (i + 1) (drop (i + 1) xs) ≡ whole
place_some xs i n found whole lt is some before =
    let parts : drop i xs ≡ n ∷ drop (i + 1) xs = drop_more xs i n lt ∙ ap (λ (m : Numbered). m ∷ drop (i + 1) xs) (sym is) in
    let put : places_from i (n ∷ drop (i + 1) xs) ≡ i ∷ places_from (i + 1) (drop (i + 1) xs) = rw some refl in
    rw append_assoc (ap (λ (ps : List ℕ). found ++ ps) (sym put) ∙ ap (λ (ns : List Numbered). found ++ places_from i ns) (sym parts) ∙ before)

-- a rule that has no limiter is not changed
idle_rule : (change : Limits → Limits) (passes : List Passed) (n : Numbered) → (length n.limits == 0) ≡ true → changed_rule change passes n ≡ n
idle_rule change passes n none =
    let empty : n.limits ≡ [] = nil_from_length n.limits (eqb-true (length n.limits) 0 none) in
    ap (λ (ls : List Limits). record n { limits = changed_limits change passes n.id 0 ls }) empty ∙ ap (λ (ls : List Limits). record n { limits = ls }) (sym empty)

-- the next place, and the rules before it, which have no limiters
pub record Next (change : Limits → Limits) (passes : List Passed) (at : ℕ) (rest : List Numbered) (place : ℕ) (more : List ℕ) : Type 0 where
  pub gap : ℕ
  pub is : place ≡ at + gap
  pub within : gap < length rest
  pub idle : changed_rules change passes (take gap rest) ≡ take gap rest
  pub left : more ≡ places_from (place + 1) (drop (suc gap) rest)

pub next_of : (change : Limits → Limits) (passes : List Passed) (at : ℕ) (rest : List Numbered) (place : ℕ) (more : List ℕ) → place ∷ more ≡ places_from at rest → Next change passes at rest place more
next_of change passes at [] place more is = absurd (let long : length (place ∷ more) ≡ 0 = ap length is in omega arith)
next_of change passes at (n ∷ rest) place more is = elim (cases_Bool (length n.limits == 0)) [
  | inl none ↦
      let skipped : place ∷ more ≡ places_from (at + 1) rest = rw none at is in
      let later : Next change passes (at + 1) rest place more = next_of change passes (at + 1) rest place more skipped in record {
        gap = suc later.gap;
        is = omega (arith, later.is);
        within = omega (arith, later.within);
        idle = ap (λ (m : Numbered). m ∷ changed_rules change passes (take later.gap rest)) (idle_rule change passes n none) ∙ ap (λ (ms : List Numbered). n ∷ ms) later.idle;
        left = later.left;
      }
  | inr some ↦
      let put : place ∷ more ≡ at ∷ places_from (at + 1) rest = rw some at is in
      let here : place ≡ at = cc in
      let rests : more ≡ places_from (at + 1) rest = cc in record {
        gap = 0;
        is = omega arith;
        within = omega arith;
        idle = refl;
        left = rests ∙ ap (λ (k : ℕ). places_from (k + 1) rest) (sym here);
      }
]

-- without a further place no rule is changed
pub none_left : (change : Limits → Limits) (passes : List Passed) (at : ℕ) (rest : List Numbered) → [] ≡ places_from at rest → changed_rules change passes rest ≡ rest
none_left change passes at [] is = refl
none_left change passes at (n ∷ rest) is = elim (cases_Bool (length n.limits == 0)) [
  | inl none ↦
      let skipped : [] ≡ places_from (at + 1) rest = rw none at is in
      ap (λ (m : Numbered). m ∷ changed_rules change passes rest) (idle_rule change passes n none) ∙ ap (λ (ms : List Numbered). n ∷ ms) (none_left change passes (at + 1) rest skipped)
  | inr some ↦ absurd (let put : [] ≡ at ∷ places_from (at + 1) rest = rw some at is in let long : 0 ≡ length (at ∷ places_from (at + 1) rest) = ap length put in omega arith)
]

-- rules of which those in front are changed, up to one with a number; the places from there on are to be visited
pub record Visited (change : Limits → Limits) (passes : List Passed) (old new : List Numbered) (left : List ℕ) : Type 0 where
  pub at : ℕ
  pub within : at ≤ length old
  pub so_far : new ≡ rules_so_far change passes at old
  pub left_is : left ≡ places_from at (drop at old)

pub visited_none : (change : Limits → Limits) (passes : List Passed) (rules : List Numbered) (places : List ℕ) → places ≡ places_of rules → Visited change passes rules rules places
visited_none change passes rules places is = record { at = 0; within = omega arith; so_far = refl; left_is = is }

-- a change goes on past rules that it does not change
idle_gap : (change : Limits → Limits) (passes : List Passed) (xs : List Numbered) (at gap : ℕ) → changed_rules change passes (take gap (drop at xs)) ≡ take gap (drop at xs) → rules_so_far change passes at xs ≡ rules_so_far change passes (at + gap) xs
idle_gap change passes xs at gap idle =
    let change_all : List Numbered → List Numbered = changed_rules change passes in
    let front : List Numbered = take at xs in
    let mid : List Numbered = take gap (drop at xs) in
    let back : List Numbered = drop (at + gap) xs in
    let parts : drop at xs ≡ mid ++ back = sym (take-append-drop gap (drop at xs)) ∙ ap (λ (ns : List Numbered). mid ++ ns) (drop-drop gap at xs) in
    let both : change_all (take (at + gap) xs) ≡ change_all front ++ mid =
    ap change_all (take-add at gap xs) ∙ map-append (changed_rule change passes) front mid ∙ ap (λ (ns : List Numbered). change_all front ++ ns) idle in
    ap (λ (ns : List Numbered). change_all front ++ ns) parts ∙ sym (append_assoc (change_all front) mid back) ∙ ap (λ (ns : List Numbered). ns ++ back) (sym both)

-- the next place is visited: the rules before it are done, and it is not
pub record Visits (change : Limits → Limits) (passes : List Passed) (old new : List Numbered) (place : ℕ) (more : List ℕ) : Type 0 where
  pub within : place < length old
  pub so_far : new ≡ rules_so_far change passes place old
  pub left_is : more ≡ places_from (place + 1) (drop (place + 1) old)

visits_from : (change : Limits → Limits) (passes : List Passed) (old new : List Numbered) (place : ℕ) (more : List ℕ) (visited : Visited change passes old new (place ∷ more)) → Next change passes visited.at (drop visited.at old) place more → Visits change passes old new place more
visits_from change passes old new place more visited next =
    let at : ℕ = visited.at in
    let after : drop (suc next.gap) (drop at old) ≡ drop (place + 1) old =
    drop-drop (suc next.gap) at old ∙ (let number : at + suc next.gap ≡ place + 1 = omega (arith, next.is) in ap (λ (k : ℕ). drop k old) number) in record {
      within = omega (arith, next.is, next.within, length-drop at old, visited.within);
      so_far = visited.so_far ∙ idle_gap change passes old at next.gap next.idle ∙ ap (λ (k : ℕ). rules_so_far change passes k old) (sym next.is);
      left_is = next.left ∙ ap (places_from (place + 1)) after;
    }

pub visits : (change : Limits → Limits) (passes : List Passed) (old new : List Numbered) (places : List ℕ) (i place : ℕ) → i < length places → place ≡ get_or places i 0 → Visited change passes old new (drop i places) → Visits change passes old new place (drop (i + 1) places)
visits change passes old new places i place lt is visited =
    let parts : drop i places ≡ place ∷ drop (i + 1) places = drop_more places i 0 lt ∙ ap (λ (p : ℕ). p ∷ drop (i + 1) places) (sym is) in
    let here : Visited change passes old new (place ∷ drop (i + 1) places) = subst (Visited change passes old new) parts visited in
    visits_from change passes old new place (drop (i + 1) places) here (next_of change passes here.at (drop here.at old) place (drop (i + 1) places) here.left_is)

-- the rule at the place is there, and as it was
pub place_within : (change : Limits → Limits) (passes : List Passed) (old new : List Numbered) (place : ℕ) (more : List ℕ) → Visits change passes old new place more → place < length new
place_within change passes old new place more visits =
    let front : List Numbered = changed_rules change passes (take place old) in
    let le : place ≤ length old = omega (arith, visits.within) in
    omega (arith, ap length visits.so_far, length-append front (drop place old), rules_long change passes place old le, length-drop place old, visits.within)

pub rule_at : (change : Limits → Limits) (passes : List Passed) (old new : List Numbered) (place : ℕ) (more : List ℕ) (n : Numbered) → Visits change passes old new place more → n ≡ get_or new place n → n ≡ get_or old place n
rule_at change passes old new place more n visits own = own ∙ rules_there change passes old new place n visits.within visits.so_far

-- so no limiter of it is ahead of now
pub rule_past : (now : ℕ) (change : Limits → Limits) (passes : List Passed) (old new : List Numbered) (place : ℕ) (more : List ℕ) (n : Numbered) → All (ArePast now) old → Visits change passes old new place more → n ≡ get_or new place n → ArePast now n
rule_past now change passes old new place more n past visits own = subst (ArePast now) (sym (rule_at change passes old new place more n visits own)) (past place n visits.within)

-- one place more
pub visited_more : (change : Limits → Limits) (passes : List Passed) (old new newer : List Numbered) (place : ℕ) (more : List ℕ) → Visits change passes old new place more → newer ≡ rules_so_far change passes (place + 1) old → Visited change passes old newer more
visited_more change passes old new newer place more visits is = record { at = place + 1; within = omega (arith, visits.within); so_far = is; left_is = visits.left_is }

-- all places were visited
pub visited_all : (change : Limits → Limits) (passes : List Passed) (old new : List Numbered) (places : List ℕ) (i : ℕ) → length places ≤ i → Visited change passes old new (drop i places) → new ≡ changed_rules change passes old
visited_all change passes old new places i le visited =
    let at : ℕ = visited.at in
    let none : [] ≡ places_from at (drop at old) = sym (drop_all i places le) ∙ visited.left_is in
    let idle : changed_rules change passes (drop at old) ≡ drop at old = none_left change passes at (drop at old) none in
    visited.so_far ∙ ap (λ (ns : List Numbered). changed_rules change passes (take at old) ++ ns) (sym idle) ∙ sym (map-append (changed_rule change passes) (take at old) (drop at old)) ∙ ap (changed_rules change passes) (take-append-drop at old)

-- rules as before have limiters at the same places
pub places_like : (now at : ℕ) (old new : List Numbered) → AllZip (IsLike now) old new → places_from at new ≡ places_from at old
places_like now at [] [] zip = refl
places_like now at [] (b ∷ new) zip = absurd zip
places_like now at (a ∷ old) [] zip = absurd zip
places_like now at (a ∷ old) (b ∷ new) zip =
    let rest : places_from (at + 1) new ≡ places_from (at + 1) old = places_like now (at + 1) old new zip.1 in
    rw (zip.0.limiters, rest) refl
