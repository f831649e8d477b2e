-- Ticks at one moment end the queries that are given up by then.
use Rattle.std.proofs.Common.{◌≡◌, ℕ, suc, ◌+◌, Bool, true, false, not, List, [], ◌∷◌, ◌++◌, length, max, cond, Option, None, Some, inl, inr, refl, sym, ◌∙◌, ap, subst, arith}
use Rattle.std.specs.Prelude.{replicate}
use Rattle.std.proofs.lemmas.Bool.{cond-true, lt-ltb}
use Rattle.std.proofs.lemmas.List.Folds.{find_at}
use Rattle.std.proofs.lemmas.Option.{none-some, slice_get_cases}
use Rattle.lb_wire.specs.declared.addr.Origin.{Origin}
use Rattle.std.specs.List.{AllByRecursion, filter, find, position_or_len, remove}
use Rattle.lb_chain.specs.declared.numbered.Numbered.{Numbered}
use Rattle.lb_chain.specs.Seen.{seen_rules, SeenTwice}
use Rattle.lb_table.specs.declared.entry.Waiting.{Waiting}
use Rattle.lb_table.specs.Table.{due, is_due, taken_at, without_due}
use Rattle.lb_step.specs.declared.event.Event.TheVariants.{Tick}
use Rattle.lb_step.specs.declared.answer.Answer.{Answer}
use Rattle.lb_step.specs.declared.answer.Answer.TheVariants.{Expired, Quiet}
use Rattle.lb_step.specs.Expiry.{Ends, Expires}
use Rattle.lb_step.specs.Forward.{failure_of}
use Rattle.lb_step.specs.Plain.{Plain, at_plain, upstreams_of, with_upstreams}
use Rattle.lb_step.specs.Reading.{Reading, OfNone, OfQuery, OfReply}
use Rattle.lb_step.specs.Step.{StepsAt}
use Rattle.lb_step.specs.Upstream.{Upstreams}
use Rattle.lb_core.specs.Runs.{GivesUp, GiveUp, IsRun}

-- a list without the first element that passes
abbrev gone : {X : Type 0} → (X → Bool) → List X → List X
gone p [] = []
gone p (x ∷ xs) = cond (p x) xs (x ∷ gone p xs)

module _ {X : Type 0} (p : X → Bool) where
  removed_first : (xs : List X) → remove xs (position_or_len p xs) ≡ gone p xs
  removed_first [] = refl
  removed_first (x ∷ xs) = by (p x) (removed_first xs)
    where
      onward : (n : ℕ) → remove (x ∷ xs) (1 + n) ≡ x ∷ remove xs n
      onward n = let e : 1 + n ≡ suc n = omega arith in ap (remove (x ∷ xs)) e

      by : (b : Bool) → remove xs (position_or_len p xs) ≡ gone p xs → remove (x ∷ xs) (cond (not b) (1 + position_or_len p xs) 0) ≡ cond b xs (x ∷ gone p xs)
      by true rest = refl
      by false rest = onward (position_or_len p xs) ∙ ap (λ (ys : List X). x ∷ ys) rest

  -- the first that passes, and the others that pass
  first_and_others : (xs : List X) (w : X) → find p xs ≡ Some w → filter p xs ≡ w ∷ filter p (gone p xs)
  first_and_others [] w is = absurd (cc is)
  first_and_others (x ∷ xs) w is = by (p x) (first_and_others xs w) refl is
    where
      by : (b : Bool) → (find p xs ≡ Some w → filter p xs ≡ w ∷ filter p (gone p xs)) → p x ≡ b → cond b (Some x) (find p xs) ≡ Some w → cond b (x ∷ filter p xs) (filter p xs) ≡ w ∷ filter p (cond b xs (x ∷ gone p xs))
      by true rest here is = let same : x ≡ w = cc is in ap (λ (y : X). y ∷ filter p xs) same
      by false rest here is = rest is ∙ sym (ap (λ (b : Bool). w ∷ cond b (x ∷ filter p (gone p xs)) (filter p (gone p xs))) here)

  -- the others that do not pass
  others_stay : (xs : List X) → filter (λ x. not (p x)) xs ≡ filter (λ x. not (p x)) (gone p xs)
  others_stay [] = refl
  others_stay (x ∷ xs) = by (p x) (others_stay xs) refl
    where
      by : (b : Bool) → filter (λ x. not (p x)) xs ≡ filter (λ x. not (p x)) (gone p xs) → p x ≡ b → cond (not b) (x ∷ filter (λ x. not (p x)) xs) (filter (λ x. not (p x)) xs) ≡ filter (λ x. not (p x)) (cond b xs (x ∷ gone p xs))
      by true rest here = refl
      by false rest here =
          ap (λ (ys : List X). x ∷ ys) rest
          ∙ sym (ap (λ (b : Bool). cond (not b) (x ∷ filter (λ x. not (p x)) (gone p xs)) (filter (λ x. not (p x)) (gone p xs))) here)

  -- where none passes
  none_passes : (xs : List X) → find p xs ≡ None → filter p xs ≡ []
  none_passes [] is = refl
  none_passes (x ∷ xs) is = by (p x) (none_passes xs) is
    where
      by : (b : Bool) → (find p xs ≡ None → filter p xs ≡ []) → cond b (Some x) (find p xs) ≡ None → cond b (x ∷ filter p xs) (filter p xs) ≡ []
      by true rest is = absurd (cc is)
      by false rest is = rest is

  all_stay : (xs : List X) → find p xs ≡ None → filter (λ x. not (p x)) xs ≡ xs
  all_stay [] is = refl
  all_stay (x ∷ xs) is = by (p x) (all_stay xs) is
    where
      by : (b : Bool) → (find p xs ≡ None → filter (λ x. not (p x)) xs ≡ xs) → cond b (Some x) (find p xs) ≡ None → cond (not b) (x ∷ filter (λ x. not (p x)) xs) (filter (λ x. not (p x)) xs) ≡ x ∷ xs
      by true rest is = absurd (cc is)
      by false rest is = ap (λ (ys : List X). x ∷ ys) (rest is)

-- the list without the query that is given up first
without_first : (now : ℕ) (t : List Waiting) (w : Waiting) → due now t ≡ Some w → without_due now t ≡ gone (is_due now) t
without_first now t w is =
    let n = position_or_len (is_due now) t in
    elim ((slice_get_cases t n).1) [
      | inl h ↦ ap (taken_at t) (cond-true _ _ _ (lt-ltb n (length t) h.1)) ∙ removed_first (is_due now) t
      | inr h ↦ absurd (none-some w (sym (find_at (is_due now) t ∙ h.1) ∙ is))
    ]

-- the answer to a tick
abbrev Ticked : Plain → Answer → Plain → Type 0
Ticked p answer new = (ups : Upstreams) × Expires (upstreams_of p) p.moment answer ups × (new ≡ with_upstreams ups p)

ticked_so : (p new : Plain) (now : ℕ) (reading : Reading) (answer : Answer) → StepsAt p (Tick now) reading answer new → Ticked p answer new
ticked_so p new now OfNone answer step = step
ticked_so p new now (OfQuery reading) answer step = absurd step
ticked_so p new now (OfReply reading) answer step = absurd step

-- the state with other outstanding queries
abbrev waiting_so : List Waiting → Plain → Plain
waiting_so t p = record p { outstanding = t }

quiet_expired : (origin : Origin) (bytes : List ℕ) → Quiet ≡ Expired origin bytes → ⊥
quiet_expired origin bytes is = cc is

-- where nothing is told, nothing was to be given up
quiet_tick : (p : Plain) (ups : Upstreams) (d : Option Waiting) → due p.moment p.outstanding ≡ d → Ends (upstreams_of p) p.moment d Quiet ups →
    (filter (is_due p.moment) p.outstanding ≡ []) × (with_upstreams ups p ≡ waiting_so (filter (λ w. not (is_due p.moment w)) p.outstanding) p)
quiet_tick p ups None is step = (
  none_passes (is_due p.moment) p.outstanding is,
  ap (λ (u : Upstreams). with_upstreams u p) (ap (λ (d : Upstreams × Answer). d.0) step) ∙ ap (λ (t : List Waiting). waiting_so t p) (sym (all_stay (is_due p.moment) p.outstanding is)),
)
quiet_tick p ups (Some w) is step = absurd (quiet_expired w.entry.origin (failure_of step.0) (ap (λ (d : Upstreams × Answer). d.1) step.2))

-- a tick that is not quiet gives one up
record Gave (p : Plain) (answer : Answer) (ups : Upstreams) : Type 0 where
  w : Waiting
  gives : GivesUp w answer
  first : filter (is_due p.moment) p.outstanding ≡ w ∷ filter (is_due p.moment) (gone (is_due p.moment) p.outstanding)
  left : with_upstreams ups p ≡ waiting_so (gone (is_due p.moment) p.outstanding) p

loud_tick : (p : Plain) (ups : Upstreams) (answer : Answer) (d : Option Waiting) → (answer ≡ Quiet → ⊥) → due p.moment p.outstanding ≡ d → Ends (upstreams_of p) p.moment d answer ups → Gave p answer ups
loud_tick p ups answer None loud is step = absurd (loud (ap (λ (d : Upstreams × Answer). d.1) step))
loud_tick p ups answer (Some w) loud is step = record {
  w = w;
  gives = (step.0, step.1, ap (λ (d : Upstreams × Answer). d.1) step.2);
  first = first_and_others (is_due p.moment) p.outstanding w is;
  left = ap (λ (u : Upstreams). with_upstreams u p) (ap (λ (d : Upstreams × Answer). d.0) step.2) ∙ ap (λ (t : List Waiting). waiting_so t p) (without_first p.moment p.outstanding w is);
}

-- the state with these outstanding queries, at the same moment again
again : SeenTwice → (old : Plain) (now : ℕ) (t : List Waiting) → at_plain now (waiting_so t (at_plain now old)) ≡ waiting_so t (at_plain now old)
again twice old now t =
    let same : max (max old.moment now) now ≡ max old.moment now = omega arith in
    ap (λ (m : ℕ). record (waiting_so t (at_plain now old)) { moment = m; rules = seen_rules m (seen_rules (max old.moment now) old.rules) }) same
    ∙ ap (λ (rules : List Numbered). record (waiting_so t (at_plain now old)) { rules = rules }) (twice (max old.moment now) (max old.moment now) old.rules (omega arith))

-- what is promised of ticks, from the state at their moment
abbrev Promised : Plain → List Answer → Plain → Type 0
Promised p answers new = GiveUp (filter (is_due p.moment) p.outstanding) answers × (new ≡ waiting_so (filter (λ w. not (is_due p.moment w)) p.outstanding) p)

pub ticks_end : SeenTwice → (old new : Plain) (now : ℕ) (answers : List Answer) →
    IsRun old (Tick now ∷ replicate (length answers) (Tick now)) (answers ++ Quiet ∷ []) new → AllByRecursion (λ answer. answer ≡ Quiet → ⊥) answers → Promised (at_plain now old) answers new
ticks_end twice old new now [] run loud =
    let p = at_plain now old in
    let tick = ticked_so p run.0 now run.1.reading Quiet run.1.step in
    let quiet = quiet_tick p tick.0 (due p.moment p.outstanding) refl tick.1 in
    (subst (λ (ws : List Waiting). GiveUp ws []) (sym quiet.0) tt, run.2 ∙ tick.2 ∙ quiet.1)
ticks_end twice old new now (answer ∷ answers) run loud =
    let p = at_plain now old in
    let tick = ticked_so p run.0 now run.1.reading answer run.1.step in
    let gave = loud_tick p tick.0 answer (due p.moment p.outstanding) loud.0 refl tick.1 in
    let left = gone (is_due p.moment) p.outstanding in
    let mid : run.0 ≡ waiting_so left p = tick.2 ∙ gave.left in
    let then_mid : at_plain now run.0 ≡ waiting_so left p = ap (at_plain now) mid ∙ again twice old now left in
    let rest : Promised (waiting_so left p) answers new = subst (λ (q : Plain). Promised q answers new) then_mid (ticks_end twice run.0 new now answers run.2 loud.1) in (
      subst (λ (ws : List Waiting). GiveUp ws (answer ∷ answers)) (sym gave.first) (gave.gives, rest.0),
      rest.1 ∙ ap (λ (t : List Waiting). waiting_so t p) (sym (others_stay (is_due p.moment) p.outstanding)),
    )
