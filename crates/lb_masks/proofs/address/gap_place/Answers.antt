use Rattle.std.proofs.Common.{◌≡◌, ℕ, ◌+◌, ◌-◌, ◌≤◌, ◌<◌, List, length, Option, None, drop, get_or, sym, ◌∙◌, ap, arith}
use Rattle.lb_masks.specs.Text.{gap_place}
use Rattle.lb_masks.proofs.Gaps.{behind_by, gap_later, gap_none}
use Rattle.lb_masks.proofs.address.gap_place.Goals as goal
use Rattle.lb_masks.proofs.address.gap_place.Goals.{else-text-place-eq-COLON-via-then-text-place-eq-COLON+else-text-place-eq-COLON-2, else-text-place-eq-COLON-via-else-text-place-eq-COLON}

-- the loop's place is one further than the byte that it has reached
next_place : (text : List ℕ) (place : ℕ) → 1 ≤ place → place < length text → (get_or text (place - 1) 0 ≡ 58 → get_or text place 0 ≡ 58 → ⊥) → behind_by (place - 1) (gap_place (drop (place - 1) text)) ≡ gap_place text → behind_by (place + 1 - 1) (gap_place (drop (place + 1 - 1) text)) ≡ gap_place text
next_place text place some within other is =
    let here : place - 1 + 1 ≡ place = omega arith in
    let next : place - 1 + 1 ≡ place + 1 - 1 = omega arith in
    ap (λ (i : ℕ). behind_by i (gap_place (drop i text))) (sym next)
    ∙ sym (gap_later (place - 1) text (omega arith) (λ one two. other one (ap (λ (i : ℕ). get_or text i 0) (sym here) ∙ two)))
    ∙ is

last_place : (text : List ℕ) (place : ℕ) → length text ≤ place → 1 ≤ place → behind_by (place - 1) (gap_place (drop (place - 1) text)) ≡ gap_place text → None ≡ gap_place text
last_place text place past some is = ap (λ (found : Option ℕ). behind_by (place - 1) found) (sym (gap_none (place - 1) text (omega arith))) ∙ is

pub loop-place-preserved : goal.loop-place-preserved
loop-place-preserved c =
    elim c.else-text-place-eq-COLON.branch [
      | else-text-place-eq-COLON-via-then-text-place-eq-COLON+else-text-place-eq-COLON-2 w ↦
          next_place c.args.text.now c.loop-place.place c.loop-place.auto.place c.loop-place-test.true (λ one two. w.if-text-place-eq-COLON-2.false two) c.loop-place.invariant
      | else-text-place-eq-COLON-via-else-text-place-eq-COLON w ↦
          next_place c.args.text.now c.loop-place.place c.loop-place.auto.place c.loop-place-test.true (λ one two. w.if-text-place-eq-COLON.false one) c.loop-place.invariant
    ]

pub returns-clause-place : goal.returns-clause-place
returns-clause-place c = last_place c.args.text.now c.loop-place.place c.loop-place-test.false c.loop-place.auto.place c.loop-place.invariant
