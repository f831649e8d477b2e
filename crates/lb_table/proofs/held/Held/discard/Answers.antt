use Rattle.std.proofs.Common.{◌≡◌, ◌<◌, ◌+◌, ◌-◌, ℕ, Some, List, true, sym, ap, subst, ◌∙◌, arith}
use Rattle.std.specs.Option.{IsSome}
use Rattle.lb_index_slots.specs.Slots.{get}
use Rattle.lb_index_ring.specs.Ring.{has}
use Rattle.lb_table.specs.declared.entry.Waiting.{Waiting}
use Rattle.lb_table.specs.Held.{IsHeld, in_slot, line_of, query_of, without_first}
use Rattle.std.specs.List.{find}
use Rattle.lb_table.proofs.Helds.{given, held_same, held_without, line_kept, line_without, no_query, none_goes, search_is, still_empty, was_none, was_there, zero_slot}
use Rattle.lb_table.proofs.held.Held.discard.Goals as goal

pub returns-then-slot-eq0 : goal.returns-then-slot-eq0
returns-then-slot-eq0 c =
    let none = zero_slot c.self.inside.items c.self.inside.ring c.args.slot c.self.invariant c.if-slot-eq0.true in
    subst (λ (l : List (ℕ × Waiting)). l ≡ without_first (in_slot c.args.slot) l) c.self.view_is (sym (none_goes c.self.inside.items c.self.inside.ring c.args.slot none))

pub remove-requires : goal.remove-requires
remove-requires c =
    let some : 0 < c.args.slot = omega (arith, c.if-slot-eq0.false) in
    let back : c.args.slot - 1 + 1 ≡ c.args.slot = omega (arith, some) in
    let was = was_there (get c.self.inside.items (c.args.slot - 1)) c.discard.result c.discard.ensures.value c.if-discard.true in
    subst (λ (k : ℕ). has k c.self.inside.ring ≡ true) back (c.self.invariant.each (c.args.slot - 1) (subst IsSome was.1 (given was.0)))

pub invariant_of-self : goal.invariant_of-self
invariant_of-self c =
    let some : 0 < c.args.slot = omega (arith, c.if-slot-eq0.false) in
    let back : c.args.slot - 1 + 1 ≡ c.args.slot = omega (arith, some) in
    let was = was_there (get c.self.inside.items (c.args.slot - 1)) c.discard.result c.discard.ensures.value c.if-discard.true in
    let there : has c.args.slot c.self.inside.ring ≡ true = subst (λ (k : ℕ). has k c.self.inside.ring ≡ true) back (c.self.invariant.each (c.args.slot - 1) (subst IsSome was.1 (given was.0))) in
    subst (IsHeld c.discard.new.self) (sym c.remove.ensures) (held_without c.self.inside.items c.discard.new.self c.self.inside.ring c.args.slot some c.discard.ensures.slots c.self.invariant there)

pub returns-then-discard : goal.returns-then-discard
returns-then-discard c =
    let some : 0 < c.args.slot = omega (arith, c.if-slot-eq0.false) in
    let back : c.args.slot - 1 + 1 ≡ c.args.slot = omega (arith, some) in
    let was = was_there (get c.self.inside.items (c.args.slot - 1)) c.discard.result c.discard.ensures.value c.if-discard.true in
    let there : has c.args.slot c.self.inside.ring ≡ true = subst (λ (k : ℕ). has k c.self.inside.ring ≡ true) back (c.self.invariant.each (c.args.slot - 1) (subst IsSome was.1 (given was.0))) in
    let goes = ap (line_of c.discard.new.self) c.remove.ensures ∙ line_without c.self.inside.items c.discard.new.self c.self.inside.ring c.args.slot some c.discard.ensures.slots c.self.invariant.full c.self.invariant.from_one c.self.invariant.apart there in
    subst (λ (l : List (ℕ × Waiting)). line_of c.discard.new.self c.remove.new.self ≡ without_first (in_slot c.args.slot) l) c.self.view_is goes

pub returns-else-discard : goal.returns-else-discard
returns-else-discard c =
    let some : 0 < c.args.slot = omega (arith, c.if-slot-eq0.false) in
    let empty = was_none (get c.self.inside.items (c.args.slot - 1)) c.discard.result c.discard.ensures.value c.if-discard.false in
    let is = sym empty ∙ search_is c.self.inside.items c.self.inside.ring c.args.slot c.self.invariant some in
    let none = no_query (find (in_slot c.args.slot) (line_of c.self.inside.items c.self.inside.ring)) is in
    let same = line_kept c.self.inside.items c.discard.new.self c.self.inside.ring (still_empty c.self.inside.items c.discard.new.self (c.args.slot - 1) empty c.discard.ensures.slots) in
    subst (λ (l : List (ℕ × Waiting)). line_of c.discard.new.self c.self.inside.ring ≡ without_first (in_slot c.args.slot) l) c.self.view_is (same ∙ sym (none_goes c.self.inside.items c.self.inside.ring c.args.slot none))

pub invariant_of-self-else-discard : goal.invariant_of-self-else-discard
invariant_of-self-else-discard c =
    let empty = was_none (get c.self.inside.items (c.args.slot - 1)) c.discard.result c.discard.ensures.value c.if-discard.false in
    held_same c.self.inside.items c.discard.new.self c.self.inside.ring (still_empty c.self.inside.items c.discard.new.self (c.args.slot - 1) empty c.discard.ensures.slots) c.self.invariant
