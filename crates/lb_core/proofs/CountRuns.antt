-- Runs that are counted.
use Rattle.std.proofs.Common.{◌≡◌, ◌≤◌, ◌==◌, ℕ, ◌+◌, ◌-◌, ◌^◌, Bool, true, false, cond, max, min, List, [], ◌∷◌, ◌++◌, Option, Some, None, refl, sym, ◌∙◌, ap, subst, arith}
use Rattle.std.proofs.lemmas.Bool.{eqb-true}
use Rattle.std.proofs.lemmas.List.{append-nil, append_assoc}
use Rattle.lb_tallies.specs.Tallies.{one_more, raised as raised_at, shut}
use Rattle.lb_step.specs.declared.answer.Answer.{Answer}
use Rattle.lb_step.specs.declared.event.Event.{Event}
use Rattle.lb_step.specs.declared.counts_by_number.CountsByNumber.{CountsByNumber}
use Rattle.lb_step.specs.declared.noted.Noted.{Noted}
use Rattle.lb_step.specs.declared.tally.Tally.{Tally}
use Rattle.lb_step.specs.Counts.{AreRaised, count_at, one_if, raised, times}
use Rattle.lb_step.specs.CountsByNumber.{AreCounted, asked_of, by_note, cache_removed, ended_by, expired_at, hit_in, replied_by, rule_removed, sent_to, server_removed}
use Rattle.lb_step.specs.Noted.{IsNoted}
use Rattle.lb_step.specs.Plain.{Plain}
use Rattle.lb_step.specs.Step.{Answers}
use Rattle.lb_core.specs.Counts.{IsNotedRun, times_in}
use Rattle.lb_core.specs.CountsByNumber.{AreCountedIn, AreExact, CountsAreNumbers, is_of, tally_after, times_named}

most_none : (n m : ℕ) → max n (min (n + 0) m) ≡ n
most_none n m = omega arith

most_twice : (n a b m : ℕ) → max (max n (min (n + a) m)) (min (max n (min (n + a) m) + b) m) ≡ max n (min (n + (a + b)) m)
most_twice n a b m = omega arith

-- nothing was asked and answered
pub none_raised : (counts : List ℕ) → AreRaised (times_in [] []) counts counts
none_raised counts = λ place. sym (most_none (count_at place counts) (2 ^ 64 - 1))

-- one event more, before others
pub one_raised : (event : Event) (answer : Answer) (events : List Event) (answers : List Answer) (old mid new : List ℕ) →
    AreRaised (times event answer) old mid → AreRaised (times_in events answers) mid new → AreRaised (times_in (event ∷ events) (answer ∷ answers)) old new
one_raised event answer events answers old mid new one others = λ place.
    others place
    ∙ subst (λ (n : ℕ). raised (times_in events answers place) n ≡ raised (times event answer place + times_in events answers place) (count_at place old)) (sym (one place))
    (most_twice (count_at place old) (times event answer place) (times_in events answers place) (2 ^ 64 - 1))

-- nothing was counted by number
none_counted : (by : CountsByNumber) → AreCountedIn [] [] by by
none_counted by = record { ended = λ id. refl; forwarded = λ id. refl; replied = λ id. refl; expired = λ id. refl; asked = λ id. refl; hit = λ id. refl }

-- one step more, before others
one_counted : (answer : Answer) (noted : Noted) (answers : List Answer) (notes : List Noted) (old mid new : CountsByNumber) →
    AreCounted answer noted old mid → AreCountedIn answers notes mid new → AreCountedIn (answer ∷ answers) (noted ∷ notes) old new
one_counted answer noted answers notes old mid new one others = record {
  ended = λ id. others.ended id ∙ ap (tally_after (by_note rule_removed) ended_by answers notes id) (one.ended id);
  forwarded = λ id. others.forwarded id ∙ ap (tally_after (by_note server_removed) sent_to answers notes id) (one.forwarded id);
  replied = λ id. others.replied id ∙ ap (tally_after (by_note server_removed) replied_by answers notes id) (one.replied id);
  expired = λ id. others.expired id ∙ ap (tally_after (by_note server_removed) expired_at answers notes id) (one.expired id);
  asked = λ id. others.asked id ∙ ap (tally_after (by_note cache_removed) asked_of answers notes id) (one.asked id);
  hit = λ id. others.hit id ∙ ap (tally_after (by_note cache_removed) hit_in answers notes id) (one.hit id);
}

-- a run with what its steps note, and with its counts by number if no memory was refused for one
abbrev pub IsNotedBy : Plain → CountsByNumber → List Event → List Answer → Plain → CountsByNumber → Type 0
IsNotedBy old by events answers new after =
    (notes : List Noted) × IsNotedRun old events answers notes new × (after.lacked ≡ false → AreExact answers notes by after)

-- a run of these events with these answers, and what is counted of it
abbrev pub IsCounted : Plain → Tally → List Event → List Answer → Plain → Tally → Type 0
IsCounted old tally events answers new after =
    IsNotedBy old tally.by_number events answers new after.by_number × AreRaised (times_in events answers) tally.counts.items after.counts.items

-- whatever continues what is left continues the whole
abbrev pub Continues : Plain → Tally → List Event → List Answer → Plain → Tally → List Event → Type 0
Continues old tally events answers mid between left =
    (rest : List Answer) (new : Plain) (after : Tally) → IsCounted mid between left rest new after → IsCounted old tally events (answers ++ rest) new after

pub begins : (old : Plain) (tally : Tally) (events left : List Event) (answers : List Answer) → answers ≡ [] → left ≡ events → Continues old tally events answers old tally left
begins old tally events left answers none all = λ rest new after run.
    subst (λ (told : List Answer). IsCounted old tally events (told ++ rest) new after) (sym none) (subst (λ (es : List Event). IsCounted old tally es rest new after) all run)

-- a step, and then a run
step_noted : (mid next new : Plain) (between fuller after : CountsByNumber) (event : Event) (answer : Answer) (noted : Noted) (later : List Event) (rest : List Answer) →
    Answers mid event answer next → IsNoted mid event answer noted → (fuller.lacked ≡ false → AreCounted answer noted between fuller) → (fuller.lacked ≡ false → between.lacked ≡ false) →
    IsNotedBy next fuller later rest new after → IsNotedBy mid between (event ∷ later) (answer ∷ rest) new after
step_noted mid next new between fuller after event answer noted later rest answers_it notes_it numbers before run = (
  noted ∷ run.0,
  (next, answers_it, notes_it, run.1),
  λ exact.
      let others = run.2 exact in
      record { before = before others.before; counted = one_counted answer noted rest run.0 between fuller after (numbers others.before) others.counted },
)

pub goes_on : (old mid next : Plain) (tally between fuller : Tally) (events left later : List Event) (answers grown : List Answer) (event : Event) (answer : Answer) (noted : Noted) →
    left ≡ event ∷ later → grown ≡ answers ++ answer ∷ [] → Answers mid event answer next → IsNoted mid event answer noted → AreRaised (times event answer) between.counts.items fuller.counts.items →
    (fuller.by_number.lacked ≡ false → AreCounted answer noted between.by_number fuller.by_number) → (fuller.by_number.lacked ≡ false → between.by_number.lacked ≡ false) →
    Continues old tally events answers mid between left → Continues old tally events grown next fuller later
goes_on old mid next tally between fuller events left later answers grown event answer noted is more answers_it notes_it one numbers before so_far = λ rest new after run.
    subst (λ (told : List Answer). IsCounted old tally events told new after) (sym (ap (λ (told : List Answer). told ++ rest) more ∙ append_assoc answers (answer ∷ []) rest))
    (so_far (answer ∷ rest) new after (subst (λ (es : List Event). IsCounted mid between es (answer ∷ rest) new after) (sym is) (
      step_noted mid next new between.by_number fuller.by_number after.by_number event answer noted later rest answers_it notes_it numbers before run.0,
      one_raised event answer later rest between.counts.items fuller.counts.items after.counts.items one run.1,
    )))

pub ends : (old mid : Plain) (tally between : Tally) (events left : List Event) (answers : List Answer) → left ≡ [] →
    Continues old tally events answers mid between left → IsCounted old tally events answers mid between
ends old mid tally between events left answers none so_far =
    subst (λ (told : List Answer). IsCounted old tally events told mid between) (append-nil answers)
    (so_far [] mid between (subst (λ (es : List Event). IsCounted mid between es [] mid between) (sym none) (
      ([], refl, λ exact. record { before = exact; counted = none_counted between.by_number }),
      none_raised between.counts.items,
    )))

-- a count that is not removed
stays : (b : Bool) (tally : ℕ) → (b ≡ true → ⊥) → let none : ℕ = 0 in cond b none tally ≡ tally
stays true tally differs = absurd (differs refl)
stays false tally differs = refl

not_shut : (removed : Option ℕ) (id tally : ℕ) → (removed ≡ Some id → ⊥) → shut removed id tally ≡ tally
not_shut None id tally differs = refl
not_shut (Some one) id tally differs = stays (id == one) tally (λ is. differs (ap Some (sym (eqb-true id one is))))

-- a count that rises, and then by more
one_of : (t n m : ℕ) → min (min (t + 1) m + n) m ≡ min (t + (1 + n)) m
one_of t n m = omega arith

none_more : (t n m : ℕ) → min (t + n) m ≡ min (t + (0 + n)) m
none_more t n m = omega arith

rises : (b : Bool) (tally n : ℕ) → min (cond b (one_more tally) tally + n) (2 ^ 64 - 1) ≡ min (tally + (one_if b + n)) (2 ^ 64 - 1)
rises true tally n = one_of tally n (2 ^ 64 - 1)
rises false tally n = none_more tally n (2 ^ 64 - 1)

named_rises : (named : Option ℕ) (id tally n : ℕ) → min (raised_at named id tally + n) (2 ^ 64 - 1) ≡ min (tally + (one_if (is_of named id) + n)) (2 ^ 64 - 1)
named_rises None id tally n = none_more tally n (2 ^ 64 - 1)
named_rises (Some one) id tally n = rises (id == one) tally n

-- it stays within its bound
bounded : (b : Bool) (tally : ℕ) → tally ≤ 2 ^ 64 - 1 → cond b (one_more tally) tally ≤ 2 ^ 64 - 1
bounded true tally few = omega arith
bounded false tally few = few

named_bounded : (named : Option ℕ) (id tally : ℕ) → tally ≤ 2 ^ 64 - 1 → raised_at named id tally ≤ 2 ^ 64 - 1
named_bounded None id tally few = few
named_bounded (Some one) id tally few = bounded (id == one) tally few

none_of : (t m : ℕ) → t ≤ m → t ≡ min (t + 0) m
none_of t m few = omega arith

-- a count that no step removes
pub are_numbers : CountsAreNumbers
are_numbers removed named (answer ∷ answers) (noted ∷ notes) id tally few kept =
    ap (λ (t : ℕ). tally_after removed named answers notes id (raised_at (named answer noted) id t)) (not_shut (removed answer) id tally kept.0)
    ∙ are_numbers removed named answers notes id (raised_at (named answer noted) id tally) (named_bounded (named answer noted) id tally few) kept.1
    ∙ named_rises (named answer noted) id tally (times_named named answers notes id)
are_numbers removed named (answer ∷ answers) [] id tally few kept = none_of tally (2 ^ 64 - 1) few
are_numbers removed named [] notes id tally few kept = none_of tally (2 ^ 64 - 1) few
