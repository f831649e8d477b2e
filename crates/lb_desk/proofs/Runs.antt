-- One call more, at the end of a log.
use Rattle.std.proofs.Common.{All, ℕ, List, [], Option, false, length, ◌-◌, ◌^◌, ap, rules, arith, max, min, refl, subst, sym, ◌++◌, ◌+◌, ◌<◌, ◌∙◌, ◌∷◌, ◌≡◌, ◌≤◌}
use Rattle.std.proofs.lemmas.List.{length-append, map-append}
use Rattle.std.proofs.lemmas.List.Elements.{All-append}
use Rattle.lb_tallies.specs.Tallies.{raised as raised_at, shut, tally_of}
use Rattle.lb_step.specs.declared.answer.Answer.{Answer}
use Rattle.lb_step.specs.declared.event.Event.{Event}
use Rattle.lb_step.specs.declared.counts_by_number.CountsByNumber.{CountsByNumber}
use Rattle.lb_step.specs.declared.noted.Noted.{Noted}
use Rattle.lb_step.specs.declared.tally.Tally.{Tally}
use Rattle.lb_step.specs.Counts.{AreRaised, count_at, raised, times}
use Rattle.lb_step.specs.CountsByNumber.{AreCounted, AreNone, asked_of, by_note, cache_removed, ended_by, expired_at, hit_in, replied_by, rule_removed, sent_to, server_removed}
use Rattle.lb_step.specs.Noted.{IsNoted}
use Rattle.lb_step.specs.Plain.{Plain}
use Rattle.lb_step.specs.Snapshot.{IsShown, Snapshot, snapshot_of}
use Rattle.lb_step.specs.Step.{Answers}
use Rattle.lb_core.specs.Counts.{IsNotedRun, times_in}
use Rattle.lb_core.specs.CountsByNumber.{AreCountedIn, tally_after}
use Rattle.lb_core.specs.Runs.{CachedAnswersAreKeptReplies, HitsComeFromReplies, IsRun}
use Rattle.lb_desk.specs.declared.entry.LogEntry.{LogEntry}
use Rattle.lb_desk.specs.declared.entry.SeatId.{SeatId}
use Rattle.lb_desk.specs.declared.fault.CloseFault.{CloseFault}
use Rattle.lb_desk.specs.declared.fault.CloseFault.TheVariants.{Differs, MissingSeat}
use Rattle.lb_desk.specs.Book.{Counted, Keeps}
use Rattle.lb_desk.specs.Entry.{Tells, TellsCaches, TellsHits, answers_of, entry, events_of}

-- one event more
run_grown : (old mid new : Plain) (es : List Event) (answers : List Answer) (e : Event) (a : Answer) → IsRun old es answers mid → Answers mid e a new → IsRun old (es ++ e ∷ []) (answers ++ a ∷ []) new
run_grown old mid new [] [] e a is step = (new, subst (λ m. Answers m e a new) is step, refl)
run_grown old mid new (x ∷ es) (y ∷ answers) e a run step = (run.0, run.1, run_grown run.0 mid new es answers e a run.2 step)
run_grown old mid new [] (y ∷ answers) e a none step = absurd none
run_grown old mid new (x ∷ es) [] e a none step = absurd none

most_twice : (n a b m : ℕ) → max (max n (min (n + a) m)) (min (max n (min (n + a) m) + b) m) ≡ max n (min (n + (a + b)) m)
most_twice n a b m = omega arith

four : (a b c : ℕ) → a + (b + c) ≡ a + b + c
four a b c = omega arith

-- one event more, and what its step notes
noted_run_grown : (old mid new : Plain) (es : List Event) (answers : List Answer) (notes : List Noted) (e : Event) (a : Answer) (n : Noted) →
    IsNotedRun old es answers notes mid → Answers mid e a new → IsNoted mid e a n → IsNotedRun old (es ++ e ∷ []) (answers ++ a ∷ []) (notes ++ n ∷ []) new
noted_run_grown old mid new [] [] [] e a n is step note = (new, subst (λ m. Answers m e a new) is step, subst (λ m. IsNoted m e a n) is note, refl)
noted_run_grown old mid new (x ∷ es) (y ∷ answers) (z ∷ notes) e a n run step note = (run.0, run.1, run.2, noted_run_grown run.0 mid new es answers notes e a n run.3 step note)
noted_run_grown old mid new [] [] (z ∷ notes) e a n none step note = absurd none
noted_run_grown old mid new [] (y ∷ answers) notes e a n none step note = absurd none
noted_run_grown old mid new (x ∷ es) [] notes e a n none step note = absurd none
noted_run_grown old mid new (x ∷ es) (y ∷ answers) [] e a n none step note = absurd none

-- how often a count is raised by one event more
times_grown : (old new : Plain) (es : List Event) (answers : List Answer) (notes : List Noted) (e : Event) (a : Answer) (c : ℕ) → IsNotedRun old es answers notes new →
    times_in (es ++ e ∷ []) (answers ++ a ∷ []) c ≡ times_in es answers c + times e a c
times_grown old new [] [] notes e a c run = omega arith
times_grown old new (x ∷ es) (y ∷ answers) (z ∷ notes) e a c run =
    ap (λ (n : ℕ). times x y c + n) (times_grown run.0 new es answers notes e a c run.3) ∙ four (times x y c) (times_in es answers c) (times e a c)
times_grown old new [] (y ∷ answers) notes e a c none = absurd none
times_grown old new (x ∷ es) [] notes e a c none = absurd none
times_grown old new (x ∷ es) (y ∷ answers) [] e a c none = absurd none

-- what a number has after one step more
tally_grown : (removed : Answer → Option ℕ) (named : Answer → Noted → Option ℕ) (old new : Plain) (es : List Event) (answers : List Answer) (notes : List Noted) (a : Answer) (n : Noted) (id tally : ℕ) →
    IsNotedRun old es answers notes new →
    tally_after removed named (answers ++ a ∷ []) (notes ++ n ∷ []) id tally ≡ raised_at (named a n) id (shut (removed a) id (tally_after removed named answers notes id tally))
tally_grown removed named old new [] [] [] a n id tally run = refl
tally_grown removed named old new (x ∷ es) (y ∷ answers) (z ∷ notes) a n id tally run =
    tally_grown removed named run.0 new es answers notes a n id (raised_at (named y z) id (shut (removed y) id tally)) run.3
tally_grown removed named old new [] [] (z ∷ notes) a n id tally none = absurd none
tally_grown removed named old new [] (y ∷ answers) notes a n id tally none = absurd none
tally_grown removed named old new (x ∷ es) [] notes a n id tally none = absurd none
tally_grown removed named old new (x ∷ es) (y ∷ answers) [] a n id tally none = absurd none

-- the counts by number after one step more
numbers_grown : (start old : Plain) (es : List Event) (answers : List Answer) (notes : List Noted) (a : Answer) (n : Noted) (first by after : CountsByNumber) →
    IsNotedRun start es answers notes old → AreCountedIn answers notes first by → AreCounted a n by after → AreCountedIn (answers ++ a ∷ []) (notes ++ n ∷ []) first after
numbers_grown start old es answers notes a n first by after run so_far one = record {
  ended = λ id.
      one.ended id ∙ ap (λ (t : ℕ). raised_at (ended_by a n) id (shut (by_note rule_removed a) id t)) (so_far.ended id)
      ∙ sym (tally_grown (by_note rule_removed) ended_by start old es answers notes a n id (tally_of id first.ended) run);
  forwarded = λ id.
      one.forwarded id ∙ ap (λ (t : ℕ). raised_at (sent_to a n) id (shut (by_note server_removed a) id t)) (so_far.forwarded id)
      ∙ sym (tally_grown (by_note server_removed) sent_to start old es answers notes a n id (tally_of id first.forwarded) run);
  replied = λ id.
      one.replied id ∙ ap (λ (t : ℕ). raised_at (replied_by a n) id (shut (by_note server_removed a) id t)) (so_far.replied id)
      ∙ sym (tally_grown (by_note server_removed) replied_by start old es answers notes a n id (tally_of id first.replied) run);
  expired = λ id.
      one.expired id ∙ ap (λ (t : ℕ). raised_at (expired_at a n) id (shut (by_note server_removed a) id t)) (so_far.expired id)
      ∙ sym (tally_grown (by_note server_removed) expired_at start old es answers notes a n id (tally_of id first.expired) run);
  asked = λ id.
      one.asked id ∙ ap (λ (t : ℕ). raised_at (asked_of a n) id (shut (by_note cache_removed a) id t)) (so_far.asked id)
      ∙ sym (tally_grown (by_note cache_removed) asked_of start old es answers notes a n id (tally_of id first.asked) run);
  hit = λ id.
      one.hit id ∙ ap (λ (t : ℕ). raised_at (hit_in a n) id (shut (by_note cache_removed a) id t)) (so_far.hit id)
      ∙ sym (tally_grown (by_note cache_removed) hit_in start old es answers notes a n id (tally_of id first.hit) run);
}

-- a call more is counted
pub counted_grown : (opening : Snapshot) (count : ℕ) (old new : Plain) (tally fuller : Tally) (event : Event) (answer : Answer) (noted : Noted) →
    Answers old event answer new → IsNoted old event answer noted → AreRaised (times event answer) tally.counts.items fuller.counts.items →
    (fuller.by_number.lacked ≡ false → AreCounted answer noted tally.by_number fuller.by_number) → (fuller.by_number.lacked ≡ false → tally.by_number.lacked ≡ false) →
    Counted opening count old tally → Counted opening (count + 1) new fuller
counted_grown opening count old new tally fuller event answer noted step note one numbers before so_far = record {
  start = so_far.start;
  shown = so_far.shown;
  opens = so_far.opens;
  events = so_far.events ++ event ∷ [];
  answers = so_far.answers ++ answer ∷ [];
  notes = so_far.notes ++ noted ∷ [];
  many = length-append so_far.events (event ∷ []) ∙ ap (λ (n : ℕ). n + 1) so_far.many;
  run = noted_run_grown so_far.start old new so_far.events so_far.answers so_far.notes event answer noted so_far.run step note;
  counted = λ c.
      one c ∙ ap (λ (n : ℕ). raised (times event answer c) n) (so_far.counted c)
      ∙ most_twice 0 (times_in so_far.events so_far.answers c) (times event answer c) (2 ^ 64 - 1)
      ∙ ap (λ (n : ℕ). raised n 0) (sym (times_grown so_far.start old so_far.events so_far.answers so_far.notes event answer c so_far.run));
  first = so_far.first;
  none = so_far.none;
  numbers = λ exact.
      numbers_grown so_far.start old so_far.events so_far.answers so_far.notes answer noted so_far.first tally.by_number fuller.by_number so_far.run (so_far.numbers (before exact)) (numbers exact);
}

-- no call is counted
pub counted_new : (opening : Snapshot) (balancer : Plain) (tally : Tally) → IsShown balancer → opening ≡ snapshot_of balancer → ((c : ℕ) → count_at c tally.counts.items ≡ 0) → AreNone tally.by_number →
    ∥ Counted opening 0 balancer tally ∥₁
counted_new opening balancer tally shown opens zero none = ∣ record {
  start = balancer;
  shown = shown;
  opens = sym opens;
  events = [];
  answers = [];
  notes = [];
  many = refl;
  run = refl;
  counted = λ c. zero c;
  first = tally.by_number;
  none = none;
  numbers = λ exact. record { ended = λ id. refl; forwarded = λ id. refl; replied = λ id. refl; expired = λ id. refl; asked = λ id. refl; hit = λ id. refl };
} ∣₁

-- a log with one entry more tells of the run with one event more
tells_grown : (opening : Snapshot) (log : List LogEntry) (mid new : Plain) (seat : SeatId) (event : Event) (answer : Answer) → Tells opening log mid → Answers mid event answer new
    → Tells opening (log ++ entry seat event answer ∷ []) new
tells_grown opening log mid new seat event answer tells step = record {
  start = tells.start;
  shown = tells.shown;
  opens = tells.opens;
  run =
      subst (λ es. IsRun tells.start es (answers_of (log ++ entry seat event answer ∷ [])) new) (sym (map-append (λ (e : LogEntry). e.event) log (entry seat event answer ∷ [])))
      (subst (λ l. IsRun tells.start (events_of log ++ event ∷ []) l new) (sym (map-append (λ (e : LogEntry). e.answer) log (entry seat event answer ∷ [])))
      (run_grown tells.start mid new (events_of log) (answers_of log) event answer tells.run step));
}

-- a call that the log has
pub keeps_grown : (opening : Snapshot) (limit count : ℕ) (log : List LogEntry) (old new : Plain) (seat : SeatId) (event : Event) (answer : Answer) → count < limit → Answers old event answer new
    → Keeps opening limit count log old → Keeps opening limit (count + 1) (log ++ entry seat event answer ∷ []) new
keeps_grown opening limit count log old new seat event answer within step keeps =
    let is : old ≡ keeps.end = keeps.current (omega arith) in record {
      end = new;
      tells = tells_grown opening log keeps.end new seat event answer keeps.tells (subst (λ p. Answers p event answer new) is step);
      current = λ _. refl;
    }

-- a call past the limit
pub keeps_past : (opening : Snapshot) (limit count : ℕ) (log : List LogEntry) (old new : Plain) → limit ≤ count → Keeps opening limit count log old → Keeps opening limit (count + 1) log new
keeps_past opening limit count log old new past keeps = record { end = keeps.end; tells = keeps.tells; current = λ within. absurd (omega arith) }

-- a book without calls
pub keeps_new : (opening : Snapshot) (limit : ℕ) (log : List LogEntry) (balancer : Plain) → IsShown balancer → opening ≡ snapshot_of balancer → log ≡ [] → ∥ Keeps opening limit 0 log balancer ∥₁
keeps_new opening limit log balancer shown opens none =
    let keeps : Keeps opening limit 0 [] balancer = record {
      end = balancer;
      tells = record { start = balancer; shown = shown; opens = sym opens; run = refl };
      current = λ _. refl;
    } in
    subst (λ l. ∥ Keeps opening limit 0 l balancer ∥₁) (sym none) ∣ keeps ∣₁

-- the seats of a log with one entry more
pub seated_grown : (seats : ℕ) (log new : List LogEntry) (e : LogEntry) → All (λ (x : LogEntry). x.seat.0 < seats) log → e.seat.0 < seats → new ≡ log ++ e ∷ [] → All (λ (x : LogEntry). x.seat.0 < seats) new
seated_grown seats log new e each last is = subst (λ l. All (λ (x : LogEntry). x.seat.0 < seats) l) (sym is) (All-append (λ (x : LogEntry). x.seat.0 < seats) log (e ∷ []) each (search rules))

-- a log that tells of a run from a state without outstanding queries and kept replies tells where its cached answers come from
pub caches_told : CachedAnswersAreKeptReplies → (opening : Snapshot) (limit count : ℕ) (log : List LogEntry) (balancer : Plain) → opening.outstanding ≡ [] → opening.kept ≡ []
    → Keeps opening limit count log balancer → TellsCaches opening log
caches_told law opening limit count log balancer none_outstanding none_kept keeps =
    let tells = keeps.tells in record {
      start = tells.start;
      shown = tells.shown;
      opens = tells.opens;
      provenance =
          law tells.start keeps.end (events_of log) (answers_of log) (ap (λ (s : Snapshot). s.outstanding) tells.opens ∙ none_outstanding)
          (ap (λ (s : Snapshot). s.kept) tells.opens ∙ none_kept) tells.run;
    }

-- a log that tells of a run tells which replies its hits come from
pub hits_told : HitsComeFromReplies → (opening : Snapshot) (limit count : ℕ) (log : List LogEntry) (balancer : Plain) → Keeps opening limit count log balancer → TellsHits opening log
hits_told law opening limit count log balancer keeps =
    let tells = keeps.tells in record {
      start = tells.start;
      shown = tells.shown;
      opens = tells.opens;
      hits = law tells.start keeps.end (events_of log) (answers_of log) tells.run;
    }

-- which fault a closing has
abbrev is_differs : CloseFault → Type 0
is_differs Differs = Unit {0}
is_differs MissingSeat = ⊥

pub differs : Differs ≡ MissingSeat → ⊥
differs is = subst is_differs is tt
