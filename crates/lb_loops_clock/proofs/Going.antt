-- Steps of a turn.
use Rattle.std.proofs.Common.{◌≡◌, ℕ, ◌+◌, ◌≤◌, ◌⊎◌, inl, inr, Bool, true, false, Option, Some, None, List, [], ◌∷◌, ◌++◌, length, refl, sym, ap, ◌∙◌, subst, arith, append_assoc}
use Rattle.std.specs.Prelude.{◌||◌, if◌then◌else◌, option_map, option_to_list, slice_get}
use Rattle.std.proofs.lemmas.Grind.{flat_map-append}
use Rattle.std.proofs.lemmas.List.{append-nil}
use Rattle.lb_loops_clock.specs.Acts.{Act, Asked, Begun, Blinded, Ended, Followed, Heard, Held, HeldBack, Passed, Probes, Setting, Stops, Ticked, Unread, blind_in, device_in, failed_in, line_in, lines_in, or_device, read_in, setting, stamp_in, tried_in}
use Rattle.lb_loops_clock.specs.Lines.{Comes, ProbeComes, is_done, probe_to, probes_in}
use Rattle.lb_loops_clock.specs.Turn.{FailsBy, Goes, Rests, Steps, Tells, Turned, Turns, held_by}
use Rattle.lb_loops_clock.specs.World.{World}
use Rattle.lb_loops_clock.specs.declared.turn.End.{End}
use Rattle.lb_loops_clock.specs.declared.turn.End.TheVariants as ends
use Rattle.lb_loops_clock.proofs.Acting.{device_on, stops_on, tries_on, turns_none, turns_on}
use Rattle.lb_step.specs.declared.event.Event.{Event}
use Rattle.lb_step.specs.declared.event.Event.TheVariants.{HealthResult, Tick}
use Rattle.lb_loops_io.specs.Counts.{Fails, Grows}
use Rattle.lb_loops_io.specs.Letter.{IsOutcome, outcome_letter}
use Rattle.lb_loops_io.specs.Lines.{answered_as, events_in, is_by_device}
use Rattle.lb_loops_io.specs.Roster.{Rostered}
use Rattle.lb_loops_io.specs.Stamps.{Stamp}
use Rattle.lb_loops_io.specs.Ways.{job_in, packet_in, post_in, sending_of}
use Rattle.lb_loops_io.specs.declared.report.DeviceFault.{DeviceFault}
use Rattle.lb_loops_io.specs.declared.report.DeviceFault.TheVariants as devices
use Rattle.lb_loops_io.specs.declared.report.Line.{Line}
use Rattle.lb_loops_io.specs.declared.report.Line.TheVariants as lines
use Rattle.lb_loops_io.specs.declared.report.Outcome.{Outcome}
use Rattle.lb_loops_io.specs.declared.report.Sending as report_sending
use Rattle.lb_loops_io.specs.declared.report.Source.{Source}
use Rattle.lb_loops_io.specs.declared.report.Source.TheVariants as sources
use Rattle.lb_loops_io.specs.declared.roster.Listed.{Listed}
use Rattle.lb_loops_io.specs.declared.roster.Place.{Place}
use Rattle.lb_loops_io.specs.declared.traffic.Datagram.{Datagram}
use Rattle.lb_outbox.specs.declared.job.Job.{Job}
use Rattle.lb_loops_probes.specs.Probes.{Answers, Each, Follows, IsAsked, IsDue, IsOver, IsTimely, Probed, Unheard, begun, ended, place_of}
use Rattle.lb_loops_probes.specs.declared.watched.Waits.{Waits}
use Rattle.lb_loops_probes.specs.declared.watched.Watched.{Watched}

or_false : (b : Bool) → (b || false) ≡ b
or_false true = refl
or_false false = refl

pub or_none : (d : Option DeviceFault) → or_device d None ≡ d
or_none None = refl
or_none (Some fault) = refl

-- An act without a line.
pub turns_still : (on : Setting) (act : Act) (a b : World) (p : Probed) (given : List Datagram) (said : List Stamp) (failures outside reads : ℕ) → line_in act ≡ [] → b ≡ record a { probes = p; given = given; said = said; failures = failures; outside = outside; reads = reads }
    → Probes on act a.probes p → given ≡ a.given ++ read_in act → said ≡ a.said ++ stamp_in act → FailsBy (failed_in act) a.failures failures → FailsBy (blind_in act) a.outside outside → reads ≡ a.reads + tried_in act → Turns on (act ∷ []) a b
turns_still on act a b p given said failures outside reads no_line same probes gave told failed blind tried =
    let none : lines_in (act ∷ []) ≡ [] = ap (λ ls. ls ++ []) no_line in
    let after : b.reads ≡ reads = ap (λ (w : World). w.reads) same in
    let idle = turns_none on a in
    record {
      probes = (p, probes, ap (λ (w : World). w.probes) same);
      given = ap (λ (w : World). w.given) same ∙ gave ∙ ap (λ ds. a.given ++ ds) (sym (append-nil (read_in act)));
      said = ap (λ (w : World). w.said) same ∙ told ∙ ap (λ ds. a.said ++ ds) (sym (append-nil (stamp_in act)));
      taken = rw none (ap (λ (w : World). w.taken) same ∙ idle.taken);
      sent = rw none (ap (λ (w : World). w.outbox) same ∙ idle.sent);
      handed = rw none (ap (λ (w : World). w.handed) same ∙ idle.handed);
      are = rw none tt;
      counted = rw none (ap (λ (w : World). w.answered) same ∙ idle.counted);
      grows = rw none (subst (λ zs. Grows a.pairs zs []) (sym (ap (λ (w : World). w.pairs) same)) idle.grows);
      failed = subst (λ z. FailsBy z a.failures b.failures) (sym (or_false (failed_in act))) (subst (λ z. FailsBy (failed_in act) a.failures z) (sym (ap (λ (w : World). w.failures) same)) failed);
      blind = subst (λ z. FailsBy z a.outside b.outside) (sym (or_false (blind_in act))) (subst (λ z. FailsBy (blind_in act) a.outside z) (sym (ap (λ (w : World). w.outside) same)) blind);
      fronts = ap (λ (w : World). w.fronts) same;
      there = ap (λ (w : World). w.there) same;
      reads = omega (arith, after, tried);
    }

-- An event that is told, where it is made once to be handed to the desk and once for its line.
pub tells_by : (old new : World) (made again event : Event) (outcome : Outcome) (sending : report_sending.Sending) → made ≡ event → again ≡ event → IsOutcome made outcome → Comes old.fronts old.there (outcome_letter again outcome) sending
    → ((roster : List Listed) → new.taken ≡ old.taken ++ packet_in roster (outcome_letter again outcome) sending) → new.outbox ≡ record old.outbox { sent = old.outbox.sent ++ job_in (outcome_letter again outcome) sending }
    → new.handed ≡ old.handed ++ post_in (outcome_letter again outcome) sending → new.answered ≡ old.answered + length (answered_as made outcome) → Grows old.pairs new.pairs (answered_as made outcome)
    → FailsBy (is_by_device sending) old.failures new.failures → new ≡ record old { taken = new.taken; outbox = new.outbox; handed = new.handed; answered = new.answered; pairs = new.pairs; failures = new.failures }
    → Tells old new event outcome sending
tells_by old new made again event outcome sending one two is comes taken sent handed counted grows failed same = record {
  is = subst (λ (e : Event). IsOutcome e outcome) one is;
  comes = subst (λ (e : Event). Comes old.fronts old.there (outcome_letter e outcome) sending) two comes;
  taken = λ roster. subst (λ (e : Event). new.taken ≡ old.taken ++ packet_in roster (outcome_letter e outcome) sending) two (taken roster);
  sent = subst (λ (e : Event). new.outbox ≡ record old.outbox { sent = old.outbox.sent ++ job_in (outcome_letter e outcome) sending }) two sent;
  handed = subst (λ (e : Event). new.handed ≡ old.handed ++ post_in (outcome_letter e outcome) sending) two handed;
  counted = subst (λ (e : Event). new.answered ≡ old.answered + length (answered_as e outcome)) one counted;
  grows = subst (λ (e : Event). Grows old.pairs new.pairs (answered_as e outcome)) one grows;
  failed = failed;
  same = same;
}

-- An act whose event is told.
pub turns_told : (on : Setting) (act : Act) (a mid told b : World) (source : Source) (event : Event) (outcome : Outcome) (sending : report_sending.Sending)
    → line_in act ≡ lines.Event source event outcome sending ∷ [] → failed_in act ≡ is_by_device sending → blind_in act ≡ false
    → mid ≡ record a { given = a.given ++ read_in act; said = a.said ++ stamp_in act; reads = a.reads + tried_in act } → Tells mid told event outcome sending → b ≡ record told { probes = b.probes } → Probes on act a.probes b.probes
    → Turns on (act ∷ []) a b
turns_told on act a mid told b source event outcome sending one failed blind read tells ended probes =
    let line : lines_in (act ∷ []) ≡ lines.Event source event outcome sending ∷ [] = ap (λ ls. ls ++ []) one in
    let letter = outcome_letter event outcome in
    let nil_len : length (answered_as event outcome ++ []) ≡ length (answered_as event outcome) = ap (λ zs. length zs) (append-nil (answered_as event outcome)) in
    let count = tells.counted in
    let count_mid : mid.answered ≡ a.answered = ap (λ (w : World). w.answered) read in
    let count_b : b.answered ≡ told.answered = ap (λ (w : World). w.answered) ended in
    let tried : b.reads ≡ a.reads + tried_in act = ap (λ (w : World). w.reads) ended ∙ ap (λ (w : World). w.reads) tells.same ∙ ap (λ (w : World). w.reads) read in
    record {
      probes = (b.probes, probes, refl);
      given = ap (λ (w : World). w.given) ended ∙ ap (λ (w : World). w.given) tells.same ∙ ap (λ (w : World). w.given) read ∙ ap (λ ds. a.given ++ ds) (sym (append-nil (read_in act)));
      said = ap (λ (w : World). w.said) ended ∙ ap (λ (w : World). w.said) tells.same ∙ ap (λ (w : World). w.said) read ∙ ap (λ ds. a.said ++ ds) (sym (append-nil (stamp_in act)));
      taken = rw line (ap (λ (w : World). w.taken) ended ∙ tells.taken on.roster.listed ∙ ap (λ (w : World). w.taken ++ packet_in on.roster.listed letter sending) read ∙ ap (λ ds. a.taken ++ ds) (sym (append-nil (packet_in on.roster.listed letter sending))));
      sent = rw line (ap (λ (w : World). w.outbox) ended ∙ tells.sent ∙ ap (λ (w : World). record w.outbox { sent = w.outbox.sent ++ job_in letter sending }) read ∙ ap (λ (js : List Job). record a.outbox { sent = a.outbox.sent ++ js }) (sym (append-nil (job_in letter sending))));
      handed = rw line (ap (λ (w : World). w.handed) ended ∙ tells.handed ∙ ap (λ (w : World). w.handed ++ post_in letter sending) read ∙ ap (λ ps. a.handed ++ ps) (sym (append-nil (post_in letter sending))));
      are = rw line ((tells.is, subst (λ (w : World). Comes w.fronts w.there (outcome_letter event outcome) sending) read tells.comes), tt);
      counted = rw line (omega (arith, nil_len, count, count_mid, count_b));
      grows = rw line (subst (λ zs. Grows a.pairs b.pairs zs) (sym (append-nil (answered_as event outcome))) (subst (λ zs. Grows zs b.pairs (answered_as event outcome)) (ap (λ (w : World). w.pairs) read) (subst (λ zs. Grows mid.pairs zs (answered_as event outcome)) (sym (ap (λ (w : World). w.pairs) ended)) tells.grows)));
      failed = subst (λ z. FailsBy z a.failures b.failures) (sym (or_false (failed_in act) ∙ failed))
          (subst (λ z. FailsBy (is_by_device sending) z b.failures) (ap (λ (w : World). w.failures) read) (subst (λ z. FailsBy (is_by_device sending) mid.failures z) (sym (ap (λ (w : World). w.failures) ended)) tells.failed));
      blind = subst (λ z. FailsBy z a.outside b.outside) (sym (or_false (blind_in act) ∙ blind)) (ap (λ (w : World). w.outside) ended ∙ ap (λ (w : World). w.outside) tells.same ∙ ap (λ (w : World). w.outside) read);
      fronts = ap (λ (w : World). w.fronts) ended ∙ ap (λ (w : World). w.fronts) tells.same ∙ ap (λ (w : World). w.fronts) read;
      there = ap (λ (w : World). w.there) ended ∙ ap (λ (w : World). w.there) tells.same ∙ ap (λ (w : World). w.there) read;
      reads = omega (arith, tried);
    }

-- A probe.
pub turns_begun : (on : Setting) (a mid b : World) (stamp : Stamp) (i : ℕ) (w : Watched) (place : Place) (sending : report_sending.Sending)
    → mid ≡ record a { said = a.said ++ stamp ∷ [] } → slice_get a.probes.watched i ≡ Some w → IsDue on.roster.listed on.start w place → ProbeComes sending
    → b.taken ≡ mid.taken ++ (if is_done sending then probe_to w.server stamp.1 place.at ∷ [] else []) → FailsBy (is_by_device sending) mid.failures b.failures
    → b.probes ≡ begun mid.probes i w place on.start stamp (is_done sending) → b ≡ record mid { probes = b.probes; taken = b.taken; failures = b.failures }
    → Turns on (Begun stamp i w place sending ∷ []) a b
turns_begun on a mid b stamp i w place sending said here due comes took fails probes same =
    let idle = turns_none on a in
    record {
      probes = (b.probes, (here, due, probes ∙ ap (λ (v : World). begun v.probes i w place on.start stamp (is_done sending)) said), refl);
      given = ap (λ (v : World). v.given) same ∙ ap (λ (v : World). v.given) said ∙ idle.given;
      said = ap (λ (v : World). v.said) same ∙ ap (λ (v : World). v.said) said;
      taken = took ∙ ap (λ (v : World). v.taken ++ (if is_done sending then probe_to w.server stamp.1 place.at ∷ [] else [])) said
          ∙ ap (λ zs. a.taken ++ zs) (ap (λ (p : Option Place). if is_done sending then option_to_list (option_map (probe_to w.server stamp.1) (option_map (λ (q : Place). q.at) p)) else []) (sym due.2) ∙ sym (append-nil _));
      sent = ap (λ (v : World). v.outbox) same ∙ ap (λ (v : World). v.outbox) said ∙ idle.sent;
      handed = ap (λ (v : World). v.handed) same ∙ ap (λ (v : World). v.handed) said ∙ idle.handed;
      are = (comes, tt);
      counted = ap (λ (v : World). v.answered) same ∙ ap (λ (v : World). v.answered) said ∙ idle.counted;
      grows = subst (λ zs. Grows a.pairs zs []) (sym (ap (λ (v : World). v.pairs) same ∙ ap (λ (v : World). v.pairs) said)) idle.grows;
      failed = subst (λ z. FailsBy z a.failures b.failures) (sym (or_false (is_by_device sending))) (subst (λ z. FailsBy (is_by_device sending) z b.failures) (ap (λ (v : World). v.failures) said) fails);
      blind = ap (λ (v : World). v.outside) same ∙ ap (λ (v : World). v.outside) said;
      fronts = ap (λ (v : World). v.fronts) same ∙ ap (λ (v : World). v.fronts) said;
      there = ap (λ (v : World). v.there) same ∙ ap (λ (v : World). v.there) said;
      reads = ap (λ (v : World). v.reads) same ∙ ap (λ (v : World). v.reads) said ∙ idle.reads;
    }

-- No step, one act, and steps after others.
pub goes_none : (on : Setting) (n : ℕ) (a : World) (told : List Line) (device : Option DeviceFault) → Goes on n a a told told device device None
goes_none on n a told device = record {
  acts = [];
  turns = turns_none on a;
  lines = sym (append-nil told);
  noted = sym (or_none device);
  stops = refl;
  few = omega arith;
}

pub goes_act : (on : Setting) (n : ℕ) (act : Act) (a b : World) (before after : List Line) (device later : Option DeviceFault) (end : Option End) → Turns on (act ∷ []) a b → after ≡ before ++ line_in act
    → later ≡ or_device device (device_in act) → Stops (act ∷ []) end → tried_in act ≤ n → Goes on n a b before after device later end
goes_act on n act a b before after device later end turns told noted stops few =
    record {
      acts = act ∷ [];
      turns = turns;
      lines = told ∙ ap (λ ls. before ++ ls) (sym (append-nil (line_in act)));
      noted = noted ∙ ap (λ d. or_device device d) (sym (or_none (device_in act)));
      stops = stops;
      few = omega (arith, few);
    }

pub goes_on : (on : Setting) (n m : ℕ) (a b c : World) (first mid last : List Line) (d e f : Option DeviceFault) (end : Option End) → Goes on n a b first mid d e None → Goes on m b c mid last e f end
    → Goes on (n + m) a c first last d f end
goes_on on n m a b c first mid last d e f end one two =
    let xs = one.acts in
    let ys = two.acts in
    let len = tries_on xs ys in
    let few_one = one.few in
    let few_two = two.few in
    record {
      acts = xs ++ ys;
      turns = turns_on on xs ys a b c one.turns two.turns;
      lines = two.lines ∙ ap (λ ls. ls ++ lines_in ys) one.lines ∙ append_assoc first (lines_in xs) (lines_in ys) ∙ ap (λ ls. first ++ ls) (sym (flat_map-append line_in xs ys));
      noted = device_on xs ys d e f one.noted two.noted;
      stops = stops_on xs ys end one.stops two.stops;
      few = omega (arith, len, few_one, few_two);
    }

pub goes_within : (on : Setting) (n m : ℕ) (a b : World) (first last : List Line) (d e : Option DeviceFault) (end : Option End) → n ≤ m → Goes on n a b first last d e end → Goes on m a b first last d e end
goes_within on n m a b first last d e end le one =
    let few = one.few in record {
      acts = one.acts;
      turns = one.turns;
      lines = one.lines;
      noted = one.noted;
      stops = one.stops;
      few = omega (arith, le, few);
    }

-- The steps, each by what its calls say.

-- there was no moment to be had
pub goes_blind : (on : Setting) (n : ℕ) (a b : World) (before after : List Line) (device later : Option DeviceFault) → (b ≡ record a { outside = b.outside }) × Fails a.outside b.outside → after ≡ before → later ≡ or_device device (Some devices.Outside)
    → Goes on n a b before after device later (Some ends.Blind)
goes_blind on n a b before after device later blind lines noted =
    goes_act on n Blinded a b before after device later (Some ends.Blind)
    (turns_still on Blinded a b a.probes a.given a.said a.failures b.outside a.reads refl blind.0 refl (sym (append-nil a.given)) (sym (append-nil a.said)) refl blind.1 (omega arith))
    (lines ∙ sym (append-nil before)) noted (refl, refl) (omega arith)

-- a turn begins
pub goes_first : (roster : Rostered) (start word : ℕ) (a b : World) (told : List Line) (device : Option DeviceFault) → b ≡ record a { probes = b.probes; said = a.said ++ (start, word) ∷ [] } → Follows roster start a.probes b.probes
    → Goes (setting roster start) 0 a b told told device device None
goes_first roster start word a b told device same follows =
    let on = setting roster start in
    let mid = record a { said = a.said ++ (start, word) ∷ [] } in
    goes_on on 0 0 a mid b told told told device device device None
    (goes_act on 0 (Asked (start, word)) a mid told told device device None
    (turns_still on (Asked (start, word)) a mid a.probes a.given (a.said ++ (start, word) ∷ []) a.failures a.outside a.reads refl refl refl (sym (append-nil a.given)) refl refl refl (omega arith))
    (sym (append-nil told)) (sym (or_none device)) refl (omega arith))
    (goes_act on 0 Followed mid b told told device device None
    (turns_still on Followed mid b b.probes mid.given mid.said mid.failures mid.outside mid.reads refl same follows (sym (append-nil mid.given)) (sym (append-nil mid.said)) refl refl (omega arith))
    (sym (append-nil told)) (sym (or_none device)) refl (omega arith))

-- a read gave nothing, or failed
pub goes_unread : (on : Setting) (a mid b : World) (stamp : Stamp) (failed : Bool) (before after : List Line) (device later : Option DeviceFault) → mid ≡ record a { said = a.said ++ stamp ∷ [] } → b ≡ record mid { given = b.given; failures = b.failures; reads = mid.reads + 1 }
    → b.given ≡ mid.given → FailsBy failed mid.failures b.failures → after ≡ before → later ≡ or_device device (if failed then Some devices.Sockets else None) → Goes on 1 a b before after device later None
goes_unread on a mid b stamp failed before after device later said same gave fails lines noted =
    goes_act on 1 (Unread stamp failed) a b before after device later None
    (turns_still on (Unread stamp failed) a b a.probes b.given (a.said ++ stamp ∷ []) b.failures a.outside (a.reads + 1) refl (same ∙ ap (λ (w : World). record w { given = b.given; failures = b.failures; reads = w.reads + 1 }) said) refl
    (gave ∙ ap (λ (w : World). w.given) said ∙ sym (append-nil a.given)) refl (subst (λ z. FailsBy failed z b.failures) (ap (λ (w : World). w.failures) said) fails) refl refl)
    (lines ∙ sym (append-nil before)) noted refl (omega arith)

-- a datagram was read
pub read_is : (a mid b : World) (stamp : Stamp) (d : Datagram) → mid ≡ record a { said = a.said ++ stamp ∷ [] } → b ≡ record mid { given = b.given; failures = b.failures; reads = mid.reads + 1 } → b.given ≡ mid.given ++ d ∷ [] → b.failures ≡ mid.failures
    → b ≡ record a { given = a.given ++ d ∷ []; said = a.said ++ stamp ∷ []; reads = a.reads + 1 }
read_is a mid b stamp d said same gave fails =
    same ∙ ap (λ (ds : List Datagram). record mid { given = ds; failures = b.failures; reads = mid.reads + 1 }) gave ∙ ap (λ (f : ℕ). record mid { given = mid.given ++ d ∷ []; failures = f; reads = mid.reads + 1 }) fails
    ∙ ap (λ (w : World). record w { given = w.given ++ d ∷ []; reads = w.reads + 1 }) said

pub goes_passed : (on : Setting) (a b : World) (stamp : Stamp) (d : Datagram) (told : List Line) (device : Option DeviceFault) → b ≡ record a { given = a.given ++ d ∷ []; said = a.said ++ stamp ∷ []; reads = a.reads + 1 } → Unheard stamp.0 d b.probes.watched
    → Goes on 1 a b told told device device None
goes_passed on a b stamp d told device read unheard =
    goes_act on 1 (Passed stamp d) a b told told device device None
    (turns_still on (Passed stamp d) a b a.probes (a.given ++ d ∷ []) (a.said ++ stamp ∷ []) a.failures a.outside (a.reads + 1) refl read (refl, subst (λ (p : Probed). Unheard stamp.0 d p.watched) (ap (λ (w : World). w.probes) read) unheard) refl refl refl refl refl)
    (sym (append-nil told)) (sym (or_none device)) refl (omega arith)

-- the gate held what it says of a probe
pub goes_held_back : (on : Setting) (a b c : World) (stamp : Stamp) (d : Datagram) (told : List Line) (device : Option DeviceFault) → b ≡ record a { given = a.given ++ d ∷ []; said = a.said ++ stamp ∷ []; reads = a.reads + 1 } → c ≡ b → Goes on 1 a c told told device device (Some ends.Held)
goes_held_back on a b c stamp d told device read held =
    goes_act on 1 (HeldBack stamp d) a c told told device device (Some ends.Held)
    (turns_still on (HeldBack stamp d) a c a.probes (a.given ++ d ∷ []) (a.said ++ stamp ∷ []) a.failures a.outside (a.reads + 1) refl (held ∙ read) refl refl refl refl refl refl)
    (sym (append-nil told)) (sym (or_none device)) (refl, refl) (omega arith)

-- the gate held a bad result, or a tick
pub goes_held : (on : Setting) (a b c : World) (stamp : Stamp) (told : List Line) (device : Option DeviceFault) → b ≡ record a { said = a.said ++ stamp ∷ [] } → c ≡ b → Goes on 0 a c told told device device (Some ends.Held)
goes_held on a b c stamp told device said held =
    goes_act on 0 (Held stamp) a c told told device device (Some ends.Held)
    (turns_still on (Held stamp) a c a.probes a.given (a.said ++ stamp ∷ []) a.failures a.outside a.reads refl (held ∙ said) refl (sym (append-nil a.given)) refl refl refl (omega arith))
    (sym (append-nil told)) (sym (or_none device)) (refl, refl) (omega arith)

no_read : (a : World) (stamp : Stamp) → record a { said = a.said ++ stamp ∷ [] } ≡ record a { given = a.given ++ []; said = a.said ++ stamp ∷ []; reads = a.reads + 0 }
no_read a stamp = let none : a.reads ≡ a.reads + 0 = omega arith in
    ap (λ (ds : List Datagram). record a { given = ds; said = a.said ++ stamp ∷ [] }) (sym (append-nil a.given)) ∙ ap (λ (n : ℕ). record a { given = a.given ++ []; said = a.said ++ stamp ∷ []; reads = n }) none

-- the device fault of a line, where its act shows no other
device_told : (b : Bool) → (if b then Some devices.Sockets else (if false then Some devices.Outside else None)) ≡ (if b then Some devices.Sockets else None)
device_told true = refl
device_told false = refl

-- a datagram answered a probe, whose good result was told
pub goes_heard : (on : Setting) (a b t c : World) (stamp : Stamp) (d : Datagram) (i : ℕ) (w : Watched) (x : Waits) (outcome : Outcome) (sending : report_sending.Sending) (line : Line) (before after : List Line) (device later : Option DeviceFault)
    → b ≡ record a { given = a.given ++ d ∷ []; said = a.said ++ stamp ∷ []; reads = a.reads + 1 } → place_of d.socket b.probes.watched ≡ Some i → slice_get b.probes.watched i ≡ Some w → w.waits ≡ Some x → Answers stamp.0 d w
    → Tells b t (HealthResult stamp.0 w.server true) outcome sending → c ≡ record t { probes = ended t.probes i w }
    → line ≡ lines.Event (sources.Probe w.server x.word) (HealthResult stamp.0 w.server true) outcome sending → after ≡ before ++ line ∷ [] → later ≡ or_device device (if is_by_device (sending_of line) then Some devices.Sockets else None)
    → Goes on 1 a c before after device later None
goes_heard on a b t c stamp d i w x outcome sending line before after device later read place here waits answers tells end is lines noted =
    let same : b.probes ≡ a.probes = ap (λ (v : World). v.probes) read in
    let kept : t.probes ≡ a.probes = ap (λ (v : World). v.probes) tells.same ∙ same in
    goes_act on 1 (Heard stamp d i w x outcome sending) a c before after device later None
    (turns_told on (Heard stamp d i w x outcome sending) a b t c (sources.Probe w.server x.word) (HealthResult stamp.0 w.server true) outcome sending refl refl refl read tells (end ∙ ap (λ (p : Probed). record t { probes = p }) (sym (ap (λ (v : World). v.probes) end)))
    (subst (λ (p : Probed). place_of d.socket p.watched ≡ Some i) same place, subst (λ (p : Probed). slice_get p.watched i ≡ Some w) same here, waits, answers, ap (λ (v : World). v.probes) end ∙ ap (λ (p : Probed). ended p i w) kept))
    (lines ∙ ap (λ (l : Line). before ++ l ∷ []) is) (noted ∙ ap (λ (l : Line). or_device device (if is_by_device (sending_of l) then Some devices.Sockets else None)) is ∙ ap (λ e. or_device device e) (sym (device_told (is_by_device sending)))) refl (omega arith)

-- a probe was over, and its bad result was told
pub goes_ended : (on : Setting) (a b t c : World) (stamp : Stamp) (i : ℕ) (w : Watched) (x : Waits) (outcome : Outcome) (sending : report_sending.Sending) (line : Line) (before after : List Line) (device later : Option DeviceFault)
    → b ≡ record a { said = a.said ++ stamp ∷ [] } → slice_get a.probes.watched i ≡ Some w → w.waits ≡ Some x → IsOver on.start x
    → Tells b t (HealthResult stamp.0 w.server false) outcome sending → c ≡ record t { probes = ended t.probes i w }
    → line ≡ lines.Event (sources.Probe w.server x.word) (HealthResult stamp.0 w.server false) outcome sending → after ≡ before ++ line ∷ [] → later ≡ or_device device (if is_by_device (sending_of line) then Some devices.Sockets else None)
    → Goes on 0 a c before after device later None
goes_ended on a b t c stamp i w x outcome sending line before after device later said here waits over tells end is lines noted =
    let kept : t.probes ≡ a.probes = ap (λ (v : World). v.probes) tells.same ∙ ap (λ (v : World). v.probes) said in
    goes_act on 0 (Ended stamp i w x outcome sending) a c before after device later None
    (turns_told on (Ended stamp i w x outcome sending) a b t c (sources.Probe w.server x.word) (HealthResult stamp.0 w.server false) outcome sending refl refl refl (said ∙ no_read a stamp) tells (end ∙ ap (λ (p : Probed). record t { probes = p }) (sym (ap (λ (v : World). v.probes) end)))
    (here, waits, over, ap (λ (v : World). v.probes) end ∙ ap (λ (p : Probed). ended p i w) kept))
    (lines ∙ ap (λ (l : Line). before ++ l ∷ []) is) (noted ∙ ap (λ (l : Line). or_device device (if is_by_device (sending_of l) then Some devices.Sockets else None)) is ∙ ap (λ e. or_device device e) (sym (device_told (is_by_device sending)))) refl (omega arith)

-- a tick was told
pub goes_ticked : (on : Setting) (a b t : World) (stamp : Stamp) (outcome : Outcome) (sending : report_sending.Sending) (line : Line) (before after : List Line) (device later : Option DeviceFault)
    → b ≡ record a { said = a.said ++ stamp ∷ [] } → Tells b t (Tick stamp.0) outcome sending
    → line ≡ lines.Event sources.Clock (Tick stamp.0) outcome sending → after ≡ before ++ line ∷ [] → later ≡ or_device device (if is_by_device (sending_of line) then Some devices.Sockets else None)
    → Goes on 0 a t before after device later None
goes_ticked on a b t stamp outcome sending line before after device later said tells is lines noted =
    goes_act on 0 (Ticked stamp outcome sending) a t before after device later None
    (turns_told on (Ticked stamp outcome sending) a b t t sources.Clock (Tick stamp.0) outcome sending refl refl refl (said ∙ no_read a stamp) tells refl (ap (λ (v : World). v.probes) tells.same ∙ ap (λ (v : World). v.probes) said))
    (lines ∙ ap (λ (l : Line). before ++ l ∷ []) is) (noted ∙ ap (λ (l : Line). or_device device (if is_by_device (sending_of l) then Some devices.Sockets else None)) is ∙ ap (λ e. or_device device e) (sym (device_told (is_by_device sending)))) refl (omega arith)

-- a probe was sent, or could not be
pub goes_begun : (on : Setting) (a mid b : World) (stamp : Stamp) (i : ℕ) (w : Watched) (place : Place) (sending : report_sending.Sending) (before after : List Line) (device later : Option DeviceFault)
    → mid ≡ record a { said = a.said ++ stamp ∷ [] } → slice_get a.probes.watched i ≡ Some w → IsDue on.roster.listed on.start w place → ProbeComes sending
    → b.taken ≡ mid.taken ++ (if is_done sending then probe_to w.server stamp.1 place.at ∷ [] else []) → FailsBy (is_by_device sending) mid.failures b.failures
    → b.probes ≡ begun mid.probes i w place on.start stamp (is_done sending) → b ≡ record mid { probes = b.probes; taken = b.taken; failures = b.failures }
    → after ≡ before ++ lines.Probe w.server stamp.1 sending ∷ [] → later ≡ or_device device (if is_by_device sending then Some devices.Sockets else None)
    → Goes on 0 a b before after device later None
goes_begun on a mid b stamp i w place sending before after device later said here due comes took fails probes same lines noted =
    goes_act on 0 (Begun stamp i w place sending) a b before after device later None (turns_begun on a mid b stamp i w place sending said here due comes took fails probes same)
    lines (noted ∙ ap (λ e. or_device device e) (sym (device_told (is_by_device sending)))) refl (omega arith)

-- A whole turn.

some_none : {A : Type 0} (x : A) → Some x ≡ None → ⊥
some_none x e = cc e

-- there was no moment at which it began
pub steps_blind : (roster : Rostered) (a b : World) (before after : List Line) (device later : Option DeviceFault) → (b ≡ record a { outside = b.outside }) × Fails a.outside b.outside → after ≡ before → later ≡ or_device device (Some devices.Outside)
    → Steps roster a b before after device later (Some ends.Blind)
unfolding goes_blind goes_act
steps_blind roster a b before after device later blind lines noted = record {
  start = 0;
  goes = goes_blind (setting roster 0) 64 a b before after device later blind lines noted;
  begins = inl refl;
  rests = λ e. absurd (some_none ends.Blind e);
  timely = λ e. absurd (some_none ends.Blind e);
  asked = λ e. absurd (some_none ends.Blind e);
}

-- it ended before it rested
pub steps_cut : (roster : Rostered) (start word : ℕ) (a b c : World) (before after : List Line) (device later : Option DeviceFault) (this : End) → b ≡ record a { probes = b.probes; said = a.said ++ (start, word) ∷ [] } → Follows roster start a.probes b.probes
    → Goes (setting roster start) 64 b c before after device later (Some this) → Steps roster a c before after device later (Some this)
unfolding goes_on goes_first goes_act
steps_cut roster start word a b c before after device later this same follows goes = record {
  start = start;
  goes = goes_on (setting roster start) 0 64 a b c before before after device device later (Some this) (goes_first roster start word a b before device same follows) goes;
  begins = inr (word, goes.acts, refl);
  rests = λ e. absurd (some_none this e);
  timely = λ e. absurd (some_none this e);
  asked = λ e. absurd (some_none this e);
}

-- it did not
pub steps_done : (roster : Rostered) (start word : ℕ) (a b c : World) (before after : List Line) (device later : Option DeviceFault) (end : Option End) (events probes : ℕ) → b ≡ record a { probes = b.probes; said = a.said ++ (start, word) ∷ [] } → Follows roster start a.probes b.probes
    → Goes (setting roster start) 64 b c before after device later end → (end ≡ None → Rests after) → events ≡ length (events_in after) → probes ≡ length (probes_in after)
    → (64 ≤ events) ⊎ Each (IsTimely start) c.probes.watched → (64 ≤ probes) ⊎ Each (IsAsked roster.listed start) c.probes.watched → Steps roster a c before after device later end
unfolding goes_on goes_first goes_act
steps_done roster start word a b c before after device later end events probes same follows goes rests told sent timely asked = record {
  start = start;
  goes = goes_on (setting roster start) 0 64 a b c before before after device device later end (goes_first roster start word a b before device same follows) goes;
  begins = inr (word, goes.acts, refl);
  rests = rests;
  timely = λ _. subst (λ (n : ℕ). (64 ≤ n) ⊎ Each (IsTimely start) c.probes.watched) told timely;
  asked = λ _. subst (λ (n : ℕ). (64 ≤ n) ⊎ Each (IsAsked roster.listed start) c.probes.watched) sent asked;
}

-- its tally becomes its report
pub turned_by : (roster : Rostered) (a b : World) (first last told : List Line) (d e device : Option DeviceFault) (held : Bool) (end : Option End) → first ≡ [] → d ≡ None → told ≡ last → device ≡ e → held ≡ held_by end
    → Steps roster a b first last d e end → length (events_in told) ≤ 64 → length (probes_in told) ≤ 64 → Turned roster a b told device held
turned_by roster a b first last told d e device held end empty none lines noted holds steps events probes = record {
  end = end;
  steps = subst (λ (ls : List Line). Steps roster a b ls told None device end) empty (subst (λ (x : Option DeviceFault). Steps roster a b first told x device end) none
      (subst (λ (x : Option DeviceFault). Steps roster a b first told d x end) (sym noted) (subst (λ (ls : List Line). Steps roster a b first ls d e end) (sym lines) steps)));
  holds = holds;
  few_events = events;
  few_probes = probes;
}
