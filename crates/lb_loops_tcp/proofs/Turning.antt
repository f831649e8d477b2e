-- Rounds of a turn, one after the other.
use Rattle.std.proofs.Common.{◌≡◌, ℕ, ◌+◌, ◌≤◌, inl, Bool, true, false, true≢false, IsTrue, List, [], ◌∷◌, ◌++◌, length, Option, Some, None, if◌then◌else◌, ◌==◌, refl, sym, ap, ◌∙◌, subst, arith, append_assoc}
use Rattle.std.specs.Prelude.{◌||◌}
use Rattle.std.proofs.lemmas.Grind.{flat_map-append}
use Rattle.std.proofs.lemmas.List.{append-nil, length-append}
use Rattle.lb_loops_connections.specs.Table.{IsFirst}
use Rattle.lb_step.specs.declared.event.Event.{Event}
use Rattle.lb_loops_io.specs.Counts.{Fails, Grows, Rose}
use Rattle.lb_loops_io.specs.Letter.{IsOutcome, Letter, job_letter, outcome_letter}
use Rattle.lb_loops_io.specs.Lines.{FirstFault, answered_as, any_by_device, event_in, events_in, is_by_device, jobs_received, pair_in, pairs, received_in}
use Rattle.lb_loops_io.specs.Moves.{Traffic}
use Rattle.lb_loops_io.specs.Stamps.{Bears, Stamp}
use Rattle.lb_loops_io.specs.Ways.{letter_of, message_in, post_in, sending_of}
use Rattle.lb_loops_io.specs.declared.report.DeviceFault.{DeviceFault}
use Rattle.lb_loops_io.specs.declared.report.DeviceFault.TheVariants as devices
use Rattle.lb_loops_io.specs.declared.report.Line.{Line}
use Rattle.lb_loops_io.specs.declared.report.Line.TheVariants as lines
use Rattle.lb_loops_io.specs.declared.report.Outcome.{Outcome}
use Rattle.lb_loops_io.specs.declared.report.Sending.{Sending}
use Rattle.lb_loops_io.specs.declared.report.Source.TheVariants as sources
use Rattle.lb_loops_io.specs.declared.roster.Listed.{Listed}
use Rattle.lb_loops_io.specs.declared.traffic.Service.{Service}
use Rattle.lb_loops_io.specs.declared.traffic.Peer.{Peer}
use Rattle.lb_loops_io.specs.declared.traffic.Peer.TheVariants as peers
use Rattle.lb_outbox.specs.Outbox.{Receiving}
use Rattle.lb_outbox.specs.Rule.{delivery}
use Rattle.lb_outbox.specs.declared.job.Job.{Job}
use Rattle.lb_outbox.specs.declared.rule.SenderId.{SenderId}
use Rattle.lb_loops_tcp.proofs.Counting.{failed_on, grown_by, grows_on, received_none, received_on, stamps_on}
use Rattle.lb_loops_tcp.proofs.Faring.{all_on, rose_earlier, rose_later}
use Rattle.lb_loops_tcp.proofs.Lifting.{are_on, comes_before, comes_later}
use Rattle.lb_loops_tcp.proofs.Opening.{goes_nothing}
use Rattle.lb_loops_tcp.proofs.Settling.{settles_nothing, settles_on, settles_swept}
use Rattle.lb_loops_tcp.proofs.Then.{goes_after, goes_as, goes_then}
use Rattle.lb_loops_tcp.specs.Ends.{first_device}
use Rattle.lb_loops_tcp.specs.Goes.{Goes, Notes, Settles, both, just, none}
use Rattle.lb_loops_tcp.specs.Lines.{AreLines, Comes, event_by, message_by, messages_by, octets_in, sends_to}
use Rattle.lb_loops_tcp.specs.Links.{Net}
use Rattle.lb_loops_tcp.specs.Turn.{Fared, Receives, Sends, Stamps, Sweeps, Turns, Went}
use Rattle.lb_loops_tcp.specs.World.{World}

fared_on : (blind : Bool) (a b c : ℕ) → b ≡ a → Fared blind b c → Fared blind a c
fared_on blind a b c e is = subst (λ (k : ℕ). Fared blind k c) e is

pub turns_on : (roster : List Listed) (n m k j : ℕ) (a b c : World) (ls xs : List Line) (blind : Bool) → Turns roster n k a b ls false → Turns roster m j b c xs blind → Turns roster (n + m) (k + j) a c (ls ++ xs) blind
turns_on roster n m k j a b c ls xs blind one two =
    let events : events_in (ls ++ xs) ≡ events_in ls ++ events_in xs = flat_map-append event_in ls xs in
    let jobs : jobs_received (ls ++ xs) ≡ jobs_received ls ++ jobs_received xs = flat_map-append received_in ls xs in
    let pairs_all : pairs (ls ++ xs) ≡ pairs ls ++ pairs xs = flat_map-append pair_in ls xs in
    let events_len : length (events_in (ls ++ xs)) ≡ length (events_in ls) + length (events_in xs) = ap (λ zs. length zs) events ∙ length-append (events_in ls) (events_in xs) in
    let jobs_len : length (jobs_received (ls ++ xs)) ≡ length (jobs_received ls) + length (jobs_received xs) = ap (λ zs. length zs) jobs ∙ length-append (jobs_received ls) (jobs_received xs) in
    let pairs_len : length (pairs (ls ++ xs)) ≡ length (pairs ls) + length (pairs xs) = ap (λ zs. length zs) pairs_all ∙ length-append (pairs ls) (pairs xs) in
    let few_events_one = one.few_events in let few_events_two = two.few_events in let few_jobs_one = one.few_jobs in let few_jobs_two = two.few_jobs in
    let count_one = one.counted in let count_two = two.counted in
    record {
      goes = goes_as a.net c.net (both (messages_by ls) (messages_by xs)) (messages_by (ls ++ xs)) (both (sends_to ls) (sends_to xs)) (sends_to (ls ++ xs))
          (λ i. sym (flat_map-append (message_by i) ls xs)) (λ i. sym (flat_map-append (λ (l : Line). message_in i (letter_of l) (sending_of l)) ls xs))
          (all_on a.net b.net c.net (messages_by ls) (messages_by xs) (sends_to ls) (sends_to xs) one.goes two.goes);
      settles = settles_on a.net b.net c.net one.settles two.settles;
      are = are_on a.fronts roster a.net b.net c.net (messages_by ls) (messages_by xs) ls xs one.goes two.goes one.are (subst (λ (fs : List Service). AreLines fs roster b.net c.net none xs) one.fronts two.are);
      received = subst (λ (js : List Job). Receives a.jobs c.jobs js) (sym jobs) (received_on a.jobs b.jobs c.jobs (jobs_received ls) (jobs_received xs) one.received two.received);
      handed = grown_by (λ (l : Line). post_in (letter_of l) (sending_of l)) a.handed b.handed c.handed ls xs one.handed two.handed;
      counted = omega (arith, pairs_len, count_one, count_two);
      grows = subst (Grows a.pairs c.pairs) (sym pairs_all) (grows_on a.pairs b.pairs c.pairs (pairs ls) (pairs xs) one.grows two.grows);
      stamps = subst (λ (es : List Event). Stamps a.said c.said es) (sym events) (stamps_on a.said b.said c.said (events_in ls) (events_in xs) one.stamps two.stamps);
      failed = failed_on a.net.told.failures b.net.told.failures c.net.told.failures ls xs one.goes.failures two.goes.failures one.failed two.failed;
      few_events = omega (arith, events_len, few_events_one, few_events_two);
      few_jobs = omega (arith, jobs_len, few_jobs_one, few_jobs_two);
      fronts = two.fronts ∙ one.fronts;
      fared = fared_on blind a.outside b.outside c.outside one.fared two.fared;
    }

no_growth : {A : Type 0} (xs ys : List A) → ys ≡ xs → Grows xs ys []
no_growth {A} xs ys e = let same : length ys ≡ length xs = ap (λ zs. length zs) e in (omega (arith, same), λ full. e ∙ sym (append-nil xs))

no_device : (a b : ℕ) → IsTrue (any_by_device []) → Rose a b
no_device a b t = absurd (true≢false (sym t))

-- steps without a line: connections went on; stamps may have been said
pub turns_quiet : (roster : List Listed) (n k : ℕ) (a b : World) (stamps : List Stamp) (blind : Bool) → Goes a.net b.net none none → Settles a.net b.net → b.jobs ≡ a.jobs → b.fronts ≡ a.fronts → b.handed ≡ a.handed → b.answered ≡ a.answered → b.pairs ≡ a.pairs
    → b.said ≡ a.said ++ stamps → Fared blind a.outside b.outside → Turns roster n k a b [] blind
turns_quiet roster n k a b stamps blind goes settles jobs fronts handed answered same said fared = record {
  goes = goes;
  settles = settles;
  are = tt;
  received = subst (λ (r : Receiving). Receives a.jobs r []) (sym jobs) (received_none a.jobs);
  handed = handed ∙ sym (append-nil a.handed);
  counted = omega (arith, answered);
  grows = no_growth a.pairs b.pairs same;
  stamps = record { stamps = stamps; said = said; stamped = tt };
  failed = no_device a.net.told.failures b.net.told.failures;
  few_events = omega arith;
  few_jobs = omega arith;
  fronts = fronts;
  fared = fared;
}

pub turns_none : (roster : List Listed) (n k : ℕ) (a : World) → Turns roster n k a a [] false
turns_none roster n k a = turns_quiet roster n k a a [] false (goes_nothing a.net a.net refl) (settles_nothing a.net a.net refl) refl refl refl refl refl (sym (append-nil a.said)) refl

-- connections went on
pub turns_net : (roster : List Listed) (n k : ℕ) (a b : World) → Goes a.net b.net none none → Settles a.net b.net → b ≡ record a { net = b.net } → Turns roster n k a b [] false
turns_net roster n k a b goes settles e = turns_quiet roster n k a b [] false goes settles (ap (λ (w : World). w.jobs) e) (ap (λ (w : World). w.fronts) e) (ap (λ (w : World). w.handed) e) (ap (λ (w : World). w.answered) e) (ap (λ (w : World). w.pairs) e)
    (ap (λ (w : World). w.said) e ∙ sym (append-nil a.said)) (ap (λ (w : World). w.outside) e)

-- a moment was said, and nothing came of it
pub turns_said : (roster : List Listed) (n k : ℕ) (a b : World) (stamp : Stamp) → b ≡ record a { said = a.said ++ stamp ∷ [] } → Turns roster n k a b [] false
turns_said roster n k a b stamp e = turns_quiet roster n k a b (stamp ∷ []) false (goes_nothing a.net b.net (ap (λ (w : World). w.net) e)) (settles_nothing a.net b.net (ap (λ (w : World). w.net) e)) (ap (λ (w : World). w.jobs) e) (ap (λ (w : World). w.fronts) e) (ap (λ (w : World). w.handed) e)
    (ap (λ (w : World). w.answered) e) (ap (λ (w : World). w.pairs) e) (ap (λ (w : World). w.said) e) (ap (λ (w : World). w.outside) e)

-- there was no moment to be had
pub turns_blind : (roster : List Listed) (n k : ℕ) (a b : World) → b ≡ record a { outside = b.outside } → Fails a.outside b.outside → Turns roster n k a b [] true
turns_blind roster n k a b e fails = turns_quiet roster n k a b [] true (goes_nothing a.net b.net (ap (λ (w : World). w.net) e)) (settles_nothing a.net b.net (ap (λ (w : World). w.net) e)) (ap (λ (w : World). w.jobs) e) (ap (λ (w : World). w.fronts) e) (ap (λ (w : World). w.handed) e)
    (ap (λ (w : World). w.answered) e) (ap (λ (w : World). w.pairs) e) (ap (λ (w : World). w.said) e ∙ sym (append-nil a.said)) fails

-- more events and jobs
pub turns_within : (roster : List Listed) (n m k j : ℕ) (a b : World) (ls : List Line) (blind : Bool) → n ≤ m → k ≤ j → Turns roster n k a b ls blind → Turns roster m j a b ls blind
turns_within roster n m k j a b ls blind nm kj it =
    let events = it.few_events in let jobs = it.few_jobs in
    record {
      goes = it.goes;
      settles = it.settles;
      are = it.are;
      received = it.received;
      handed = it.handed;
      counted = it.counted;
      grows = it.grows;
      stamps = it.stamps;
      failed = it.failed;
      few_events = omega (arith, events, nm);
      few_jobs = omega (arith, jobs, kj);
      fronts = it.fronts;
      fared = it.fared;
    }

one_send : (letter : Option Letter) (sending : Sending) (l : Line) (c : ℕ) → letter_of l ≡ letter → sending_of l ≡ sending → message_in c letter sending ≡ sends_to (l ∷ []) c
one_send letter sending l c is by = ap (λ x. message_in c x sending) (sym is) ∙ ap (message_in c (letter_of l)) (sym by) ∙ sym (append-nil (message_in c (letter_of l) (sending_of l)))

one_failed : (b : Bool) (X : Type 0) → (IsTrue b → X) → IsTrue (b || false) → X
one_failed true X f t = f t
one_failed false X f t = absurd (true≢false (sym t))

rose_within : (a b c d : ℕ) → a ≤ b → c ≤ d → Rose b c → Rose a d
rose_within a b c d ab cd rose = rose_later a c d (rose_earlier a b c ab rose) cd

-- a job and its send
pub turns_job : (roster : List Listed) (a b c : World) (from : SenderId) (job : Job) (sending : Sending) → b ≡ record a { jobs = record a.jobs { received = a.jobs.received ++ delivery from job ∷ [] } }
    → Sends roster b c (Some (job_letter job)) sending → Turns roster 0 1 a c (lines.Job job sending ∷ []) false
turns_job roster a b c from job sending came sent =
    let same : c ≡ record b { net = c.net; handed = c.handed } = sent.same in
    let line : Line = lines.Job job sending in
    let net : b.net ≡ a.net = ap (λ (w : World). w.net) came in
    let fronts : b.fronts ≡ a.fronts = ap (λ (w : World). w.fronts) came in
    let jobs : c.jobs ≡ record a.jobs { received = a.jobs.received ++ delivery from job ∷ [] } = ap (λ (w : World). w.jobs) same ∙ ap (λ (w : World). w.jobs) came in
    let answered : c.answered ≡ a.answered = ap (λ (w : World). w.answered) same ∙ ap (λ (w : World). w.answered) came in
    let goes : Goes a.net c.net none (λ i. message_in i (Some (job_letter job)) sending) = subst (λ (z : Net). Goes z c.net none (λ i. message_in i (Some (job_letter job)) sending)) net sent.goes in
    record {
      goes = goes_as a.net c.net none (messages_by (line ∷ [])) (λ i. message_in i (Some (job_letter job)) sending) (sends_to (line ∷ [])) (λ i. refl) (λ i. one_send (Some (job_letter job)) sending line i refl refl) goes;
      settles = subst (λ (z : Net). Settles z c.net) net sent.settles;
      are = (subst (λ (z : Net). Comes a.fronts roster z c.net none (Some (job_letter job)) sending) net (subst (λ (fs : List Service). Comes fs roster b.net c.net none (Some (job_letter job)) sending) fronts sent.comes), tt);
      received = record { deliveries = delivery from job ∷ []; are = (refl, tt); received = jobs };
      handed = sent.handed ∙ ap (λ (w : World). w.handed ++ post_in (Some (job_letter job)) sending) came ∙ ap (λ zs. a.handed ++ zs) (sym (append-nil (post_in (Some (job_letter job)) sending)));
      counted = omega (arith, answered);
      grows = no_growth a.pairs c.pairs (ap (λ (w : World). w.pairs) same ∙ ap (λ (w : World). w.pairs) came);
      stamps = record { stamps = []; said = ap (λ (w : World). w.said) same ∙ ap (λ (w : World). w.said) came ∙ sym (append-nil a.said); stamped = tt };
      failed = one_failed (is_by_device sending) (Rose a.net.told.failures c.net.told.failures) (λ t. subst (λ (z : Net). Rose z.told.failures c.net.told.failures) net (sent.failed t));
      few_events = omega arith;
      few_jobs = omega arith;
      fronts = ap (λ (w : World). w.fronts) same ∙ fronts;
      fared = ap (λ (w : World). w.outside) same ∙ ap (λ (w : World). w.outside) came;
    }

bears : (now word n : ℕ) (peer : Peer) (bytes : List ℕ) → Bears (event_by now word n peer bytes) (now, word)
bears now word n (peers.Client front from) bytes = (refl, refl)
bears now word n (peers.Server server number to) bytes = refl

octets_of_event : (now word n : ℕ) (peer : Peer) (bytes : List ℕ) → octets_in (event_by now word n peer bytes) ≡ bytes ∷ []
octets_of_event now word n (peers.Client front from) bytes = refl
octets_of_event now word n (peers.Server server number to) bytes = refl

taken_by : (now word n : ℕ) (peer : Peer) (bytes : List ℕ) (event : Event) (outcome : Outcome) (sending : Sending) (c : ℕ) → event ≡ event_by now word n peer bytes → just n bytes c ≡ messages_by (lines.Event (sources.Connection n) event outcome sending ∷ []) c
taken_by now word n peer bytes event outcome sending c e = ap (λ (zs : List (List ℕ)). if n == c then zs else []) (sym (octets_of_event now word n peer bytes) ∙ ap octets_in (sym e)) ∙ sym (append-nil (if n == c then octets_in event else []))

-- an event that a message of a connection made, with its answer and its send
pub turns_told : (roster : List Listed) (a mid sent b : World) (n now word : ℕ) (peer : Peer) (bytes : List ℕ) (event : Event) (outcome : Outcome) (sending : Sending) (said : List Stamp)
    → IsFirst n peer bytes a.net.table → event ≡ event_by now word n peer bytes → a.said ≡ said ++ (now, word) ∷ []
    → Goes a.net mid.net (just n bytes) none → mid ≡ record a { net = mid.net; answered = mid.answered; pairs = mid.pairs } → mid.answered ≡ a.answered + length (answered_as event outcome) → Grows a.pairs mid.pairs (answered_as event outcome)
    → IsOutcome event outcome → Sends roster mid sent (outcome_letter event outcome) sending → Goes sent.net b.net none none → Settles a.net b.net → b ≡ record sent { net = b.net }
    → Turns roster 1 0 (record a { said = said }) b (lines.Event (sources.Connection n) event outcome sending ∷ []) false
turns_told roster a mid sent b n now word peer bytes event outcome sending said first made stamp took desk counted grows is_outcome sends settled settles last =
    let line : Line = lines.Event (sources.Connection n) event outcome sending in
    let letter : Option Letter = outcome_letter event outcome in
    let same : sent ≡ record mid { net = sent.net; handed = sent.handed } = sends.same in
    let fronts : mid.fronts ≡ a.fronts = ap (λ (w : World). w.fronts) desk in
    let answered : b.answered ≡ mid.answered = ap (λ (w : World). w.answered) last ∙ ap (λ (w : World). w.answered) same in
    let pairs_same : b.pairs ≡ mid.pairs = ap (λ (w : World). w.pairs) last ∙ ap (λ (w : World). w.pairs) same in
    let pairs_one : pairs (line ∷ []) ≡ answered_as event outcome = append-nil (answered_as event outcome) in
    let pairs_len : length (pairs (line ∷ [])) ≡ length (answered_as event outcome) = ap (λ zs. length zs) pairs_one in
    let goes_sent : Goes a.net sent.net (just n bytes) (λ i. message_in i letter sending) = goes_then a.net mid.net sent.net (just n bytes) (λ i. message_in i letter sending) took sends.goes in
    let goes_all : Goes a.net b.net (just n bytes) (λ i. message_in i letter sending) = goes_after a.net sent.net b.net (just n bytes) (λ i. message_in i letter sending) goes_sent settled in
    let comes_sent : Comes mid.fronts roster a.net sent.net none letter sending = comes_before mid.fronts roster a.net mid.net sent.net (just n bytes) none none (λ c. message_in c letter sending) none letter sending took sends.goes sends.comes in
    let comes_all : Comes a.fronts roster a.net b.net none letter sending = subst (λ (fs : List Service). Comes fs roster a.net b.net none letter sending) fronts (comes_later mid.fronts roster a.net sent.net b.net none none none letter sending settled comes_sent) in
    let failures = settled.failures in let before = took.failures in
    record {
      goes = goes_as a.net b.net (just n bytes) (messages_by (line ∷ [])) (λ i. message_in i letter sending) (sends_to (line ∷ [])) (λ i. taken_by now word n peer bytes event outcome sending i made) (λ i. one_send letter sending line i refl refl) goes_all;
      settles = settles;
      are = (((n, refl, record { peer = peer; is = inl (first.0, first.2, first.3); now = now; word = word; bytes = bytes; made = made }), is_outcome, comes_all), tt);
      received = subst (λ (r : Receiving). Receives a.jobs r []) (sym (ap (λ (w : World). w.jobs) last ∙ ap (λ (w : World). w.jobs) same ∙ ap (λ (w : World). w.jobs) desk)) (received_none a.jobs);
      handed = ap (λ (w : World). w.handed) last ∙ sends.handed ∙ ap (λ (w : World). w.handed ++ post_in letter sending) desk ∙ ap (λ zs. a.handed ++ zs) (sym (append-nil (post_in letter sending)));
      counted = omega (arith, answered, counted, pairs_len);
      grows = subst (λ zs. Grows a.pairs zs (pairs (line ∷ []))) (sym pairs_same) (subst (Grows a.pairs mid.pairs) (sym pairs_one) grows);
      stamps = record { stamps = (now, word) ∷ []; said = ap (λ (w : World). w.said) last ∙ ap (λ (w : World). w.said) same ∙ ap (λ (w : World). w.said) desk ∙ stamp; stamped = inl (subst (λ (e : Event). Bears e (now, word)) (sym made) (bears now word n peer bytes), tt) };
      failed = one_failed (is_by_device sending) (Rose a.net.told.failures b.net.told.failures) (λ t. rose_within a.net.told.failures mid.net.told.failures sent.net.told.failures b.net.told.failures before failures (sends.failed t));
      few_events = omega arith;
      few_jobs = omega arith;
      fronts = ap (λ (w : World). w.fronts) last ∙ ap (λ (w : World). w.fronts) same ∙ fronts;
      fared = ap (λ (w : World). w.outside) last ∙ ap (λ (w : World). w.outside) same ∙ ap (λ (w : World). w.outside) desk;
    }

-- a round: a job, what one socket has, and an event
pub turns_round : (roster : List Listed) (n : ℕ) (first a b c d : World) (ls js es : List Line) (blind : Bool) → Turns roster n n first a ls false → Turns roster 0 1 a b js false → Turns roster 0 0 b c [] false → Turns roster 1 0 c d es blind
    → Turns roster (n + 1) (n + 1) first d ((ls ++ js) ++ es) blind
turns_round roster n first a b c d ls js es blind before job ready event =
    let one : Turns roster (n + 0) (n + 1) first b (ls ++ js) false = turns_on roster n 0 n 1 first a b ls js false before job in
    let two : Turns roster ((n + 0) + 0) ((n + 1) + 0) first c ((ls ++ js) ++ []) false = turns_on roster (n + 0) 0 (n + 1) 0 first b c (ls ++ js) [] false one ready in
    let three : Turns roster (((n + 0) + 0) + 1) (((n + 1) + 0) + 0) first d (((ls ++ js) ++ []) ++ es) blind = turns_on roster ((n + 0) + 0) 1 ((n + 1) + 0) 0 first c d ((ls ++ js) ++ []) es blind two event in
    turns_within roster (((n + 0) + 0) + 1) (n + 1) (((n + 1) + 0) + 0) (n + 1) first d ((ls ++ js) ++ es) blind (omega arith) (omega arith)
    (subst (λ (zs : List Line). Turns roster (((n + 0) + 0) + 1) (((n + 1) + 0) + 0) first d (zs ++ es) blind) (append-nil (ls ++ js)) three)

fared_last : (blind : Bool) (a b c : ℕ) → c ≡ b → Fared blind a b → Fared blind a c
fared_last blind a b c e is = subst (Fared blind a) (sym e) is

-- what is written after the rounds
pub turns_last : (roster : List Listed) (n k : ℕ) (a b c : World) (ls : List Line) (blind : Bool) → Turns roster n k a b ls blind → Goes b.net c.net none none → Settles b.net c.net → c ≡ record b { net = c.net } → Turns roster n k a c ls blind
turns_last roster n k a b c ls blind one goes settles e =
    let failures = goes.failures in
    record {
      goes = goes_after a.net b.net c.net (messages_by ls) (sends_to ls) one.goes goes;
      settles = settles_on a.net b.net c.net one.settles settles;
      are = subst (λ (zs : List Line). AreLines a.fronts roster a.net c.net none zs) (append-nil ls) (are_on a.fronts roster a.net b.net c.net (messages_by ls) none ls [] one.goes goes one.are tt);
      received = subst (λ (r : Receiving). Receives a.jobs r (jobs_received ls)) (sym (ap (λ (w : World). w.jobs) e)) one.received;
      handed = ap (λ (w : World). w.handed) e ∙ one.handed;
      counted = ap (λ (w : World). w.answered) e ∙ one.counted;
      grows = subst (λ zs. Grows a.pairs zs (pairs ls)) (sym (ap (λ (w : World). w.pairs) e)) one.grows;
      stamps = subst (λ (zs : List Stamp). Stamps a.said zs (events_in ls)) (sym (ap (λ (w : World). w.said) e)) one.stamps;
      failed = λ t. rose_later a.net.told.failures b.net.told.failures c.net.told.failures (one.failed t) failures;
      few_events = one.few_events;
      few_jobs = one.few_jobs;
      fronts = ap (λ (w : World). w.fronts) e ∙ one.fronts;
      fared = fared_last blind a.outside b.outside c.outside (ap (λ (w : World). w.outside) e) one.fared;
    }

-- A whole turn.
went_turns : (roster : List Listed) (old asked followed rounds new : World) (swept : Net) (now word : ℕ) (lines : List Line) (blind : Bool)
    → asked ≡ record old { net = swept; said = old.said ++ (now, word) ∷ [] } → Goes asked.net followed.net none none → Settles asked.net followed.net → followed ≡ record asked { net = followed.net } → Turns roster 64 64 followed rounds lines blind
    → Goes rounds.net new.net none none → Settles rounds.net new.net → new ≡ record rounds { net = new.net } → Turns roster 64 64 (record old { net = swept }) new lines blind
went_turns roster old asked followed rounds new swept now word lines blind ask follow follows is_followed turned written writes last =
    let start : World = record old { net = swept } in
    let said : Turns roster 0 0 start asked [] false = turns_said roster 0 0 start asked (now, word) ask in
    let on : Turns roster 0 0 asked followed [] false = turns_net roster 0 0 asked followed follow follows is_followed in
    let both_begun : Turns roster 0 0 start followed [] false = turns_on roster 0 0 0 0 start asked followed [] [] false said on in
    let all : Turns roster 64 64 start rounds lines blind = turns_on roster 0 64 0 64 start followed rounds [] lines blind both_begun turned in
    turns_last roster 64 64 start rounds new lines blind all written writes last

pub went : (roster : List Listed) (old asked followed rounds new : World) (swept : Net) (now word : ℕ) (lines : List Line) (blind : Bool) → Sweeps now (record old.net { device = None }) swept
    → asked ≡ record old { net = swept; said = old.said ++ (now, word) ∷ [] } → Goes asked.net followed.net none none → Settles asked.net followed.net → followed ≡ record asked { net = followed.net } → Turns roster 64 64 followed rounds lines blind
    → Goes rounds.net new.net none none → Settles rounds.net new.net → new ≡ record rounds { net = new.net } → Went roster old new lines
went roster old asked followed rounds new swept now word lines blind sweeps ask follow follows is_followed turned written writes last = record {
  now = now;
  swept = swept;
  sweeps = sweeps;
  word = word;
  later = turned.stamps.stamps;
  said = ap (λ (w : World). w.said) last ∙ turned.stamps.said ∙ ap (λ (w : World). w.said ++ turned.stamps.stamps) is_followed ∙ ap (λ (w : World). w.said ++ turned.stamps.stamps) ask ∙ append_assoc old.said ((now, word) ∷ []) turned.stamps.stamps;
  blind = blind;
  turns = went_turns roster old asked followed rounds new swept now word lines blind ask follow follows is_followed turned written writes last;
}

-- the first device fault of a turn
pub first_of : (blind : Bool) (device : Option DeviceFault) (s s' o o' : ℕ) → Notes None device s s' → Fared blind o o' → FirstFault (first_device blind device) s s' o o'
first_of true None s s' o o' notes fared = (notes, fared)
first_of false None s s' o o' notes fared = (notes, fared)
first_of true (Some devices.Sockets) s s' o o' notes fared = notes
first_of false (Some devices.Sockets) s s' o o' notes fared = notes
first_of true (Some devices.Outside) s s' o o' notes fared = absurd notes
first_of false (Some devices.Outside) s s' o o' notes fared = absurd notes

pub went_first : (roster : List Listed) (old asked followed rounds new : World) (swept : Net) (now word : ℕ) (lines : List Line) (blind : Bool) → Sweeps now (record old.net { device = None }) swept
    → asked ≡ record old { net = swept; said = old.said ++ (now, word) ∷ [] } → Goes asked.net followed.net none none → Settles asked.net followed.net → followed ≡ record asked { net = followed.net } → Turns roster 64 64 followed rounds lines blind
    → Goes rounds.net new.net none none → Settles rounds.net new.net → new ≡ record rounds { net = new.net } → FirstFault (first_device blind new.net.device) old.net.told.failures new.net.told.failures old.outside new.outside
went_first roster old asked followed rounds new swept now word lines blind sweeps ask follow follows is_followed turned written writes last =
    let all : Turns roster 64 64 (record old { net = swept }) new lines blind = went_turns roster old asked followed rounds new swept now word lines blind ask follow follows is_followed turned written writes last in
    first_of blind new.net.device old.net.told.failures new.net.told.failures old.outside new.outside
    (subst (λ (k : ℕ). Notes None new.net.device k new.net.told.failures) (ap (λ (t : Traffic). t.failures) sweeps.told) (subst (λ (d : Option DeviceFault). Notes d new.net.device swept.told.failures new.net.told.failures) sweeps.device all.goes.noted)) all.fared

-- no connection came to its end in a whole turn and was left open
pub went_settles : (roster : List Listed) (old new : World) (lines : List Line) → Went roster old new lines → Settles old.net new.net
went_settles roster old new lines it = settles_on old.net it.swept new.net (settles_swept it.now (record old.net { device = None }) it.swept it.sweeps) it.turns.settles
