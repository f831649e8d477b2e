-- Acts, one after the other.
use Rattle.std.proofs.Common.{◌≡◌, ℕ, ◌+◌, ◌≤◌, inl, inr, Bool, true, false, Option, Some, None, List, [], ◌∷◌, ◌++◌, length, flat_map, refl, sym, ap, ◌∙◌, subst, arith, append_assoc}
use Rattle.std.specs.Prelude.{◌||◌}
use Rattle.std.proofs.lemmas.Grind.{flat_map-append}
use Rattle.std.proofs.lemmas.List.{append-nil, length-append}
use Rattle.lb_loops_clock.specs.Acts.{Act, AllProbes, Setting, Stops, StopsAt, any_blind, any_failed, blind_in, device_in, end_by, failed_in, first_device, line_in, lines_in, or_device, read_in, stamp_in, tries_in}
use Rattle.lb_loops_clock.specs.Lines.{AreLines, datagram_in, datagrams}
use Rattle.lb_loops_clock.specs.Turn.{FailsBy, Turns}
use Rattle.lb_loops_clock.specs.World.{World}
use Rattle.lb_loops_clock.specs.declared.turn.End.{End}
use Rattle.lb_loops_io.specs.Counts.{Grows, Rose}
use Rattle.lb_loops_io.specs.Lines.{pair_in, pairs}
use Rattle.lb_loops_io.specs.Ways.{job_in, jobs_sent, letter_of, post_in, posts, sending_of}
use Rattle.lb_loops_io.specs.declared.report.DeviceFault.{DeviceFault}
use Rattle.lb_loops_io.specs.declared.report.Line.{Line}
use Rattle.lb_loops_io.specs.declared.traffic.Service.{Service}
use Rattle.lb_outbox.specs.Outbox.{Sending}
use Rattle.lb_outbox.specs.declared.job.Job.{Job}
use Rattle.lb_loops_probes.specs.Probes.{Probed}

-- Counts and lists that grow.

rose_later : (a b c : ℕ) → Rose a b → b ≤ c → Rose a c
rose_later a b c (inl lt) le = inl (omega arith)
rose_later a b c (inr most) le = inr (omega arith)

rose_earlier : (a b c : ℕ) → a ≤ b → Rose b c → Rose a c
rose_earlier a b c le (inl lt) = inl (omega arith)
rose_earlier a b c le (inr most) = inr most

pub fails_on : (x y : Bool) (a b c : ℕ) → FailsBy x a b → FailsBy y b c → FailsBy (x || y) a c
fails_on false y a b c first after = subst (λ z. FailsBy y z c) first after
fails_on true false a b c first after = let le = first.0 in (omega (arith, after, le), rose_later a b c first.1 (omega (arith, after)))
fails_on true true a b c first after = let one = first.0 in let two = after.0 in (omega (arith, one, two), rose_later a b c first.1 two)

grown : {X A : Type 0} (f : X → List A) (old mid new : List A) (xs ys : List X) → mid ≡ old ++ flat_map f xs → new ≡ mid ++ flat_map f ys → new ≡ old ++ flat_map f (xs ++ ys)
grown f old mid new xs ys e is = is ∙ ap (λ zs. zs ++ flat_map f ys) e ∙ append_assoc old (flat_map f xs) (flat_map f ys) ∙ ap (λ zs. old ++ zs) (sym (flat_map-append f xs ys))

grows_on : {A : Type 0} (old mid new these more : List A) → Grows old mid these → Grows mid new more → Grows old new (these ++ more)
grows_on old mid new these more first after =
    let sum : length (these ++ more) ≡ length these + length more = length-append these more in
    let one = first.0 in
    let two = after.0 in (
      omega arith,
      λ full. after.1 (omega arith) ∙ ap (λ zs. zs ++ more) (first.1 (omega arith)) ∙ append_assoc old these more,
    )

are_on : (fronts : List Service) (there : List Bool) (ls xs : List Line) → AreLines fronts there ls → AreLines fronts there xs → AreLines fronts there (ls ++ xs)
are_on fronts there [] xs all more = more
are_on fronts there (l ∷ ls) xs all more = (all.0, are_on fronts there ls xs all.1 more)

jobs_on : (old mid new : Sending) (these more : List Job) → mid ≡ record old { sent = old.sent ++ these } → new ≡ record mid { sent = mid.sent ++ more } → new ≡ record old { sent = old.sent ++ (these ++ more) }
jobs_on old mid new these more e is =
    is ∙ ap (λ (s : Sending). record s { sent = s.sent ++ more }) e ∙ ap (λ (zs : List Job). record old { sent = zs }) (append_assoc old.sent these more)

-- Acts.

probes_on : (on : Setting) (xs ys : List Act) (p q r : Probed) → AllProbes on xs p q → AllProbes on ys q r → AllProbes on (xs ++ ys) p r
probes_on on [] ys p q r first after = subst (λ z. AllProbes on ys z r) first after
probes_on on (x ∷ xs) ys p q r first after = (first.0, first.1, probes_on on xs ys first.0 q r first.2 after)

or_assoc : (a b c : Bool) → (a || (b || c)) ≡ ((a || b) || c)
or_assoc true b c = refl
or_assoc false b c = refl

any_failed_on : (xs ys : List Act) → any_failed (xs ++ ys) ≡ (any_failed xs || any_failed ys)
any_failed_on [] ys = refl
any_failed_on (x ∷ xs) ys = ap (λ b. failed_in x || b) (any_failed_on xs ys) ∙ or_assoc (failed_in x) (any_failed xs) (any_failed ys)

any_blind_on : (xs ys : List Act) → any_blind (xs ++ ys) ≡ (any_blind xs || any_blind ys)
any_blind_on [] ys = refl
any_blind_on (x ∷ xs) ys = ap (λ b. blind_in x || b) (any_blind_on xs ys) ∙ or_assoc (blind_in x) (any_blind xs) (any_blind ys)

or_device_assoc : (a b c : Option DeviceFault) → or_device a (or_device b c) ≡ or_device (or_device a b) c
or_device_assoc None b c = refl
or_device_assoc (Some fault) b c = refl

pub first_device_on : (xs ys : List Act) → first_device (xs ++ ys) ≡ or_device (first_device xs) (first_device ys)
first_device_on [] ys = refl
first_device_on (x ∷ xs) ys = ap (λ d. or_device (device_in x) d) (first_device_on xs ys) ∙ or_device_assoc (device_in x) (first_device xs) (first_device ys)

pub device_on : (xs ys : List Act) (d e f : Option DeviceFault) → e ≡ or_device d (first_device xs) → f ≡ or_device e (first_device ys) → f ≡ or_device d (first_device (xs ++ ys))
device_on xs ys d e f one two = two ∙ ap (λ z. or_device z (first_device ys)) one ∙ sym (or_device_assoc d (first_device xs) (first_device ys)) ∙ ap (λ z. or_device d z) (sym (first_device_on xs ys))

none_some : (this : End) → None ≡ Some this → ⊥
none_some this e = cc e

stops_at_on : (e : Option End) (more ys : List Act) (R T : Type 0) (end : Option End) → (R → T) → StopsAt e more R None → StopsAt e (more ++ ys) T end
stops_at_on None more ys R T end f first = f first
stops_at_on (Some this) more ys R T end f first = absurd (none_some this first.1)

pub stops_on : (xs ys : List Act) (end : Option End) → Stops xs None → Stops ys end → Stops (xs ++ ys) end
stops_on [] ys end first after = after
stops_on (x ∷ xs) ys end first after = stops_at_on (end_by x) xs ys (Stops xs None) (Stops (xs ++ ys) end) end (λ s. stops_on xs ys end s after) first

pub tries_on : (xs ys : List Act) → tries_in (xs ++ ys) ≡ tries_in xs + tries_in ys
tries_on [] ys = omega arith
tries_on (x ∷ xs) ys = let more = tries_on xs ys in omega (arith, more)

-- No act.
pub turns_none : (on : Setting) (a : World) → Turns on [] a a
turns_none on a = record {
  probes = refl;
  given = sym (append-nil a.given);
  said = sym (append-nil a.said);
  taken = sym (append-nil a.taken);
  sent = ap (λ (zs : List Job). record a.outbox { sent = zs }) (sym (append-nil a.outbox.sent));
  handed = sym (append-nil a.handed);
  are = tt;
  counted = omega arith;
  grows = (omega arith, λ _. sym (append-nil a.pairs));
  failed = refl;
  blind = refl;
  fronts = refl;
  there = refl;
  reads = omega arith;
}

-- Acts after others.
pub turns_on : (on : Setting) (xs ys : List Act) (a b c : World) → Turns on xs a b → Turns on ys b c → Turns on (xs ++ ys) a c
turns_on on xs ys a b c one two =
    let lines : lines_in (xs ++ ys) ≡ lines_in xs ++ lines_in ys = flat_map-append line_in xs ys in
    let pairs_all : pairs (lines_in (xs ++ ys)) ≡ pairs (lines_in xs) ++ pairs (lines_in ys) = ap pairs lines ∙ flat_map-append pair_in (lines_in xs) (lines_in ys) in
    let pairs_len : length (pairs (lines_in (xs ++ ys))) ≡ length (pairs (lines_in xs)) + length (pairs (lines_in ys)) = ap (λ zs. length zs) pairs_all ∙ length-append (pairs (lines_in xs)) (pairs (lines_in ys)) in
    let count_one = one.counted in
    let count_two = two.counted in
    let reads_one = one.reads in
    let reads_two = two.reads in
    let tries = tries_on xs ys in
    record {
      probes = probes_on on xs ys a.probes b.probes c.probes one.probes two.probes;
      given = grown read_in a.given b.given c.given xs ys one.given two.given;
      said = grown stamp_in a.said b.said c.said xs ys one.said two.said;
      taken = grown (datagram_in on.roster.listed) a.taken b.taken c.taken (lines_in xs) (lines_in ys) one.taken two.taken ∙ ap (λ ls. a.taken ++ datagrams on.roster.listed ls) (sym lines);
      sent = jobs_on a.outbox b.outbox c.outbox (jobs_sent (lines_in xs)) (jobs_sent (lines_in ys)) one.sent two.sent
          ∙ ap (λ (zs : List Job). record a.outbox { sent = a.outbox.sent ++ zs }) (sym (flat_map-append (λ (l : Line). job_in (letter_of l) (sending_of l)) (lines_in xs) (lines_in ys)) ∙ ap jobs_sent (sym lines));
      handed = grown (λ (l : Line). post_in (letter_of l) (sending_of l)) a.handed b.handed c.handed (lines_in xs) (lines_in ys) one.handed two.handed ∙ ap (λ ls. a.handed ++ posts ls) (sym lines);
      are = subst (AreLines a.fronts a.there) (sym lines) (are_on a.fronts a.there (lines_in xs) (lines_in ys) one.are (subst (λ fs. AreLines fs a.there (lines_in ys)) one.fronts (subst (λ bs. AreLines b.fronts bs (lines_in ys)) one.there two.are)));
      counted = omega (arith, count_one, count_two, pairs_len);
      grows = subst (Grows a.pairs c.pairs) (sym pairs_all) (grows_on a.pairs b.pairs c.pairs (pairs (lines_in xs)) (pairs (lines_in ys)) one.grows two.grows);
      failed = subst (λ z. FailsBy z a.failures c.failures) (sym (any_failed_on xs ys)) (fails_on (any_failed xs) (any_failed ys) a.failures b.failures c.failures one.failed two.failed);
      blind = subst (λ z. FailsBy z a.outside c.outside) (sym (any_blind_on xs ys)) (fails_on (any_blind xs) (any_blind ys) a.outside b.outside c.outside one.blind two.blind);
      fronts = two.fronts ∙ one.fronts;
      there = two.there ∙ one.there;
      reads = omega (arith, reads_one, reads_two, tries);
    }
