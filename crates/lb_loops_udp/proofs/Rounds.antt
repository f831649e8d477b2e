-- Rounds of a turn, one after the other.
use Rattle.std.proofs.Common.{◌≡◌, ◌≢◌, ℕ, ◌+◌, ◌≤◌, inl, inr, Option, Some, None, List, [], ◌∷◌, ◌++◌, length, map, option_to_list, refl, sym, ap, ◌∙◌, subst, arith, append_assoc}
use Rattle.std.proofs.lemmas.Grind.{flat_map-append}
use Rattle.std.proofs.lemmas.List.Elements.{filter_map-append}
use Rattle.std.proofs.lemmas.List.{append-nil, length-append, map-append}
use Rattle.lb_step.specs.declared.event.Event.{Event}
use Rattle.lb_loops_udp.specs.Lines.{AreAsked}
use Rattle.lb_loops_udp.specs.Turn.{Turns, World}
use Rattle.lb_loops_io.specs.Counts.{Grows, Rose}
use Rattle.lb_loops_io.specs.Events.{event_of, heard, timeless}
use Rattle.lb_loops_io.specs.Lines.{FirstFault, event_in, events_in, pair_in, pairs}
use Rattle.lb_loops_io.specs.Stamps.{Stamp, Stamped}
use Rattle.lb_loops_io.specs.declared.report.DeviceFault.{DeviceFault}
use Rattle.lb_loops_io.specs.declared.report.DeviceFault.TheVariants as devices
use Rattle.lb_loops_io.specs.declared.report.Line.{Line}
use Rattle.lb_loops_io.specs.declared.traffic.Datagram.{Datagram}

-- Stamps.

stamped_later : (events : List Event) (earlier later : List Stamp) → Stamped events later → Stamped events (earlier ++ later)
stamped_later [] earlier later s = tt
stamped_later (e ∷ es) [] later s = s
stamped_later (e ∷ es) (x ∷ xs) later s = inr (stamped_later (e ∷ es) xs later s)

stamped_on : (events more : List Event) (xs ys : List Stamp) → Stamped events xs → Stamped more ys → Stamped (events ++ more) (xs ++ ys)
stamped_on [] more xs ys first then = stamped_later more xs ys then
stamped_on (e ∷ es) more [] ys first then = absurd first
stamped_on (e ∷ es) more (x ∷ xs) ys (inl this) then = inl (this.0, stamped_on es more xs ys this.1 then)
stamped_on (e ∷ es) more (x ∷ xs) ys (inr later) then = inr (stamped_on (e ∷ es) more xs ys later then)

-- Counts.

rose_later : (a b c : ℕ) → Rose a b → b ≤ c → Rose a c
rose_later a b c (inl lt) le = inl (omega arith)
rose_later a b c (inr most) le = inr (omega arith)

rose_earlier : (a b c : ℕ) → a ≤ b → Rose b c → Rose a c
rose_earlier a b c le (inl lt) = inl (omega arith)
rose_earlier a b c le (inr most) = inr most

sockets_le : (f : Option DeviceFault) (s s' o o' : ℕ) → FirstFault f s s' o o' → s ≤ s'
sockets_le None s s' o o' f = let same = f.0 in omega arith
sockets_le (Some devices.Sockets) s s' o o' f = f.0
sockets_le (Some devices.Outside) s s' o o' f = let same = f.0 in omega arith

grows_on : {A : Type 0} (old mid new these more : List A) → Grows old mid these → Grows mid new more → Grows old new (these ++ more)
grows_on old mid new these more first then =
    let sum : length (these ++ more) ≡ length these + length more = length-append these more in
    let one = first.0 in
    let two = then.0 in (
      omega arith,
      λ full. then.1 (omega arith) ∙ ap (λ zs. zs ++ more) (first.1 (omega arith)) ∙ append_assoc old these more,
    )

-- Lines.

asked_on : (ls xs : List Line) → AreAsked ls → AreAsked xs → AreAsked (ls ++ xs)
asked_on [] xs all more = more
asked_on (l ∷ ls) xs all more = (all.0, asked_on ls xs all.1 more)

events_on : (ls xs : List Line) (held : List Event) → (events_in ls ++ []) ++ (events_in xs ++ held) ≡ events_in (ls ++ xs) ++ held
events_on ls xs held = ap (λ zs. zs ++ (events_in xs ++ held)) (append-nil (events_in ls)) ∙ sym (append_assoc (events_in ls) (events_in xs) held) ∙ ap (λ zs. zs ++ held) (sym (flat_map-append event_in ls xs))

-- after a first fault, nothing failed
pub first_stays : (d : Option DeviceFault) (s s' s'' o o' o'' : ℕ) → d ≢ Some devices.Outside → FirstFault d s s' o o' → FirstFault None s' s'' o' o'' → FirstFault d s s'' o o''
first_stays None s s' s'' o o' o'' clear one two = (two.0 ∙ one.0, two.1 ∙ one.1)
first_stays (Some devices.Sockets) s s' s'' o o' o'' clear one two = let same = two.0 in let le = one.0 in (omega arith, rose_later s s' s'' one.1 (omega arith))
first_stays (Some devices.Outside) s s' s'' o o' o'' clear one two = absurd (clear refl)

-- Rounds, and then more of them.
pub turns_on : (n m : ℕ) (a b c : World) (ls xs : List Line) (held : List Event) (d f first : Option DeviceFault)
    → Turns n a b ls [] d → Turns m b c xs held f → FirstFault first a.failures c.failures a.outside c.outside
    → Turns (n + m) a c (ls ++ xs) held first
turns_on n m a b c ls xs held d f first one two is =
    let events = events_on ls xs held in
    let lines_len : length (ls ++ xs) ≡ length ls + length xs = length-append ls xs in
    let few_one = one.few in
    let few_two = two.few in
    let read_one = one.reads in
    let read_two = two.reads in
    let asks_one = one.asks in
    let asks_two = two.asks in
    let stamps_few : length (one.stamps.stamps ++ two.stamps.stamps) ≡ length one.stamps.stamps + length two.stamps.stamps = length-append one.stamps.stamps two.stamps.stamps in
    let stamps_one = one.stamps.few in
    let stamps_two = two.stamps.few in
    let pairs_len : length (pairs (ls ++ xs)) ≡ length (pairs ls) + length (pairs xs) = ap (λ zs. length zs) (flat_map-append pair_in ls xs) ∙ length-append (pairs ls) (pairs xs) in
    let count_one = one.counted in
    let count_two = two.counted in
    let pairs_all : pairs (ls ++ xs) ≡ pairs ls ++ pairs xs = flat_map-append pair_in ls xs in
    record {
      heard_all = two.heard_all ∙ ap (λ zs. zs ++ map timeless (events_in xs ++ held)) one.heard_all
          ∙ append_assoc (heard a.given) (map timeless (events_in ls ++ [])) (map timeless (events_in xs ++ held))
          ∙ ap (λ zs. heard a.given ++ zs) (sym (map-append timeless (events_in ls ++ []) (events_in xs ++ held)) ∙ ap (map timeless) events);
      reads = omega arith;
      asks = omega arith;
      few = omega arith;
      unsent = two.unsent ∙ one.unsent;
      there = two.there ∙ one.there;
      asked = asked_on ls xs one.asked two.asked;
      counted = omega arith;
      grows = subst (Grows a.pairs c.pairs) (sym pairs_all) (grows_on a.pairs b.pairs c.pairs (pairs ls) (pairs xs) one.grows two.grows);
      stamps = record {
        stamps = one.stamps.stamps ++ two.stamps.stamps;
        said = two.stamps.said ∙ ap (λ zs. zs ++ two.stamps.stamps) one.stamps.said ∙ append_assoc a.said one.stamps.stamps two.stamps.stamps;
        few = omega arith;
        stamped = subst (λ es. Stamped es (one.stamps.stamps ++ two.stamps.stamps)) events
            (stamped_on (events_in ls ++ []) (events_in xs ++ held) one.stamps.stamps two.stamps.stamps one.stamps.stamped two.stamps.stamped);
      };
      first = is;
    }

-- No round.
pub turns_none : (a : World) → Turns 0 a a [] [] None
turns_none a = record {
  heard_all = sym (append-nil (heard a.given));
  reads = omega arith;
  asks = omega arith;
  few = omega arith;
  unsent = refl;
  there = refl;
  asked = tt;
  counted = omega arith;
  grows = (omega arith, λ _. sym (append-nil a.pairs));
  stamps = record { stamps = []; said = sym (append-nil a.said); few = omega arith; stamped = tt };
  first = (refl, refl);
}

-- A round in which no datagram was read.
pub turns_idle : (a b : World) (stamps : List Stamp) (device : Option DeviceFault)
    → b.given ≡ a.given → b.taken ≡ a.taken → b.there ≡ a.there → b.reads ≤ a.reads + 1 → b.answered ≡ a.answered → b.pairs ≡ a.pairs → b.said ≡ a.said ++ stamps → length stamps ≤ 1
    → FirstFault device a.failures b.failures a.outside b.outside → Turns 1 a b [] [] device
turns_idle a b stamps device given taken there asks answered pairs_same said few first =
    let reads : length b.given ≡ length a.given = ap (λ zs. length zs) given in
    let count : length b.pairs ≡ length a.pairs = ap (λ zs. length zs) pairs_same in record {
      heard_all = ap heard given ∙ sym (append-nil (heard a.given));
      reads = omega arith;
      asks = asks;
      few = omega arith;
      unsent = taken;
      there = there;
      asked = tt;
      counted = omega arith;
      grows = (omega arith, λ _. pairs_same ∙ sym (append-nil a.pairs));
      stamps = record { stamps = stamps; said = said; few = few; stamped = tt };
      first = first;
    }

one_heard : (d : Datagram) (x : Option Event) → event_of d ≡ x → heard (d ∷ []) ≡ option_to_list x
one_heard d None e = rw e refl
one_heard d (Some y) e = rw e refl

-- A round in which a datagram was read.
pub turns_read : (a b : World) (d : Datagram) (stamp : Stamp) (ls : List Line) (held : List Event) (device : Option DeviceFault)
    → b.given ≡ a.given ++ d ∷ [] → map timeless (events_in ls ++ held) ≡ option_to_list (event_of d) → Stamped (events_in ls ++ held) (stamp ∷ []) → length ls + length held ≤ 1
    → b.taken ≡ a.taken → b.there ≡ a.there → b.reads ≤ a.reads + 1 → AreAsked ls → b.answered ≡ a.answered + length (pairs ls) → Grows a.pairs b.pairs (pairs ls)
    → b.said ≡ a.said ++ stamp ∷ [] → FirstFault device a.failures b.failures a.outside b.outside
    → Turns 1 a b ls held device
turns_read a b d stamp ls held device given events stamped few taken there asks asked counted grows said first =
    let reads : length b.given ≡ length a.given + 1 = ap (λ zs. length zs) given ∙ length-append a.given (d ∷ []) in record {
      heard_all = ap heard given ∙ filter_map-append event_of a.given (d ∷ []) ∙ ap (λ zs. heard a.given ++ zs) (one_heard d (event_of d) refl ∙ sym events);
      reads = omega arith;
      asks = asks;
      few = few;
      unsent = taken;
      there = there;
      asked = asked;
      counted = counted;
      grows = grows;
      stamps = record { stamps = stamp ∷ []; said = said; few = omega arith; stamped = stamped };
      first = first;
    }

-- The same in more rounds.
pub turns_within : (n m : ℕ) (a b : World) (ls : List Line) (held : List Event) (device : Option DeviceFault) → n ≤ m → Turns n a b ls held device → Turns m a b ls held device
turns_within n m a b ls held device le one =
    let reads = one.reads in
    let asks = one.asks in
    let few = one.few in
    let stamps = one.stamps.few in
    record {
      heard_all = one.heard_all;
      reads = omega arith;
      asks = omega arith;
      few = omega arith;
      unsent = one.unsent;
      there = one.there;
      asked = one.asked;
      counted = one.counted;
      grows = one.grows;
      stamps = record { stamps = one.stamps.stamps; said = one.stamps.said; few = omega arith; stamped = one.stamps.stamped };
      first = one.first;
    }
