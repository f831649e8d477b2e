-- What loops that run do to their event handlers and to their ends of the outbox.
use Rattle.std.proofs.Common.{◌≡◌, ◌≤◌, ℕ, List, [], ◌∷◌, ◌++◌, ap, sym, ◌∙◌, append_assoc, arith}
use Rattle.std.proofs.lemmas.List.{append-nil}
use Rattle.lb_loops_clock.specs.World.{World as Clock}
use Rattle.lb_loops_udp.specs.Turn.{World as Datagrams}
use Rattle.lb_loops_tcp.specs.World.{World as Streams}
use Rattle.lb_outbox.specs.Outbox.{Receiving, Sending}
use Rattle.lb_outbox.specs.declared.job.Job.{Job}
use Rattle.lb_outbox.specs.declared.rule.Delivery.{Delivery}

-- a sender of the same outbox, the same one of the two, that has sent what it had and maybe more
abbrev pub SendsOn : Sending → Sending → Type 0
SendsOn old new = (more : List Job) × (new ≡ record old { sent = old.sent ++ more })

-- the receiver of the same outbox, that has received what it had and maybe more
abbrev pub ReceivesOn : Receiving → Receiving → Type 0
ReceivesOn old new = (more : List Delivery) × (new ≡ record old { received = old.received ++ more })

-- a loop of datagrams after turns: its count of answered calls has not fallen
abbrev pub DatagramsGoOn : Datagrams → Datagrams → Type 0
DatagramsGoOn old new = old.answered ≤ new.answered

-- a loop of streams after turns: so has its count not, and its receiver has gone on
abbrev pub StreamsGoOn : Streams → Streams → Type 0
StreamsGoOn old new = (old.answered ≤ new.answered) × ReceivesOn old.jobs new.jobs

-- the clock after turns: so has its count not, and its sender has gone on
abbrev pub ClockGoesOn : Clock → Clock → Type 0
ClockGoesOn old new = (old.answered ≤ new.answered) × SendsOn old.outbox new.outbox

-- an end of an outbox that has done nothing has gone on
pub sends_none : (a : Sending) → SendsOn a a
sends_none a = ([], ap (λ (jobs : List Job). record a { sent = jobs }) (sym (append-nil a.sent)))

pub receives_none : (a : Receiving) → ReceivesOn a a
receives_none a = ([], ap (λ (all : List Delivery). record a { received = all }) (sym (append-nil a.received)))

-- going on twice is going on
pub sends_twice : (a b c : Sending) → SendsOn a b → SendsOn b c → SendsOn a c
sends_twice a b c (one, is) (two, then) =
    (one ++ two, then ∙ ap (λ (s : Sending). record s { sent = s.sent ++ two }) is ∙ ap (λ (jobs : List Job). record a { sent = jobs }) (append_assoc a.sent one two))

pub receives_twice : (a b c : Receiving) → ReceivesOn a b → ReceivesOn b c → ReceivesOn a c
receives_twice a b c (one, is) (two, then) =
    (one ++ two, then ∙ ap (λ (r : Receiving). record r { received = r.received ++ two }) is ∙ ap (λ (all : List Delivery). record a { received = all }) (append_assoc a.received one two))

pub datagrams_stay : (a : Datagrams) → DatagramsGoOn a a
datagrams_stay a = omega arith

pub datagrams_follow : (a b c : Datagrams) → DatagramsGoOn a b → DatagramsGoOn b c → DatagramsGoOn a c
datagrams_follow a b c one two = omega arith

pub streams_stay : (a : Streams) → StreamsGoOn a a
streams_stay a = (omega arith, receives_none a.jobs)

pub streams_follow : (a b c : Streams) → StreamsGoOn a b → StreamsGoOn b c → StreamsGoOn a c
streams_follow a b c one two =
    let first : a.answered ≤ b.answered = one.0 in
    let then : b.answered ≤ c.answered = two.0 in
    (omega arith, receives_twice a.jobs b.jobs c.jobs one.1 two.1)

pub clock_stays : (a : Clock) → ClockGoesOn a a
clock_stays a = (omega arith, sends_none a.outbox)

pub clock_follows : (a b c : Clock) → ClockGoesOn a b → ClockGoesOn b c → ClockGoesOn a c
clock_follows a b c one two =
    let first : a.answered ≤ b.answered = one.0 in
    let then : b.answered ≤ c.answered = two.0 in
    (omega arith, sends_twice a.outbox b.outbox c.outbox one.1 two.1)

-- event handlers, each of which is the one at its place, gone on: its count of answered calls has
-- not fallen
abbrev pub HaveGoneOn : {T : Type 0} → (T → ℕ) → List T → List T → Type 0
HaveGoneOn answered [] [] = Unit {0}
HaveGoneOn answered (old ∷ olds) (new ∷ news) = (answered old ≤ answered new) × HaveGoneOn answered olds news
HaveGoneOn answered [] (new ∷ news) = ⊥
HaveGoneOn answered (old ∷ olds) [] = ⊥
