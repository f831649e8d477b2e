-- Counts of what was asked and answered: each stands at a place of a list.
use Rattle.std.specs.Prelude.{◌≡◌, ℕ, ◌+◌, ◌-◌, ◌^◌, max, min, Bool, true, false, ◌==◌, List, get_or, Option, None, Some}
use Rattle.lb_wire.specs.declared.kept.Kept.{Kept}
use Rattle.lb_wire.specs.declared.kept.Kept.TheVariants as kept
use Rattle.lb_wire.specs.declared.transport.Kind.{Kind}
use Rattle.lb_wire.specs.declared.transport.Kind.TheVariants.{Datagram, Stream}
use Rattle.lb_step.specs.declared.answer.Answer.{Answer}
use Rattle.lb_step.specs.declared.answer.Answer.TheVariants as answers
use Rattle.lb_step.specs.declared.answer.DropReason.{DropReason}
use Rattle.lb_step.specs.declared.answer.DropReason.TheVariants as drops
use Rattle.lb_step.specs.declared.answer.LocalReason.{LocalReason}
use Rattle.lb_step.specs.declared.answer.LocalReason.TheVariants as locals
use Rattle.lb_step.specs.declared.answer.IgnoreReason.{IgnoreReason}
use Rattle.lb_step.specs.declared.answer.IgnoreReason.TheVariants as ignores
use Rattle.lb_step.specs.declared.count.Count.{Count}
use Rattle.lb_step.specs.declared.count.Count.TheVariants as counts
use Rattle.lb_step.specs.declared.event.Event.{Event}
use Rattle.lb_step.specs.declared.event.Event.TheVariants.{Query, Reply, Tick, HealthResult, Edit}

-- the count of an event: of a query by its transport, of any other event by what it is
abbrev pub kind_count : Kind → Count
kind_count Datagram = counts.Datagrams
kind_count Stream = counts.Streams

abbrev pub event_count : Event → Count
event_count (Query now origin kind word bytes) = kind_count kind
event_count (Reply now server lane bytes) = counts.Replies
event_count (Tick now) = counts.Ticks
event_count (HealthResult now server ok) = counts.HealthResults
event_count (Edit now command) = counts.Edits

-- the count of an answer, by its reason
abbrev pub drop_count : DropReason → Count
drop_count drops.Short = counts.Short
drop_count drops.NotQuery = counts.NotQuery
drop_count (drops.Rule rule) = counts.RuleDropped

abbrev pub local_count : LocalReason → Count
local_count locals.Malformed = counts.Malformed
local_count locals.Transfer = counts.Transfer
local_count (locals.Rule rule) = counts.RuleAnswered
local_count locals.Hit = counts.Hit
local_count locals.NoServer = counts.NoServer
local_count locals.LaneFull = counts.LaneFull

abbrev pub kept_count : Kept → Count
kept_count kept.Yes = counts.Kept
kept_count kept.No = counts.NotKept
kept_count kept.NoRoom = counts.NoRoom
kept_count kept.NoMemory = counts.NotKeptForMemory

abbrev pub ignored_count : IgnoreReason → Count
ignored_count ignores.Short = counts.ShortReply
ignored_count ignores.NotReply = counts.NotReply
ignored_count ignores.Unknown = counts.UnknownReply
ignored_count ignores.Mismatch = counts.Mismatch
ignored_count ignores.NoServer = counts.NoSuchServer

abbrev pub answer_count : Answer → Count
answer_count (answers.Dropped why) = drop_count why
answer_count (answers.Local bytes why) = local_count why
answer_count (answers.Forward server lane id bytes) = counts.Forwarded
answer_count (answers.Deliver origin bytes kept) = kept_count kept
answer_count (answers.Expired origin bytes) = counts.Expired
answer_count answers.Quiet = counts.Quiet
answer_count (answers.Ignored why) = ignored_count why
answer_count (answers.Edited note) = counts.Edited
answer_count (answers.Refused fault) = counts.Refused
answer_count (answers.NoMemory bytes) = counts.LackedMemory

-- the place of a count
abbrev pub place_of : Count → ℕ
place_of counts.Datagrams = 0
place_of counts.Streams = 1
place_of counts.Replies = 2
place_of counts.Ticks = 3
place_of counts.HealthResults = 4
place_of counts.Edits = 5
place_of counts.Short = 6
place_of counts.NotQuery = 7
place_of counts.RuleDropped = 8
place_of counts.Malformed = 9
place_of counts.Transfer = 10
place_of counts.RuleAnswered = 11
place_of counts.Hit = 12
place_of counts.NoServer = 13
place_of counts.LaneFull = 14
place_of counts.Forwarded = 15
place_of counts.Kept = 16
place_of counts.NotKept = 17
place_of counts.NoRoom = 18
place_of counts.NotKeptForMemory = 19
place_of counts.Expired = 20
place_of counts.Quiet = 21
place_of counts.ShortReply = 22
place_of counts.NotReply = 23
place_of counts.UnknownReply = 24
place_of counts.Mismatch = 25
place_of counts.NoSuchServer = 26
place_of counts.Edited = 27
place_of counts.Refused = 28
place_of counts.LackedMemory = 29

-- the place of the count of a listener's queries, after those above
abbrev pub front_place : ℕ → ℕ
front_place front = 30 + front

-- how many places there are: those of the counts with a name, and of 256 listeners
abbrev pub places : ℕ
places = front_place 256

-- a count in a list, by its place
abbrev pub count_at : ℕ → List ℕ → ℕ
count_at place items = get_or items place 0

-- 1 where it is so
abbrev pub one_if : Bool → ℕ
one_if true = 1
one_if false = 0

-- a number and so many more, at most 2^64-1
abbrev pub raised : ℕ → ℕ → ℕ
raised by n = max n (min (n + by) (2 ^ 64 - 1))

-- each count is the one from before and so many more; at 2^64-1 a count stays
abbrev pub AreRaised : (ℕ → ℕ) → List ℕ → List ℕ → Type 0
AreRaised by old new = (place : ℕ) → count_at place new ≡ raised (by place) (count_at place old)

-- the listener by which a query came
abbrev pub front_of : Event → Option ℕ
front_of (Query now origin kind word bytes) = Some origin.front
front_of _ = None

-- whether the count at a place is that of a listener
abbrev pub is_place : Option ℕ → ℕ → Bool
is_place (Some front) place = front_place front == place
is_place None place = false

abbrev pub is_front_of : Event → ℕ → Bool
is_front_of event place = is_place (front_of event) place

-- how often an event and its answer are of the count at a place
abbrev pub times : Event → Answer → ℕ → ℕ
times event answer place = one_if (place_of (event_count event) == place) + one_if (is_front_of event place) + one_if (place_of (answer_count answer) == place)
