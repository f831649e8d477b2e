-- The rule of the outbox: what was received and then what the queue holds, cut to one sender, is what that sender sent.
use Rattle.std.specs.Prelude.{◌≡◌, ℕ, Bool, true, false, List, [], ◌∷◌, ◌++◌, if◌then◌else◌, ◌&&◌, ◌||◌}
use mathlib.Core.Option.{some}
use lib.ListN.{get_elem?}
use Rattle.lb_outbox.specs.declared.job.Job.{Job}
use Rattle.lb_outbox.specs.declared.rule.Delivery.{Delivery}
use Rattle.lb_outbox.specs.declared.rule.Part.{Part}
use Rattle.lb_outbox.specs.declared.rule.SenderId.{SenderId}
use Rattle.lb_outbox.specs.declared.rule.SenderId.TheVariants.{One, Two}
use Rattle.lb_outbox.specs.declared.rule.View.{View}

abbrev pub delivery : SenderId → Job → Delivery
delivery from job = record { from = from; job = job }

abbrev pub is_sender : SenderId → SenderId → Bool
is_sender One One = true
is_sender Two Two = true
is_sender One Two = false
is_sender Two One = false

-- the jobs of one sender among deliveries, in order
abbrev pub jobs_of : SenderId → List Delivery → List Job
jobs_of s [] = []
jobs_of s (x ∷ xs) = if is_sender s x.from then x.job ∷ jobs_of s xs else jobs_of s xs

-- may send, and has sent these
abbrev pub sending : List Job → Part
sending jobs = record { sends = true; sent = jobs }

-- may not send, and has sent nothing
abbrev pub idle : Part
idle = record { sends = false; sent = [] }

-- the part of a sender
abbrev pub part_of : SenderId → View → Part
part_of One v = v.one
part_of Two v = v.two

-- a sender's part, where that of the sender s is put in place of the old one
abbrev pub chosen : SenderId → SenderId → Part → Part → Part
chosen t s part old = if is_sender t s then part else old

abbrev pub with_part : SenderId → Part → View → View
with_part s part v = record v { one = chosen One s part v.one; two = chosen Two s part v.two }

-- knows nothing
abbrev pub nobody : View
nobody = record { one = idle; two = idle; receives = false; received = []; is_torn = false }

-- a sender's part alone
abbrev pub alone : SenderId → Part → View
alone s part = with_part s part nobody

-- the receiver alone, which has received these
abbrev pub receiving : List Delivery → View
receiving deliveries = record nobody { receives = true; received = deliveries }

-- all of a new queue
abbrev pub whole : View
whole = record { one = sending []; two = sending []; receives = true; received = []; is_torn = false }

-- what one sender has sent, where the sender s has sent a job more
abbrev pub more_of : SenderId → Job → SenderId → Part → Part
more_of s job t part = if is_sender t s then record part { sent = part.sent ++ job ∷ [] } else part

abbrev pub sent_more : SenderId → Job → View → View
sent_more s job v = record v { one = more_of s job One v.one; two = more_of s job Two v.two }

abbrev pub received_more : Delivery → View → View
received_more x v = record v { received = v.received ++ x ∷ [] }

-- of two parts the one that may send
abbrev pub part_joined : Part → Part → Part
part_joined p q = if q.sends then q else p

-- what a pass knows that takes in another's parts as a sender
abbrev pub joined : View → View → View
joined v w = record v { one = part_joined v.one w.one; two = part_joined v.two w.two; is_torn = (v.one.sends && w.one.sends) || (v.two.sends && w.two.sends) }

-- a pass that may send as a sender is the one that does, and knows all that was sent so
abbrev pub FitsSender : (SenderId → ℕ) → (SenderId → List Job) → ℕ → View → SenderId → Type 0
FitsSender seat sent pass v s = (part_of s v).sends ≡ true → (pass ≡ seat s) × ((part_of s v).sent ≡ sent s)

-- a pass that may receive is the one that does, and knows all that was received
abbrev pub FitsReceiver : ℕ → List Delivery → ℕ → View → Type 0
FitsReceiver reader received pass v = v.receives ≡ true → (pass ≡ reader) × (v.received ≡ received)

abbrev pub Fits : (SenderId → ℕ) → (SenderId → List Job) → ℕ → List Delivery → ℕ → View → Type 0
Fits seat sent reader received pass v = ((s : SenderId) → FitsSender seat sent pass v s) × FitsReceiver reader received pass v × (v.is_torn ≡ false)

-- the rule: each sender's list is what was received of it and then what the queue holds of it; each pass knows its part of that
abbrev pub Delivers : List Delivery → List View → Type 0
Delivers items views =
    (seat : SenderId → ℕ) × (sent : SenderId → List Job) × (reader : ℕ) × (received : List Delivery)
    × ((s : SenderId) → jobs_of s (received ++ items) ≡ sent s)
    × ((pass : ℕ) (v : View) → get_elem? views pass ≡ some v → Fits seat sent reader received pass v)

-- what a pass knows that has all parts, of what the queue holds
abbrev pub IsSettled : View → List Delivery → Type 0
IsSettled v items = ((s : SenderId) → (part_of s v).sends ≡ true → v.receives ≡ true → jobs_of s (v.received ++ items) ≡ (part_of s v).sent) × (v.is_torn ≡ false)
