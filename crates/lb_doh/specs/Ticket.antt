-- A place among the requests that wait.
use Rattle.std.specs.Prelude.{◌≡◌, ℕ, ◌+◌, List, Ok}
use Rattle.futures.specs.Channel.{canceled_source, completed_source}
use Rattle.futures.specs.declared.channel.oneshot.Receiver.{Receiver}
use Rattle.futures.specs.declared.channel.oneshot.Sender.{Sender}
use Rattle.lb_doh.specs.Waiting.{Enters, Waits}

-- Among some requests, which were those that waited when it entered, a request came to stand under this number, with the other end of the
-- channel by which its answer is seen.
abbrev pub IsPlace : ℕ → Receiver (List ℕ) → Type 0
IsPlace number brought =
    (bringer : Sender (List ℕ)) × (old : Waits (Sender (List ℕ))) × (new : Waits (Sender (List ℕ)))
    × Enters old bringer new (Ok number) × (canceled_source bringer ≡ completed_source brought)
