use Rattle.std.proofs.Common.{◌≡◌, ℕ, ◌-◌, ◌≤◌, ◌++◌, length, drop}
use Rattle.lb_loops_frames.specs.Frames.{frames, AreMessages}
use Rattle.lb_loops_frames.proofs.framer.divided.Given as goal

abbrev pub invariant-loop-end : goal.invariant-loop-end
invariant-loop-end l = (l.at ≤ length l.bytes) × AreMessages l.messages.items × (l.bytes ≡ frames l.messages.items ++ drop l.at l.bytes)

abbrev pub decreases-loop-end : goal.decreases-loop-end
decreases-loop-end l = length l.bytes - l.at
