use Rattle.std.proofs.Common.{rules, ◌≡◌, ℕ, ◌+◌, ◌<◌, ◌≤◌, ◌^◌, List, [], ◌∷◌, ◌++◌, length, take, drop, ap, sym, ◌∙◌, arith}
use Rattle.lb_loops_frames.specs.Frames.{framed, frames, AreMessages}
use Rattle.lb_loops_frames.proofs.Once.{all_messages}
use Rattle.lb_loops_frames.proofs.Parts.{parts_more}
use Rattle.lb_loops_frames.proofs.framer.divided.Goals as goal

pub loop-end-preserved : goal.loop-end-preserved
loop-end-preserved c =
    let message : c.from_vec.result ≡ drop (c.loop-end.at + 2) (take c.in-Some.end c.args.bytes.now) = search rules in
    let fits : length c.from_vec.result < 2 ^ 16 = rw message c.in-Some.ensures.whole.0 in
    let here : drop c.loop-end.at c.args.bytes.now ≡ framed c.from_vec.result ++ drop c.in-Some.end c.args.bytes.now = rw message c.in-Some.ensures.whole.1 in
    let pushed : c.push.new.self.items ≡ c.loop-end.messages.items ++ c.from_vec.result ∷ [] = search rules in (
      search rules,
      rw pushed (all_messages c.loop-end.messages.items (c.from_vec.result ∷ []) c.loop-end.invariant.1 (fits, tt)),
      rw pushed (parts_more c.args.bytes.now c.loop-end.messages.items c.from_vec.result _ _ c.loop-end.invariant.2 here),
    )
