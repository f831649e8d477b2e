use Rattle.std.proofs.Common.{rules, ◌≡◌, ℕ, ◌+◌, ◌-◌, ◌<◌, ◌≤◌, List, ◌++◌, length, take, drop, ◌∙◌, ap, sym, arith}
use Rattle.std.proofs.lemmas.List.{length-drop}
use Rattle.lb_loops_frames.proofs.Parts.{none_short, none_cut, whole_there, length_between}
use Rattle.lb_loops_frames.proofs.message.message_end.Goals as goal

pub returns-then-bytes-at-lt-LENGTH-clause-none : goal.returns-then-bytes-at-lt-LENGTH-clause-none
returns-then-bytes-at-lt-LENGTH-clause-none c =
    let long : length (drop c.args.at c.args.bytes.now) ≡ length c.args.bytes.now - c.args.at = length-drop c.args.at c.args.bytes.now in
    none_short (drop c.args.at c.args.bytes.now) (omega arith)

pub returns-then-bytes-at-clause-none : goal.returns-then-bytes-at-clause-none
returns-then-bytes-at-clause-none c =
    let long : length (drop (c.args.at + 2) c.args.bytes.now) ≡ length c.args.bytes.now - (c.args.at + 2) = length-drop (c.args.at + 2) c.args.bytes.now in
    none_cut (drop c.args.at c.args.bytes.now) (drop (c.args.at + 2) c.args.bytes.now) c.length_at.result (omega arith) c.length_at.ensures (omega arith)

pub returns-clause-whole : goal.returns-clause-whole
returns-clause-whole c =
    let long : length (drop (c.args.at + 2) (take (c.args.at + 2 + c.from-len.result) c.args.bytes.now)) ≡ c.args.at + 2 + c.from-len.result - (c.args.at + 2) = length_between (c.args.at + 2) (c.args.at + 2 + c.from-len.result) c.args.bytes.now (omega arith) in
    (omega arith, whole_there c.args.bytes.now c.args.at c.length_at.result (c.args.at + 2 + c.from-len.result) (omega arith) (omega arith) c.length_at.ensures)
