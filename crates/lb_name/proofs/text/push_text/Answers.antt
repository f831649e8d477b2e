use Rattle.lb_name.proofs.CutAtDots.{IsUtf8-name}
use Rattle.lb_name.proofs.text.push_text.Goals as goal

pub unreachable-requires : goal.unreachable-requires
unreachable-requires c = c.in-Err.ensures.cases.0 (IsUtf8-name _ c.requires.bytes)
