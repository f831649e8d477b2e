use Rattle.std.proofs.Common.{List, ℕ, ◌<◌, string_bytes}
use Rattle.lb_command.specs.Answers.{lane_text}
use Rattle.lb_command.specs.Values.{lane_of}
use Rattle.lb_typed.specs.Words.{Types}
use Rattle.lb_typed.proofs.Lanes.{lane}
use Rattle.lb_typed.proofs.Texts.{holds}
use Rattle.lb_typed.proofs.words.lane_word.Goals as goal

pub returns : goal.returns
returns c = holds string_bytes c.lane_text.result (lane_text c.args.lane) (λ text. c.args.lane.number < 8 → Types lane_of c.args.lane text) (lane c.args.lane) c.lane_text.ensures
