use Rattle.std.proofs.Common.{◌+◌, ap, refl, rules}
use Rattle.std.specs.Io.Buffered.{reader_remaining}
use Rattle.lb_program.proofs.Turns.{turn_broken, turn_end, turn_feed, turn_last, turn_piece}
use Rattle.lb_program.proofs.input.Lines.take_turn.Goals as goal

pub returns-in-Ok-clause-turns : goal.returns-in-Ok-clause-turns
returns-in-Ok-clause-turns g c =
    let takes = rw c.in-Piece.is at c.in_ok-read.ensures.shown in
    λ sound. turn_piece _ _ _ c.args.self.now.line c.read.new.self c.shed.new.self takes c.in_ok-read.ensures.kind c.in-Ok.ensures.sheds sound

pub returns-in-LineFeed-clause-turns : goal.returns-in-LineFeed-clause-turns
returns-in-LineFeed-clause-turns g c =
    let takes = rw c.in-LineFeed.is at c.in_ok-read.ensures.shown in
    λ sound. turn_feed _ _ _ _ _ c.args.self.now.line c.read.new.self c.drop_return.new.self c.end_line.new.self.line _ takes c.in_ok-read.ensures.kind c.drop_return.ensures.bytes c.drop_return.ensures.kind (ap (λ i. reader_remaining g.R.Read.remaining i) c.end_line.ensures.input) c.end_line.ensures.judged c.end_line.ensures.line sound

pub returns-in-Err-clause-turns : goal.returns-in-Err-clause-turns
returns-in-Err-clause-turns g c =
    let takes = rw c.in-Piece.is at c.in_ok-read.ensures.shown in
    λ sound. turn_broken c.args.self.now.ended (c.args.self.now.ended + 1) c.args.self.now.ended _ _ (reader_remaining g.R.Read.remaining c.read.new.input) c.args.self.now.line c.read.new.self c.shed.new.self refl takes c.in-Err.ensures.never sound

pub returns-then-is_empty-clause-turns : goal.returns-then-is_empty-clause-turns
returns-then-is_empty-clause-turns g c =
    let takes = rw c.in-End.is at c.in_ok-read.ensures.shown in
    λ sound. turn_end c.args.self.now.ended c.args.self.now.ended _ _ (reader_remaining g.R.Read.remaining c.read.new.input) c.args.self.now.line c.read.new.self c.read.new.self takes c.in_ok-read.ensures.kind (search rules, search rules) sound

pub returns-else-is_empty-clause-turns : goal.returns-else-is_empty-clause-turns
returns-else-is_empty-clause-turns g c =
    let takes = rw c.in-End.is at c.in_ok-read.ensures.shown in
    λ sound. turn_last _ _ _ _ _ c.args.self.now.line c.read.new.self c.end_line-in-End.new.self.line _ takes c.in_ok-read.ensures.kind (ap (λ i. reader_remaining g.R.Read.remaining i) c.end_line-in-End.ensures.input) c.end_line-in-End.ensures.judged c.end_line-in-End.ensures.line sound
