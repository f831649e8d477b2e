use Rattle.lb_command.proofs.Lexing.{split}
use Rattle.lb_command.proofs.words.split_first.Goals as goal

pub returns-clause-token : goal.returns-clause-token
returns-clause-token c =
    let h = split c.args.total c.args.bytes.now in
    rw (c.split_at-2.ensures.front, c.first_len.ensures.len, c.split_at.ensures.back, c.spaces.ensures.spaces) h.0

pub returns-clause-left : goal.returns-clause-left
returns-clause-left c =
    let h = split c.args.total c.args.bytes.now in
    rw (c.split_at-2.ensures.back, c.first_len.ensures.len, c.split_at.ensures.back, c.spaces.ensures.spaces) h.1
