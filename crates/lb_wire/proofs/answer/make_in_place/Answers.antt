use Rattle.std.proofs.Common.{rules}
use Rattle.lb_wire.proofs.Made.{opt_fits, made_opt}
use Rattle.lb_wire.proofs.answer.make_in_place.Goals as goal

pub put_and_cut-requires : goal.put_and_cut-requires
put_and_cut-requires c =
    let fits = opt_fits _ _ _ _ _ c.requires.1 c.requires.3 c.in-Some.is c.opt_piece.ensures in
    search (rules, fits)

pub returns-in-Some-clause-octets : goal.returns-in-Some-clause-octets
returns-in-Some-clause-octets c = made_opt _ _ _ _ _ _ c.args.flags _ _ c.requires.1 c.requires.3 c.in-Some.is c.opt_piece.ensures c.put_and_cut.ensures.octets c.made_header.ensures c.put_header.ensures.octets
