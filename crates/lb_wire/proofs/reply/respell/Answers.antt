use Rattle.lb_wire.proofs.Respelled.{respell_room, respelled}
use Rattle.lb_wire.proofs.reply.respell.Goals as goal

pub overwrite-requires : goal.overwrite-requires
overwrite-requires c = respell_room _ _ _ _ _ c.requires.2 c.requires.3 c.as_wire.ensures

pub returns-clause-parts : goal.returns-clause-parts
returns-clause-parts c = λ q rest asks same. respelled _ _ _ q rest _ c.as_wire.ensures c.overwrite.ensures asks same
