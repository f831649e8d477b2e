use Rattle.lb_name.specs.Name.{labels_of}
use Rattle.lb_suffix.proofs.Lowers.{lower_is_name, put_lowered}
use Rattle.lb_suffix.proofs.key.put_key.Goals as goal

pub returns-clause-key : goal.returns-clause-key
returns-clause-key c =
    let room = c.put_reversed-start in
    put_lowered c.lowers_on_wire.ensures (labels_of c.args.wire.now) c.requires.name.is_name.each c.args.room.now room.new.room c.lower_in_place.new.octets room.result c.args.end
    room.ensures.start c.requires.within room.ensures.len room.ensures.octets c.lower_in_place.ensures.octets

pub returns-clause-name : goal.returns-clause-name
returns-clause-name c = lower_is_name c.lowers_on_wire.ensures (labels_of c.args.wire.now) c.requires.name.is_name
