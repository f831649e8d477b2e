use Rattle.lb_wire.specs.Aging.{aged}
use Rattle.lb_step.proofs.HitOctets.{answers_as, asks_still, behind, question_of}
use Rattle.lb_step.proofs.look.answer_as.Goals as goal

pub respell-requires : goal.respell-requires
respell-requires c =
    let m = c.requires.0 in
    (question_of m, behind (aged c.args.secs m), asks_still c.args.secs c.args.octets.now c.age.new.bytes m c.requires.1 (c.age.ensures m c.requires.1), c.requires.2)

pub returns : goal.returns
returns c =
    let m = c.requires.0 in (
      m,
      c.requires.1,
      answers_as c.args.secs c.args.view.now c.args.octets.now c.age.new.bytes c.respell.new.bytes c.restore_id.new.bytes m c.requires.1 (c.age.ensures m c.requires.1) c.requires.2 c.respell.ensures.parts c.restore_id.ensures,
    )
