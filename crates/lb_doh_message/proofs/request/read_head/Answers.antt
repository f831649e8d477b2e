use Rattle.lb_doh_message.proofs.request.read_head.Goals as goal

pub returns-then-is_get : goal.returns-then-is_get
returns-then-is_get c = rw (c.if-is_get.ensures, c.if-not-is_the_path.ensures) (c.read_get.ensures c.args.media.now)
