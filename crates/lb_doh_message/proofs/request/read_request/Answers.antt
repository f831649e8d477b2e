use Rattle.std.proofs.Common.{Ok, subst}
use Rattle.lb_doh_message.specs.Request.{ReadsHead}
use Rattle.lb_doh_message.specs.declared.request.DohHead.TheVariants as heads
use Rattle.lb_doh_message.proofs.request.read_request.Goals as goal

pub returns-in-Ok-clause-reads : goal.returns-in-Ok-clause-reads
returns-in-Ok-clause-reads c =
    let is : ReadsHead c.args.method.now c.args.path.now c.args.query.now c.args.media.now (Ok heads.Body) =
    subst (λ head. ReadsHead c.args.method.now c.args.path.now c.args.query.now c.args.media.now (Ok head)) c.in-Ok-Body.field-0-is c.in-Ok-Body.ensures in
    rw (is.1, is.0, c.into_vec-in-Ok.ensures.octets) (c.in-Ok.ensures c.args.query.now c.args.media.now is.2)

pub returns-in-Err-read_body-clause-reads : goal.returns-in-Err-read_body-clause-reads
returns-in-Err-read_body-clause-reads c =
    let is : ReadsHead c.args.method.now c.args.path.now c.args.query.now c.args.media.now (Ok heads.Body) =
    subst (λ head. ReadsHead c.args.method.now c.args.path.now c.args.query.now c.args.media.now (Ok head)) c.in-Ok-Body.field-0-is c.in-Ok-Body.ensures in
    rw (is.1, is.0) (c.in-Err-read_body.ensures c.args.query.now c.args.media.now is.2)

pub returns-in-Err-clause-reads : goal.returns-in-Err-clause-reads
returns-in-Err-clause-reads c = c.in-Err.ensures c.args.body
