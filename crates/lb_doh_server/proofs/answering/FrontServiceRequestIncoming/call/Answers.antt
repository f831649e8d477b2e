use Rattle.std.proofs.Common.{◌≡◌, refl, ap, ◌∙◌, rules}
use Rattle.http.specs.Request.{body_of}
use Rattle.http_body.specs.SizeHint.{exact, lower}
use Rattle.hyper.specs.Incoming.{size_left}
use Rattle.lb_doh_server.specs.Closing.{leaves_body}
use Rattle.lb_doh_server.proofs.Stages.{has_least}
use Rattle.lb_doh_server.proofs.answering.FrontServiceRequestIncoming.call.Goals as goal

pub returns-clause-called : goal.returns-clause-called
returns-clause-called g c =
    let size : exact c.size_hint-size.result ≡ size_left (body_of c.args.request).kind = search rules in
    let least : c.lower.result ≡ lower c.size_hint-size.result = search rules in
    let has = has_least c.size_hint-size.result (size_left (body_of c.args.request).kind) c.lower.result size least in
    let closes : c.leaves_body-closes.result ≡ leaves_body (size_left (body_of c.args.request).kind) c.first_of-first.result =
    c.leaves_body-closes.ensures ∙ ap (λ left. leaves_body left c.first_of-first.result) (c.exact.ensures ∙ size) in
    (refl, (c.lower.result, has, c.first_of-first.ensures.0, c.first_of-first.result, c.first_of-first.ensures.1, c.first_of-first.ensures.2, c.stage_of-stage.ensures, closes))
