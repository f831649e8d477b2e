use Rattle.std.proofs.Common.{◌≡◌, rules}
use Rattle.http_body_util.specs.Collected.{collected_bytes}
use Rattle.lb_doh_server.proofs.Stages.{comes}
use Rattle.lb_doh_server.proofs.answering.Answering.message_of.Goals as goal

pub returns : goal.returns
returns g c =
    let same : c.as_slice.result.now ≡ collected_bytes c.in-Ok.collected = search rules in
    comes c.args.body c.in-Ok.collected c.as_slice.result.now c.read_octets.result c.in-Ok.is same c.read_octets.ensures.read c.read_octets.ensures.cut
