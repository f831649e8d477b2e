use Rattle.std.proofs.Common.{◌≡◌, rules}
use Rattle.lb_doh_server.proofs.Stages.{reads_short}
use Rattle.lb_doh_server.proofs.answering.Answering.read_octets.Goals as goal

pub returns-clause-read : goal.returns-clause-read
returns-clause-read g c =
    let same : c.from_vec.result ≡ c.args.bytes.now = search rules in
    reads_short c.args.bytes.now c.from_vec.result c.read_body.result c.if-bytes-gt-MAX_MESSAGE.false same c.read_body.ensures
