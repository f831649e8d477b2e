use Rattle.std.proofs.Common.{◌∙◌}
use Rattle.lb_loops_tcp.proofs.Letters.{fits_all, lacks_fits}
use Rattle.lb_loops_tcp.proofs.Settling.{settles_on}
use Rattle.lb_loops_tcp.proofs.Then.{goes_before}
use Rattle.lb_loops_tcp.specs.Goes.{none, sent_by}
use Rattle.lb_loops_tcp.proofs.links.Links.send_by.Goals as goal

pub returns-in-Err-clause-why : goal.returns-in-Err-clause-why
returns-in-Err-clause-why g c = lacks_fits c.args.self.now c.dialed.new.self c.args.server c.args.end c.args.lane c.args.bytes.now c.in-Err.why c.in-Err.ensures.why

pub returns-in-Ok : goal.returns-in-Ok
returns-in-Ok g c = record {
  goes = goes_before c.args.self.now c.dialed.new.self c.send_over.new.self none (sent_by c.send_over.result c.args.bytes.now) c.in-Ok.ensures.goes c.send_over.ensures.goes;
  settles = settles_on c.args.self.now c.dialed.new.self c.send_over.new.self c.in-Ok.ensures.settles c.send_over.ensures.settles;
  to = c.send_over.ensures.to;
  reads = c.send_over.ensures.reads ∙ c.in-Ok.ensures.reads;
  why = fits_all c.send_over.result c.args.self.now c.dialed.new.self c.send_over.new.self none (sent_by c.send_over.result c.args.bytes.now) c.args.server c.args.end c.args.lane c.args.bytes.now c.in-Ok.ensures.goes c.send_over.ensures.goes c.send_over.ensures.why;
}
