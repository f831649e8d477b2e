use Rattle.lb_chain.proofs.Listings.{listed_seen}
use Rattle.lb_chain.proofs.listed.list_rule_at.Goals as goal

pub returns : goal.returns
returns c = listed_seen c.args.now c.args.numbered.now c.in_ok-listed.listed c.keep_recent.new.self c.in_ok-listed.ensures c.keep_recent.ensures
