use Rattle.std.proofs.Common.{arith, rules}
use Rattle.lb_name.proofs.FirstLabel.{labels_of-root, FirstLabel-wire}
use Rattle.lb_name.proofs.labels.first_label.Goals as goal

pub returns-then-len-eq0-clause-none : goal.returns-then-len-eq0-clause-none
returns-then-len-eq0-clause-none c = labels_of-root _ c.in-Some.len c.in-Some.octets.now c.requires (search rules) (search rules)

pub split_at-requires : goal.split_at-requires
split_at-requires c =
    let cut = FirstLabel-wire c.args.wire.now c.from.result c.in-Some.octets.now c.requires (search rules) (omega arith) in
    cut.within

pub returns-clause-first : goal.returns-clause-first
returns-clause-first c =
    let cut = FirstLabel-wire c.args.wire.now c.from.result c.in-Some.octets.now c.requires (search rules) (omega arith) in
    rw (c.split_at.ensures.front, c.split_at.ensures.back) cut.first

pub returns-clause-rest : goal.returns-clause-rest
returns-clause-rest c =
    let cut = FirstLabel-wire c.args.wire.now c.from.result c.in-Some.octets.now c.requires (search rules) (omega arith) in
    rw c.split_at.ensures.back cut.rest
