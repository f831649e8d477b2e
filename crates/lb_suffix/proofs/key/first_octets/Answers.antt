use Rattle.std.proofs.Common.{arith, drop, rules}
use Rattle.lb_suffix.proofs.Labels.{cut_of, first_is, first_of, first_within, no_labels}
use Rattle.lb_suffix.proofs.key.first_octets.Goals as goal

pub returns-then-len-eq0-clause-none : goal.returns-then-len-eq0-clause-none
returns-then-len-eq0-clause-none c =
    let wire = c.args.wire.now in
    no_labels wire c.in-Some.len (drop 1 wire) c.requires (first_is wire c.in-Some.len (search rules)) (search rules)

pub split_at-requires : goal.split_at-requires
split_at-requires c =
    let wire = c.args.wire.now in
    first_within wire c.from.result (cut_of wire c.from.result (drop 1 wire) c.requires (first_is wire c.from.result (search rules)) (omega arith))

pub returns-clause-first : goal.returns-clause-first
returns-clause-first c =
    let wire = c.args.wire.now in
    let cut = cut_of wire c.from.result (drop 1 wire) c.requires (first_is wire c.from.result (search rules)) (omega arith) in
    first_of c.splits_back.ensures wire c.split_at.result.0.now c.split_at.result.1.now c.from.result cut c.split_at.ensures.front c.split_at.ensures.back
